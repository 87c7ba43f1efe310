use mathlib.Core.Path.{◌∙◌}
use Rattle.table.specs.View.{view}
use Rattle.reach.proofs.Reaching.{digest-reached}
use Rattle.reach.proofs.reach.Goals as goal

pub returns : goal.returns
returns c =
    record {
      marks = c.mark-m.ensures.marks;
      count = c.mark-m.ensures.count;
      digest = c.network_digest.ensures c.args.mem.now c.requires.0.kept ∙ digest-reached c.args.own c.args.clock (view c.args.t c.args.mem.now) c.mark-m.result.marks c.mark-m.ensures.marks;
    }
