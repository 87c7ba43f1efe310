use mathlib.Core.Path.{refl}
use Rattle.reach.proofs.Reaching.{found_own, mark_by}
use Rattle.reach.proofs.mark.mark.Goals as goal

pub unwrap-i-requires : goal.unwrap-i-requires
unwrap-i-requires c = found_own c.args.t c.args.mem.now c.requires.0.kept.arranged c.args.own c.find.result c.find.ensures c.requires.1

pub returns : goal.returns
returns c =
    mark_by c.args.own c.args.clock c.args.t c.args.mem.now c.requires.0.kept.arranged c.unwrap-i.result
    (rw c.unwrap-i.ensures at c.find.ensures) _ c.spread.result refl c.spread.ensures
