use mathlib.Core.Path.{sym, ap, ◌∙◌}
use Rattle.table.specs.declared.Entry.{Entry}
use Rattle.node.proofs.Own.{own-seq}
use Rattle.node.proofs.publish.own_seq.Goals as goal

pub returns : goal.returns
returns c =
    ap (λ (e : Entry). e.seq) c.meta_at.ensures.same ∙ sym (own-seq c.args.s c.args.mem.now c.own_place.result c.requires.0 c.own_place.ensures)
