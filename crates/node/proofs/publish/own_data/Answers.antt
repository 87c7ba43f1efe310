use mathlib.Core.Path.{sym, ◌∙◌}
use Rattle.node.proofs.Own.{own_data_lem}
use Rattle.node.proofs.publish.own_data.Goals as goal

pub returns : goal.returns
returns c =
    c.data_of.ensures.0 ∙ sym (own_data_lem c.args.s c.args.mem.now c.own_place.result c.requires.0 c.own_place.ensures)
