use mathlib.Core.Path.{ap, ◌∙◌}
use Rattle.wire.specs.Row.{is_row}
use Rattle.exchange.proofs.Carrying.{joined-row, linked_as}
use Rattle.exchange.proofs.carry.linked.Goals as goal

pub place_of-p-requires : goal.place_of-p-requires
place_of-p-requires c = ap is_row c.data_of.ensures.0 ∙ joined-row c.requires c.own_place-i.ensures

pub returns : goal.returns
returns c =
    linked_as c.requires c.own_place-i.ensures c.args.f c.place_of-p.result c.peer_tlv-tlv.result c.data_of.result.now c.data_of.ensures.0 c.place_of-p.ensures.1 c.meta_at-e.result c.meta_at-e.ensures c.advanced.result c.advanced.ensures c.peer_tlv-tlv.ensures (rw c.anew-v.ensures at c.insert_tlv.ensures)
