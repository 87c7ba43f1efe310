use native.Mathlib.Omega.{arith}
use mathlib.Core.Path.{sym, ap, ◌∙◌}
use lib.ListN.{length}
use Rattle.wire.specs.Row.{is_row}
use Rattle.node.proofs.Own.{own_data_lem, own-length}
use Rattle.node.proofs.Moves.{insert-published}
use Rattle.node.proofs.publish.publish_with.Goals as goal

pub place_of-p-requires : goal.place_of-p-requires
place_of-p-requires c =
    ap is_row (c.data_of.ensures.0 ∙ sym (own_data_lem c.args.s c.args.mem.now c.own_place-i.result c.requires.0 c.own_place-i.ensures)) ∙ c.requires.1.1.0

pub insert_tlv-s-requires : goal.insert_tlv-s-requires
insert_tlv-s-requires c =
    let l = own-length c.args.s c.args.mem.now c.own_place-i.result c.requires.0 c.own_place-i.ensures in
    let e = ap length (c.data_of.ensures.0 ∙ sym (own_data_lem c.args.s c.args.mem.now c.own_place-i.result c.requires.0 c.own_place-i.ensures)) in
    (c.requires.0.table, (rw c.anew.ensures c.own_place-i.ensures, (omega (arith, c.place_of-p.ensures.0, e, l), omega (arith, l, c.requires.1.1.1))))

pub returns : goal.returns
returns c =
    insert-published c.args.s c.args.mem.now c.own_place-i.result c.requires.0 c.own_place-i.ensures c.args.clock c.args.seq c.insert_tlv-s.result c.insert_tlv-s.new.mem
    c.place_of-p.result c.args.tlv.now c.data_of.result.now c.data_of.ensures.0 c.place_of-p.ensures.1 (rw c.anew.ensures at c.insert_tlv-s.ensures)
