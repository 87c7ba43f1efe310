use Rattle.node.proofs.Editing.{swap_asks, swap_slot, swap_published}
use Rattle.node.proofs.publish.publish_swap.Goals as goal

pub swap_bytes-len-requires : goal.swap_bytes-len-requires
swap_bytes-len-requires c =
    swap_asks c.args.s c.args.mem.now c.requires.0 c.own_place-i.result c.own_place-i.ensures c.meta_at-e.result c.meta_at-e.ensures c.start_of.result c.start_of.ensures c.args.p c.args.n c.args.tlv.now c.requires.1.1

pub publish_slot-s-requires : goal.publish_slot-s-requires
publish_slot-s-requires c =
    rw c.anew.ensures (swap_slot c.args.s c.args.mem.now c.requires.0 c.own_place-i.result c.own_place-i.ensures c.meta_at-e.result c.meta_at-e.ensures c.start_of.result c.start_of.ensures c.args.p c.args.n c.args.tlv.now c.requires.1.1 c.swap_bytes-len.new.mem c.swap_bytes-len.result c.swap_bytes-len.ensures)

pub returns : goal.returns
returns c =
    swap_published c.args.s c.args.mem.now c.requires.0 c.own_place-i.result c.own_place-i.ensures c.meta_at-e.result c.meta_at-e.ensures c.start_of.result c.start_of.ensures c.args.p c.args.n c.args.tlv.now c.requires.1.1 c.swap_bytes-len.new.mem c.swap_bytes-len.result c.swap_bytes-len.ensures
    c.args.clock c.args.seq c.publish_slot-s.result (rw c.anew.ensures at c.publish_slot-s.ensures)
