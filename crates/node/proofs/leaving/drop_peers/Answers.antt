use Rattle.node.proofs.Stripping.{strip_asks, stripped_asks, peers-dropped}
use Rattle.node.proofs.leaving.drop_peers.Goals as goal

pub strip-len-requires : goal.strip-len-requires
strip-len-requires c =
    (c.requires.0.peers, strip_asks c.args.s c.args.mem.now c.requires.0 c.own_place-i.result c.own_place-i.ensures c.requires.1.1 c.meta_at-e.result c.meta_at-e.ensures c.start_of.result c.start_of.ensures c.args.marks)

pub publish_slot-s-requires : goal.publish_slot-s-requires
publish_slot-s-requires c =
    rw c.anew-v.ensures (stripped_asks c.args.s c.args.mem.now c.requires.0 c.own_place-i.result c.own_place-i.ensures c.requires.1.1 c.meta_at-e.result c.meta_at-e.ensures c.start_of.result c.start_of.ensures c.args.marks c.strip-len.new.mem c.strip-len.result c.strip-len.ensures)

pub returns : goal.returns
returns c =
    peers-dropped c.args.s c.args.mem.now c.requires.0 c.own_place-i.result c.own_place-i.ensures c.requires.1.1 c.meta_at-e.result c.meta_at-e.ensures c.start_of.result c.start_of.ensures c.args.marks c.strip-len.new.mem c.strip-len.result c.strip-len.ensures
    c.args.clock c.advanced.result c.publish_slot-s.result c.staying-s.result c.advanced.ensures (rw c.anew-v.ensures at c.publish_slot-s.ensures) c.staying-s.ensures
