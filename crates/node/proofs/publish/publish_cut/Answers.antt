use native.Mathlib.Omega.{arith}
use Rattle.node.proofs.Own.{own-length}
use Rattle.node.proofs.Moves.{remove_published}
use Rattle.node.proofs.publish.publish_cut.Goals as goal

pub remove_tlv-s-requires : goal.remove_tlv-s-requires
remove_tlv-s-requires c =
    (c.requires.0.table, (rw c.anew.ensures c.own_place-i.ensures, omega (arith, own-length c.args.s c.args.mem.now c.own_place-i.result c.requires.0 c.own_place-i.ensures, c.requires.1.1)))

pub returns : goal.returns
returns c =
    remove_published c.args.s c.args.mem.now c.own_place-i.result c.requires.0 c.own_place-i.ensures c.args.clock c.args.seq c.remove_tlv-s.result c.remove_tlv-s.new.mem c.args.p c.args.n (rw c.anew.ensures at c.remove_tlv-s.ensures)
