use native.Mathlib.Omega.{arith}
use Rattle.base.proofs.Bytes.{bytes-known}
use Rattle.ledger.proofs.Sending.{receive_ready, receive_no, receive_yes}
use Rattle.ledger.proofs.change.pingvratha_receive.Goals as goal

pub returns-in-Err : goal.returns-in-Err
returns-in-Err c =
    rw c.refused.ensures (receive_no c.args.room.now c.requires c.args.datagram.now c.args.clock c.args.endpoint c.args.unicast c.args.randoms.now c.in-Err.refusal c.in-Err.ensures.number)

pub handle-requires : goal.handle-requires
handle-requires c = rw c.in-Ok.ensures.held.0 (receive_ready c.args.room.now c.requires c.args.datagram.now c.args.clock c.args.endpoint c.args.unicast c.args.randoms.now c.in-Ok.ensures.number)

pub returns-in-Ok : goal.returns-in-Ok
returns-in-Ok c =
    receive_yes c.args.room.now c.requires c.args.datagram.now c.args.clock c.args.endpoint c.args.unicast c.args.randoms.now c.in-Ok.ensures.number
    c.handle.result c.handle.new.mem c.handle.new.room (bytes-known c.args.datagram.now (λ i. omega (arith, c.type_inv.datagram i))) (rw (c.in-Ok.ensures.held.0, c.in-Ok.ensures.held.1) at c.handle.ensures)
