use Rattle.ledger.proofs.Sending.{tick_ready, tick_no, tick_yes}
use Rattle.ledger.proofs.change.pingvratha_tick.Goals as goal

pub returns-in-Err : goal.returns-in-Err
returns-in-Err c = rw c.refused.ensures (tick_no c.args.room.now c.requires c.args.clock c.args.endpoint c.args.randoms.now c.in-Err.refusal c.in-Err.ensures.number)

pub tick-requires : goal.tick-requires
tick-requires c = rw c.in-Ok.ensures.held.0 (tick_ready c.args.room.now c.requires c.args.clock c.args.endpoint c.args.randoms.now c.in-Ok.ensures.number)

pub returns-in-Ok : goal.returns-in-Ok
returns-in-Ok c =
    tick_yes c.args.room.now c.requires c.args.clock c.args.endpoint c.args.randoms.now c.in-Ok.ensures.number c.tick.result c.tick.new.mem c.tick.new.room (rw (c.in-Ok.ensures.held.0, c.in-Ok.ensures.held.1) at c.tick.ensures)
