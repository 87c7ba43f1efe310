use mathlib.Core.Path.{sym}
use native.Mathlib.Omega.{arith}
use lib.ListN.{length}
use Rattle.ledger.proofs.Left.{start-accepted}
use Rattle.ledger.proofs.Changing.{begin_no, begin_yes}
use Rattle.ledger.proofs.change.pingvratha_begin.Goals as goal

pub returns-in-Err : goal.returns-in-Err
returns-in-Err c = rw c.refused.ensures (begin_no c.requires c.args.clock c.args.randoms.now c.args.own c.in-Err.refusal c.in-Err.ensures.number)

pub begin-requires : goal.begin-requires
begin-requires c =
    (start-accepted c.args.clock (length c.args.memory.now) (sym c.in-Ok.ensures.number)).1

pub returns-in-Ok : goal.returns-in-Ok
returns-in-Ok c =
    begin_yes c.requires c.args.clock c.args.randoms.now c.args.own c.begin.result (omega (arith, c.ranges.own)) c.in-Ok.ensures.number (rw c.in-Ok.ensures.held at c.begin.ensures)
