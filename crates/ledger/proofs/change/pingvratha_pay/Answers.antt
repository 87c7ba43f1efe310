-- The payment's amount goes to the inner calls through its 32 bits, and comes back from them.
use mir.Syntax.{w32}
use Rattle.base.proofs.Signed.{narrow_back}
use Rattle.accounts.specs.Tallied.{payment_of}
use Rattle.ledger.proofs.Changing.{pay_ready, pay_no, pay_yes}
use Rattle.ledger.proofs.change.pingvratha_pay.Goals as goal

pub returns-in-Err : goal.returns-in-Err
returns-in-Err c =
    let p = payment_of c.args.household c.args.receipt c.args.amount in
    rw c.refused.ensures (pay_no c.requires c.args.clock c.args.randoms.now p c.in-Err.refusal (rw (narrow_back w32 c.args.amount c.ranges.amount) at c.in-Err.ensures.number))

pub pay-requires : goal.pay-requires
pay-requires c =
    let p = payment_of c.args.household c.args.receipt c.args.amount in
    let b = narrow_back w32 c.args.amount c.ranges.amount in
    rw (b, c.in-Ok.ensures.held) (pay_ready c.requires c.args.clock c.args.randoms.now p (rw b at c.in-Ok.ensures.number))

pub returns-in-Ok : goal.returns-in-Ok
returns-in-Ok c =
    let p = payment_of c.args.household c.args.receipt c.args.amount in
    let b = narrow_back w32 c.args.amount c.ranges.amount in
    pay_yes c.requires c.args.clock c.args.randoms.now p c.pay.result c.pay.new.mem (rw b at c.in-Ok.ensures.number) (rw (b, c.in-Ok.ensures.held) at c.pay.ensures)
