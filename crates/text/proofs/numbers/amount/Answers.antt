use mathlib.Core.Path.{sym}
use native.Mathlib.Omega.{arith}
use Rattle.std.proofs.Common.{rules, Some, None}
use Rattle.text.proofs.Onward.{amount-none, amount_up, amount_down}
use Rattle.text.proofs.numbers.amount.Goals as goal

pub returns-in_err-first : goal.returns-in_err-first
returns-in_err-first c = rw c.from_residual.ensures (sym (amount-none c.args.word.now (search rules)))

pub returns-in_err-n : goal.returns-in_err-n
returns-in_err-n c =
    rw c.from_residual-in_err-n.ensures (amount_down c.args.word.now c.in_ok-first.digits.now c.in_ok-first.first.now (search rules) None (omega arith) c.in_err-n.ensures.0)

pub returns-in_err-n-2 : goal.returns-in_err-n-2
returns-in_err-n-2 c =
    rw c.from_residual-in_err-n-2.ensures (amount_up c.args.word.now c.in_ok-first.digits.now c.in_ok-first.first.now (search rules) None (omega arith) c.in_err-n-2.ensures.0)

pub returns-in_ok-n : goal.returns-in_ok-n
returns-in_ok-n c =
    rw c.saturating_sub.ensures (amount_down c.args.word.now c.in_ok-first.digits.now c.in_ok-first.first.now (search rules) (Some c.in_ok-n.n) (omega arith) c.in_ok-n.ensures.0)

pub returns-in_ok-n-2 : goal.returns-in_ok-n-2
returns-in_ok-n-2 c =
    amount_up c.args.word.now c.in_ok-first.digits.now c.in_ok-first.first.now (search rules) (Some c.in_ok-n-2.n) (omega arith) c.in_ok-n-2.ensures.0
