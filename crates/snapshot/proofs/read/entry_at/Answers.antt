-- After the numbers the size and the data.
use native.Mathlib.Omega.{arith}
use Rattle.snapshot.proofs.Reading.{size-unread, data_cut, data_bad, entry-stands}
use Rattle.snapshot.proofs.read.entry_at.Goals as goal

pub returns-in_err-last : goal.returns-in_err-last
returns-in_err-last c =
    rw c.from_residual-in_err-last.ensures (size-unread c.args.s.now c.args.at c.args.low c.in_ok-numbers.numbers c.in_ok-numbers.ensures c.in_err-last.ensures.0)

pub returns-then-s-start : goal.returns-then-s-start
returns-then-s-start c =
    data_cut c.args.s.now c.args.at c.args.low c.in_ok-numbers.numbers c.in_ok-numbers.ensures c.in_ok-last.last c.in_ok-last.ensures c.if-s-start.true

pub returns-then-not-is_good : goal.returns-then-not-is_good
returns-then-not-is_good c =
    data_bad c.args.s.now c.args.at c.args.low c.in_ok-numbers.numbers c.in_ok-numbers.ensures c.in_ok-last.last c.in_ok-last.ensures c.is_good.result c.is_good.ensures c.if-not-is_good.true

pub returns : goal.returns
returns c =
    entry-stands c.args.s.now c.args.at c.args.low c.in_ok-numbers.numbers c.in_ok-numbers.ensures c.in_ok-last.last c.in_ok-last.ensures c.is_good.result c.is_good.ensures c.if-not-is_good.false
    (omega (arith, c.in_ok-last.ensures.1.1))
