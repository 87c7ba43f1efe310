use native.Mathlib.Omega.{arith}
use mathlib.Core.Path.{sym, ◌∙◌}
use Rattle.wire.proofs.Rows.{size-onward}
use Rattle.wire.proofs.Ordering.{before_ordered}
use Rattle.wire.proofs.Good.{good-long, good_start, good_end, good_bad, good_on}
use Rattle.wire.proofs.order.is_good.Goals as goal

pub returns-then-limit-s : goal.returns-then-limit-s
returns-then-limit-s c =
    sym (good-long c.args.limit c.args.s.now (omega arith))

pub loop-at-init : goal.loop-at-init
loop-at-init c =
    (omega arith, good_start c.args.limit c.args.s.now (omega arith))

pub returns-in_default : goal.returns-in_default
returns-in_default c =
    sym (c.loop-at.invariant.1 ∙ good_bad c.loop-at.last.now c.args.s.now c.loop-at.at c.loop-at-test.true c.in_default.ensures)

pub returns-then-not-rises : goal.returns-then-not-rises
returns-then-not-rises c =
    sym (c.loop-at.invariant.1 ∙ good_on c.loop-at.last.now c.args.s.now c.loop-at.at c.in-Some.n c.loop-at-test.true c.in-Some.ensures.is c.in-Some.ensures.heads c.is_lt-rises.result (before_ordered _ _ c.cmp.result c.is_lt-rises.result c.cmp.ensures c.is_lt-rises.ensures) ∙ rw c.if-not-rises.true)

pub loop-at-smaller : goal.loop-at-smaller
loop-at-smaller c = omega (arith, size-onward c.args.s.now c.loop-at.at c.in-Some.n c.loop-at.invariant.0 c.in-Some.ensures)

pub loop-at-preserved : goal.loop-at-preserved
loop-at-preserved c =
    ((size-onward c.args.s.now c.loop-at.at c.in-Some.n c.loop-at.invariant.0 c.in-Some.ensures).1, c.loop-at.invariant.1 ∙ good_on c.loop-at.last.now c.args.s.now c.loop-at.at c.in-Some.n c.loop-at-test.true c.in-Some.ensures.is c.in-Some.ensures.heads c.is_lt-rises.result (before_ordered _ _ c.cmp.result c.is_lt-rises.result c.cmp.ensures c.is_lt-rises.ensures) ∙ rw c.if-not-rises.false)

pub returns : goal.returns
returns c =
    sym (c.loop-at.invariant.1 ∙ good_end c.loop-at.last.now c.args.s.now c.loop-at.at (omega arith))
