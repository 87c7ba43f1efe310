use native.Mathlib.Omega.{arith}
use mathlib.Core.Path.{sym, ◌∙◌}
use Rattle.wire.proofs.Rows.{left_end, left_bad, left_on, size-onward}
use Rattle.wire.proofs.row.is_row.Goals as goal

pub returns-in_default : goal.returns-in_default
returns-in_default c =
    sym (c.loop-at.invariant.1 ∙ left_bad c.args.s.now c.loop-at.at c.loop-at-test.true c.in_default.ensures)

pub loop-at-smaller : goal.loop-at-smaller
loop-at-smaller c = omega (arith, size-onward c.args.s.now c.loop-at.at c.in-Some.n c.loop-at.invariant.0 c.in-Some.ensures)

pub loop-at-preserved : goal.loop-at-preserved
loop-at-preserved c =
    ((size-onward c.args.s.now c.loop-at.at c.in-Some.n c.loop-at.invariant.0 c.in-Some.ensures).1, c.loop-at.invariant.1 ∙ left_on c.args.s.now c.loop-at.at c.loop-at-test.true c.in-Some.n c.in-Some.ensures.is c.in-Some.ensures.heads)

pub returns : goal.returns
returns c =
    sym (c.loop-at.invariant.1 ∙ left_end c.args.s.now c.loop-at.at (omega arith))
