use native.Mathlib.Omega.{arith}
use Rattle.report.proofs.Adding.{code_other, code_none, code_place, code_sum, code_paid}
use Rattle.report.proofs.sums.add_tlv.Goals as goal

pub returns-then-kind : goal.returns-then-kind
returns-then-kind c = code_other c.args.kind c.args.value.now c.args.sums.now c.if-kind.true

pub returns-in_default : goal.returns-in_default
returns-in_default c = code_none c.args.kind c.args.value.now c.args.sums.now c.if-kind.false c.in_default.ensures

pub slice_copy_out-unwrap_or : goal.slice_copy_out-unwrap_or
slice_copy_out-unwrap_or c = omega (arith, code_place c.args.kind c.args.value.now c.args.sums.now c.if-kind.false c.requires.0 c.requires.1 c.in-Some.payment c.in-Some.ensures, c.requires.0)

pub bounds-sums-h : goal.bounds-sums-h
bounds-sums-h c = omega (arith, code_place c.args.kind c.args.value.now c.args.sums.now c.if-kind.false c.requires.0 c.requires.1 c.in-Some.payment c.in-Some.ensures, c.requires.0)

pub overflow_add-sum : goal.overflow_add-sum
overflow_add-sum c = rw (c.unwrap_or.ensures, c.from.ensures) (code_sum c.args.kind c.args.value.now c.args.sums.now c.if-kind.false c.requires.0 c.requires.1 c.in-Some.payment c.in-Some.ensures)

pub returns : goal.returns
returns c = rw (c.unwrap_or.ensures, c.from.ensures) (code_paid c.args.kind c.args.value.now c.args.sums.now c.if-kind.false c.requires.0 c.requires.1 c.in-Some.payment c.in-Some.ensures)
