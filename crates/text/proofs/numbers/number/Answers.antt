use Rattle.std.proofs.Common.{rules, Some, None}
use mathlib.Core.Path.{sym, ◌∙◌}
use native.Mathlib.Omega.{arith}
use Rattle.text.proofs.Onward.{read_none, read-start, read_end, read_next}
use Rattle.text.proofs.numbers.number.Goals as goal

pub returns-then-is_empty : goal.returns-then-is_empty
returns-then-is_empty c = (sym (read_none c.args.most c.args.word.now (search rules)), tt)

pub loop-b-init : goal.loop-b-init
loop-b-init c = (omega arith, read-start c.args.most c.args.word.now (search rules))

pub returns-in_err-n : goal.returns-in_err-n
returns-in_err-n c =
    rw c.from_residual.ensures (sym (c.loop-b.invariant.1 ∙ read_next c.args.most c.loop-b.n c.args.word.now c.loop-b.b-index (omega arith) None c.in_err-n.ensures.0), tt)

pub loop-b-preserved : goal.loop-b-preserved
loop-b-preserved c =
    (c.in_ok-n.ensures.1, c.loop-b.invariant.1 ∙ read_next c.args.most c.loop-b.n c.args.word.now c.loop-b.b-index (omega arith) (Some c.in_ok-n.n) c.in_ok-n.ensures.0)

pub returns : goal.returns
returns c = (sym (c.loop-b.invariant.1 ∙ read_end c.args.most c.loop-b.n c.args.word.now c.loop-b.b-index (omega arith)), c.loop-b.invariant.0)
