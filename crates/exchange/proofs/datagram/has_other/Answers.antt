use native.Mathlib.Omega.{arith}
use mathlib.Core.Path.{sym, ◌∙◌}
use Rattle.wire.proofs.Steps.{step, ended}
use Rattle.exchange.proofs.Others.{told_there, others_end, others-here, others_on}
use Rattle.exchange.proofs.datagram.has_other.Goals as goal

pub is_other-requires : goal.is_other-requires
is_other-requires c =
    let k = step c.args.s.now c.loop-h.h-iterator c.loop-h.invariant.0 c.loop-h.iterator.0 c.in-Some.h c.next.new.self c.in-Some.ensures.steps in
    told_there k.tells

pub returns-then-is_other : goal.returns-then-is_other
returns-then-is_other c =
    let at = c.loop-h.h-iterator.at in
    let k = step c.args.s.now c.loop-h.h-iterator c.loop-h.invariant.0 c.loop-h.iterator.0 c.in-Some.h c.next.new.self c.in-Some.ensures.steps in
    sym (c.loop-h.invariant.1 ∙ others-here c.args.s.now c.args.own at c.in-Some.h k.tells (rw k.tells.here at c.is_other.ensures) c.if-is_other.true)

pub loop-h-preserved : goal.loop-h-preserved
loop-h-preserved c =
    let at = c.loop-h.h-iterator.at in
    let k = step c.args.s.now c.loop-h.h-iterator c.loop-h.invariant.0 c.loop-h.iterator.0 c.in-Some.h c.next.new.self c.in-Some.ensures.steps in
    (k.row, rw k.onward (c.loop-h.invariant.1 ∙ others_on c.args.s.now c.args.own at c.in-Some.h k.tells (rw k.tells.here at c.is_other.ensures) c.if-is_other.false))

pub returns : goal.returns
returns c =
    let e = ended c.args.s.now c.loop-h.h-iterator c.loop-h.invariant.0 c.loop-h.iterator.0 c.next.new.self c.in-None.ensures.steps in
    sym (c.loop-h.invariant.1 ∙ others_end c.args.s.now c.args.own c.loop-h.h-iterator.at (omega arith))
