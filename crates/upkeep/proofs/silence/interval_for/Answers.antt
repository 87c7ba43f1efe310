use native.Mathlib.Omega.{arith}
use mathlib.Core.Path.{sym, ◌∙◌}
use Rattle.wire.proofs.Steps.{step, ended}
use Rattle.upkeep.proofs.KeepAlive.{for_end, for_here}
use Rattle.upkeep.proofs.silence.interval_for.Goals as goal

pub returns-then-is_keep_alive : goal.returns-then-is_keep_alive
returns-then-is_keep_alive c =
    let k = step c.args.nd.now c.loop-h.h-iterator c.loop-h.invariant.0 c.loop-h.iterator.0 c.in-Some.h c.next.new.self c.in-Some.ensures.steps in
    c.read_u32.ensures ∙ sym (c.loop-h.invariant.1 ∙ for_here c.args.nd.now c.args.endpoint c.args.other c.loop-h.h-iterator.at c.in-Some.h k.tells (rw k.tells.here at c.is_keep_alive.ensures) c.if-is_keep_alive.true)

pub returns : goal.returns
returns c =
    let e = ended c.args.nd.now c.loop-h.h-iterator c.loop-h.invariant.0 c.loop-h.iterator.0 c.next.new.self c.in-None.ensures.steps in
    sym (c.loop-h.invariant.1 ∙ for_end c.args.nd.now c.args.endpoint c.args.other c.loop-h.h-iterator.at (omega arith))
