use native.Mathlib.Omega.{arith}
use mathlib.Core.Path.{sym, ◌∙◌}
use Rattle.wire.proofs.Good.{among_later, among_end, ascending_on, without_on, stands_here}
use Rattle.base.proofs.Library.{same_equal}
use Rattle.wire.proofs.Steps.{step, ended}
use Rattle.wire.proofs.order.find_tlv.Goals as goal

pub returns-then-eq : goal.returns-then-eq
returns-then-eq c =
    let d = c.args.nd.now in
    let s = c.loop-h.h-iterator in
    let h = c.in-Some.h in
    let k = step d s c.loop-h.invariant.0 c.loop-h.iterator.0 h c.next.new.self c.in-Some.ensures.steps in
    rw k.tells.here (stands_here d c.args.tlv.now s.at h k.tells c.loop-h.invariant.2 (rw (c.bytes.ensures, k.tells.here) at (sym (same_equal c.args.tlv.now c.bytes.result.now) ∙ sym c.eq.ensures ∙ c.if-eq.true)) k.goes c.loop-h.invariant.1 c.loop-h.invariant.3)

pub loop-h-preserved : goal.loop-h-preserved
loop-h-preserved c =
    let d = c.args.nd.now in
    let s = c.loop-h.h-iterator in
    let h = c.in-Some.h in
    let k = step d s c.loop-h.invariant.0 c.loop-h.iterator.0 h c.next.new.self c.in-Some.ensures.steps in
    let b = rw (c.bytes.ensures, k.tells.here) at (sym (same_equal c.args.tlv.now c.bytes.result.now) ∙ sym c.eq.ensures ∙ c.if-eq.false) in
    rw k.onward (
      k.row,
      c.loop-h.invariant.1 ∙ among_later d c.args.tlv.now s.at h k.tells k.goes b,
      ascending_on d c.args.tlv.now s.at h k.tells c.loop-h.invariant.2,
      c.loop-h.invariant.3 ∙ without_on d c.args.tlv.now s.at h k.tells c.loop-h.invariant.2 b,
    )

pub returns : goal.returns
returns c =
    let d = c.args.nd.now in
    let s = c.loop-h.h-iterator in
    let e = ended d s c.loop-h.invariant.0 c.loop-h.iterator.0 c.next.new.self c.in-None.ensures.steps in
    c.loop-h.invariant.1 ∙ among_end d c.args.tlv.now s.at (omega arith)
