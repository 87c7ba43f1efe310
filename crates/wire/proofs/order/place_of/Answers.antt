use native.Mathlib.Omega.{arith}
use mathlib.Core.Path.{sym, ◌∙◌}
use Rattle.wire.proofs.Good.{put-here, put_later, put_end}
use Rattle.wire.proofs.Ordering.{before_less}
use Rattle.wire.proofs.Steps.{step, ended}
use Rattle.wire.proofs.order.place_of.Goals as goal

pub returns-then-lt : goal.returns-then-lt
returns-then-lt c =
    let d = c.args.nd.now in
    let s = c.loop-h.h-iterator in
    let h = c.in-Some.h in
    let k = step d s c.loop-h.invariant.0 c.loop-h.iterator.0 h c.next.new.self c.in-Some.ensures.steps in
    rw k.tells.here (k.within, sym (c.loop-h.invariant.1 ∙ put-here d c.args.tlv.now s.at h k.tells k.goes (rw (c.bytes.ensures, k.tells.here) at (sym (before_less c.args.tlv.now c.bytes.result.now c.lt.result c.lt.ensures) ∙ c.if-lt.true))))

pub loop-h-preserved : goal.loop-h-preserved
loop-h-preserved c =
    let d = c.args.nd.now in
    let s = c.loop-h.h-iterator in
    let h = c.in-Some.h in
    let k = step d s c.loop-h.invariant.0 c.loop-h.iterator.0 h c.next.new.self c.in-Some.ensures.steps in
    (k.row, rw k.onward (c.loop-h.invariant.1 ∙ put_later d c.args.tlv.now s.at h k.tells k.goes (rw (c.bytes.ensures, k.tells.here) at (sym (before_less c.args.tlv.now c.bytes.result.now c.lt.result c.lt.ensures) ∙ c.if-lt.false))))

pub returns : goal.returns
returns c =
    let d = c.args.nd.now in
    let s = c.loop-h.h-iterator in
    let e = ended d s c.loop-h.invariant.0 c.loop-h.iterator.0 c.next.new.self c.in-None.ensures.steps in
    (omega arith, rw (← e) (sym (c.loop-h.invariant.1 ∙ put_end d c.args.tlv.now s.at (omega arith))))
