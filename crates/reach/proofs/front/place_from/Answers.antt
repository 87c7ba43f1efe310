use native.Mathlib.Omega.{arith}
use mathlib.Core.Path.{refl}
use Rattle.wire.proofs.Steps.{step, ended}
use Rattle.reach.proofs.Fronts.{passed_none, passed_on, parted_here, parted_end}
use Rattle.reach.proofs.front.place_from.Goals as goal

pub loop-h-init : goal.loop-h-init
loop-h-init c =
    let e = c.tlvs_from-h-items.ensures in
    rw (c.into_iter-h-iterator.ensures.into_iter_gives, e.0, e.1) (refl, passed_none c.args.d.now c.args.at c.args.least c.requires.0 c.requires.1)

pub returns-then-least-h : goal.returns-then-least-h
returns-then-least-h c =
    let d = c.args.d.now in
    let s = c.loop-h.h-iterator in
    let h = c.in-Some.h in
    let k = step d s c.loop-h.invariant.0 c.loop-h.iterator.0 h c.next.new.self c.in-Some.ensures.steps in
    rw k.tells.here (parted_here d c.args.at c.args.least s.at c.loop-h.invariant.1 h k.tells (omega arith))

pub loop-h-preserved : goal.loop-h-preserved
loop-h-preserved c =
    let d = c.args.d.now in
    let s = c.loop-h.h-iterator in
    let h = c.in-Some.h in
    let k = step d s c.loop-h.invariant.0 c.loop-h.iterator.0 h c.next.new.self c.in-Some.ensures.steps in
    rw k.onward (k.row, passed_on d c.args.at c.args.least s.at c.loop-h.invariant.1 h k.tells (omega arith))

pub returns : goal.returns
returns c =
    let d = c.args.d.now in
    let s = c.loop-h.h-iterator in
    let e = ended d s c.loop-h.invariant.0 c.loop-h.iterator.0 c.next.new.self c.in-None.ensures.steps in
    rw (← e) (parted_end d c.args.at c.args.least s.at c.loop-h.invariant.1 (omega arith))
