use mathlib.Core.Path.{◌≡◌, refl, sym, ap, ◌∙◌}
use Prim.Native.Nat.{◌+◌, ◌-◌}
use lib.ListN.{length, length-set}
use native.Mathlib.Omega.{arith}
use Rattle.base.specs.Memory.{written}
use Rattle.text.specs.Decimal.{decimal}
use Rattle.text.proofs.Digits.{all-digits, no-digits, digit_written}
use Rattle.text.proofs.numbers.put_decimal.Goals as goal

pub loop-i-init : goal.loop-i-init
loop-i-init c =
    let e : c.args.at + c.places.result - c.args.at ≡ length (decimal c.args.n) = omega (arith, c.places.ensures) in
    (refl, omega arith, rw e (ap (written c.args.room.now c.args.at) (all-digits c.args.n)))

pub loop-i-preserved : goal.loop-i-preserved
loop-i-preserved c =
    (simp length-set (omega arith), omega arith, c.loop-i.invariant.2 ∙ digit_written c.loop-i.room c.args.at c.loop-i.i c.loop-i.rest (omega arith) (omega (arith, c.places.ensures)))

pub returns : goal.returns
returns c =
    let e : c.loop-i.i - c.args.at ≡ 0 = omega arith in
    record { there = sym (c.loop-i.invariant.2 ∙ rw e (no-digits c.loop-i.room c.args.at c.loop-i.rest)); next = omega (arith, c.places.ensures) }
