use mathlib.Core.Path.{◌≡◌}
use Prim.Native.Nat.{◌-◌, ◌≤◌}
use lib.ListN.{length}
use Rattle.base.specs.Memory.{written}
use Rattle.text.specs.Decimal.{decimal}
use Rattle.text.proofs.Digits.{last_digits}
use Rattle.text.proofs.numbers.put_decimal.Given as goal

abbrev pub invariant-loop-i : goal.invariant-loop-i
invariant-loop-i l = (length l.room ≡ length l.initial.room) × (l.at ≤ l.i) × (written l.initial.room l.at (decimal l.n) ≡ written l.room l.at (last_digits (l.i - l.at) l.rest))
