use mathlib.Core.Path.{◌≡◌}
use Prim.Native.Nat.{◌+◌, ◌*◌}
use lib.ListN.{length, drop}
use Rattle.base.specs.Memory.{written}
use Rattle.text.specs.Hexadecimal.{pairs}
use Rattle.text.proofs.hexadecimal.put_pairs.Given as goal

abbrev pub invariant-loop-i : goal.invariant-loop-i
invariant-loop-i l = (length l.room ≡ length l.initial.room) × (written l.initial.room l.at (pairs l.d) ≡ written l.room (l.at + 2 * l.i) (pairs (drop l.i l.d)))
