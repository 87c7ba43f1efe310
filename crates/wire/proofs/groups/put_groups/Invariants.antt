use Prim.Native.Nat.{◌+◌}
use mathlib.Core.Path.{◌≡◌}
use lib.ListN.{length}
use Rattle.base.specs.Memory.{written}
use Rattle.wire.specs.Groups.{groups}
use Rattle.wire.proofs.groups.put_groups.Given as goal

abbrev pub invariant-loop-v : goal.invariant-loop-v
invariant-loop-v l = (length l.d ≡ length l.initial.d) × (l.i + length (groups l.v) ≡ l.at + length (groups l.n)) × (written l.initial.d l.at (groups l.n) ≡ written l.d l.i (groups l.v))

abbrev pub decreases-loop-v : goal.decreases-loop-v
decreases-loop-v l = l.v
