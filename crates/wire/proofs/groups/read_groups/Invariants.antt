use Prim.Native.Nat.{◌+◌, ◌≤◌}
use mathlib.Core.Path.{◌≡◌}
use lib.ListN.{drop}
use Rattle.wire.specs.Groups.{read_groups}
use Rattle.wire.proofs.Varints.{onward}
use Rattle.wire.proofs.groups.read_groups.Given as goal

abbrev pub invariant-loop-i : goal.invariant-loop-i
invariant-loop-i l = (l.sum ≤ l.most) × (l.scale ≤ l.most + 1) × (read_groups l.most (drop l.at l.s) ≡ onward l.most l.sum l.scale l.least (drop l.i l.s))
