use mathlib.Core.Path.{◌≡◌}
use Prim.Native.Nat.{◌≤◌}
use lib.ListN.{length}
use Rattle.model.specs.Figures.{most_peers}
use Rattle.node.proofs.Stripping.{Stayed}
use Rattle.node.proofs.leaving.staying.Given as goal

abbrev pub invariant-loop-i : goal.invariant-loop-i
invariant-loop-i l = (l.j ≤ l.i) × (length l.r.list ≡ most_peers) × Stayed l.marks l.p.list l.i l.r.list l.j
