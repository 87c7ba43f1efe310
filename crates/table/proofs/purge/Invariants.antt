use mathlib.Core.Path.{◌≡◌}
use mathlib.Core.List.{◌++◌}
use Prim.Native.Nat.{◌+◌, ◌≤◌}
use lib.ListN.{length, take}
use Rattle.base.specs.Lists.{keep_by}
use Rattle.table.specs.View.{live}
use Rattle.table.proofs.purge.Given as goal

-- what stays stands in front, before what stays of the entries and marks that are left
abbrev pub invariant-loop-e : goal.invariant-loop-e
invariant-loop-e l = record {
  few : l.j + length l.e-iterator.a.rest.now ≤ l.fn.t.count;
  wide : length l.n.entries ≡ 32;
  kept : keep_by l.fn.marks (live l.fn.t) ≡ take l.j l.n.entries ++ keep_by l.e-iterator.b.rest.now l.e-iterator.a.rest.now;
}
