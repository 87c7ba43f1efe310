-- The loop's invariant: the marked nodes below place `i` are added.
use Rattle.table.specs.View.{view}
use Rattle.accounts.proofs.Sums.{AddedBelow}
use Rattle.accounts.proofs.totals.tally.Given as goal

abbrev pub invariant-loop-i : goal.invariant-loop-i
invariant-loop-i l = AddedBelow l.w l.marks (view l.t l.mem) l.r l.i
