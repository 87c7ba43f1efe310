-- The loop's invariant: what stands before the iterator's place is added.
use mathlib.Core.Path.{◌≡◌}
use Rattle.report.proofs.Adding.{Going}
use Rattle.report.proofs.sums.add_data.Given as goal

abbrev pub invariant-loop-h : goal.invariant-loop-h
invariant-loop-h l = (l.h-iterator.row.now ≡ l.nd) × Going l.nd l.initial.sums l.sums l.h-iterator.at
