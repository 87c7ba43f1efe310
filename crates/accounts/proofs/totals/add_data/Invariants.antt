-- The loop's invariant: the TLVs before the iterator's place are added.
use mathlib.Core.Path.{◌≡◌}
use Rattle.accounts.proofs.Sums.{AddedTo}
use Rattle.accounts.proofs.totals.add_data.Given as goal

abbrev pub invariant-loop-h : goal.invariant-loop-h
invariant-loop-h l = (l.h-iterator.row.now ≡ l.nd) × AddedTo l.w l.nd l.initial.r l.r l.h-iterator.at
