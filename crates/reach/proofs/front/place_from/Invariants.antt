-- The loop's invariant: the TLVs from `at` up to the iterator's place are below the type, and a row goes on there.
use mathlib.Core.Path.{◌≡◌}
use Rattle.reach.specs.Parts.{Passed}
use Rattle.reach.proofs.front.place_from.Given as goal

abbrev pub invariant-loop-h : goal.invariant-loop-h
invariant-loop-h l = (l.h-iterator.row.now ≡ l.d) × Passed l.d l.at l.least l.h-iterator.at
