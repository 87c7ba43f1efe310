-- The loop's invariant: the first i entries are written behind the numbers.
use Rattle.table.specs.View.{view}
use Rattle.snapshot.proofs.Saving.{Through}
use Rattle.snapshot.proofs.save.save.Given as goal

abbrev pub invariant-loop-e : goal.invariant-loop-e
invariant-loop-e l = Through l.clock (view l.fn.t l.mem) l.initial.room l.initial.at l.room l.at l.e-index
