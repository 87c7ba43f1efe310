-- The loop's invariant: the marked nodes below place `i` are summed, and what lies behind the households stays.
use Rattle.table.specs.View.{view}
use Rattle.report.specs.Steps.{Behind}
use Rattle.report.proofs.Marking.{Below}
use Rattle.report.proofs.sums.sum_up.Given as goal

abbrev pub invariant-loop-i : goal.invariant-loop-i
invariant-loop-i l = Below l.marks (view l.t l.mem) l.sums l.i × Behind l.initial.sums l.sums
