use Rattle.table.specs.View.{view}
use Rattle.upkeep.proofs.Leaving.{Marked}
use Rattle.upkeep.proofs.silence.scan.Given as goal

-- The peers before place i are judged.
abbrev pub invariant-loop-i : goal.invariant-loop-i
invariant-loop-i l = Marked l.clock l.endpoint (view l.t l.mem) l.peers l.i l.marks
