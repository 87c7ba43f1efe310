-- The loop's invariant: the lines of the households below `h` stand in the room.
use Prim.Native.Nat.{◌-◌}
use Rattle.text.specs.Room.{Put}
use Rattle.report.specs.Steps.{sum_at, paid_at, lines_to}
use Rattle.report.proofs.put_lines.Given as goal

abbrev pub invariant-loop-h : goal.invariant-loop-h
invariant-loop-h l = Put (lines_to (l.h - 1) (sum_at l.sums) (paid_at l.sums)) l.initial.room l.at l.room l.e
