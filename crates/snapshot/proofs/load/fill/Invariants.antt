-- The loop's invariant: what the table holds, before what is left, is what loads.
use Rattle.snapshot.proofs.Loading.{Filling}
use Rattle.snapshot.proofs.load.fill.Given as goal

abbrev pub invariant-loop-k : goal.invariant-loop-k
invariant-loop-k l = Filling l.clock l.s l.at l.count l.initial.mem l.t l.mem l.cursor.place l.cursor.low l.k
