-- The loop's invariant: what is left, with what was held so far, is judged as the whole.
use Rattle.snapshot.proofs.Loading.{Judging}
use Rattle.snapshot.proofs.load.is_whole.Given as goal

abbrev pub invariant-loop-k : goal.invariant-loop-k
invariant-loop-k l = Judging l.s l.at l.count l.own l.cursor.place l.cursor.low l.held l._k
