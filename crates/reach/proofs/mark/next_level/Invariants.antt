use Rattle.table.specs.View.{view}
use Rattle.reach.proofs.Nexts.{Tried, Trying}
use Rattle.reach.proofs.mark.next_level.Given as goal

abbrev pub invariant-loop-v : goal.invariant-loop-v
invariant-loop-v l = Trying l.clock (view l.t l.mem) l.level l.met l.r l.v l.next

abbrev pub invariant-loop-r : goal.invariant-loop-r
invariant-loop-r l = Tried l.clock (view l.t l.mem) l.level l.met l.r l.next
