use Rattle.table.specs.View.{view}
use Rattle.reach.proofs.Waves.{Waving}
use Rattle.reach.proofs.mark.spread.Given as goal

abbrev pub invariant-loop-k : goal.invariant-loop-k
invariant-loop-k l = Waving l.clock (view l.t l.mem) l.initial.w.met l.k l.w.met l.w.level
