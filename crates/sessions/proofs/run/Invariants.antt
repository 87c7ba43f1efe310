use Rattle.sessions.specs.Kept.{Running}
use Rattle.sessions.proofs.run.Given as goal

abbrev pub invariant-loop-turn : goal.invariant-loop-turn
invariant-loop-turn l = Running l.session
