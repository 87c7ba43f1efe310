use Rattle.node.proofs.Settling.{ResetBelow}
use Rattle.node.proofs.settle.reset_all.Given as goal

abbrev pub invariant-loop-i : goal.invariant-loop-i
invariant-loop-i l = ResetBelow l.clock l.randoms l.initial.es l.es l.i
