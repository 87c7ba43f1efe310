use Rattle.reply.proofs.Answers.{Listing}
use Rattle.reply.proofs.tell.reply_states.Given as goal

abbrev pub invariant-loop-i : goal.invariant-loop-i
invariant-loop-i l = Listing l.c l.t l.marks l.initial.v l.mem l.initial.room l.i l.v l.room
