use Prim.Native.Nat.{◌+◌}
use Rattle.message.proofs.Filled.{Numbered}
use Rattle.message.proofs.put_tlv.Given as goal

abbrev pub invariant-loop-i : goal.invariant-loop-i
invariant-loop-i l = Numbered l.initial.d (l.at + 4) l.values l.d l.i
