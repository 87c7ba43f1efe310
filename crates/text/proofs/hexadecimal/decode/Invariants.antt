use Prim.Native.Nat.{◌*◌}
use mathlib.Core.Path.{◌≡◌}
use mathlib.Core.List.{◌++◌}
use lib.ListN.{take, drop}
use Rattle.text.specs.Hexadecimal.{bytes}
use Rattle.text.proofs.hexadecimal.decode.Given as goal

-- the bytes so far, and what is left is as it was
abbrev pub invariant-loop-i : goal.invariant-loop-i
invariant-loop-i l =
    (drop (2 * l.i) l.word ≡ drop (2 * l.i) l.initial.word) × (take l.i l.word ++ bytes (drop (2 * l.i) l.initial.word) ≡ bytes l.initial.word)
