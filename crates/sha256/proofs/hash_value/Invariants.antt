use mathlib.Core.Path.{◌≡◌}
use Prim.Native.Nat.{◌+◌, ◌-◌, ◌*◌, ◌/◌}
use lib.ListN.{length}
use Rattle.sha256.specs.Sha256.{end_of, pad, hash, initial}
use Rattle.sha256.proofs.hash_value.Given as goal

abbrev pub invariant-loop-block : goal.invariant-loop-block
invariant-loop-block l =
    (l.end ≡ end_of (length l.m))
    × (hash ((l.end + 8) / 64 - l.block) (64 * l.block) (pad l.m) l.s ≡ hash (length (pad l.m) / 64) 0 (pad l.m) initial)
