-- H of the profile has 16 bytes. Assumes nothing.
use mathlib.Core.Path.{◌≡◌, refl}
use mathlib.Core.List.{List}
use Prim.Native.Nat.{ℕ}
use lib.ListN.{length}
use Rattle.sha256.specs.Sha256.{sha256, hash16}

pub hash16-length : (m : List ℕ) → length (hash16 m) ≡ 16
unfolding sha256 hash16
hash16-length m = refl
