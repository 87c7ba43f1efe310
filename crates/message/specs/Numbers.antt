-- Numbers of 32 bits one behind the other. Assumes nothing.
use Rattle.std.specs.Prelude.{List, [], ◌∷◌, ◌++◌, ℕ}
use Rattle.base.specs.Bytes.{big32}

abbrev pub numbers : List ℕ → List ℕ
numbers [] = []
numbers (n ∷ ns) = big32 n ++ numbers ns
