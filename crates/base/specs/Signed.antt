-- Sums of signed numbers. Assumes nothing.
use Rattle.std.specs.Prelude.{List, [], ◌∷◌, ℤ, pos, ◌+ℤ◌}

abbrev pub sumℤ : List ℤ → ℤ
sumℤ [] = pos 0
sumℤ (x ∷ xs) = x +ℤ sumℤ xs
