-- Numbers in decimal digits, written. Assumes nothing.
use Rattle.std.specs.Prelude.{cond, List, [], ◌∷◌, ◌++◌, ℕ, zero, suc, ◌+◌, ◌/◌, ◌%◌, ltb, ℤ, pos, negsuc}

-- n in decimal digits, the highest first; the count bounds how many
unfoldable pub decimal_of : ℕ → ℕ → List ℕ
decimal_of zero n = []
decimal_of (suc f) n = cond (ltb n 10) ((48 + n) ∷ []) (decimal_of f (n / 10) ++ ((48 + n % 10) ∷ []))

abbrev pub decimal : ℕ → List ℕ
decimal n = decimal_of (suc n) n

-- a minus sign before the digits of a number below zero
unfoldable pub signed : ℤ → List ℕ
signed (pos n) = decimal n
signed (negsuc n) = 45 ∷ decimal (suc n)

-- a name, a space, cents, and the line's end
abbrev pub line : List ℕ → ℤ → List ℕ
line name v = name ++ (32 ∷ (signed v ++ (10 ∷ [])))
