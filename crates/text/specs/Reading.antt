-- Numbers in decimal digits, read. Assumes nothing.
use Rattle.std.specs.Prelude.{cond, ◌&&◌, List, [], ◌∷◌, ℕ, ◌+◌, ◌-◌, ◌*◌, eqb, leb, Option, Some, None, option_and_then}

-- the number n with the digit b behind it, if that is one and the number is at most `most`
unfoldable pub with_digit : ℕ → ℕ → ℕ → Option ℕ
with_digit most n b = cond (leb 48 b && (leb b 57 && leb (n * 10 + (b - 48)) most)) (Some (n * 10 + (b - 48))) None

-- and with all these digits behind it
unfoldable pub read_on : ℕ → ℕ → List ℕ → Option ℕ
read_on most n [] = Some n
read_on most n (b ∷ s) = option_and_then (λ m. read_on most m s) (with_digit most n b)

-- the number that these digits stand for: at least one
unfoldable pub read_decimal : ℕ → List ℕ → Option ℕ
read_decimal most [] = None
read_decimal most (b ∷ s) = read_on most 0 (b ∷ s)

-- ---- amounts of 32 bits, folded: 0, -1, 1, -2 become 0, 1, 2, 3

abbrev pub folded_up : Option ℕ → Option ℕ
folded_up None = None
folded_up (Some n) = Some (n * 2)

abbrev pub folded_down : Option ℕ → Option ℕ
folded_down None = None
folded_down (Some n) = Some (n * 2 - 1)

-- a minus sign comes before the digits of a number below zero
unfoldable pub read_amount : List ℕ → Option ℕ
read_amount [] = None
read_amount (b ∷ s) = cond (eqb b 45) (folded_down (read_decimal 2147483648 s)) (folded_up (read_decimal 2147483647 (b ∷ s)))
