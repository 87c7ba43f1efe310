-- Bytes, and big-endian numbers in lists of them. Assumes nothing.
use Rattle.std.specs.Prelude.{Bool, true, false, ◌&&◌, List, [], ◌∷◌, ℕ, ◌+◌, ◌*◌, ◌/◌, ◌%◌, ◌<◌, get_or, replicate, eqb}

-- every element is a byte
abbrev pub Bytes : List ℕ → Type 0
Bytes [] = Unit {0}
Bytes (b ∷ s) = (b < 256) × Bytes s

-- the largest number of 32 bits
abbrev pub most_u32 : ℕ
most_u32 = 4294967295

-- the number in the two, or four, bytes from place i, the highest byte first
abbrev pub u16_at : List ℕ → ℕ → ℕ
u16_at s i = get_or s i 0 * 256 + get_or s (i + 1) 0

abbrev pub u32_at : List ℕ → ℕ → ℕ
u32_at s i = get_or s i 0 * 16777216 + get_or s (i + 1) 0 * 65536 + get_or s (i + 2) 0 * 256 + get_or s (i + 3) 0

-- the bytes of a number below 2^16, or 2^32
abbrev pub big16 : ℕ → List ℕ
big16 n = n / 256 ∷ n % 256 ∷ []

abbrev pub big32 : ℕ → List ℕ
big32 n = n / 16777216 ∷ n / 65536 % 256 ∷ n / 256 % 256 ∷ n % 256 ∷ []

-- k zeros, and whether every byte is zero
abbrev pub noughts : ℕ → List ℕ
noughts k = replicate k 0

abbrev pub zeros : List ℕ → Bool
zeros [] = true
zeros (b ∷ s) = eqb b 0 && zeros s

-- two byte lists are the same
abbrev pub same : List ℕ → List ℕ → Bool
same [] [] = true
same [] (y ∷ ys) = false
same (x ∷ xs) [] = false
same (x ∷ xs) (y ∷ ys) = eqb x y && same xs ys
