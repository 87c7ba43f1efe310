-- Bytes in lower-case hexadecimal. Assumes nothing.
use Rattle.std.specs.Prelude.{cond, Bool, not, ◌&&◌, ◌||◌, List, [], ◌∷◌, length, ℕ, ◌+◌, ◌-◌, ◌*◌, ◌/◌, ◌%◌, ◌==◌, ltb, leb, Option, Some, None, is_some, unwrap_or}
use Rattle.std.specs.List.{list_all}
use Rattle.base.specs.Bytes.{same}

-- the digit that counts d
abbrev pub glyph : ℕ → ℕ
glyph d = cond (ltb d 10) (48 + d) (87 + d)

-- two digits a byte, the higher first
unfoldable pub pairs : List ℕ → List ℕ
pairs [] = []
pairs (b ∷ s) = glyph (b / 16) ∷ glyph (b % 16) ∷ pairs s

-- as a word: `-` for none
unfoldable pub hexadecimal : List ℕ → List ℕ
hexadecimal [] = 45 ∷ []
hexadecimal (b ∷ s) = pairs (b ∷ s)

-- ---- read

-- what a digit counts
unfoldable pub digit : ℕ → Option ℕ
digit b = cond (leb 48 b && leb b 57) (Some (b - 48)) (cond (leb 97 b && leb b 102) (Some (b - 87)) None)

-- the word stands for bytes: `-` for none, else two digits for each
unfoldable pub is_hex : List ℕ → Bool
is_hex s = same s (45 ∷ []) || (not (length s == 0) && (length s % 2 == 0 && list_all (λ b. is_some (digit b)) s))

-- the byte that two digits count; what is no digit counts nothing
abbrev pub byte : ℕ → ℕ → ℕ
byte a b = unwrap_or (digit a) 0 * 16 + unwrap_or (digit b) 0

-- the bytes that a word stands for: two digits for each
unfoldable pub bytes : List ℕ → List ℕ
bytes [] = []
bytes (a ∷ []) = []
bytes (a ∷ b ∷ s) = byte a b ∷ bytes s
