-- The words of a line: exactly one space stands between two words. Assumes nothing.
use Rattle.std.specs.Prelude.{◌≡◌, cond, Bool, true, false, List, [], ◌∷◌, ℕ, zero, suc, ◌+◌, ◌==◌, length, take, drop, position, Option, Some, None, unwrap_or, option_map, option_and_then, option_copied}
use Rattle.std.specs.List.{list_any}
use Rattle.std.specs.Borrow.{Bor}
use Rattle.text.specs.declared.words.Words.{Words}
use Rattle.base.specs.Bytes.{same}
use Rattle.text.specs.Hexadecimal.{is_hex}
use Rattle.text.specs.Reading.{read_decimal}

-- the place of the first space
abbrev pub space : List ℕ → Option ℕ
space s = position (λ b. b == 32) s

-- it ends the first word; where none stands, all is one word
abbrev pub first : List ℕ → List ℕ
first s = take (unwrap_or (space s) (length s)) s

-- behind that space the next word begins, so two spaces have an empty word between them; where none stands, no word is left
abbrev pub behind : List ℕ → Option (List ℕ)
behind s = option_map (λ i. drop (i + 1) s) (space s)

-- what is left of the line: None when no word is
abbrev pub left : Words → Option (List ℕ)
left w = option_copied w.rest

-- the next word of what is left, and what is left then
abbrev pub word : Option (List ℕ) → Option (List ℕ)
word rest = option_map first rest

abbrev pub on : Option (List ℕ) → Option (List ℕ)
on rest = option_and_then behind rest

-- how many words are left at most
abbrev pub size : Option (List ℕ) → ℕ
size None = 0
size (Some s) = suc (length s)

-- a call of `next` answers the next word and goes on
abbrev pub Takes : Words → Option (Bor (List ℕ)) → Words → Type 0
Takes w r w' = (option_copied r ≡ word (left w)) × (left w' ≡ on (left w))

-- what a way of reading makes of the next word, and it goes on to the word behind it, read or not
abbrev pub Reads : {A : Type 0} → (List ℕ → Option A) → Words → Option A → Words → Type 0
Reads f w r w' = (r ≡ option_and_then f (word (left w))) × (left w' ≡ on (left w))

-- ---- ways of reading a word

-- a number of 64 bits
abbrev pub long : List ℕ → Option ℕ
long = read_decimal 18446744073709551615

-- a number of 32 bits
abbrev pub small : List ℕ → Option ℕ
small = read_decimal 4294967295

-- u for unicast, m for multicast
unfoldable pub unicast : List ℕ → Option Bool
unicast s = cond (same s (117 ∷ [])) (Some true) (cond (same s (109 ∷ [])) (Some false) None)

-- last for the last save, else bytes
unfoldable pub last : List ℕ → Option Bool
last s = cond (same s (108 ∷ 97 ∷ 115 ∷ 116 ∷ [])) (Some true) (cond (is_hex s) (Some false) None)

-- k numbers of 32 bits, one in each word
abbrev pub numbers : ℕ → Option (List ℕ) → Option (List ℕ)
numbers zero rest = Some []
numbers (suc k) rest = option_and_then (λ n. option_map (λ s. n ∷ s) (numbers k (on rest))) (option_and_then small (word rest))

-- and what is left behind them, or behind the first word that is none
abbrev pub behind_numbers : ℕ → Option (List ℕ) → Option (List ℕ)
behind_numbers zero rest = rest
behind_numbers (suc k) rest = unwrap_or (option_map (λ n. behind_numbers k (on rest)) (option_and_then small (word rest))) (on rest)

-- a word is left and passes
abbrev pub any_word : (List ℕ → Bool) → Option (List ℕ) → Bool
any_word f rest = unwrap_or (option_map f (word rest)) false

-- ---- the last word

abbrev pub has_space : List ℕ → Bool
has_space s = list_any (λ b. b == 32) s

-- what stands behind the last space
unfoldable pub last_word : List ℕ → List ℕ
last_word [] = []
last_word (b ∷ s) = cond (has_space s) (last_word s) (cond (b == 32) s (b ∷ s))
