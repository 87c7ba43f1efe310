-- The rounds of one block, with sixteen of its words kept (document 02, Less stack for the digest). Section numbers are those of FIPS 180-4. Assumes nothing.
use Rattle.std.specs.Prelude.{ℕ, ◌+◌, ◌-◌, ◌%◌, ◌<◌, ◌≡◌, List, length, get_or, take, drop}
use Rattle.sha256.specs.declared.State.{State}
use Rattle.sha256.specs.Sha256.{k_table, schedule, round_of, rounds}

-- 6.2.2, step 1: the word t of the block m, for t from 0 to 63
abbrev pub W : List ℕ → ℕ → ℕ
W m t = get_or (schedule m) t 0

-- "keep at most sixteen message words of a block": w has the words of the block m that are kept as round t begins, the word i at i modulo 16. Up to round
-- 16, where t - 16 is 0, they are the block's own; from then on the sixteen before word t
pub record Window (m : List ℕ) (t : ℕ) (w : List ℕ) : Type 0 where
  pub block : length m ≡ 16
  pub sixteen : length w ≡ 16
  pub words : (j : ℕ) → j < 16 → get_or w ((t - 16 + j) % 16) 0 ≡ W m (t - 16 + j)

-- "work out the next from them": x is the word t of every block of which w keeps the words, and then w' keeps those for the next round
pub record Takes (t : ℕ) (w : List ℕ) (x : ℕ) (w' : List ℕ) : Type 0 where
  pub word : (m : List ℕ) → Window m t w → x ≡ W m t
  pub window : (m : List ℕ) → Window m t w → Window m (t + 1) w'

-- "the word each round takes": round t makes r of s with `word`, which the code hands it, and `word` is the word t of every block of which w keeps the words
pub record RoundAt (t k : ℕ) (s : State) (w : List ℕ) (r : State) (w' : List ℕ) : Type 0 where
  pub word : ℕ
  pub takes : Takes t w word w'
  pub round : r ≡ round_of s k word

-- the same of the rounds t to t + n - 1, each with its constant: the code hands them `words`, and these are the words t to t + n - 1 of every such block
pub record RoundsFrom (t n : ℕ) (s : State) (w : List ℕ) (r : State) (w' : List ℕ) : Type 0 where
  pub words : List ℕ
  pub count : length words ≡ n
  pub taken : (m : List ℕ) → Window m t w → words ≡ take n (drop t (schedule m))
  pub done : r ≡ rounds (take n (drop t k_table)) words s
  pub window : (m : List ℕ) → Window m t w → Window m (t + n) w'
