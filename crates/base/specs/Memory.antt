-- Lent memory: its parts, what a store leaves of it, and bytes put in or taken out in place. Assumes nothing.
use Rattle.std.specs.Prelude.{◌≡◌, List, ◌++◌, ℕ, ◌+◌, length, take, drop}

-- the n bytes from place a
abbrev pub part : List ℕ → ℕ → ℕ → List ℕ
part m a n = take n (drop a m)

-- the memory m after the bytes d were written to it from place a on
abbrev pub written : List ℕ → ℕ → List ℕ → List ℕ
written m a d = take a m ++ (d ++ drop (a + length d) m)

-- d with the bytes b put in at place p, and with the n bytes from place p taken out
abbrev pub spliced : List ℕ → ℕ → List ℕ → List ℕ
spliced d p b = take p d ++ (b ++ drop p d)

abbrev pub cut : List ℕ → ℕ → ℕ → List ℕ
cut d p n = take p d ++ drop (p + n) d

-- the frame: m' differs from m in the n bytes from place a alone
pub record Outside (a n : ℕ) (m m' : List ℕ) : Type 0 where
  pub below : take a m' ≡ take a m
  pub above : drop (a + n) m' ≡ drop (a + n) m
