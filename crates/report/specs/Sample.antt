-- What is printed of small snapshots: the example of document 01, and where a careless report would go wrong. Assumes nothing.
use Rattle.std.specs.Prelude.{◌≡◌, List, [], ◌∷◌, ◌++◌, ℕ}
use Rattle.model.specs.Examples.{sample}
use Rattle.report.specs.Report.{heading, refused_line, printed}

-- "17 1250", "all 1250"
abbrev pub sample_lines : List ℕ
sample_lines = 49 ∷ 55 ∷ 32 ∷ 49 ∷ 50 ∷ 53 ∷ 48 ∷ 10 ∷ 97 ∷ 108 ∷ 108 ∷ 32 ∷ 49 ∷ 50 ∷ 53 ∷ 48 ∷ 10 ∷ []

-- our node 1 alone, with this many bytes of data
abbrev pub alone : ℕ → List ℕ → List ℕ
alone n d = 1 ∷ 1 ∷ 1 ∷ 1 ∷ 1 ∷ 0 ∷ n ∷ d

-- household 17 pays -1 cent, and 1 cent, each under receipt 0
abbrev pub minus : List ℕ
minus = 0 ∷ 0x28 ∷ 0 ∷ 3 ∷ 0x11 ∷ 0 ∷ 1 ∷ 0 ∷ []

abbrev pub plus : List ℕ
plus = 0 ∷ 0x28 ∷ 0 ∷ 3 ∷ 0x11 ∷ 0 ∷ 2 ∷ 0 ∷ []

-- an amount in one group too many
abbrev pub overlong : List ℕ
overlong = 0 ∷ 0x28 ∷ 0 ∷ 4 ∷ 0x11 ∷ 0 ∷ 0x82 ∷ 0 ∷ []

-- "all 0"
abbrev pub all_nothing : List ℕ
all_nothing = 97 ∷ 108 ∷ 108 ∷ 32 ∷ 48 ∷ 10 ∷ []

pub record Samples : Type 0 where
  -- "gives exactly"
  pub document : printed sample ≡ heading ++ sample_lines
  -- a sum below zero has a sign: "17 -1", "all -1"
  pub negative : printed (alone 8 minus) ≡ heading ++ (49 ∷ 55 ∷ 32 ∷ 45 ∷ 49 ∷ 10 ∷ 97 ∷ 108 ∷ 108 ∷ 32 ∷ 45 ∷ 49 ∷ 10 ∷ [])
  -- a household whose payments cancel has a line, with 0
  pub cancelled : printed (alone 16 (minus ++ plus)) ≡ heading ++ (49 ∷ 55 ∷ 32 ∷ 48 ∷ 10 ∷ all_nothing)
  -- one whose payments are all unreadable has none
  pub unread : printed (alone 8 overlong) ≡ heading ++ all_nothing
  -- no payments at all
  pub empty : printed (alone 0 []) ≡ heading ++ all_nothing
  -- nothing, another edition, a byte left over
  pub nothing : printed [] ≡ refused_line
  pub edition : printed (2 ∷ 1 ∷ 1 ∷ 1 ∷ 1 ∷ 0 ∷ 0 ∷ []) ≡ refused_line
  pub over : printed (alone 0 (0 ∷ [])) ≡ refused_line
