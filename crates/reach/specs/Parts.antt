-- The parts of a row by the types of its TLVs. Assumes nothing.
use Rattle.std.specs.Prelude.{◌≡◌, true, List, [], ◌∷◌, ◌++◌, ℕ, ◌≤◌, ◌<◌, length, drop}
use Rattle.base.specs.Lists.{All}
use Rattle.wire.specs.Row.{type_of, is_row, tlvs}
use Rattle.model.specs.Reach.{links}

-- from place `at` of the row d up to place r stand TLVs of types below `least`
pub record Passed (d : List ℕ) (at least r : ℕ) : Type 0 where
  pub below : List (List ℕ)
  pub parts : tlvs (drop at d) ≡ below ++ tlvs (drop r d)
  pub low : All (λ t. type_of t < least) below
  pub onward : at ≤ r
  pub within : r ≤ length d
  pub again : is_row (drop r d) ≡ true

-- the first TLV, if there is one, has the type k or more
abbrev pub FirstFrom : ℕ → List (List ℕ) → Type 0
FirstFrom k [] = Unit {0}
FirstFrom k (t ∷ ts) = k ≤ type_of t

-- and none of them stands there
pub record Parted (d : List ℕ) (at least r : ℕ) : Type 0 where
  pub passed : Passed d at least r
  pub high : FirstFrom least (tlvs (drop r d))

-- r is a row that has the links of d
pub record Front (d r : List ℕ) : Type 0 where
  pub row : is_row r ≡ true
  pub same : links r ≡ links d
