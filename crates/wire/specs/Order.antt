-- TLVs compared byte by byte, good node data, and a TLV's place in it (document 01, TLVs). Assumes nothing.
use Rattle.std.specs.Prelude.{Bool, true, false, not, cond, ◌&&◌, ◌||◌, List, [], ◌∷◌, ℕ, length, eqb, ltb, leb}
use Rattle.base.specs.Lists.{keep, or_else}
use Rattle.base.specs.Bytes.{same}
use Rattle.wire.specs.Row.{row}

-- "compared byte by byte": the first difference decides; a beginning comes before the whole
unfoldable pub before : List ℕ → List ℕ → Bool
before xs [] = false
before [] (y ∷ ys) = true
before (x ∷ xs) (y ∷ ys) = cond (eqb x y) (before xs ys) (ltb x y)

-- "strictly ascending": t before the first of the rest, and so on
unfoldable pub climbs : List ℕ → List (List ℕ) → Bool
climbs t [] = true
climbs t (u ∷ us) = before t u && climbs u us

unfoldable pub ascending : List (List ℕ) → Bool
ascending [] = true
ascending (t ∷ ts) = climbs t ts

-- "Node data is good if it is at most .. bytes, a row .., strictly ascending"
unfoldable pub good : ℕ → List ℕ → Bool
good limit d = leb (length d) limit && or_else (row d) false ascending

-- a TLV's place among those of node data, and whether it stands there already
unfoldable pub place : List ℕ → List (List ℕ) → List (List ℕ)
place t [] = t ∷ []
place t (u ∷ us) = cond (before t u) (t ∷ u ∷ us) (u ∷ place t us)

unfoldable pub among : List ℕ → List (List ℕ) → Bool
among t [] = false
among t (u ∷ us) = same t u || among t us

-- the others of node data
unfoldable pub without : List ℕ → List (List ℕ) → List (List ℕ)
without t us = keep (λ u. not (same t u)) us
