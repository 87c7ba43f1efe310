-- Lists in strictly ascending order of a key. Assumes nothing.
use Rattle.std.specs.Prelude.{cond, List, [], ◌∷◌, ℕ, ◌<◌, eqb, ltb}
use Rattle.std.proofs.Math.Option.{Option, none, some}

module _ {A : Type 0} (key : A → ℕ) where
  unfoldable pub find : ℕ → List A → Option A
  find n [] = none
  find n (x ∷ xs) = cond (eqb (key x) n) (some x) (find n xs)

  -- in its place, over an element with the same key
  unfoldable pub insert : A → List A → List A
  insert a [] = a ∷ []
  insert a (x ∷ xs) = cond (ltb (key a) (key x)) (a ∷ x ∷ xs) (cond (eqb (key a) (key x)) (a ∷ xs) (x ∷ insert a xs))

  abbrev pub Above : ℕ → List A → Type 0
  Above n [] = Unit {0}
  Above n (x ∷ xs) = (n < key x) × Above n xs

  abbrev pub Ascending : List A → Type 0
  Ascending [] = Unit {0}
  Ascending (x ∷ xs) = Above (key x) xs × Ascending xs
