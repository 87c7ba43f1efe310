-- Choosing from lists by a test, membership, and what may be missing. Assumes nothing.
use Rattle.std.specs.Prelude.{◌≡◌, Bool, true, false, cond, ◌&&◌, ◌||◌, List, [], ◌∷◌, ◌++◌, ◌⊎◌}
use Rattle.std.proofs.Math.Option.{Option, none, some}

abbrev pub any {ℓ} : {A : Type ℓ} → (A → Bool) → List A → Bool
any f [] = false
any f (x ∷ xs) = f x || any f xs

abbrev pub all {ℓ} : {A : Type ℓ} → (A → Bool) → List A → Bool
all f [] = true
all f (x ∷ xs) = f x && all f xs

-- those that f holds of
abbrev pub keep {ℓ} : {A : Type ℓ} → (A → Bool) → List A → List A
keep f [] = []
keep f (x ∷ xs) = cond (f x) (x ∷ keep f xs) (keep f xs)

-- the first that f holds of
abbrev pub first {ℓ} : {A : Type ℓ} → (A → Bool) → List A → Option A
first f [] = none
first f (x ∷ xs) = cond (f x) (some x) (first f xs)

abbrev pub join_all {ℓ} : {A : Type ℓ} → List (List A) → List A
join_all [] = []
join_all (x ∷ xs) = x ++ join_all xs

abbrev pub or_else {ℓ κ} : {A : Type ℓ} {B : Type κ} → Option A → B → (A → B) → B
or_else none b f = b
or_else (some a) b f = f a

-- x before what may be missing
abbrev pub cons_to {ℓ} : {A : Type ℓ} → A → Option (List A) → Option (List A)
cons_to x none = none
cons_to x (some xs) = some (x ∷ xs)

abbrev pub is_some {ℓ} : {A : Type ℓ} → Option A → Bool
is_some none = false
is_some (some a) = true

-- a is an element
abbrev pub In : {A : Type 0} → A → List A → Type 0
In a [] = ⊥
In a (x ∷ xs) = (a ≡ x) ⊎ In a xs

-- P holds of every element
abbrev pub All : {A : Type 0} → (A → Type 0) → List A → Type 0
All P [] = Unit {0}
All P (x ∷ xs) = P x × All P xs

-- the elements whose mark is set
abbrev pub keep_by {ℓ} : {A : Type ℓ} → List Bool → List A → List A
keep_by [] xs = []
keep_by (b ∷ bs) [] = []
keep_by (b ∷ bs) (x ∷ xs) = cond b (x ∷ keep_by bs xs) (keep_by bs xs)
