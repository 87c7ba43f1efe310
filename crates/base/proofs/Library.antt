-- The standard library's words and ours: what its methods answer, as our contracts say it. Assumes nothing.
use mathlib.Core.Path.{◌≡◌, refl, ap, subst}
use mathlib.Core.Bool.{Bool, true, false, ◌&&◌, ◌||◌}
use mathlib.Core.List.{List, [], ◌∷◌, map}
use Prim.Native.Nat.{ℕ, zero, suc, ◌+◌, ◌≤◌, ◌<◌}
use native.Mathlib.Omega.{arith}
use lib.ListN.{get_or}
use lib.Dec.{eqb}
use denote.Param.Members.{Mut, Called}
use Rattle.std.specs.List.{list_any, zip}
use Rattle.std.specs.Cmp.Lexicographic.{pointwise}
use Rattle.std.specs.Array.{IsFromFnResultFrom}
use Rattle.base.specs.Bytes.{same}
use Rattle.base.specs.Lists.{any, keep_by}
use Rattle.base.proofs.Tests.{by_order}

pub listed_any : {A : Type 0} (f : A → Bool) (xs : List A) → list_any f xs ≡ any f xs
listed_any f [] = refl
listed_any f (x ∷ xs) = ap (λ (b : Bool). f x || b) (listed_any f xs)

pub listed_any_map : {A B : Type 0} (f : B → Bool) (g : A → B) (xs : List A) → list_any (λ x. f (g x)) xs ≡ any f (map g xs)
listed_any_map f g [] = refl
listed_any_map f g (x ∷ xs) = ap (λ (b : Bool). f (g x) || b) (listed_any_map f g xs)

-- marks beside a list: some marked element is one that f picks
pub listed_any_marked : {A B : Type 0} (f : B → Bool) (g : A → B) (bs : List Bool) (xs : List A) → list_any (λ x. x.0 && f (g x.1)) (zip bs xs) ≡ any f (keep_by bs (map g xs))
listed_any_marked f g [] xs = refl
listed_any_marked f g (b ∷ bs) [] = refl
listed_any_marked f g (true ∷ bs) (x ∷ xs) = ap (λ (b : Bool). f (g x) || b) (listed_any_marked f g bs xs)
listed_any_marked f g (false ∷ bs) (x ∷ xs) = listed_any_marked f g bs xs

-- `==` of two byte lists, on slices and on arrays
pub same_equal : (xs ys : List ℕ) → pointwise eqb xs ys ≡ same xs ys
same_equal [] [] = refl
same_equal [] (y ∷ ys) = refl
same_equal (x ∷ xs) [] = refl
same_equal (x ∷ xs) (y ∷ ys) = ap (λ b. eqb x y && b) (same_equal xs ys)

-- an array made by a closure that stays as it is and answers as P says of a place
module _ {F B : Type 0} (g : Mut F (ℕ × Unit {0}) B) (f : F) (P : ℕ → B → Type 0) (ys : List B) (c : (i : ℕ) (y : B) (q : F) → Called g f (i, tt) y q → (q ≡ f) × P i y) where
  pub made_at : (i n : ℕ) → IsFromFnResultFrom g f ys i n → (k : ℕ) (d : B) → i ≤ k → k < i + n → P k (get_or ys k d)
  made_at i zero e k d p q = absurd (omega arith)
  made_at i (suc n) e k d p q =
      let w = c i e.1 e.0 e.3 in
      by_order i k
      (λ l. made_at (i + 1) n (subst (λ (j : F). IsFromFnResultFrom g j ys (i + 1) n) w.0 e.4) k d (omega arith) (omega arith))
      (λ s. let v : get_or ys i d ≡ e.1 = e.2.1 d in rw (← s, v) w.1)
      (λ l. absurd (omega arith))
