-- Signed numbers: their sizes, their sums, and how code's words stand for them. Assumes nothing.
use mathlib.Core.Path.{◌≡◌, refl, sym, ap, ◌∙◌}
use mathlib.Core.Bool.{Bool, true, false, cond}
use mathlib.Core.List.{List, [], ◌∷◌, ◌++◌, map}
use Prim.Native.Nat.{ℕ, suc, ◌+◌, ◌-◌, ◌≤◌}
use native.Mathlib.Omega.{arith}
use lib.IntN.{ℤ, pos, negsuc, neg_ℤ, ◌+ℤ◌, +ℤ_assoc, +ℤ_comm, +ℤ_idl, +ℤ_invl}
use lib.Dec.{ltb}
use lib.Signed.{mag, lt_z}
use mir.Syntax.{Width, w32, w64}
use mir.Val.{SFits, to_z, of_z}
use mir.Facts.{to_z-of_z, sfits_widen}
use Rattle.base.specs.Signed.{sumℤ}

-- the size of a signed sum
mag-cond : (b : Bool) (p q r : ℕ) → p ≤ r → q ≤ r → mag (cond b (negsuc p) (pos q)) ≤ r
mag-cond true p q r hp hq = hp
mag-cond false p q r hp hq = hq

pub mag_add : (x y : ℤ) → mag (x +ℤ y) ≤ mag x + mag y + 1
mag_add (pos a) (pos b) = omega arith
mag_add (pos a) (negsuc b) = mag-cond (ltb a (suc b)) (suc b - suc a) (a - suc b) (a + b + 1) (omega arith) (omega arith)
mag_add (negsuc a) (pos b) = mag-cond (ltb b (suc a)) (suc a - suc b) (b - suc a) (a + b + 1) (omega arith) (omega arith)
mag_add (negsuc a) (negsuc b) = omega arith

-- the sum of two lists, one after the other
pub sum_append : (xs ys : List ℤ) → sumℤ (xs ++ ys) ≡ sumℤ xs +ℤ sumℤ ys
sum_append [] ys = sym (+ℤ_idl (sumℤ ys))
sum_append (x ∷ xs) ys = rw (sum_append xs ys) (sym (+ℤ_assoc x (sumℤ xs) (sumℤ ys)))

-- a term taken to the front
pub add_across : (a b c : ℤ) → a +ℤ (b +ℤ c) ≡ b +ℤ (a +ℤ c)
add_across a b c = sym (+ℤ_assoc a b c) ∙ ap (λ (x : ℤ). x +ℤ c) (+ℤ_comm a b) ∙ +ℤ_assoc b a c

-- a number and its negative cancel, both picked or neither
pub cancelled : (b : Bool) (x t : ℤ) → cond b (neg_ℤ x) (pos 0) +ℤ (cond b x (pos 0) +ℤ t) ≡ t
cancelled true x t = sym (+ℤ_assoc (neg_ℤ x) x t) ∙ ap (λ (v : ℤ). v +ℤ t) (+ℤ_invl x) ∙ +ℤ_idl t
cancelled false x t = +ℤ_idl (pos 0 +ℤ t) ∙ +ℤ_idl t

-- sums over one list of two terms each
swap : (a b c d : ℤ) → (a +ℤ b) +ℤ (c +ℤ d) ≡ (a +ℤ c) +ℤ (b +ℤ d)
swap a b c d =
    +ℤ_assoc a b (c +ℤ d) ∙ ap (λ (x : ℤ). a +ℤ x) (add_across b c d) ∙ sym (+ℤ_assoc a c (b +ℤ d))

pub sum_both : {A : Type 0} (f g : A → ℤ) (xs : List A) → sumℤ (map (λ x. f x +ℤ g x) xs) ≡ sumℤ (map f xs) +ℤ sumℤ (map g xs)
sum_both f g [] = refl
sum_both f g (x ∷ xs) = ap (λ (s : ℤ). (f x +ℤ g x) +ℤ s) (sum_both f g xs) ∙ swap (f x) (g x) (sumℤ (map f xs)) (sumℤ (map g xs))

pub sum_zeros : {A : Type 0} (xs : List A) → sumℤ (map (λ (x : A). pos 0) xs) ≡ pos 0
sum_zeros [] = refl
sum_zeros (x ∷ xs) = +ℤ_idl (sumℤ (map (λ x. pos 0) xs)) ∙ sum_zeros xs

-- ---- a signed number in a local is its bits

-- of any width
module _ (w : Width) (x : ℤ) (fx : SFits w x) where
  pub narrow_back : to_z w (of_z w x) ≡ x
  narrow_back = to_z-of_z {w = w} fx

  pub sign : (b : Bool) → lt_z (to_z w (of_z w x)) (pos 0) ≡ b → lt_z x (pos 0) ≡ b
  sign b e = rw narrow_back at e

-- a signed word widened
module _ (x : ℤ) (f : SFits w32 x) where
  pub wide_back : to_z w64 (of_z w64 (to_z w32 (of_z w32 x))) ≡ x
  wide_back = rw (narrow_back w32 x f) (narrow_back w64 x (sfits_widen {w = w32} {w' = w64} tt f))
