-- The order of byte lists. Assumes nothing.
use mathlib.Core.Path.{◌≡◌, refl, sym, ap, ◌∙◌}
use mathlib.Core.Bool.{Bool, true, false}
use Rattle.std.specs.Bool.{Decides}
use Rattle.std.specs.Cmp.Lexicographic.{slice_cmp, slice_partial_cmp}
use Rattle.std.specs.Ordering.{nat_cmp, is_lt, is_eq, is_some_and, ordering_reverse}
use Rattle.std.specs.declared.cmp.Ordering.{Ordering}
use Rattle.std.specs.declared.cmp.Ordering.TheVariants.{Less, Equal, Greater}
use Rattle.std.specs.Prelude.{Some}
use Rattle.std.proofs.lemmas.Cmp.{same_from_slice_cmp, same_from_slice_cmp_tested, nat_list_cmp_total, tied_itself}
use Rattle.std.proofs.lemmas.Bool.Decides.{nat_tests, Decides-eqb}
use Rattle.std.proofs.lemmas.Slice.Eq.{slice_eq-Decides}
use mathlib.Core.List.{List, [], ◌∷◌}
use Prim.Native.Nat.{ℕ, ◌<◌}
use native.Mathlib.Omega.{arith}
use lib.ListN.{length}
use lib.Dec.{ltb}
use borrow.Author.Tests.{eq-eqb, ne_eqb}
use Rattle.base.specs.Bytes.{same}
use Rattle.wire.specs.Order.{before}
use Rattle.base.proofs.Library.{same_equal}
use Rattle.base.proofs.Tests.{by_test}

before_nil : (x : List ℕ) → before x [] ≡ false
unfolding before
before_nil [] = refl
before_nil (a ∷ x) = refl

pub before-some : (y : List ℕ) → 0 < length y → before [] y ≡ true
unfolding before
before-some [] h = absurd (omega arith)
before-some (b ∷ y) h = refl

pub before_head : (x y : ℕ) (xs ys : List ℕ) → (x ≡ y → ⊥) → before (x ∷ xs) (y ∷ ys) ≡ ltb x y
unfolding before
before_head x y xs ys n = rw (ne_eqb x y n)

pub before_tail : (x y : ℕ) (xs ys : List ℕ) → x ≡ y → before (x ∷ xs) (y ∷ ys) ≡ before xs ys
unfolding before
before_tail x y xs ys e = rw (eq-eqb x y e)

-- ---- std's `<` and order on slices of bytes answer as they do

pub before_less : (xs ys : List ℕ) (r : Bool) → r ≡ is_some_and is_lt (slice_partial_cmp (λ x y. Some (nat_cmp x y)) xs ys) → r ≡ before xs ys
unfolding before
before_less = same_from_slice_cmp_tested nat_cmp is_lt before refl (λ _ _. refl) (λ _ _. refl) (λ x y xs ys o h. grind (arith, nat_tests))

less_before : (xs ys : List ℕ) → is_lt (slice_cmp nat_cmp xs ys) ≡ before xs ys
unfolding before
less_before xs ys = same_from_slice_cmp nat_cmp is_lt before refl (λ _ _. refl) (λ _ _. refl) (λ x y xs ys o h. grind (arith, nat_tests)) xs ys (slice_cmp nat_cmp xs ys) refl

pub before_ordered : (xs ys : List ℕ) (o : Ordering) (r : Bool) → o ≡ slice_cmp nat_cmp xs ys → r ≡ is_lt o → r ≡ before xs ys
before_ordered xs ys o r e f = f ∙ ap is_lt e ∙ less_before xs ys

equal_same : (xs ys : List ℕ) → is_eq (slice_cmp nat_cmp xs ys) ≡ same xs ys
equal_same xs ys = same_from_slice_cmp nat_cmp is_eq same refl (λ _ _. refl) (λ _ _. refl) (λ x y xs ys o h. grind (arith, nat_tests)) xs ys (slice_cmp nat_cmp xs ys) refl

-- ---- the same bytes

decides : (x y : List ℕ) → Decides (same x y) (x ≡ y)
decides x y = slice_eq-Decides Decides-eqb x y (same x y) (sym (same_equal x y))

pub same-is : (x y : List ℕ) → same x y ≡ true → x ≡ y
same-is x y = (decides x y).0

pub same_self : (x : List ℕ) → same x x ≡ true
same_self x = (decides x x).1 refl

pub same_size : (x y : List ℕ) → (length x ≡ length y → ⊥) → same x y ≡ false
same_size x y n = by_test (same x y) (λ e. absurd (n (ap length (same-is x y e)))) (λ e. e)

-- ---- the order

is_less : (o : Ordering) → is_lt o ≡ true → o ≡ Less
is_less Less e = refl
is_less Equal e = cc
is_less Greater e = cc

turned : (o : Ordering) → is_lt o ≡ false → is_eq o ≡ false → is_lt (ordering_reverse o) ≡ true
turned Less e f = cc
turned Equal e f = cc
turned Greater e f = refl

-- neither before the other: the same
pub before_either : (xs ys : List ℕ) → before xs ys ≡ false → same xs ys ≡ false → before ys xs ≡ true
before_either xs ys e ne =
    sym (less_before ys xs) ∙ ap is_lt (nat_list_cmp_total.antisymm ys xs) ∙ turned (slice_cmp nat_cmp xs ys) (less_before xs ys ∙ e) (equal_same xs ys ∙ ne)

pub before_trans : (xs ys zs : List ℕ) → before xs ys ≡ true → before ys zs ≡ true → before xs zs ≡ true
before_trans xs ys zs p q =
    sym (less_before xs zs) ∙ ap is_lt (nat_list_cmp_total.trans xs ys zs (is_less (slice_cmp nat_cmp xs ys) (less_before xs ys ∙ p)) (is_less (slice_cmp nat_cmp ys zs) (less_before ys zs ∙ q)))

pub before_self : (x : List ℕ) → before x x ≡ false
before_self x = sym (less_before x x) ∙ ap is_lt (tied_itself nat_list_cmp_total x)
