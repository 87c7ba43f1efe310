-- Found and inserted, by place: what code over arrays shows. Assumes nothing.
use mathlib.Core.Path.{◌≡◌, refl, sym, ap, ◌∙◌}
use mathlib.Core.Bool.{cond}
use mathlib.Core.List.{List, [], ◌∷◌, ◌++◌, map}
use mathlib.Core.Option.{some}
use Prim.Native.Nat.{ℕ, zero, suc, ◌≤◌, ◌<◌, zero-le, suc-le-suc}
use native.Mathlib.Nat.{not-suc-le-zero, le_of_suc-le-suc}
use native.Mathlib.Omega.{arith}
use lib.ListN.{length, get_or, take, drop, set, drop_of_length-le}
use lib.Seq.{drop-cons}
use lib.Dec.{eqb}
use borrow.Author.Tests.{eqb-true, eqb-false}
use mathlib.Core.Logic.{inl, inr, ⊎_elim}
use Rattle.base.specs.Lists.{In, All}
use Rattle.base.proofs.Tests.{by_test}
use Rattle.base.specs.Sorted.{find, insert, Above, Ascending}
use Rattle.base.proofs.Sorted.{insert_lt, insert_eq, insert_gt, find_yes, find_no}

module _ {A : Type 0} (key : A → ℕ) (d : A) where
  pub above_at : (n : ℕ) (xs : List A) (i : ℕ) → Above key n xs → i < length xs → n < key (get_or xs i d)
  above_at n [] i h l = absurd (not-suc-le-zero l)
  above_at n (x ∷ xs) zero h l = h.0
  above_at n (x ∷ xs) (suc i) h l = above_at n xs i h.1 (le_of_suc-le-suc l)

  -- the element at place i has the key looked for
  pub find_at : (n : ℕ) (xs : List A) (i : ℕ) → Ascending key xs → i < length xs → key (get_or xs i d) ≡ n → find key n xs ≡ some (get_or xs i d)
  find_at n [] i h l e = absurd (not-suc-le-zero l)
  find_at n (x ∷ xs) zero h l e = find_yes key n x xs e
  find_at n (x ∷ xs) (suc i) h l e =
      let k : key x < key (get_or xs i d) = above_at (key x) xs i h.0 (le_of_suc-le-suc l) in
      find_no key n x xs (omega arith) ∙ find_at n xs i h.1 (le_of_suc-le-suc l) e

  -- over the element at place i, which has its key
  pub insert-over : (a : A) (xs : List A) (i : ℕ) → Ascending key xs → i < length xs → key (get_or xs i d) ≡ key a → insert key a xs ≡ set xs i a
  insert-over a [] i h l e = absurd (not-suc-le-zero l)
  insert-over a (x ∷ xs) zero h l e = insert_eq key a x xs (sym e)
  insert-over a (x ∷ xs) (suc i) h l e =
      let k : key x < key (get_or xs i d) = above_at (key x) xs i h.0 (le_of_suc-le-suc l) in
      insert_gt key a x xs (omega arith) ∙ ap (λ (r : List A). x ∷ r) (insert-over a xs i h.1 (le_of_suc-le-suc l) e)

  -- at place i: all before it are below, the one there is above
  pub insert-between : (a : A) (xs : List A) (i : ℕ) → i ≤ length xs → ((j : ℕ) → j < i → key (get_or xs j d) < key a) → (i < length xs → key a < key (get_or xs i d))
      → insert key a xs ≡ take i xs ++ (a ∷ drop i xs)
  unfolding insert
  insert-between a [] zero l f g = refl
  insert-between a [] (suc i) l f g = absurd (not-suc-le-zero l)
  insert-between a (x ∷ xs) zero l f g = insert_lt key a x xs (g (suc-le-suc zero-le))
  insert-between a (x ∷ xs) (suc i) l f g =
      insert_gt key a x xs (f 0 (suc-le-suc zero-le))
      ∙ ap (λ (r : List A). x ∷ r) (insert-between a xs i (le_of_suc-le-suc l) (λ j k. f (suc j) (suc-le-suc k)) (λ k. g (suc-le-suc k)))

-- what holds of every element holds at a place
pub all-at : {A : Type 0} (P : A → Type 0) (d : A) (l : List A) (i : ℕ) → All P l → i < length l → P (get_or l i d)
all-at P d [] i h p = absurd (not-suc-le-zero p)
all-at P d (e ∷ l) zero h p = h.0
all-at P d (e ∷ l) (suc i) h p = all-at P d l i h.1 (le_of_suc-le-suc p)

-- inside the list the default does not matter
pub get_d_any : {A : Type 0} (l : List A) (i : ℕ) (d d' : A) → i < length l → get_or l i d ≡ get_or l i d'
get_d_any [] i d d' h = absurd (not-suc-le-zero h)
get_d_any (x ∷ l) zero d d' h = refl
get_d_any (x ∷ l) (suc i) d d' h = get_d_any l i d d' (le_of_suc-le-suc h)

-- ---- as many elements as numbers

abbrev without : ℕ → List ℕ → List ℕ
without n [] = []
without n (x ∷ xs) = cond (eqb x n) xs (x ∷ without n xs)

without-length : (n : ℕ) (xs : List ℕ) → In n xs → length xs ≡ suc (length (without n xs))
without-length n [] m = absurd m
without-length n (x ∷ xs) m =
    by_test (eqb x n) (λ b. rw b)
    (λ b. rw b (ap suc (without-length n xs (⊎_elim (λ e. absurd (eqb-false x n b (sym e))) (λ k. k) m))))

without_in : (n u : ℕ) (xs : List ℕ) → ¬ (u ≡ n) → In u xs → In u (without n xs)
without_in n u [] ne m = absurd m
without_in n u (x ∷ xs) ne m =
    let ih : In u xs → In u (without n xs) = without_in n u xs ne in
    by_test (eqb x n) (λ b. rw b (⊎_elim (λ e. absurd (ne (e ∙ eqb-true x n b))) (λ k. k) m)) (λ b. rw b (⊎_elim (λ e. inl e) (λ k. inr (ih k)) m))

-- a list that holds each number below n has n elements or more
pub pigeons : (n : ℕ) (xs : List ℕ) → ((u : ℕ) → u < n → In u xs) → n ≤ length xs
pigeons zero xs f = zero-le
pigeons (suc n) xs f =
    let l : length xs ≡ suc (length (without n xs)) = without-length n xs (f n (omega arith)) in
    let r : n ≤ length (without n xs) = pigeons n (without n xs) (λ u p. without_in n u xs (omega arith) (f u (omega arith))) in
    omega arith

-- ---- stores and elements

pub map-set : {A B : Type 0} (g : A → B) (l : List A) (i : ℕ) (a : A) → map g (set l i a) ≡ set (map g l) i (g a)
map-set g [] i a = refl
map-set g (x ∷ l) zero a = refl
map-set {B = B} g (x ∷ l) (suc i) a = ap (λ (r : List B). g x ∷ r) (map-set g l i a)

-- a list of four is its elements
pub four_of : {A : Type 0} (l : List A) (a b c d : A) → length l ≡ 4 → l ≡ get_or l 0 a ∷ get_or l 1 b ∷ get_or l 2 c ∷ get_or l 3 d ∷ []
four_of l a b c d h =
    drop-cons l 0 a (omega arith)
    ∙ rw (drop-cons l 1 b (omega arith), drop-cons l 2 c (omega arith), drop-cons l 3 d (omega arith), drop_of_length-le l {i = 4} (omega arith))
