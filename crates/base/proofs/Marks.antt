-- Marks: the elements whose mark is set, marks set one after the other, and marks of sorted lists. Assumes nothing.
use mathlib.Core.Path.{◌≡◌, refl, sym, ap, ◌∙◌}
use mathlib.Core.Bool.{Bool, true, false, cond, not, ◌&&◌, ◌||◌, or-true}
use mathlib.Core.List.{List, [], ◌∷◌, ◌++◌, append-nil, map}
use Prim.Native.Nat.{ℕ, zero, suc, ◌+◌, ◌≤◌, ◌<◌, zero-le, suc-le-suc}
use native.Mathlib.Nat.{not-suc-le-zero, le_of_suc-le-suc}
use native.Mathlib.Numerals.{add-one}
use native.Mathlib.Omega.{arith}
use lib.ListN.{length, get_or, take, drop, set, replicate, length-replicate, drop_of_length-le}
use lib.Seq.{get_or-drop, get_or-set_same, get_or-set_other, drop-cons, drop-drop}
use lib.Dec.{eqb}
use borrow.Author.Tests.{eq-eqb, ne_eqb}
use Rattle.base.specs.Lists.{any, keep, keep_by}
use Rattle.base.specs.Sorted.{Above, Ascending}
use Rattle.base.proofs.Tests.{by_test, by_order, no_way}
use Rattle.base.proofs.Places.{above_at}

-- the mark at a place: of those turned round, where none is set, and of those after the first
pub not_at : (bs : List Bool) (i : ℕ) → i < length bs → get_or (map not bs) i false ≡ not (get_or bs i false)
not_at [] i p = absurd (not-suc-le-zero p)
not_at (b ∷ bs) zero p = refl
not_at (b ∷ bs) (suc i) p = not_at bs i (le_of_suc-le-suc p)

pub none-set : (n i : ℕ) → get_or (replicate n false) i false ≡ false
none-set zero i = refl
none-set (suc n) zero = refl
none-set (suc n) (suc i) = none-set n i

-- none is set
pub none-at : (bs : List Bool) → any (λ b. b) bs ≡ false → (i : ℕ) → get_or bs i false ≡ false
none-at [] h i = refl
none-at (true ∷ bs) h i = no_way true refl h
none-at (false ∷ bs) h zero = refl
none-at (false ∷ bs) h (suc i) = none-at bs h i

tail_at : (bs : List Bool) (i : ℕ) → get_or (drop 1 bs) i false ≡ get_or bs (suc i) false
tail_at [] i = refl
tail_at (b ∷ bs) i = refl

module _ {A : Type 0} where
  pub keep_by_nil : (bs : List Bool) → keep_by {A = A} bs [] ≡ []
  keep_by_nil [] = refl
  keep_by_nil (b ∷ bs) = refl

  keep_by_head : (bs : List Bool) (x : A) (l : List A) → keep_by bs (x ∷ l) ≡ cond (get_or bs 0 false) (x ∷ keep_by (drop 1 bs) l) (keep_by (drop 1 bs) l)
  keep_by_head [] x l = refl
  keep_by_head (b ∷ bs) x l = refl

  pub keep_by_length : (bs : List Bool) (l : List A) → length (keep_by bs l) ≤ length l
  keep_by_length [] l = zero-le
  keep_by_length (b ∷ bs) [] = zero-le
  keep_by_length (true ∷ bs) (x ∷ l) = suc-le-suc (keep_by_length bs l)
  keep_by_length (false ∷ bs) (x ∷ l) = let h : length (keep_by bs l) ≤ length l = keep_by_length bs l in omega arith

  pub keep_by_map : {B : Type 0} (f : A → B) (bs : List Bool) (l : List A) → keep_by bs (map f l) ≡ map f (keep_by bs l)
  keep_by_map f [] l = refl
  keep_by_map f (b ∷ bs) [] = refl
  keep_by_map f (true ∷ bs) (x ∷ l) = ap (λ (k : List _). f x ∷ k) (keep_by_map f bs l)
  keep_by_map f (false ∷ bs) (x ∷ l) = keep_by_map f bs l

  -- no mark is set
  pub keep_by_none : (bs : List Bool) (l : List A) → ((i : ℕ) → i < length l → get_or bs i false ≡ false) → keep_by bs l ≡ []
  keep_by_none bs [] h = keep_by_nil bs
  keep_by_none bs (x ∷ l) h =
      keep_by_head bs x l ∙ rw (h 0 (suc-le-suc zero-le)) (keep_by_none (drop 1 bs) l (λ i k. tail_at bs i ∙ h (suc i) (suc-le-suc k)))

  -- one is set, and none past the end
  pub keep_by_some : (bs : List Bool) (l : List A) → ((i : ℕ) → length l ≤ i → get_or bs i false ≡ false) → any (λ b. b) bs ≡ true → 0 < length (keep_by bs l)
  keep_by_some [] l h s = no_way false s refl
  keep_by_some (b ∷ bs) [] h s =
      let r : 0 < length (keep_by {A = A} bs []) = keep_by_some bs [] (λ i p. h (suc i) zero-le) (rw (h 0 zero-le) at s) in
      rw (keep_by_nil bs) at r
  keep_by_some (true ∷ bs) (x ∷ l) h s = suc-le-suc zero-le
  keep_by_some (false ∷ bs) (x ∷ l) h s = keep_by_some bs l (λ i p. h (suc i) (suc-le-suc p)) s

  -- the first element of `any_either`
  either_head : (f : A → Bool) (x : A) (b c : Bool) (j k l : List A) → any f l ≡ any f j || any f k
      → any f (cond (b || c) (x ∷ l) l) ≡ any f (cond b (x ∷ j) j) || any f (cond c (x ∷ k) k)
  either_head f x false false j k l h = h
  either_head f x true false j k l h = by_test (f x) (λ e. rw e) (λ e. rw e h)
  either_head f x false true j k l h = by_test (f x) (λ e. rw e (sym (or-true (any f j)))) (λ e. rw e h)
  either_head f x true true j k l h = by_test (f x) (λ e. rw e) (λ e. rw e h)

  -- those whose mark in ds is set in bs or in cs
  pub any_either : (f : A → Bool) (bs cs ds : List Bool) (l : List A) → ((i : ℕ) → i < length l → get_or ds i false ≡ get_or bs i false || get_or cs i false)
      → any f (keep_by ds l) ≡ any f (keep_by bs l) || any f (keep_by cs l)
  any_either f bs cs ds [] h = rw (keep_by_nil bs, keep_by_nil cs, keep_by_nil ds)
  any_either f bs cs ds (x ∷ l) h =
      let r : any f (keep_by (drop 1 ds) l) ≡ any f (keep_by (drop 1 bs) l) || any f (keep_by (drop 1 cs) l) =
      any_either f (drop 1 bs) (drop 1 cs) (drop 1 ds) l (λ i k. rw (tail_at bs i, tail_at cs i, tail_at ds i) (h (suc i) (suc-le-suc k))) in
      rw (keep_by_head bs x l, keep_by_head cs x l, keep_by_head ds x l, h 0 (suc-le-suc zero-le))
      (either_head f x (get_or bs 0 false) (get_or cs 0 false) (keep_by (drop 1 bs) l) (keep_by (drop 1 cs) l) (keep_by (drop 1 ds) l) r)

  -- what is marked from place i on: past the end, and one place further
  pub keep_by_end : (bs : List Bool) (l : List A) (i : ℕ) → length l ≤ i → keep_by (drop i bs) (drop i l) ≡ []
  keep_by_end bs l i p = rw (drop_of_length-le l {i = i} p, keep_by_nil (drop i bs))

  module _ (d : A) where
    pub keep_by_next : (bs : List Bool) (l : List A) (i : ℕ) → i < length l
        → keep_by (drop i bs) (drop i l) ≡ cond (get_or bs i false) (get_or l i d ∷ keep_by (drop (i + 1) bs) (drop (i + 1) l)) (keep_by (drop (i + 1) bs) (drop (i + 1) l))
    keep_by_next bs l i p =
        let z : i + 0 ≡ i = omega arith in
        let g : get_or (drop i bs) 0 false ≡ get_or bs i false = get_or-drop i bs 0 false ∙ rw z in
        rw (drop-cons l i d p, keep_by_head (drop i bs) (get_or l i d) (drop (suc i) l), g, drop-drop 1 i bs, add-one i)

    -- marks by place that are a test
    pub keep_by_places : (p : A → Bool) (bs : List Bool) (l : List A) → ((i : ℕ) → i < length l → get_or bs i false ≡ p (get_or l i d)) → keep_by bs l ≡ keep p l
    keep_by_places p bs [] h = keep_by_nil bs
    keep_by_places p bs (x ∷ l) h =
        let r : keep_by (drop 1 bs) l ≡ keep p l = keep_by_places p (drop 1 bs) l (λ i k. tail_at bs i ∙ h (suc i) (suc-le-suc k)) in
        keep_by_head bs x l ∙ rw (h 0 (suc-le-suc zero-le), r)

    -- marks by place that are a test of those that bs marks
    pub keep_by_both : (p : A → Bool) (bs cs : List Bool) (l : List A) → ((i : ℕ) → i < length l → get_or cs i false ≡ get_or bs i false && p (get_or l i d)) → keep_by cs l ≡ keep p (keep_by bs l)
    keep_by_both p bs cs [] h = rw (keep_by_nil bs, keep_by_nil cs)
    keep_by_both p bs cs (x ∷ l) h =
        let r : keep_by (drop 1 cs) l ≡ keep p (keep_by (drop 1 bs) l) = keep_by_both p (drop 1 bs) (drop 1 cs) l (λ i k. rw (tail_at bs i, tail_at cs i) (h (suc i) (suc-le-suc k))) in
        rw (keep_by_head bs x l, keep_by_head cs x l, h 0 (suc-le-suc zero-le), r) (by_test (get_or bs 0 false) (λ e. rw e) (λ e. rw e))

-- what is marked below place i + 1 is what is marked below i, and the element there if it is marked
module _ {A : Type 0} (d : A) where
  by_suc : (bs : List Bool) (l : List A) (i : ℕ) → i < length l → keep_by bs (take (suc i) l) ≡ keep_by bs (take i l) ++ cond (get_or bs i false) (get_or l i d ∷ []) []
  by_suc [] l i p = refl
  by_suc (b ∷ bs) [] i p = absurd (not-suc-le-zero p)
  by_suc (b ∷ bs) (x ∷ l) zero p = rw (keep_by_nil bs)
  by_suc (true ∷ bs) (x ∷ l) (suc i) p = ap (λ (k : List A). x ∷ k) (by_suc bs l i (le_of_suc-le-suc p))
  by_suc (false ∷ bs) (x ∷ l) (suc i) p = by_suc bs l i (le_of_suc-le-suc p)

  module _ (bs : List Bool) (l : List A) (i : ℕ) (p : i < length l) where
    pub keep_by_out : get_or bs i false ≡ false → keep_by bs (take (i + 1) l) ≡ keep_by bs (take i l)
    keep_by_out b = rw (add-one, by_suc bs l i p, b) (append-nil (keep_by bs (take i l)))

    pub keep_by_in : get_or bs i false ≡ true → keep_by bs (take (i + 1) l) ≡ keep_by bs (take i l) ++ (get_or l i d ∷ [])
    keep_by_in b = rw (add-one, by_suc bs l i p, b)

module _ {A : Type 0} (d : A) where
  -- marks by place that are a test, none set past the end: one is set if the test finds one
  pub any_places : (p : A → Bool) (bs : List Bool) (l : List A) → ((i : ℕ) → i < length l → get_or bs i false ≡ p (get_or l i d))
      → ((i : ℕ) → length l ≤ i → get_or bs i false ≡ false) → any (λ b. b) bs ≡ any p l
  any_places p [] [] h n = refl
  any_places p [] (x ∷ l) h n =
      rw (sym (h 0 (suc-le-suc zero-le))) (any_places p [] l (λ i k. h (suc i) (suc-le-suc k)) (λ i k. refl))
  any_places p (b ∷ bs) [] h n = rw (n 0 zero-le) (any_places p bs [] (λ i k. absurd (not-suc-le-zero k)) (λ i k. n (suc i) zero-le))
  any_places p (b ∷ bs) (x ∷ l) h n =
      rw (h 0 (suc-le-suc zero-le)) (ap (λ (r : Bool). p x || r) (any_places p bs l (λ i k. h (suc i) (suc-le-suc k)) (λ i k. n (suc i) (suc-le-suc k))))

-- ---- marks set one after the other: those below place i are P's by now, the others still Q's

pub record Filled (P Q : ℕ → Bool) (i : ℕ) (bs : List Bool) : Type 0 where
  pub done : (k : ℕ) → k < i → get_or bs k false ≡ P k
  pub left : (k : ℕ) → i ≤ k → get_or bs k false ≡ Q k

-- ---- marks of a list in strictly ascending order

module _ {A : Type 0} (key : A → ℕ) where
  -- a key below all others is nowhere
  any-above : (bs : List Bool) (l : List A) (n : ℕ) → Above key n l → any (λ x. eqb (key x) n) (keep_by bs l) ≡ false
  any-above [] l n h = refl
  any-above (b ∷ bs) [] n h = refl
  any-above (true ∷ bs) (x ∷ l) n h = rw (ne_eqb (key x) n (omega arith)) (any-above bs l n h.1)
  any-above (false ∷ bs) (x ∷ l) n h = any-above bs l n h.1

  -- an element is among those marked just where its own mark is set
  pub marked-at : (d : A) (bs : List Bool) (l : List A) (i : ℕ) → Ascending key l → i < length l → any (λ x. eqb (key x) (key (get_or l i d))) (keep_by bs l) ≡ get_or bs i false
  marked-at d [] l i a p = refl
  marked-at d (b ∷ bs) [] i a p = absurd (not-suc-le-zero p)
  marked-at d (true ∷ bs) (x ∷ l) zero a p = rw (eq-eqb (key x) (key x) refl)
  marked-at d (false ∷ bs) (x ∷ l) zero a p = any-above bs l (key x) a.0
  marked-at d (true ∷ bs) (x ∷ l) (suc i) a p =
      let k : key x < key (get_or l i d) = above_at key d (key x) l i a.0 (le_of_suc-le-suc p) in
      rw (ne_eqb (key x) (key (get_or l i d)) (omega arith)) (marked-at d bs l i a.1 (le_of_suc-le-suc p))
  marked-at d (false ∷ bs) (x ∷ l) (suc i) a p = marked-at d bs l i a.1 (le_of_suc-le-suc p)

  ascending-at : (d : A) (l : List A) (i j : ℕ) → Ascending key l → i < j → j < length l → key (get_or l i d) < key (get_or l j d)
  ascending-at d [] i j a p q = absurd (not-suc-le-zero q)
  ascending-at d (x ∷ l) i zero a p q = absurd (not-suc-le-zero p)
  ascending-at d (x ∷ l) zero (suc j) a p q = above_at key d (key x) l j a.0 (le_of_suc-le-suc q)
  ascending-at d (x ∷ l) (suc i) (suc j) a p q = ascending-at d l i j a.1 (le_of_suc-le-suc p) (le_of_suc-le-suc q)

  -- one mark alone, at the place of the key n, is the test for that key
  pub alone_at : (d : A) (l : List A) (n i k : ℕ) → Ascending key l → i < length l → i < k → key (get_or l i d) ≡ n
      → (j : ℕ) → j < length l → get_or (set (replicate k false) i true) j false ≡ eqb (key (get_or l j d)) n
  alone_at d l n i k a p q e j r =
      by_order j i (λ h. elsewhere (omega arith) (let u : key (get_or l j d) < key (get_or l i d) = ascending-at d l j i a h p in omega arith))
      (λ h. rw (h, eq-eqb (key (get_or l i d)) n e) (get_or-set_same (replicate k false) i true false (rw (length-replicate k false) q)))
      (λ h. elsewhere (omega arith) (let u : key (get_or l i d) < key (get_or l j d) = ascending-at d l i j a h r in omega arith))
    where
      elsewhere : ¬ (j ≡ i) → ¬ (key (get_or l j d) ≡ n) → get_or (set (replicate k false) i true) j false ≡ eqb (key (get_or l j d)) n
      elsewhere h u = get_or-set_other (replicate k false) i j true false h ∙ none-set k j ∙ sym (ne_eqb (key (get_or l j d)) n u)
