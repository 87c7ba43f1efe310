-- Sorted lists: found, inserted, and equal when they hold the same. Assumes nothing.
use mathlib.Core.Path.{◌≡◌, refl, sym, ap, ◌∙◌, subst}
use mathlib.Core.Bool.{Bool, true}
use mathlib.Core.List.{List, [], ◌∷◌, ◌++◌, map}
use mathlib.Core.Option.{Option, none, some}
use mathlib.Core.Logic.{◌⊎◌, inl, inr, ⊎_elim}
use Prim.Native.Nat.{ℕ, suc, ◌≤◌, ◌<◌, zero-le, suc-le-suc}
use native.Mathlib.Omega.{arith}
use lib.ListN.{length, length-append}
use lib.Dec.{eqb, ltb}
use borrow.Author.Tests.{lt-ltb, le-ltb, eq-eqb, ne_eqb, eqb-true, eqb-false}
use Rattle.base.specs.Lists.{keep, or_else, In, All}
use Rattle.base.specs.Sorted.{find, insert, Above, Ascending}
use Rattle.base.proofs.Tests.{by_test, by_order}

module _ {A : Type 0} (key : A → ℕ) where
  -- ---- insert, by cases

  pub insert_lt : (a x : A) (xs : List A) → key a < key x → insert key a (x ∷ xs) ≡ a ∷ x ∷ xs
  unfolding insert
  insert_lt a x xs h = rw (lt-ltb (key a) (key x) h)

  pub insert_eq : (a x : A) (xs : List A) → key a ≡ key x → insert key a (x ∷ xs) ≡ a ∷ xs
  unfolding insert
  insert_eq a x xs h = rw (le-ltb (key a) (key x) (omega arith), eq-eqb (key a) (key x) h)

  pub insert_gt : (a x : A) (xs : List A) → key x < key a → insert key a (x ∷ xs) ≡ x ∷ insert key a xs
  unfolding insert
  insert_gt a x xs h = rw (le-ltb (key a) (key x) (omega arith), ne_eqb (key a) (key x) (omega arith))

  -- ---- order

  pub above_in : {n : ℕ} (xs : List A) (a : A) → Above key n xs → In a xs → n < key a
  above_in [] a h m = absurd m
  above_in {n} (x ∷ xs) a h (inl e) = subst (λ (y : A). n < key y) (sym e) h.0
  above_in (x ∷ xs) a h (inr m) = above_in xs a h.1 m

  pub above_less : {n m : ℕ} (xs : List A) → m ≤ n → Above key n xs → Above key m xs
  above_less [] l h = tt
  above_less (x ∷ xs) l h = (omega arith, above_less xs l h.1)

  pub insert-above : {n : ℕ} (a : A) (xs : List A) → n < key a → Above key n xs → Above key n (insert key a xs)
  unfolding insert
  insert-above a [] l h = (l, tt)
  insert-above a (x ∷ xs) l h =
      by_order (key a) (key x) (λ lt. rw (insert_lt a x xs lt) (l, h)) (λ eq. rw (insert_eq a x xs eq) (l, h.1))
      (λ gt. rw (insert_gt a x xs gt) (h.0, insert-above a xs l h.1))

  pub insert-ascending : (a : A) (xs : List A) → Ascending key xs → Ascending key (insert key a xs)
  unfolding insert
  insert-ascending a [] h = (tt, tt)
  insert-ascending a (x ∷ xs) h =
      by_order (key a) (key x) (λ lt. rw (insert_lt a x xs lt) ((lt, above_less xs (omega arith) h.0), h))
      (λ eq. rw (insert_eq a x xs eq) (above_less xs (omega arith) h.0, h.1))
      (λ gt. rw (insert_gt a x xs gt) (insert-above a xs gt h.0, insert-ascending a xs h.1))

  -- ---- membership

  pub insert_has : (a : A) (xs : List A) → In a (insert key a xs)
  unfolding insert
  insert_has a [] = inl refl
  insert_has a (x ∷ xs) =
      by_order (key a) (key x) (λ lt. rw (insert_lt a x xs lt) (inl refl)) (λ eq. rw (insert_eq a x xs eq) (inl refl))
      (λ gt. rw (insert_gt a x xs gt) (inr (insert_has a xs)))

  -- an element stays, unless the new one has its key
  pub insert_keeps : (a b : A) (xs : List A) → ¬ (key b ≡ key a) → In b xs → In b (insert key a xs)
  insert_keeps a b [] ne m = absurd m
  insert_keeps a b (x ∷ xs) ne m =
      by_order (key a) (key x) (λ lt. rw (insert_lt a x xs lt) (inr m)) (λ eq. rw (insert_eq a x xs eq) (inr (tail eq m)))
      (λ gt. rw (insert_gt a x xs gt) (back (insert_keeps a b xs ne) m))
    where
      tail : key a ≡ key x → (b ≡ x) ⊎ In b xs → In b xs
      tail eq (inl e) = absurd (ne (ap key e ∙ sym eq))
      tail eq (inr r) = r

      back : (In b xs → In b (insert key a xs)) → (b ≡ x) ⊎ In b xs → (b ≡ x) ⊎ In b (insert key a xs)
      back f (inl e) = inl e
      back f (inr r) = inr (f r)

  -- what is there afterwards is the new one, or was there and has another key
  pub insert_cases : (a b : A) (xs : List A) → Ascending key xs → In b (insert key a xs) → (b ≡ a) ⊎ (In b xs × ¬ (key b ≡ key a))
  unfolding insert
  insert_cases a b [] h m = ⊎_elim inl (λ z. absurd z) m
  insert_cases a b (x ∷ xs) h m = by_order (key a) (key x) first same (λ gt. later gt (insert_cases a b xs h.1))
    where
      Result : Type 0
      Result = (b ≡ a) ⊎ (In b (x ∷ xs) × ¬ (key b ≡ key a))

      first : key a < key x → Result
      first lt =
          ⊎_elim inl (λ (r : In b (x ∷ xs)). let l : key a < key b = above_in (x ∷ xs) b (lt, above_less xs (omega arith) h.0) r in inr (r, omega arith))
          (rw (insert_lt a x xs lt) at m)

      same : key a ≡ key x → Result
      same eq =
          ⊎_elim inl (λ (r : In b xs). let l : key x < key b = above_in xs b h.0 r in inr (inr r, omega arith)) (rw (insert_eq a x xs eq) at m)

      step : (b ≡ a) ⊎ (In b xs × ¬ (key b ≡ key a)) → Result
      step (inl e) = inl e
      step (inr r) = inr (inr r.0, r.1)

      here : key x < key a → b ≡ x → Result
      here gt e = let k : key b ≡ key x = ap key e in inr (inl e, omega arith)

      later : key x < key a → (In b (insert key a xs) → (b ≡ a) ⊎ (In b xs × ¬ (key b ≡ key a))) → Result
      later gt f = ⊎_elim (here gt) (λ r. step (f r)) (rw (insert_gt a x xs gt) at m)

  -- ---- find

  pub find_yes : (n : ℕ) (x : A) (xs : List A) → key x ≡ n → find key n (x ∷ xs) ≡ some x
  unfolding find
  find_yes n x xs e = rw (eq-eqb (key x) n e)

  pub find_no : (n : ℕ) (x : A) (xs : List A) → ¬ (key x ≡ n) → find key n (x ∷ xs) ≡ find key n xs
  unfolding find
  find_no n x xs e = rw (ne_eqb (key x) n e)

  pub find-some : (n : ℕ) (a : A) (xs : List A) → find key n xs ≡ some a → In a xs × (key a ≡ n)
  unfolding find
  find-some n a [] e = let z : ◌≡◌ {A = ℕ} 0 1 = cc in omega arith
  find-some n a (x ∷ xs) e =
      by_test (eqb (key x) n)
      (λ t. let q : a ≡ x = cc (find_yes n x xs (eqb-true (key x) n t)) in (inl q, ap key q ∙ eqb-true (key x) n t))
      (λ t. let r : In a xs × (key a ≡ n) = find-some n a xs (sym (find_no n x xs (eqb-false (key x) n t)) ∙ e) in (inr r.0, r.1))

  pub find_none : (n : ℕ) (a : A) (xs : List A) → find key n xs ≡ none → In a xs → ¬ (key a ≡ n)
  unfolding find
  find_none n a [] e m = absurd m
  find_none n a (x ∷ xs) e m =
      by_test (eqb (key x) n)
      (λ t. let z : ◌≡◌ {A = ℕ} 0 1 = cc (find_yes n x xs (eqb-true (key x) n t)) in absurd (omega arith))
      (λ t. ⊎_elim (λ q k. eqb-false (key x) n t (ap key (sym q) ∙ k)) (find_none n a xs (sym (find_no n x xs (eqb-false (key x) n t)) ∙ e)) m)

  -- by cases on what is found
  pub by_find {ℓ} : {X : Type ℓ} (n : ℕ) (xs : List A) → (find key n xs ≡ none → X) → ((a : A) → find key n xs ≡ some a → X) → X
  by_find {X = X} n xs f g = go (find key n xs) f g
    where
      go : (o : Option A) → (o ≡ none → X) → ((a : A) → o ≡ some a → X) → X
      go none f g = f refl
      go (some a) f g = g a refl

  -- ---- equal keys, equal elements

  pub one_each : (a b : A) (xs : List A) → Ascending key xs → In a xs → In b xs → key a ≡ key b → a ≡ b
  one_each a b [] h m n e = absurd m
  one_each a b (x ∷ xs) h (inl p) (inl q) e = p ∙ sym q
  one_each a b (x ∷ xs) h (inl p) (inr q) e =
      let k : key a ≡ key x = ap key p in let l : key x < key b = above_in xs b h.0 q in absurd (omega arith)
  one_each a b (x ∷ xs) h (inr p) (inl q) e =
      let k : key b ≡ key x = ap key q in let l : key x < key a = above_in xs a h.0 p in absurd (omega arith)
  one_each a b (x ∷ xs) h (inr p) (inr q) e = one_each a b xs h.1 p q e

  -- ---- two ascending lists that hold the same are the same; one that holds no more is no longer

  heads : (x y : A) (xs ys : List A) → Above key (key x) xs → Above key (key y) ys → In x (y ∷ ys) → In y (x ∷ xs) → x ≡ y
  heads x y xs ys hx hy (inl e) n = e
  heads x y xs ys hx hy (inr m) (inl e) = sym e
  heads x y xs ys hx hy (inr m) (inr n) =
      let l : key y < key x = above_in ys x hy m in let k : key x < key y = above_in xs y hx n in absurd (omega arith)

  -- an element above the head is in the tail
  in_tail : (a y : A) (ys : List A) → key y < key a → In a (y ∷ ys) → In a ys
  in_tail a y ys l (inl e) = let k : key a ≡ key y = ap key e in absurd (omega arith)
  in_tail a y ys l (inr m) = m

  pub same-list : (xs ys : List A) → Ascending key xs → Ascending key ys → ((a : A) → In a xs → In a ys) → ((a : A) → In a ys → In a xs) → xs ≡ ys
  same-list [] [] hx hy f g = refl
  same-list [] (y ∷ ys) hx hy f g = absurd (g y (inl refl))
  same-list (x ∷ xs) [] hx hy f g = absurd (f x (inl refl))
  same-list (x ∷ xs) (y ∷ ys) hx hy f g =
      let e : x ≡ y = heads x y xs ys hx.0 hy.0 (f x (inl refl)) (g y (inl refl)) in
      let k : key x ≡ key y = ap key e in
      let r : xs ≡ ys = same-list xs ys hx.1 hy.1
      (λ a m. let l : key x < key a = above_in xs a hx.0 m in in_tail a y ys (omega arith) (f a (inr m)))
      (λ a m. let l : key y < key a = above_in ys a hy.0 m in in_tail a x xs (omega arith) (g a (inr m))) in
      cc

  pub no_longer : (xs ys : List A) → Ascending key xs → Ascending key ys → ((a : A) → In a xs → In a ys) → length xs ≤ length ys
  no_longer [] ys hx hy f = zero-le
  no_longer (x ∷ xs) [] hx hy f = absurd (f x (inl refl))
  no_longer (x ∷ xs) (y ∷ ys) hx hy f = go (f x (inl refl)) (no_longer (x ∷ xs) ys hx hy.1) (no_longer xs ys hx.1 hy.1)
    where
      go : In x (y ∷ ys) → (((a : A) → In a (x ∷ xs) → In a ys) → length (x ∷ xs) ≤ length ys) → (((a : A) → In a xs → In a ys) → length xs ≤ length ys) → length (x ∷ xs) ≤ length (y ∷ ys)
      go (inl e) p q =
          let k : key x ≡ key y = ap key e in
          suc-le-suc (q (λ a m. let l : key x < key a = above_in xs a hx.0 m in in_tail a y ys (omega arith) (f a (inr m))))
      go (inr m) p q =
          let l : key y < key x = above_in ys x hy.0 m in
          let z : length (x ∷ xs) ≤ length ys = p (λ a n. in_tail a y ys (above_in (x ∷ xs) a (l, above_less xs (omega arith) hx.0) n) (f a n)) in
          omega arith

  -- ---- length

  pub insert-length : (a : A) (xs : List A) → find key (key a) xs ≡ none → length (insert key a xs) ≡ suc (length xs)
  unfolding insert
  insert-length a [] e = refl
  insert-length a (x ∷ xs) e =
      let ne : ¬ (key x ≡ key a) = find_none (key a) x (x ∷ xs) e (inl refl) in
      by_order (key a) (key x) (λ lt. rw (insert_lt a x xs lt)) (λ eq. absurd (ne (sym eq)))
      (λ gt. rw (insert_gt a x xs gt) (ap suc (insert-length a xs (sym (find_no (key a) x xs ne) ∙ e))))

  -- ---- the keys

  pub keys_in : (n : ℕ) (xs : List A) → In n (map key xs) → (a : A) × In a xs × (key a ≡ n)
  keys_in n [] m = absurd m
  keys_in n (x ∷ xs) (inl e) = (x, inl refl, sym e)
  keys_in n (x ∷ xs) (inr m) = let r = keys_in n xs m in (r.0, inr r.1, r.2)

  pub in_keys : (a : A) (xs : List A) → In a xs → In (key a) (map key xs)
  in_keys a [] m = absurd m
  in_keys a (x ∷ xs) (inl e) = inl (ap key e)
  in_keys a (x ∷ xs) (inr m) = inr (in_keys a xs m)

pub keys_above : {A : Type 0} (key : A → ℕ) (n : ℕ) (xs : List A) → Above key n xs → Above (λ (k : ℕ). k) n (map key xs)
keys_above key n [] h = tt
keys_above key n (x ∷ xs) h = (h.0, keys_above key n xs h.1)

-- the keys of an ascending list ascend
pub keys_ascending : {A : Type 0} (key : A → ℕ) (xs : List A) → Ascending key xs → Ascending (λ (k : ℕ). k) (map key xs)
keys_ascending key [] h = tt
keys_ascending key (x ∷ xs) h = (keys_above key (key x) xs h.0, keys_ascending key xs h.1)

-- what holds of every element, and of the new one, holds after an insertion
pub all_insert : {A : Type 0} (P : A → Type 0) (key : A → ℕ) (e : A) (l : List A) → P e → All P l → All P (insert key e l)
unfolding insert
all_insert P key e [] f h = (f, tt)
all_insert P key e (x ∷ l) f h =
    by_order (key e) (key x) (λ lt. rw (insert_lt key e x l lt) (f, h)) (λ eq. rw (insert_eq key e x l eq) (f, h.1))
    (λ gt. rw (insert_gt key e x l gt) (h.0, all_insert P key e l f h.1))

-- ---- the images of a map, sorted by their key

module _ {A B : Type 0} (f : A → B) (key : B → ℕ) where
  pub above_map : (n : ℕ) (xs : List A) → Above key n (map f xs) ≡ Above (λ a. key (f a)) n xs
  above_map n [] = refl
  above_map n (x ∷ xs) = ap (λ (T : Type 0). (n < key (f x)) × T) (above_map n xs)

  pub ascending-map : (xs : List A) → Ascending key (map f xs) ≡ Ascending (λ a. key (f a)) xs
  ascending-map [] = refl
  ascending-map (x ∷ xs) = rw (above_map (key (f x)) xs, ascending-map xs)

  pub find-map : (n : ℕ) (xs : List A) → find key n (map f xs) ≡ or_else (find (λ a. key (f a)) n xs) none (λ a. some (f a))
  unfolding find
  find-map n [] = refl
  find-map n (x ∷ xs) = by_test (eqb (key (f x)) n) (λ e. rw e) (λ e. rw e (find-map n xs))

  pub insert-map : (a : A) (xs : List A) → map f (insert (λ a. key (f a)) a xs) ≡ insert key (f a) (map f xs)
  unfolding insert
  insert-map a [] = refl
  insert-map a (x ∷ xs) =
      let ih = insert-map a xs in
      by_test (ltb (key (f a)) (key (f x))) (λ e. rw e) (λ e. by_test (eqb (key (f a)) (key (f x))) (λ q. rw (e, q)) (λ q. rw (e, q, ih)))

-- ---- kept, inserted and found

module _ {A : Type 0} (key : A → ℕ) where
  pub keep-above : (f : A → Bool) (n : ℕ) (xs : List A) → Above key n xs → Above key n (keep f xs)
  keep-above f n [] h = tt
  keep-above f n (x ∷ xs) h = by_test (f x) (λ b. rw b (h.0, keep-above f n xs h.1)) (λ b. rw b (keep-above f n xs h.1))

  pub keep-ascending : (f : A → Bool) (xs : List A) → Ascending key xs → Ascending key (keep f xs)
  keep-ascending f [] h = tt
  keep-ascending f (x ∷ xs) h =
      by_test (f x) (λ b. rw b (keep-above f (key x) xs h.0, keep-ascending f xs h.1)) (λ b. rw b (keep-ascending f xs h.1))

  -- what is found stays found if it is kept
  pub find-keep : (f : A → Bool) (n : ℕ) (a : A) (xs : List A) → find key n xs ≡ some a → f a ≡ true → find key n (keep f xs) ≡ some a
  unfolding find
  find-keep f n a [] e k = e
  find-keep f n a (x ∷ xs) e k =
      by_test (eqb (key x) n)
      (λ t. let q : a ≡ x = cc (find_yes key n x xs (eqb-true (key x) n t)) in let b : f x ≡ true = ap f (sym q) ∙ k in rw (b, t) (ap some (sym q)))
      (λ t. let ih : find key n (keep f xs) ≡ some a = find-keep f n a xs (sym (find_no key n x xs (eqb-false (key x) n t)) ∙ e) k in
      by_test (f x) (λ b. rw (b, t) ih) (λ b. rw b ih))

  pub find-inserted : (a : A) (xs : List A) → find key (key a) (insert key a xs) ≡ some a
  unfolding insert
  find-inserted a [] = find_yes key (key a) a [] refl
  find-inserted a (x ∷ xs) =
      by_order (key a) (key x) (λ lt. rw (insert_lt key a x xs lt) (find_yes key (key a) a (x ∷ xs) refl))
      (λ eq. rw (insert_eq key a x xs eq) (find_yes key (key a) a xs refl))
      (λ gt. rw (insert_gt key a x xs gt) (find_no key (key a) x (insert key a xs) (λ e. omega arith) ∙ find-inserted a xs))

  pub find-other : (n : ℕ) (a : A) (xs : List A) → ¬ (key a ≡ n) → find key n (insert key a xs) ≡ find key n xs
  unfolding insert
  find-other n a [] ne = find_no key n a [] ne
  find-other n a (x ∷ xs) ne =
      by_order (key a) (key x) (λ lt. rw (insert_lt key a x xs lt) (find_no key n a (x ∷ xs) ne))
      (λ eq. rw (insert_eq key a x xs eq) (find_no key n a xs ne ∙ sym (find_no key n x xs (λ e. ne (eq ∙ e)))))
      (λ gt. rw (insert_gt key a x xs gt)
      (by_test (eqb (key x) n) (λ t. find_yes key n x (insert key a xs) (eqb-true (key x) n t) ∙ sym (find_yes key n x xs (eqb-true (key x) n t)))
      (λ t. find_no key n x (insert key a xs) (eqb-false (key x) n t) ∙ find-other n a xs ne ∙ sym (find_no key n x xs (eqb-false (key x) n t)))))

  -- over an element with the same key: what stands before it and behind it stays
  pub insert-over : (a b : A) (xs : List A) → Ascending key xs → In b xs → key b ≡ key a
      → (l : List A) × (r : List A) × (xs ≡ l ++ (b ∷ r)) × (insert key a xs ≡ l ++ (a ∷ r))
  insert-over a b [] h m e = absurd m
  insert-over a b (x ∷ xs) h m e =
      by_order (key a) (key x) (λ lt. absurd (let l : key a < key b = above_in key (x ∷ xs) b (lt, above_less key xs (omega arith) h.0) m in omega arith))
      (λ eq. ([], xs, ap (λ (y : A). y ∷ xs) (one_each key x b (x ∷ xs) h (inl refl) m (sym eq ∙ sym e)), insert_eq key a x xs eq))
      (λ gt. let q = insert-over a b xs h.1 (tail gt m) e in
      (x ∷ q.0, q.1, ap (λ (l : List A). x ∷ l) q.2, insert_gt key a x xs gt ∙ ap (λ (l : List A). x ∷ l) q.3))
    where
      tail : key x < key a → (b ≡ x) ⊎ In b xs → In b xs
      tail gt (inl q) = let k : key b ≡ key x = ap key q in absurd (omega arith)
      tail gt (inr r) = r

  -- so there are as many as before
  pub over-length : (a b : A) (xs : List A) → Ascending key xs → In b xs → key b ≡ key a → length (insert key a xs) ≡ length xs
  over-length a b xs h m e =
      let q = insert-over a b xs h m e in
      ap length q.3 ∙ length-append q.0 (a ∷ q.1) ∙ sym (length-append q.0 (b ∷ q.1)) ∙ sym (ap length q.2)

-- above every key it goes in at the end
pub insert-last : {A : Type 0} (key : A → ℕ) (a : A) (xs : List A) → All (λ x. key x < key a) xs → insert key a xs ≡ xs ++ (a ∷ [])
unfolding insert
insert-last key a [] h = refl
insert-last key a (x ∷ xs) h = insert_gt key a x xs h.0 ∙ ap (λ (r : List _). x ∷ r) (insert-last key a xs h.1)
