-- Laws of lists: places, membership, and what the tests keep. Assumes nothing.
use mathlib.Core.Path.{◌≡◌, refl, sym, ap, ◌∙◌, subst}
use mathlib.Core.Bool.{Bool, true, false, not, ◌&&◌, ◌||◌}
use mathlib.Core.List.{List, [], ◌∷◌, ◌++◌, map, append_assoc, append-nil}
use mathlib.Core.Option.{Option, none, some}
use mathlib.Core.Logic.{◌⊎◌, inl, inr, ⊎_elim}
use Prim.Native.Nat.{ℕ, zero, suc, ◌+◌, ◌-◌, ◌≤◌, ◌<◌}
use native.Mathlib.Omega.{arith}
use native.Mathlib.Numerals.{add-one}
use lib.ListN.{length, get_or, take, drop, set, length-drop, drop_of_length-le}
use lib.Seq.{drop-cons, drop-drop, take-take, take-nil, take_all, take-suc, length-take-le, set_at, append_snoc}
use Rattle.base.specs.Lists.{first, any, keep, keep_by, join_all, In, All}
use Rattle.base.proofs.Tests.{no_way, by_test, or_left, or_right}

-- ---- places

pub drop-next : (s : List ℕ) (i : ℕ) → i < length s → drop i s ≡ get_or s i 0 ∷ drop (i + 1) s
drop-next s i h = rw (add-one, drop-cons s i 0 h)

pub drop-take : {A : Type 0} (b c a : ℕ) (l : List A) → b + c ≡ a → drop b (take a l) ≡ take c (drop b l)
drop-take zero c a l e = let q : a ≡ c = omega arith in rw q
drop-take (suc b) c zero l e = absurd (omega arith)
drop-take (suc b) c (suc a) [] e = sym (take-nil c)
drop-take (suc b) c (suc a) (x ∷ l) e = drop-take b c a l (omega arith)

pub take_drop_take : {A : Type 0} (n b a : ℕ) (l : List A) → b + n ≤ a → take n (drop b (take a l)) ≡ take n (drop b l)
take_drop_take n b a l h = ap (take n) (drop-take b (a - b) a l (omega arith)) ∙ take-take n (a - b) (drop b l) (omega arith)

-- a part of a whole, as code hands it on
pub part-is : (s : List ℕ) (a e n : ℕ) → e ≡ a + n → take (e - a) (drop a s) ≡ take n (drop a s)
part-is s a e n q = let p : e - a ≡ n = omega arith in rw p

-- the part from place n on
pub rest-is : (s : List ℕ) (n : ℕ) → take (length s - n) (drop n s) ≡ drop n s
rest-is s n = take_all (length s - n) (drop n s) (omega (arith, length-drop n s))

-- what is the same from one place on is the same from any later place on
pub drop_later : (s t : List ℕ) (a b : ℕ) → a ≤ b → drop a t ≡ drop a s → drop b t ≡ drop b s
drop_later s t a b p e = sym (from t) ∙ ap (drop (b - a)) e ∙ from s
  where
    from : (z : List ℕ) → drop (b - a) (drop a z) ≡ drop b z
    from z = let q : a + (b - a) ≡ b = omega arith in drop-drop (b - a) a z ∙ rw q

-- a loop that makes l into p, front to back: one more store, and all of them
pub fill_step : {A : Type 0} (p l : List A) (j : ℕ) (d : A) → j < length p → j < length l
    → set (take j p ++ drop j l) j (get_or p j d) ≡ take (j + 1) p ++ drop (j + 1) l
fill_step p l j d hp hl =
    rw (drop-cons l j d hl)
    (set_at (take j p) (get_or l j d) (drop (suc j) l) (get_or p j d) j (length-take-le j p (omega arith))
    ∙ rw (add-one, take-suc p j d hp, append_snoc))

pub fill_all : {A : Type 0} (p l : List A) (j : ℕ) → length p ≤ j → length l ≤ j → take j p ++ drop j l ≡ p
fill_all p l j hp hl = rw (take_all j p hp, drop_of_length-le l {i = j} hl) (append-nil p)

-- ---- membership

module _ {A : Type 0} where
  pub in_append : (a : A) (xs ys : List A) → In a (xs ++ ys) → In a xs ⊎ In a ys
  in_append a [] ys m = inr m
  in_append a (x ∷ xs) ys (inl e) = inl (inl e)
  in_append a (x ∷ xs) ys (inr m) = ⊎_elim (λ k. inl (inr k)) inr (in_append a xs ys m)

  pub in_left : (a : A) (xs ys : List A) → In a xs → In a (xs ++ ys)
  in_left a [] ys m = absurd m
  in_left a (x ∷ xs) ys (inl e) = inl e
  in_left a (x ∷ xs) ys (inr m) = inr (in_left a xs ys m)

  pub in_right : (a : A) (xs ys : List A) → In a ys → In a (xs ++ ys)
  in_right a [] ys m = m
  in_right a (x ∷ xs) ys m = inr (in_right a xs ys m)

  module _ (p : A → Bool) where
    pub in_keep : (a : A) (xs : List A) → In a xs → p a ≡ true → In a (keep p xs)
    in_keep a [] m e = absurd m
    in_keep a (x ∷ xs) m e = let ih : In a xs → In a (keep p xs) = λ k. in_keep a xs k e in by_test (p x) (λ b. rw b (⊎_elim inl (λ k. inr (ih k)) m)) (λ b. rw b (⊎_elim (λ q. no_way (p x) (ap p (sym q) ∙ e) b) ih m))

    pub keep_in : (a : A) (xs : List A) → In a (keep p xs) → In a xs × (p a ≡ true)
    keep_in a [] m = absurd m
    keep_in a (x ∷ xs) m =
        let ih : In a (keep p xs) → In a (x ∷ xs) × (p a ≡ true) = λ k. let r = keep_in a xs k in (inr r.0, r.1) in
        by_test (p x) (λ b. ⊎_elim (λ q. (inl q, ap p q ∙ b)) ih (rw b at m)) (λ b. ih (rw b at m))

    pub any_in : (a : A) (xs : List A) → In a xs → p a ≡ true → any p xs ≡ true
    any_in a [] m e = absurd m
    any_in a (x ∷ xs) (inl q) e = let b : p x ≡ true = ap p (sym q) ∙ e in rw b
    any_in a (x ∷ xs) (inr m) e = let b : any p xs ≡ true = any_in a xs m e in by_test (p x) (λ k. rw k) (λ k. rw k b)

    pub in_any : (xs : List A) → any p xs ≡ true → (a : A) × In a xs × (p a ≡ true)
    in_any [] e = no_way false e refl
    in_any (x ∷ xs) e = by_test (p x) (λ b. (x, inl refl, b)) (λ b. let r = in_any xs (rw b at e) in (r.0, inr r.1, r.2))

    -- what is kept and what is not are all
    pub keep-length : (xs : List A) → length (keep p xs) + length (keep (λ x. not (p x)) xs) ≡ length xs
    keep-length [] = refl
    keep-length (x ∷ xs) = let h : length (keep p xs) + length (keep (λ x. not (p x)) xs) ≡ length xs = keep-length xs in by_test (p x) (λ b. rw b (omega arith)) (λ b. rw b (omega arith))

-- what a test keeps of both parts is what it keeps of the whole
pub keep-both : {A : Type 0} (p f : A → Bool) (xs : List A) → length (keep p (keep f xs)) + length (keep p (keep (λ x. not (f x)) xs)) ≡ length (keep p xs)
keep-both p f [] = refl
keep-both p f (x ∷ xs) =
    let h = keep-both p f xs in
    by_test (f x) (λ b. by_test (p x) (λ c. rw (b, c) (omega (arith, h))) (λ c. rw (b, c) (omega (arith, h))))
    (λ b. by_test (p x) (λ c. rw (b, c) (omega (arith, h))) (λ c. rw (b, c) (omega (arith, h))))

-- what holds of every element holds of those whose mark is set
pub all_keep_by : {A : Type 0} (P : A → Type 0) (bs : List Bool) (l : List A) → All P l → All P (keep_by bs l)
all_keep_by P [] l h = tt
all_keep_by P (b ∷ bs) [] h = tt
all_keep_by P (true ∷ bs) (e ∷ l) h = (h.0, all_keep_by P bs l h.1)
all_keep_by P (false ∷ bs) (e ∷ l) h = all_keep_by P bs l h.1

pub in_keep_by : {A : Type 0} (bs : List Bool) (l : List A) (x : A) → In x (keep_by bs l) → In x l
in_keep_by [] l x h = absurd h
in_keep_by (b ∷ bs) [] x h = absurd h
in_keep_by (true ∷ bs) (y ∷ l) x h = ⊎_elim inl (λ i. inr (in_keep_by bs l x i)) h
in_keep_by (false ∷ bs) (y ∷ l) x h = inr (in_keep_by bs l x h)

-- ---- mapped and joined lists

module _ {A B : Type 0} (f : A → B) where
  pub in_map : (a : A) (xs : List A) → In a xs → In (f a) (map f xs)
  in_map a [] m = absurd m
  in_map a (x ∷ xs) (inl e) = inl (ap f e)
  in_map a (x ∷ xs) (inr m) = inr (in_map a xs m)

  pub map_in : (b : B) (xs : List A) → In b (map f xs) → (a : A) × In a xs × (f a ≡ b)
  map_in b [] m = absurd m
  map_in b (x ∷ xs) (inl e) = (x, inl refl, sym e)
  map_in b (x ∷ xs) (inr m) = let r = map_in b xs m in (r.0, inr r.1, r.2)

  pub map-keep : (p : B → Bool) (xs : List A) → map f (keep (λ a. p (f a)) xs) ≡ keep p (map f xs)
  map-keep p [] = refl
  map-keep p (x ∷ xs) = let ih = map-keep p xs in by_test (p (f x)) (λ e. rw (e, ih)) (λ e. rw (e, ih))

pub map_append : {A B : Type 0} (f : A → B) (xs ys : List A) → map f (xs ++ ys) ≡ map f xs ++ map f ys
map_append f [] ys = refl
map_append f (x ∷ xs) ys = rw (map_append f xs ys)

pub map_same : {A B : Type 0} (f g : A → B) (xs : List A) → ((x : A) → f x ≡ g x) → map f xs ≡ map g xs
map_same f g [] h = refl
map_same f g (x ∷ xs) h = rw (h x, map_same f g xs h)

pub join_append : {A : Type 0} (xs ys : List (List A)) → join_all (xs ++ ys) ≡ join_all xs ++ join_all ys
join_append [] ys = refl
join_append (x ∷ xs) ys = rw (join_append xs ys) (sym (append_assoc x (join_all xs) (join_all ys)))

-- a list with an element is not empty
pub in_some : {A : Type 0} (a : A) (xs : List A) → In a xs → 1 ≤ length xs
in_some a [] m = absurd m
in_some a (x ∷ xs) m = omega arith

-- ---- what tests keep, and find

pub keep_append : {A : Type 0} (p : A → Bool) (xs ys : List A) → keep p (xs ++ ys) ≡ keep p xs ++ keep p ys
keep_append p [] ys = refl
keep_append p (x ∷ xs) ys = by_test (p x) (λ b. rw (b, keep_append p xs ys)) (λ b. rw (b, keep_append p xs ys))

pub keep-few : {A : Type 0} (p : A → Bool) (xs : List A) → length (keep p xs) ≤ length xs
keep-few p xs = omega (arith, keep-length p xs)

pub keep-none : {A : Type 0} (p : A → Bool) (xs : List A) → ((a : A) → In a xs → p a ≡ false) → keep p xs ≡ []
keep-none p [] h = refl
keep-none p (x ∷ xs) h = rw (h x (inl refl)) (keep-none p xs (λ a m. h a (inr m)))

module _ {A : Type 0} (f : A → Bool) where
  pub any_append : (xs ys : List A) → any f xs ≡ false → any f ys ≡ false → any f (xs ++ ys) ≡ false
  any_append [] ys p q = q
  any_append (x ∷ xs) ys p q = rw (or_left (f x) _ p) (any_append xs ys (or_right (f x) _ p) q)

  pub any-keep : (g : A → Bool) (xs : List A) → any f xs ≡ false → any f (keep g xs) ≡ false
  any-keep g [] p = refl
  any-keep g (x ∷ xs) p =
      let ih : any f (keep g xs) ≡ false = any-keep g xs (or_right (f x) _ p) in
      by_test (g x) (λ b. rw (b, or_left (f x) _ p) ih) (λ b. rw b ih)

  pub not-any : (a : A) (xs : List A) → any f xs ≡ false → In a xs → f a ≡ false
  not-any a xs p m = by_test (f a) (λ b. no_way (any f xs) (any_in f a xs m b) p) (λ b. b)

module _ {A : Type 0} where
  -- a search among what is kept and mapped is one among all
  pub any-kept : {B : Type 0} (f : B → Bool) (g : A → B) (p : A → Bool) (l : List A) → any f (map g (keep p l)) ≡ any (λ x. p x && f (g x)) l
  any-kept f g p [] = refl
  any-kept f g p (x ∷ l) =
      let h : any f (map g (keep p l)) ≡ any (λ x. p x && f (g x)) l = any-kept f g p l in
      by_test (p x) (λ b. rw (b, h)) (λ b. rw (b, h))

  -- tests that agree find the same
  pub any_same : (f g : A → Bool) (l : List A) → ((x : A) → f x ≡ g x) → any f l ≡ any g l
  any_same f g [] h = refl
  any_same f g (x ∷ l) h = rw (h x, any_same f g l h)

  -- a test that never holds finds nothing, and keeps nothing
  pub any-never : (f : A → Bool) (l : List A) → ((x : A) → f x ≡ false) → any f l ≡ false
  any-never f [] h = refl
  any-never f (x ∷ l) h = rw (h x, any-never f l h)

  pub keep-never : (f : A → Bool) (l : List A) → ((x : A) → f x ≡ false) → keep f l ≡ []
  keep-never f [] h = refl
  keep-never f (x ∷ l) h = rw (h x, keep-never f l h)

  pub any-joined : (f : A → Bool) (k l : List A) → any f (k ++ l) ≡ any f k || any f l
  any-joined f [] l = refl
  any-joined f (x ∷ k) l = let h : any f (k ++ l) ≡ any f k || any f l = any-joined f k l in by_test (f x) (λ b. rw b) (λ b. rw (b, h))

-- ---- something of every element

module _ {A : Type 0} where
  module _ (P : A → Type 0) where
    pub all_in : (a : A) (xs : List A) → All P xs → In a xs → P a
    all_in a [] h m = absurd m
    all_in a (x ∷ xs) h (inl e) = subst P (sym e) h.0
    all_in a (x ∷ xs) h (inr m) = all_in a xs h.1 m

    pub in_all : (xs : List A) → ((a : A) → In a xs → P a) → All P xs
    in_all [] f = tt
    in_all (x ∷ xs) f = (f x (inl refl), in_all xs (λ a m. f a (inr m)))

    pub all_keep : (f : A → Bool) (xs : List A) → All P xs → All P (keep f xs)
    all_keep f [] h = tt
    all_keep f (x ∷ xs) h = by_test (f x) (λ b. rw b (h.0, all_keep f xs h.1)) (λ b. rw b (all_keep f xs h.1))

    pub all_append : (xs ys : List A) → All P xs → All P ys → All P (xs ++ ys)
    all_append [] ys h k = k
    all_append (x ∷ xs) ys h k = (h.0, all_append xs ys h.1 k)

    pub all_set : (xs : List A) (i : ℕ) (a : A) → All P xs → P a → All P (set xs i a)
    all_set [] i a h p = tt
    all_set (x ∷ xs) zero a h p = (p, h.1)
    all_set (x ∷ xs) (suc i) a h p = (h.0, all_set xs i a h.1 p)

  pub all_more : (P Q : A → Type 0) → ((a : A) → P a → Q a) → (xs : List A) → All P xs → All Q xs
  all_more P Q f [] h = tt
  all_more P Q f (x ∷ xs) h = (f x h.0, all_more P Q f xs h.1)

  pub all_map : (P : A → Type 0) (f : A → A) → ((a : A) → P a → P (f a)) → (xs : List A) → All P xs → All P (map f xs)
  all_map P f g [] h = tt
  all_map P f g (x ∷ xs) h = (g x h.0, all_map P f g xs h.1)

pub all_take : {A : Type 0} (P : A → Type 0) (n : ℕ) (xs : List A) → All P xs → All P (take n xs)
all_take P zero xs h = tt
all_take P (suc n) [] h = tt
all_take P (suc n) (x ∷ xs) h = (h.0, all_take P n xs h.1)

module _ {A : Type 0} where
  -- tests that agree on the list keep the same of it
  pub keep_same : (f g : A → Bool) (l : List A) → ((x : A) → In x l → f x ≡ g x) → keep f l ≡ keep g l
  keep_same f g [] h = refl
  keep_same f g (x ∷ l) h = rw (h x (inl refl), keep_same f g l (λ y m. h y (inr m)))

  -- a test that holds of all keeps all
  pub keep-every : (f : A → Bool) (l : List A) → ((x : A) → In x l → f x ≡ true) → keep f l ≡ l
  keep-every f [] h = refl
  keep-every f (x ∷ l) h = rw (h x (inl refl), keep-every f l (λ y m. h y (inr m)))

  -- the first that a test holds of, or none
  pub by_first : (f : A → Bool) (l : List A) (P : Option A → Type 0) → (((x : A) → In x l → f x ≡ false) → P none)
      → ((x : A) → In x l → f x ≡ true → P (some x)) → P (first f l)
  by_first f [] P n s = n (λ x m. absurd m)
  by_first f (x ∷ l) P n s =
      by_test (f x) (λ b. rw b (s x (inl refl) b)) (λ b. rw b (by_first f l P (λ h. n (λ y m. ⊎_elim (λ e. rw e b) (h y) m)) (λ y m q. s y (inr m) q)))

  -- one test after the other
  pub keep-keep : (f g : A → Bool) (l : List A) → keep g (keep f l) ≡ keep (λ x. f x && g x) l
  keep-keep f g [] = refl
  keep-keep f g (x ∷ l) =
      let h : keep g (keep f l) ≡ keep (λ x. f x && g x) l = keep-keep f g l in
      by_test (f x) (λ b. by_test (g x) (λ e. rw (b, e, h)) (λ e. rw (b, e, h))) (λ b. rw (b, h))
