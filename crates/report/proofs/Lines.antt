-- The lines, household by household. Assumes nothing.
use mathlib.Core.Path.{◌≡◌, refl, sym, ap, ◌∙◌}
use mathlib.Core.Bool.{Bool, true, false, cond, ◌||◌}
use mathlib.Core.List.{List, [], ◌∷◌, ◌++◌, map, append-nil}
use Prim.Native.Nat.{ℕ, zero, suc, ◌+◌, ◌*◌, ◌≤◌, ◌<◌}
use native.Mathlib.Numerals.{add-one}
use native.Mathlib.Omega.{arith}
use lib.ListN.{length, length-append}
use lib.Dec.{eqb}
use lib.IntN.{ℤ}
use native.Mathlib.Nat.{suc-mul}
use borrow.Author.Tests.{eqb-true, eqb-false, ne_eqb}
use Rattle.base.specs.Lists.{any, keep, join_all}
use Rattle.base.proofs.Tests.{by_test, by_order}
use Rattle.base.proofs.Lists.{map_append, join_append, keep_append, keep-never}
use Rattle.wire.specs.Payment.{Payment}
use Rattle.text.specs.Decimal.{decimal, line}
use Rattle.report.specs.Report.{up_to}
use Rattle.report.specs.Steps.{lines_to}

keep-next : (m : ℕ → Bool) (n : ℕ) → keep m (up_to (suc n)) ≡ keep m (up_to n) ++ cond (m (suc n)) (suc n ∷ []) []
unfolding up_to
keep-next m n = keep_append m (up_to n) (suc n ∷ [])

module _ (v : ℕ → ℤ) (m : ℕ → Bool) where
  pub lines_none : lines_to 0 v m ≡ []
  unfolding lines_to up_to
  lines_none = refl

  lines_next : (n : ℕ) (b : Bool) → m (suc n) ≡ b → lines_to (suc n) v m ≡ lines_to n v m ++ cond b (line (decimal (suc n)) (v (suc n))) []
  unfolding lines_to
  lines_next n true e =
      let f : ℕ → List ℕ = λ h. line (decimal h) (v h) in
      let q : keep m (up_to (suc n)) ≡ keep m (up_to n) ++ (suc n ∷ []) = keep-next m n ∙ rw e in
      ap (λ (l : List ℕ). join_all (map f l)) q ∙ ap join_all (map_append f (keep m (up_to n)) (suc n ∷ []))
      ∙ join_append (map f (keep m (up_to n))) (f (suc n) ∷ []) ∙ ap (λ (l : List ℕ). join_all (map f (keep m (up_to n))) ++ l) (append-nil (f (suc n)))
  lines_next n false e =
      let f : ℕ → List ℕ = λ h. line (decimal h) (v h) in
      let q : keep m (up_to (suc n)) ≡ keep m (up_to n) = keep-next m n ∙ rw e (append-nil (keep m (up_to n))) in
      ap (λ (l : List ℕ). join_all (map f l)) q ∙ sym (append-nil (join_all (map f (keep m (up_to n)))))

  -- one household more, as code counts
  pub lines_in : (n : ℕ) → m (n + 1) ≡ true → lines_to (n + 1) v m ≡ lines_to n v m ++ line (decimal (n + 1)) (v (n + 1))
  lines_in n e = rw add-one (lines_next n true (rw add-one at e))

  pub lines-out : (n : ℕ) → m (n + 1) ≡ false → lines_to (n + 1) v m ≡ lines_to n v m
  lines-out n e = rw add-one (lines_next n false (rw add-one at e) ∙ append-nil (lines_to n v m))

  -- the lines grow
  lines_grow : (n : ℕ) → length (lines_to n v m) ≤ length (lines_to (suc n) v m)
  lines_grow n =
      let l : List ℕ = cond (m (suc n)) (line (decimal (suc n)) (v (suc n))) [] in
      omega (arith, ap length (lines_next n (m (suc n)) refl), length-append (lines_to n v m) l)

  pub lines-least : (i n : ℕ) → i ≤ n → length (lines_to i v m) ≤ length (lines_to n v m)
  lines-least i zero h = let e : i ≡ 0 = omega arith in rw e (omega arith)
  lines-least i (suc n) h =
      by_order i (suc n)
      (λ l. omega (arith, lines-least i n (omega arith), lines_grow n))
      (λ e. rw e (omega arith))
      (λ l. absurd (omega arith))

-- the same sums of the same households give the same lines
pub lines_same : (n : ℕ) (v w : ℕ → ℤ) (m k : ℕ → Bool) → ((h : ℕ) → h ≤ n → v h ≡ w h) → ((h : ℕ) → h ≤ n → m h ≡ k h) → lines_to n v m ≡ lines_to n w k
lines_same zero v w m k e f = lines_none v m ∙ sym (lines_none w k)
lines_same (suc n) v w m k e f =
    let ih : lines_to n v m ≡ lines_to n w k = lines_same n v w m k (λ h l. e h (omega arith)) (λ h l. f h (omega arith)) in
    lines_next v m n (k (suc n)) (f (suc n) (omega arith)) ∙ rw (ih, e (suc n) (omega arith)) (sym (lines_next w k n (k (suc n)) refl))

-- ---- how many lines there are, and how long they are together

pub lines-short : (n c : ℕ) (v : ℕ → ℤ) (m : ℕ → Bool) → ((h : ℕ) → h ≤ n → length (line (decimal h) (v h)) ≤ c) → length (lines_to n v m) ≤ length (keep m (up_to n)) * c
lines-short zero c v m f = rw (lines_none v m) (omega arith)
lines-short (suc n) c v m f =
    let ih : length (lines_to n v m) ≤ length (keep m (up_to n)) * c = lines-short n c v m (λ h l. f h (omega arith)) in
    let l : List ℕ = line (decimal (suc n)) (v (suc n)) in
    by_test (m (suc n))
    (λ b. let q : lines_to (suc n) v m ≡ lines_to n v m ++ line (decimal (suc n)) (v (suc n)) = lines_next v m n true b in
    let r : keep m (up_to (suc n)) ≡ keep m (up_to n) ++ (suc n ∷ []) = keep-next m n ∙ rw b in
    let o : length (keep m (up_to (suc n))) ≡ length (keep m (up_to n)) + 1 = ap length r ∙ length-append (keep m (up_to n)) (suc n ∷ []) in
    rw (q, o, mul_next (length (keep m (up_to n))) c) (omega (arith, length-append (lines_to n v m) l, f (suc n) (omega arith))))
    (λ b. let q : lines_to (suc n) v m ≡ lines_to n v m = lines_next v m n false b ∙ append-nil (lines_to n v m) in
    let r : keep m (up_to (suc n)) ≡ keep m (up_to n) = keep-next m n ∙ rw b (append-nil (keep m (up_to n))) in
    rw (q, r) ih)
  where
    mul_next : (x c : ℕ) → (x + 1) * c ≡ x * c + c
    mul_next x c = rw (add-one, suc-mul x c)

-- ---- as many households as payments at most

none_above : (x n : ℕ) → n < x → keep (eqb x) (up_to n) ≡ []
unfolding up_to
none_above x zero h = refl
none_above x (suc n) h = keep_append (eqb x) (up_to n) (suc n ∷ []) ∙ rw (none_above x n (omega arith), ne_eqb x (suc n) (λ e. omega arith))

-- a number from 1 to n stands there once
pub only_one : (x n : ℕ) → 1 ≤ x → x ≤ n → keep (eqb x) (up_to n) ≡ x ∷ []
unfolding up_to
only_one x zero p q = absurd (omega arith)
only_one x (suc n) p q =
    by_test (eqb x (suc n))
    (λ b. let e : x ≡ suc n = eqb-true x (suc n) b in keep_append (eqb x) (up_to n) (suc n ∷ []) ∙ rw (none_above x n (omega arith), b) (rw e))
    (λ b. let e : x ≡ suc n → ⊥ = eqb-false x (suc n) b in keep_append (eqb x) (up_to n) (suc n ∷ []) ∙ rw (only_one x n p (omega arith), b))

once : (x n : ℕ) → length (keep (eqb x) (up_to n)) ≤ 1
unfolding up_to
once x zero = omega arith
once x (suc n) =
    by_test (eqb x (suc n))
    (λ b. let e : x ≡ suc n = eqb-true x (suc n) b in
    rw (keep_append (eqb x) (up_to n) (suc n ∷ []), none_above x n (omega arith), b) (omega arith))
    (λ b. rw (keep_append (eqb x) (up_to n) (suc n ∷ []), b, append-nil (keep (eqb x) (up_to n))) (once x n))

keep_either : (f g : ℕ → Bool) (l : List ℕ) → length (keep (λ x. f x || g x) l) ≤ length (keep f l) + length (keep g l)
keep_either f g [] = omega arith
keep_either f g (x ∷ l) =
    let ih : length (keep (λ x. f x || g x) l) ≤ length (keep f l) + length (keep g l) = keep_either f g l in
    by_test (f x) (λ b. by_test (g x) (λ e. rw (b, e) (omega arith)) (λ e. rw (b, e) (omega arith)))
    (λ b. by_test (g x) (λ e. rw (b, e) (omega arith)) (λ e. rw (b, e) ih))

pub payers-few : (ps : List Payment) (n : ℕ) → length (keep (λ h. any (λ p. eqb p.household h) ps) (up_to n)) ≤ length ps
payers-few [] n = rw (keep-never (λ h. false) (up_to n) (λ x. refl)) (omega arith)
payers-few (p ∷ ps) n =
    omega (arith, keep_either (eqb p.household) (λ h. any (λ q. eqb q.household h) ps) (up_to n), once p.household n, payers-few ps n)
