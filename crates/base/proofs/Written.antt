-- Written memory: what stands there, what stays. Assumes nothing.
use Prim.Native.Nat.{ℕ, suc, ◌+◌, ◌-◌, ◌*◌, ◌≤◌, ◌<◌}
use mathlib.Core.Path.{◌≡◌, refl, sym, ap, ◌∙◌}
use mathlib.Core.List.{List, [], ◌∷◌, ◌++◌, append_assoc}
use native.Mathlib.Nat.{suc-mul, mul-le-mul_right}
use native.Mathlib.Omega.{arith}
use native.Mathlib.Numerals.{add-one}
use mathlib.Core.Logic.{◌⊎◌, inl, inr}
use lib.ListN.{length, take, drop, set, length-take, length-drop, length-append, take-append-drop}
use lib.Seq.{take-take, take_at, drop-append-add, drop-drop, take-add, length-take-le, set_split}
use borrow.Rule.Slice.PartMut.{put_mid}
use Rattle.std.specs.List.{copy_within}
use Rattle.std.proofs.lemmas.Grind.{common_steps}
use Rattle.base.proofs.Tests.{by_order}
use Rattle.base.specs.Memory.{part, written, spliced, cut, Outside}
use Rattle.base.proofs.Lists.{drop-take, take_drop_take}

module _ (m d : List ℕ) (a : ℕ) (h : a + length d ≤ length m) where
  pub written-length : length (written m a d) ≡ length m
  written-length = simp (length-append, length-take, length-drop) (omega arith)

  pub written-there : take (length d) (drop a (written m a d)) ≡ d
  written-there = grind (arith, common_steps)

  pub written_below : (b : ℕ) → b ≤ a → take b (written m a d) ≡ take b m
  written_below b p = grind (arith, common_steps)

  pub written-above : (b : ℕ) → a + length d ≤ b → drop b (written m a d) ≡ drop b m
  written-above b p =
      let l : length (take a m) + (length d + (b - (a + length d))) ≡ b = rw (length-take-le a m (omega arith)) (omega arith) in
      let k : a + length d + (b - (a + length d)) ≡ b = omega arith in
      let f : drop (length (take a m) + (length d + (b - (a + length d)))) (written m a d) ≡ drop (length d + (b - (a + length d))) (d ++ drop (a + length d) m) = drop-append-add (take a m) (d ++ drop (a + length d) m) (length d + (b - (a + length d))) in
      let g : drop (length d + (b - (a + length d))) (d ++ drop (a + length d) m) ≡ drop (b - (a + length d)) (drop (a + length d) m) = drop-append-add d (drop (a + length d) m) (b - (a + length d)) in
      let e : drop (b - (a + length d)) (drop (a + length d) m) ≡ drop (a + length d + (b - (a + length d))) m = drop-drop (b - (a + length d)) (a + length d) m in
      (rw l at f) ∙ g ∙ (rw k at e)

-- nothing written
pub written_none : (m : List ℕ) (a : ℕ) → written m a [] ≡ m
written_none m a = grind (arith, common_steps)

-- ---- the frame

-- a part that lies outside what was written stays
pub other-part : (m m' : List ℕ) (a k b n : ℕ) → Outside a k m m' → (b + n ≤ a) ⊎ (a + k ≤ b) → part m' b n ≡ part m b n
other-part m m' a k b n o (inl p) =
    sym (take_drop_take n b a m' p) ∙ ap (λ (z : List ℕ). take n (drop b z)) o.below ∙ take_drop_take n b a m p
other-part m m' a k b n o (inr p) = ap (take n) (split m' ∙ ap (drop (b - (a + k))) o.above ∙ sym (split m))
  where
    split : (z : List ℕ) → drop b z ≡ drop (b - (a + k)) (drop (a + k) z)
    split z = let e : a + k + (b - (a + k)) ≡ b = omega arith in rw (drop-drop (b - (a + k)) (a + k) z) (rw e)

-- one slot of many of the same size: every other one stays
pub other-slot : (m m' : List ℕ) (size s u n : ℕ) → Outside (s * size) size m m' → n ≤ size → ¬ (u ≡ s) → part m' (u * size) n ≡ part m (u * size) n
other-slot m m' size s u n o l ne =
    by_order u s (λ p. other-part m m' (s * size) size (u * size) n o (inl (omega (arith, below-slot u s size p))))
    (λ e. absurd (ne e)) (λ p. other-part m m' (s * size) size (u * size) n o (inr (omega (arith, below-slot s u size p))))
  where
    below-slot : (u s size : ℕ) → u < s → u * size + size ≤ s * size
    below-slot u s size p = let e : suc u * size ≡ u * size + size = suc-mul u size in rw (← e) (mul-le-mul_right size p)

pub written_outside : (m d : List ℕ) (a n : ℕ) → a + n ≤ length m → length d ≤ n → Outside a n m (written m a d)
written_outside m d a n p q =
    record { below = written_below m d a (omega arith) a (omega arith); above = written-above m d a (omega arith) (a + n) (omega arith) }

pub same_outside : (m : List ℕ) (a n : ℕ) → Outside a n m m
same_outside m a n = record { below = refl; above = refl }

-- two parts that follow on each other stay: so does the part that they make
pub parts_same : (m m' : List ℕ) (a k n : ℕ) → k ≤ n → part m' a k ≡ part m a k → part m' (a + k) (n - k) ≡ part m (a + k) (n - k) → part m' a n ≡ part m a n
parts_same m m' a k n l p q = both m' ∙ ap (λ (x : List ℕ). x ++ part m' (a + k) (n - k)) p ∙ ap (λ (x : List ℕ). part m a k ++ x) q ∙ sym (both m)
  where
    both : (z : List ℕ) → part z a n ≡ part z a k ++ part z (a + k) (n - k)
    both z = let e : n ≡ k + (n - k) = omega arith in
        ap (λ (i : ℕ). part z a i) e ∙ take-add k (n - k) (drop a z) ∙ ap (λ (y : List ℕ). part z a k ++ take (n - k) y) (drop-drop k a z)

-- ---- for loops and parts

pub put_written : (t d ys : List ℕ) (a k : ℕ) → ys ≡ d → k ≡ length d → put_mid a k t ys ≡ written t a d
put_written t d ys a k p q = grind (arith, common_steps)

pub part_length : (m : List ℕ) (a n : ℕ) → a + n ≤ length m → length (part m a n) ≡ n
part_length m a n h = simp (length-take, length-drop) (omega arith)

-- what std's `copy_within` of the bytes from i to j leaves, in our words
pub copied_within : (m : List ℕ) (i j a n : ℕ) → j ≡ i + n → i + n ≤ length m → copy_within m i j a ≡ written m a (part m i n)
copied_within m i j a n e h = grind (arith, common_steps)

-- y, and then x right before it
pub written-before : (d : List ℕ) (a : ℕ) (x y : List ℕ) → a + length x + length y ≤ length d → written (written d (a + length x) y) a x ≡ written d a (x ++ y)
written-before d a x y h = grind (arith, common_steps)

-- what stands in front, written with it
written-further : (m y : List ℕ) (a p : ℕ) → a + p ≤ length m → written m (a + p) y ≡ written m a (take p (drop a m) ++ y)
written-further m y a p h =
    let l : length (take p (drop a m)) ≡ p = part_length m a p h in
    let n : a + length (take p (drop a m) ++ y) ≡ a + p + length y = simp length-append (omega arith) in
    rw (n, take-add a p m) (simp append_assoc)

-- ---- bytes put in and taken out in place

pub part-there : (m m' d : List ℕ) (a n : ℕ) → m' ≡ written m a d → n ≡ length d → a + length d ≤ length m → take n (drop a m') ≡ d
part-there m m' d a n p q h = rw (p, q) (written-there m d a h)

module _ (m : List ℕ) (at len p : ℕ) (h : at + len ≤ length m) where
  part-front : p ≤ len → take p (part m at len) ≡ take p (drop at m)
  part-front q = take-take p len (drop at m) q

  pub part-rest : (k n : ℕ) → k + n ≡ len → drop k (part m at len) ≡ part m (at + k) n
  part-rest k n q = drop-take k n len (drop at m) q ∙ ap (take n) (drop-drop k at m)

  pub spliced-length : (b : List ℕ) → p ≤ len → length (spliced (part m at len) p b) ≡ len + length b
  spliced-length b q = grind (arith, common_steps)

  pub cut-length : (n : ℕ) → p + n ≤ len → length (cut (part m at len) p n) ≡ len - n
  cut-length n q = grind (arith, common_steps)

  pub splice_written : (b : List ℕ) → p ≤ len → at + len + length b ≤ length m
      → written (written m (at + p + length b) (part m (at + p) (len - p))) (at + p) b ≡ written m at (spliced (part m at len) p b)
  splice_written b q r =
      let l : length (part m (at + p) (len - p)) ≡ len - p = part_length m (at + p) (len - p) (omega arith) in
      written-before m (at + p) b (part m (at + p) (len - p)) (omega arith)
      ∙ written-further m (b ++ part m (at + p) (len - p)) at p (omega arith)
      ∙ ap (written m at) (sym (rw (part-front q, part-rest p (len - p) (omega arith)) refl))

  pub cut-written : (n : ℕ) → p + n ≤ len → written m (at + p) (part m (at + p + n) (len - p - n)) ≡ written m at (cut (part m at len) p n)
  cut-written n q =
      let e : at + (p + n) ≡ at + p + n = omega arith in
      written-further m (part m (at + p + n) (len - p - n)) at p (omega arith)
      ∙ ap (written m at) (sym (rw (part-front (omega arith), part-rest (p + n) (len - p - n) (omega arith), e) refl))

-- bytes written at place a: what stands up to their end, and what stays
module _ (m m' d : List ℕ) (a : ℕ) (e : m' ≡ written m a d) (h : a + length d ≤ length m) where
  pub written-taken : take (a + length d) m' ≡ take a m ++ d
  written-taken =
      rw (e, ← append_assoc (take a m) d (drop (a + length d) m))
      (take_at (take a m ++ d) (drop (a + length d) m) (a + length d) (simp (length-append, length-take) (omega arith)))

  pub written-left : drop (a + length d) m' ≡ drop (a + length d) m
  written-left = rw e (written-above m d a h (a + length d) (omega arith))

-- written behind what was written
pub written_append : (m x y : List ℕ) (a : ℕ) → a + length x + length y ≤ length m → written (written m a x) (a + length x) y ≡ written m a (x ++ y)
written_append m x y a h =
    let f : take (a + length x) (written m a x) ≡ take a m ++ x = written-taken m (written m a x) x a refl (omega arith) in
    let g : drop (a + length x + length y) (written m a x) ≡ drop (a + length x + length y) m = written-above m x a (omega arith) (a + length x + length y) (omega arith) in
    let n : a + length (x ++ y) ≡ a + length x + length y = simp length-append (omega arith) in
    rw (f, g, n) (simp append_assoc)

-- a part behind what was written
pub part-behind : (m x : List ℕ) (a b n : ℕ) → a + length x ≤ length m → a + length x ≤ b → part (written m a x) b n ≡ part m b n
part-behind m x a b n h p = ap (take n) (written-above m x a h b p)

-- ---- one byte, and then the others

pub written_on : (d : List ℕ) (i x : ℕ) (g : List ℕ) → i < length d → written d i (x ∷ g) ≡ written (set d i x) (i + 1) g
written_on d i x g h = grind (arith, common_steps)

pub written_last : (d : List ℕ) (i x : ℕ) → i < length d → written d i (x ∷ []) ≡ set d i x
written_last d i x h = rw add-one (sym (set_split d i x h))

-- what stands there, written there
pub written_self : (d : List ℕ) (a n : ℕ) → a + n ≤ length d → written d a (take n (drop a d)) ≡ d
written_self d a n h =
    let l : length (take n (drop a d)) ≡ n = length-take-le n (drop a d) (simp length-drop (omega arith)) in
    rw (l, ← drop-drop n a d, take-append-drop n (drop a d)) (take-append-drop a d)

-- a longer text over what was written
pub written_over : (d : List ℕ) (a b : ℕ) (v x : List ℕ) → a ≤ b → b + length v ≤ a + length x → a + length x ≤ length d → written (written d b v) a x ≡ written d a x
written_over d a b v x p q h =
    let t : take a (written d b v) ≡ take a d = written_below d v b (omega arith) a p in
    let u : drop (a + length x) (written d b v) ≡ drop (a + length x) d = written-above d v b (omega arith) (a + length x) q in
    rw (t, u)

-- three pieces, one after the other
pub written_three : (d : List ℕ) (at : ℕ) (x y z d1 d2 d3 : List ℕ) (a b : ℕ) → d1 ≡ written d at x → a ≡ at + length x → d2 ≡ written d1 a y → b ≡ a + length y → d3 ≡ written d2 b z → b + length z ≤ length d
    → d3 ≡ written d at (x ++ (y ++ z))
written_three d at x y z d1 d2 d3 a b e1 ea e2 eb e3 h =
    let l : length (x ++ y) ≡ length x + length y = length-append x y in
    let f : d2 ≡ written d at (x ++ y) = e2 ∙ rw (e1, ea) (written_append d x y at (omega arith)) in
    let q : b ≡ at + length (x ++ y) = omega arith in
    e3 ∙ rw (f, q) (written_append d (x ++ y) z at (omega arith) ∙ ap (written d at) (append_assoc x y z))

-- one piece more behind what was written
pub written_more : (d : List ℕ) (at : ℕ) (x y d1 d2 : List ℕ) (a : ℕ) → d1 ≡ written d at x → a ≡ at + length x → d2 ≡ written d1 a y → a + length y ≤ length d
    → d2 ≡ written d at (x ++ y)
written_more d at x y d1 d2 a p q r h = r ∙ rw (p, q) (written_append d x y at (omega arith))

-- five pieces, one after the other
module _ (d : List ℕ) (at : ℕ) (x1 x2 x3 x4 x5 d1 d2 d3 d4 d5 : List ℕ) (a1 a2 a3 a4 : ℕ)
    (e1 : d1 ≡ written d at x1) (q1 : a1 ≡ at + length x1) (e2 : d2 ≡ written d1 a1 x2) (q2 : a2 ≡ a1 + length x2)
    (e3 : d3 ≡ written d2 a2 x3) (q3 : a3 ≡ a2 + length x3) (e4 : d4 ≡ written d3 a3 x4) (q4 : a4 ≡ a3 + length x4)
    (e5 : d5 ≡ written d4 a4 x5) (fits : a4 + length x5 ≤ length d) where
  pub written_five : d5 ≡ written d at (x1 ++ (x2 ++ (x3 ++ (x4 ++ x5))))
  written_five =
      let f2 : d2 ≡ written d at (x1 ++ x2) = written_more d at x1 x2 d1 d2 a1 e1 q1 e2 (omega arith) in
      let f3 : d3 ≡ written d at ((x1 ++ x2) ++ x3) = written_more d at (x1 ++ x2) x3 d2 d3 a2 f2 (simp length-append (omega arith)) e3 (omega arith) in
      let f4 : d4 ≡ written d at (((x1 ++ x2) ++ x3) ++ x4) = written_more d at ((x1 ++ x2) ++ x3) x4 d3 d4 a3 f3 (simp length-append (omega arith)) e4 (omega arith) in
      let w : ((((x1 ++ x2) ++ x3) ++ x4) ++ x5) ≡ x1 ++ (x2 ++ (x3 ++ (x4 ++ x5))) = simp append_assoc in
      written_more d at (((x1 ++ x2) ++ x3) ++ x4) x5 d4 d5 a4 f4 (simp length-append (omega arith)) e5 fits ∙ ap (written d at) w
