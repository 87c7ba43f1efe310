-- Rows by their next TLV. Assumes nothing.
use mathlib.Core.Path.{◌≡◌, refl, sym, ap, ◌∙◌}
use mathlib.Core.Bool.{true, false, ◌&&◌}
use mathlib.Core.List.{List, [], ◌∷◌}
use mathlib.Core.Option.{Option, none, some}
use Prim.Native.Nat.{ℕ, zero, suc, ◌+◌, ◌-◌, ◌<◌, ◌≤◌}
use native.Mathlib.Omega.{arith}
use lib.ListN.{length, take, drop, length-drop}
use lib.Seq.{take-take, drop-drop}
use lib.Dec.{leb, eqb}
use Rattle.std.specs.List.{list_all}
use borrow.Author.Tests.{le-leb, lt-leb, leb-true}
use Rattle.base.specs.Bytes.{u16_at, u32_at, zeros}
use Rattle.base.specs.Lists.{or_else, cons_to}
use Rattle.wire.specs.Row.{type_of, length_of, value_of, padding, size_of, heads, row_of, row, is_row, tlvs}
use Rattle.wire.specs.declared.row.Header.{Header}
use Rattle.wire.specs.Answers.{tlv_of, SizeIs, Tells}
use Rattle.base.proofs.Tests.{no_way, and_left, and_right, and_both, and_no, by_test}
use Rattle.base.proofs.Bytes.{u16_drop, u16_take, u32_part}
use Rattle.base.proofs.Lists.{drop-take, part-is}
use Rattle.base.proofs.Written.{part_length}

pub size-least : (s : List ℕ) → 4 ≤ size_of s
unfolding size_of
size-least s = omega arith

rest-short : (s : List ℕ) (f : ℕ) → 0 < length s → length s ≤ suc f → length (drop (size_of s) s) ≤ f
rest-short s f p h = let k : 4 ≤ size_of s = size-least s in simp length-drop (omega arith)

-- more fuel changes nothing
more : (f g : ℕ) (s : List ℕ) → length s ≤ f → length s ≤ g → row_of f s ≡ row_of g s
unfolding row_of
more zero zero [] p q = refl
more zero (suc g) [] p q = refl
more (suc f) zero [] p q = refl
more (suc f) (suc g) [] p q = refl
more zero zero (b ∷ s) p q = absurd (omega arith)
more zero (suc g) (b ∷ s) p q = absurd (omega arith)
more (suc f) zero (b ∷ s) p q = absurd (omega arith)
more (suc f) (suc g) (b ∷ s) p q =
    rw (more f g (drop (size_of (b ∷ s)) (b ∷ s)) (rest-short (b ∷ s) f (omega arith) p) (rest-short (b ∷ s) g (omega arith) q))

pub row_end : (s : List ℕ) → length s ≡ 0 → row s ≡ some []
unfolding row row_of
row_end [] e = refl
row_end (b ∷ s) e = absurd (omega arith)

pub row_bad : (s : List ℕ) → 0 < length s → heads s ≡ false → row s ≡ none
unfolding row row_of
row_bad [] p e = absurd (omega arith)
row_bad (b ∷ s) p e = rw e

pub row_on : (s : List ℕ) → 0 < length s → heads s ≡ true → row s ≡ cons_to (take (size_of s) s) (row (drop (size_of s) s))
unfolding row row_of
row_on [] p e = absurd (omega arith)
row_on (b ∷ s) p e =
    rw e (ap (cons_to (take (size_of (b ∷ s)) (b ∷ s)))
    (more (length s) (length (drop (size_of (b ∷ s)) (b ∷ s))) (drop (size_of (b ∷ s)) (b ∷ s)) (rest-short (b ∷ s) (length s) (omega arith) (omega arith)) (omega arith)))

-- ---- the parts of a TLV at the head

module _ (s : List ℕ) (h : heads s ≡ true) where
  pub heads-four : 4 ≤ length s
  unfolding heads
  heads-four = leb-true 4 (length s) (and_left _ _ h)

  pub heads_fits : size_of s ≤ length s
  unfolding heads
  heads_fits = leb-true (size_of s) (length s) (and_left _ _ (and_right (leb 4 (length s)) _ h))

  pub heads-zeros : zeros (take (padding (length_of s)) (drop (4 + length_of s) s)) ≡ true
  unfolding heads
  heads-zeros = and_right (leb (size_of s) (length s)) _ (and_right (leb 4 (length s)) _ h)

pub heads_made : (s : List ℕ) → 4 ≤ length s → size_of s ≤ length s → zeros (take (padding (length_of s)) (drop (4 + length_of s) s)) ≡ true → heads s ≡ true
unfolding heads
heads_made s p q z = and_both _ _ (le-leb 4 (length s) p) (and_both _ _ (le-leb (size_of s) (length s) q) z)

pub heads-short : (s : List ℕ) → length s < 4 → heads s ≡ false
unfolding heads
heads-short s p = rw (lt-leb 4 (length s) p)

pub heads-cut : (s : List ℕ) → length s < size_of s → heads s ≡ false
unfolding heads
heads-cut s p = and_no (leb 4 (length s)) _ (rw (lt-leb (size_of s) (length s) p))

pub heads_dirty : (s : List ℕ) → zeros (take (padding (length_of s)) (drop (4 + length_of s) s)) ≡ false → heads s ≡ false
unfolding heads
heads_dirty s p = and_no (leb 4 (length s)) _ (and_no (leb (size_of s) (length s)) _ p)

module _ (s : List ℕ) (k : ℕ) (h : 4 ≤ k) where
  pub type_take : type_of (take k s) ≡ type_of s
  unfolding type_of
  type_take = u16_take s k 0 (omega arith)

  pub length_of_take : length_of (take k s) ≡ length_of s
  unfolding length_of
  length_of_take = u16_take s k 2 (omega arith)

  pub size-take : size_of (take k s) ≡ size_of s
  unfolding size_of
  size-take = rw length_of_take

-- the value of the TLV at the head
pub value-take : (s : List ℕ) → heads s ≡ true → value_of (take (size_of s) s) ≡ take (length_of s) (drop 4 s)
unfolding value_of size_of
value-take s h =
    let n = length_of s in
    let p = padding (length_of s) in
    let f : 4 ≤ length s = heads-four s h in
    rw (length_of_take s (4 + (length_of s + padding (length_of s))) (omega arith), drop-take 4 (length_of s + padding (length_of s)) (4 + (length_of s + padding (length_of s))) s refl)
    (take-take (length_of s) (length_of s + padding (length_of s)) (drop 4 s) (omega arith))

-- ---- rows as tests and as lists

some_cons : (t : List ℕ) (o : Option (List (List ℕ))) → or_else (cons_to t o) false (λ ts. true) ≡ or_else o false (λ ts. true)
some_cons t none = refl
some_cons t (some ts) = refl

list_cons : (t : List ℕ) (o : Option (List (List ℕ))) → or_else o false (λ ts. true) ≡ true → or_else (cons_to t o) [] (λ ts. ts) ≡ t ∷ or_else o [] (λ ts. ts)
list_cons t none e = no_way false e refl
list_cons t (some ts) e = refl

pub is_end : (s : List ℕ) → length s ≡ 0 → is_row s ≡ true
unfolding is_row
is_end s e = rw (row_end s e)

pub is_bad : (s : List ℕ) → 0 < length s → heads s ≡ false → is_row s ≡ false
unfolding is_row
is_bad s p e = rw (row_bad s p e)

pub is_on : (s : List ℕ) → 0 < length s → heads s ≡ true → is_row s ≡ is_row (drop (size_of s) s)
unfolding is_row
is_on s p e = rw (row_on s p e) (some_cons (take (size_of s) s) (row (drop (size_of s) s)))

pub tlvs_end : (s : List ℕ) → length s ≡ 0 → tlvs s ≡ []
unfolding tlvs
tlvs_end s e = rw (row_end s e)

module _ (s : List ℕ) (p : 0 < length s) (r : is_row s ≡ true) where
  pub is-heads : heads s ≡ true
  is-heads = by_test (heads s) (λ e. e) (λ e. no_way (is_row s) r (is_bad s p e))

  pub is-rest : is_row (drop (size_of s) s) ≡ true
  is-rest = sym (is_on s p is-heads) ∙ r

  pub tlvs_on : tlvs s ≡ take (size_of s) s ∷ tlvs (drop (size_of s) s)
  unfolding tlvs is_row
  tlvs_on = rw (row_on s p is-heads) (list_cons (take (size_of s) s) (row (drop (size_of s) s)) is-rest)

-- ---- the same from a place on, as code goes

module _ (s : List ℕ) (at : ℕ) where
  pub left_end : length s ≤ at → is_row (drop at s) ≡ true
  left_end p = is_end (drop at s) (simp length-drop (omega arith))

  module _ (p : at < length s) where
    more_left : 0 < length (drop at s)
    more_left = simp length-drop (omega arith)

    pub left_bad : heads (drop at s) ≡ false → is_row (drop at s) ≡ false
    left_bad e = is_bad (drop at s) more_left e

    pub left_on : (n : ℕ) → n ≡ size_of (drop at s) → heads (drop at s) ≡ true → is_row (drop at s) ≡ is_row (drop (at + n) s)
    left_on n q e = is_on (drop at s) more_left e ∙ rw (drop-drop (size_of (drop at s)) at s, q)

    module _ (r : is_row (drop at s) ≡ true) where
      pub left-heads : heads (drop at s) ≡ true
      left-heads = is-heads (drop at s) more_left r

      pub left-fits : at + size_of (drop at s) ≤ length s
      left-fits = let f : size_of (drop at s) ≤ length (drop at s) = heads_fits (drop at s) left-heads in let l : length (drop at s) ≡ length s - at = length-drop at s in omega arith

      -- what the code works out of the bytes is what the definitions say
      pub tells : (h : Header) → h.at ≡ at → h.kind ≡ u16_at s at → h.len ≡ u16_at s (at + 2) → h.start ≡ at + 4 → h.next ≡ at + 4 + (h.len + padding h.len) → Tells s at h
      unfolding type_of length_of size_of
      tells h a k l b e =
          let d = drop at s in
          let e0 : at + 0 ≡ at = omega arith in
          let kd : h.kind ≡ type_of (drop at s) = k ∙ sym (rw e0 at (u16_drop s at 0)) in
          let ld : h.len ≡ length_of (drop at s) = l ∙ sym (u16_drop s at 2) in
          let q : h.next ≡ at + size_of (drop at s) = e ∙ rw ld (omega arith) in
          let w : take (h.next - at) (drop at s) ≡ take (size_of (drop at s)) (drop at s) = part-is s at h.next (size_of (drop at s)) q in
          record {
            here = a;
            kind = rw w (kd ∙ sym (type_take (drop at s) (size_of (drop at s)) (size-least (drop at s))));
            value = rw w (value-take (drop at s) left-heads ∙ rw (drop-drop 4 at s, ld, b));
            start = b;
            inside = omega arith;
            onward = omega arith;
            within = omega (arith, left-fits);
            left = rw w (tlvs_on (drop at s) more_left r ∙ rw (drop-drop (size_of (drop at s)) at s, q));
            again = rw q (sym (ap is_row (drop-drop (size_of (drop at s)) at s)) ∙ is-rest (drop at s) more_left r);
          }

-- a TLV's value, by its header: as long as it says, and its numbers where the code reads them
module _ (s : List ℕ) (at : ℕ) (h : Header) (k : Tells s at h) where
  pub value-length : length (value_of (tlv_of s at h)) ≡ h.len
  value-length = ap length k.value ∙ part_length s h.start h.len (omega (arith, k.inside, k.within))

  pub value-number : (i : ℕ) → i + 4 ≤ h.len → u32_at (value_of (tlv_of s at h)) i ≡ u32_at s (h.start + i)
  value-number i l = rw k.value (u32_part s h.len h.start i l)

  pub value-first : 4 ≤ h.len → u32_at (value_of (tlv_of s at h)) 0 ≡ u32_at s h.start
  value-first l = let e : h.start + 0 ≡ h.start = omega arith in value-number 0 l ∙ rw e

-- every byte is zero, as an iterator tests it
pub zeros-all : (s : List ℕ) → list_all (λ b. eqb b 0) s ≡ zeros s
zeros-all [] = refl
zeros-all (b ∷ s) = ap (λ z. eqb b 0 && z) (zeros-all s)

-- what the code finds at a place
module _ (s : List ℕ) (at : ℕ) (h : at ≤ length s) where
  left-length : length (drop at s) ≡ length s - at
  left-length = length-drop at s

  pub size-short : length s - at < 4 → heads (drop at s) ≡ false
  size-short p = heads-short (drop at s) (omega (arith, left-length))

  module _ (n k : ℕ) (en : n ≡ u16_at s (at + 2)) (ek : k ≡ padding n) where
    its_length : length_of (drop at s) ≡ n
    unfolding length_of
    its_length = u16_drop s at 2 ∙ sym en

    its_size : size_of (drop at s) ≡ 4 + (n + k)
    unfolding size_of
    its_size = rw its_length (omega arith)

    its_zeros : zeros (take (padding (length_of (drop at s))) (drop (4 + length_of (drop at s)) (drop at s))) ≡ zeros (take k (drop (at + 4 + n) s))
    its_zeros = let q : at + (4 + n) ≡ at + 4 + n = omega arith in rw (its_length, sym ek, drop-drop (4 + n) at s, q)

    pub size-cut : length s - at - 4 < n + k → 4 ≤ length s - at → heads (drop at s) ≡ false
    size-cut p f = heads-cut (drop at s) (omega (arith, left-length, its_size))

    pub size_dirty : zeros (take k (drop (at + 4 + n) s)) ≡ false → heads (drop at s) ≡ false
    size_dirty z = heads_dirty (drop at s) (its_zeros ∙ z)

    pub size-full : 4 ≤ length s - at → n + k ≤ length s - at - 4 → zeros (take k (drop (at + 4 + n) s)) ≡ true → SizeIs (drop at s) (4 + n + k)
    size-full f p z =
        let l = left-length in
        let w = its_size in
        record { heads = heads_made (drop at s) (omega arith) (omega arith) (its_zeros ∙ z); is = omega arith; within = omega arith }

-- the next TLV is further on, and within
pub size-onward : (s : List ℕ) (at n : ℕ) → at ≤ length s → SizeIs (drop at s) n → (at < at + n) × (at + n ≤ length s)
size-onward s at n p z =
    let l : length (drop at s) ≡ length s - at = length-drop at s in
    let k : 4 ≤ size_of (drop at s) = size-least (drop at s) in
    (omega (arith, z.is), omega (arith, z.within))

-- a header stands where a row goes on
pub four-left : (s : List ℕ) (at : ℕ) → at < length s → is_row (drop at s) ≡ true → at + 4 ≤ length s
four-left s at p r =
    let f : 4 ≤ length (drop at s) = heads-four (drop at s) (left-heads s at p r) in
    let l : length (drop at s) ≡ length s - at = length-drop at s in
    omega arith
