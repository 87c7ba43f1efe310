-- Good node data, and a TLV put in its place. Assumes nothing.
use mathlib.Core.Path.{◌≡◌, refl, sym, ap, ◌∙◌}
use mathlib.Core.Bool.{Bool, true, false, ◌&&◌, and-false}
use mathlib.Core.List.{List, [], ◌∷◌, ◌++◌, append_assoc}
use mathlib.Core.Option.{Option, none, some}
use mathlib.Core.Logic.{◌⊎◌, inl, inr, ⊎_elim}
use Prim.Native.Nat.{ℕ, zero, suc, ◌+◌, ◌-◌, ◌*◌, ◌%◌, ◌<◌, ◌≤◌}
use native.Mathlib.Omega.{arith}
use lib.ListN.{length, take, drop, length-append, length-take, length-drop, take-append-drop, drop_of_length-le, get_or-append}
use lib.Seq.{take-take, length-take-le, drop-drop, take-add, take-append_seam, drop-append_seam, drop-append-le, take-append-le}
use lib.Dec.{leb}
use borrow.Author.Tests.{le-leb, lt-leb, leb-true}
use Rattle.base.specs.Bytes.{Bytes, u16_at, zeros, same}
use Rattle.base.specs.Lists.{or_else, cons_to, join_all, keep, In}
use Rattle.wire.specs.Row.{length_of, padding, size_of, heads, row, is_row, tlvs}
use Rattle.wire.specs.Order.{before, climbs, ascending, good, place, among, without}
use Rattle.wire.specs.declared.row.Header.{Header}
use Rattle.wire.specs.Answers.{tlv_of, Tells, TlvAt}
use Rattle.base.proofs.Tests.{no_way, and_left, and_right, and_both, or_left, or_right, by_test}
use Rattle.base.proofs.Bytes.{bytes_left, bytes_right}
use Rattle.base.proofs.Lists.{drop-take}
use Rattle.base.proofs.Written.{part_length}
use Rattle.wire.proofs.Ordering.{before-some, before_either, before_trans, before_self, same-is}
use Rattle.wire.proofs.Rows.{row_end, row_bad, row_on, size-least, heads-four, heads_fits, heads-zeros, heads_made, length_of_take, size-take, is-heads, is-rest, tlvs_on, tlvs_end}

-- the row s goes on, ascending, after the TLV t
unfoldable pub goes_on : List ℕ → List ℕ → Bool
goes_on t s = or_else (row s) false (climbs t)

pub good-long : (limit : ℕ) (d : List ℕ) → limit < length d → good limit d ≡ false
unfolding good
good-long limit d h = rw (lt-leb (length d) limit h)

climbs_cons : (t u : List ℕ) (o : Option (List (List ℕ))) → or_else (cons_to u o) false (climbs t) ≡ before t u && or_else o false (climbs u)
unfolding climbs
climbs_cons t u none = sym (and-false (before t u))
climbs_cons t u (some us) = refl

rises_cons : (t : List ℕ) (o : Option (List (List ℕ))) → 0 < length t → or_else (cons_to t o) false ascending ≡ or_else (cons_to t o) false (climbs [])
unfolding climbs ascending
rises_cons t none h = refl
rises_cons t (some us) h = rw (before-some t h)

rises : (d : List ℕ) → or_else (row d) false ascending ≡ goes_on [] d
unfolding goes_on climbs ascending
rises [] = rw (row_end [] refl)
rises (b ∷ s) =
    let k : 4 ≤ size_of (b ∷ s) = size-least (b ∷ s) in
    by_test (heads (b ∷ s))
    (λ e. let l : 0 < length (take (size_of (b ∷ s)) (b ∷ s)) = simp length-take (omega arith) in
    rw (row_on (b ∷ s) (omega arith) e) (rises_cons (take (size_of (b ∷ s)) (b ∷ s)) (row (drop (size_of (b ∷ s)) (b ∷ s))) l))
    (λ e. rw (row_bad (b ∷ s) (omega arith) e))

pub good_start : (limit : ℕ) (d : List ℕ) → length d ≤ limit → good limit d ≡ goes_on [] d
unfolding good
good_start limit d h = rw (le-leb (length d) limit h) (rises d)

pub on_end : (t s : List ℕ) → length s ≡ 0 → goes_on t s ≡ true
unfolding goes_on climbs
on_end t s e = rw (row_end s e)

pub on_bad : (t s : List ℕ) → 0 < length s → heads s ≡ false → goes_on t s ≡ false
unfolding goes_on
on_bad t s p e = rw (row_bad s p e)

pub on_on : (t s : List ℕ) → 0 < length s → heads s ≡ true → goes_on t s ≡ before t (take (size_of s) s) && goes_on (take (size_of s) s) (drop (size_of s) s)
unfolding goes_on
on_on t s p e = rw (row_on s p e) (climbs_cons t (take (size_of s) s) (row (drop (size_of s) s)))

-- the same from a place on
module _ (t s : List ℕ) (at : ℕ) where
  pub good_end : length s ≤ at → goes_on t (drop at s) ≡ true
  good_end p = on_end t (drop at s) (simp length-drop (omega arith))

  pub good_bad : at < length s → heads (drop at s) ≡ false → goes_on t (drop at s) ≡ false
  good_bad p e = on_bad t (drop at s) (simp length-drop (omega arith)) e

  pub good_on : (n : ℕ) → at < length s → n ≡ size_of (drop at s) → heads (drop at s) ≡ true → (b : Bool) → b ≡ before t (take (at + n - at) (drop at s)) → goes_on t (drop at s) ≡ b && goes_on (take (at + n - at) (drop at s)) (drop (at + n) s)
  good_on n p q e b w =
      let z : at + n - at ≡ size_of (drop at s) = omega arith in
      on_on t (drop at s) (simp length-drop (omega arith)) e ∙ rw (drop-drop (size_of (drop at s)) at s, ← q) (rw (w, z, q))

-- ---- a whole TLV

pub record Whole (t : List ℕ) : Type 0 where
  pub heads : heads t ≡ true
  pub size : size_of t ≡ length t

abbrev pub Wholes : List (List ℕ) → Type 0
Wholes [] = Unit {0}
Wholes (t ∷ ts) = Whole t × Wholes ts

-- a TLV with more bytes after it
u16_append : (t s : List ℕ) (i : ℕ) → i + 2 ≤ length t → u16_at (t ++ s) i ≡ u16_at t i
u16_append t s i h = rw (get_or-append t s 0 i (omega arith), get_or-append t s 0 (i + 1) (omega arith))

module _ (t s : List ℕ) (w : Whole t) where
  whole_four : 4 ≤ length t
  whole_four = heads-four t w.heads

  pub length_of_append : length_of (t ++ s) ≡ length_of t
  unfolding length_of
  length_of_append = u16_append t s 2 whole_four

  pub size_append : size_of (t ++ s) ≡ length t
  unfolding size_of
  size_append = rw length_of_append w.size

  pub heads_append : heads (t ++ s) ≡ true
  unfolding size_of
  heads_append =
      let z : zeros (take (padding (length_of t)) (drop (4 + length_of t) t)) ≡ true = heads-zeros t w.heads in
      let y : 4 + (length_of t + padding (length_of t)) ≡ length t = w.size in
      let k : padding (length_of t) ≤ length (drop (4 + length_of t) t) = simp length-drop (omega arith) in
      heads_made (t ++ s) (omega (arith, whole_four, length-append t s)) (omega (arith, size_append, length-append t s))
      (rw (length_of_append, drop-append-le (4 + length_of t) t s (omega arith), take-append-le (padding (length_of t)) (drop (4 + length_of t) t) s k) z)

  pub row_append : row (t ++ s) ≡ cons_to t (row s)
  row_append =
      row_on (t ++ s) (omega (arith, whole_four, length-append t s)) heads_append
      ∙ rw (size_append, take-append_seam t s, drop-append_seam t s)

pub row-joined : (ts : List (List ℕ)) → Wholes ts → row (join_all ts) ≡ some ts
row-joined [] w = row_end [] refl
row-joined (t ∷ ts) w = row_append t (join_all ts) w.0 ∙ rw (row-joined ts w.1)

-- the TLV at the head is whole
pub whole_head : (s : List ℕ) → heads s ≡ true → Whole (take (size_of s) s)
unfolding size_of
whole_head s h =
    let f : size_of s ≤ length s = heads_fits s h in
    let k : 4 ≤ size_of s = size-least s in
    let l : length (take (size_of s) s) ≡ size_of s = length-take-le (size_of s) s f in
    let n : length_of (take (size_of s) s) ≡ length_of s = length_of_take s (size_of s) k in
    let z : size_of (take (size_of s) s) ≡ size_of s = size-take s (size_of s) k in
    let y : take (padding (length_of s)) (drop (4 + length_of s) (take (4 + (length_of s + padding (length_of s))) s)) ≡ take (padding (length_of s)) (drop (4 + length_of s) s)
    = rw (drop-take (4 + length_of s) (padding (length_of s)) (4 + (length_of s + padding (length_of s))) s (omega arith)) (take-take (padding (length_of s)) (padding (length_of s)) (drop (4 + length_of s) s) (omega arith)) in
    record {
      heads = heads_made (take (size_of s) s) (omega arith) (omega arith) (rw n (ap zeros y ∙ heads-zeros s h));
      size = z ∙ sym l;
    }

-- a row is its TLVs, one after the other
tlvs_are : (f : ℕ) (s : List ℕ) → length s ≤ f → is_row s ≡ true → (join_all (tlvs s) ≡ s) × Wholes (tlvs s)
tlvs_are zero [] l r = rw (tlvs_end [] refl) (refl, tt)
tlvs_are (suc f) [] l r = rw (tlvs_end [] refl) (refl, tt)
tlvs_are zero (b ∷ s) l r = absurd (omega arith)
tlvs_are (suc f) (b ∷ s) l r =
    let d = b ∷ s in
    let p : 0 < length (b ∷ s) = omega arith in
    let k : 4 ≤ size_of (b ∷ s) = size-least (b ∷ s) in
    let m : length (drop (size_of (b ∷ s)) (b ∷ s)) ≤ f = simp length-drop (omega arith) in
    let ih = tlvs_are f (drop (size_of (b ∷ s)) (b ∷ s)) m (is-rest (b ∷ s) p r) in
    rw (tlvs_on (b ∷ s) p r)
    (ap (λ (x : List ℕ). take (size_of (b ∷ s)) (b ∷ s) ++ x) ih.0 ∙ take-append-drop (size_of (b ∷ s)) (b ∷ s), (whole_head (b ∷ s) (is-heads (b ∷ s) p r), ih.1))

pub tlvs-joined : (s : List ℕ) → is_row s ≡ true → join_all (tlvs s) ≡ s
tlvs-joined s r = (tlvs_are (length s) s (omega arith) r).0

pub tlvs-whole : (s : List ℕ) → is_row s ≡ true → Wholes (tlvs s)
tlvs-whole s r = (tlvs_are (length s) s (omega arith) r).1

-- ---- a TLV in its place

place_here : (t u : List ℕ) (us : List (List ℕ)) → before t u ≡ true → place t (u ∷ us) ≡ t ∷ u ∷ us
unfolding place
place_here t u us b = rw b

place_later : (t u : List ℕ) (us : List (List ℕ)) → before t u ≡ false → place t (u ∷ us) ≡ u ∷ place t us
unfolding place
place_later t u us b = rw b

pub place-whole : (t : List ℕ) (us : List (List ℕ)) → Whole t → Wholes us → Wholes (place t us)
unfolding place
place-whole t [] w ws = (w, tt)
place-whole t (u ∷ us) w ws = by_test (before t u) (λ b. rw b (w, ws)) (λ b. rw b (ws.0, place-whole t us w ws.1))

place-climbs : (s t : List ℕ) (us : List (List ℕ)) → before s t ≡ true → climbs s us ≡ true → among t us ≡ false → climbs s (place t us) ≡ true
unfolding place climbs among
place-climbs s t [] b c a = rw b
place-climbs s t (u ∷ us) b c a =
    by_test (before t u) (λ q. rw (q, b, q) (and_right (before s u) (climbs u us) c))
    (λ q. rw q (and_both (before s u) (climbs u (place t us)) (and_left _ _ c)
    (place-climbs u t us (before_either t u q (or_left _ _ a)) (and_right (before s u) (climbs u us) c) (or_right (same t u) _ a))))

pub place-ascending : (t : List ℕ) (us : List (List ℕ)) → ascending us ≡ true → among t us ≡ false → ascending (place t us) ≡ true
unfolding place ascending among climbs
place-ascending t [] c a = refl
place-ascending t (u ∷ us) c a =
    by_test (before t u) (λ q. rw (q, q) c)
    (λ q. rw q (place-climbs u t us (before_either t u q (or_left _ _ a)) c (or_right (same t u) _ a)))

pub place-length : (t : List ℕ) (us : List (List ℕ)) → length (join_all (place t us)) ≡ length t + length (join_all us)
unfolding place
place-length t [] = length-append t []
place-length t (u ∷ us) =
    let l1 : length (t ++ (u ++ join_all us)) ≡ length t + length (u ++ join_all us) = length-append t (u ++ join_all us) in
    let l2 : length (u ++ join_all (place t us)) ≡ length u + length (join_all (place t us)) = length-append u (join_all (place t us)) in
    let l3 : length (u ++ join_all us) ≡ length u + length (join_all us) = length-append u (join_all us) in
    let ih = place-length t us in
    by_test (before t u) (λ q. rw q l1) (λ q. rw q (omega arith))

-- ---- good data

some-row : (o : Option (List (List ℕ))) → or_else o false ascending ≡ true → (or_else o false (λ ts. true) ≡ true) × (ascending (or_else o [] (λ ts. ts)) ≡ true)
some-row none e = no_way false e refl
some-row (some ts) e = (refl, e)

module _ (limit : ℕ) (d : List ℕ) (g : good limit d ≡ true) where
  pub good-fits : length d ≤ limit
  unfolding good
  good-fits = leb-true (length d) limit (and_left _ _ g)

  pub good-row : is_row d ≡ true
  unfolding good is_row
  good-row = (some-row (row d) (and_right (leb (length d) limit) _ g)).0

  pub good_rises : ascending (tlvs d) ≡ true
  unfolding good tlvs
  good_rises = (some-row (row d) (and_right (leb (length d) limit) _ g)).1

-- whole TLVs in ascending order, and few enough bytes, are good data
pub good_made : (limit : ℕ) (ts : List (List ℕ)) → Wholes ts → ascending ts ≡ true → length (join_all ts) ≤ limit → good limit (join_all ts) ≡ true
unfolding good
good_made limit ts w a l = and_both _ _ (le-leb (length (join_all ts)) limit l) (rw (row-joined ts w) a)

-- data that gains a TLV in its place is good data
module _ (limit : ℕ) (d t : List ℕ) (g : good limit d ≡ true) (w : Whole t) (n : among t (tlvs d) ≡ false) (l : length d + length t ≤ limit) where
  pub place-good : good limit (join_all (place t (tlvs d))) ≡ true
  place-good =
      let r : is_row d ≡ true = good-row limit d g in
      let q : length (join_all (tlvs d)) ≡ length d = ap length (tlvs-joined d r) in
      good_made limit (place t (tlvs d)) (place-whole t (tlvs d) w (tlvs-whole d r)) (place-ascending t (tlvs d) (good_rises limit d g) n) (omega (arith, place-length t (tlvs d)))

-- ---- the loop that looks for the place

-- the row d with t put in its place, from at on
module _ (d t : List ℕ) (at : ℕ) where
  pub put_end : length d ≤ at → take at d ++ join_all (place t (tlvs (drop at d))) ≡ take at d ++ (t ++ drop at d)
  unfolding place
  put_end p = let e : length (drop at d) ≡ 0 = simp length-drop (omega arith) in rw (tlvs_end (drop at d) e, drop_of_length-le d {i = at} p)

  module _ (h : Header) (k : Tells d at h) (r : is_row (drop at d) ≡ true) where
    pub put-here : before t (tlv_of d at h) ≡ true → take at d ++ join_all (place t (tlvs (drop at d))) ≡ take at d ++ (t ++ drop at d)
    put-here b = let q : join_all (tlvs (drop at d)) ≡ drop at d = tlvs-joined (drop at d) r in
        ap (λ (x : List ℕ). take at d ++ x) (rw (k.left, place_here t (tlv_of d at h) (tlvs (drop h.next d)) b) (ap (λ (x : List ℕ). t ++ x) (rw k.left at q)))

    pub put_later : before t (tlv_of d at h) ≡ false → take at d ++ join_all (place t (tlvs (drop at d))) ≡ take h.next d ++ join_all (place t (tlvs (drop h.next d)))
    put_later b =
        let o : at < h.next = k.onward in
        let e : at + (h.next - at) ≡ h.next = omega arith in
        let q : take (at + (h.next - at)) d ≡ take at d ++ take (h.next - at) (drop at d) = take-add at (h.next - at) d in
        rw (k.left, place_later t (tlv_of d at h) (tlvs (drop h.next d)) b)
        (sym (append_assoc (take at d) (tlv_of d at h) (join_all (place t (tlvs (drop h.next d)))))
        ∙ ap (λ (x : List ℕ). x ++ join_all (place t (tlvs (drop h.next d)))) (sym (rw e at q)))

    pub among_later : same t (tlv_of d at h) ≡ false → among t (tlvs (drop at d)) ≡ among t (tlvs (drop h.next d))
    unfolding among
    among_later b = rw (k.left, b)

  pub among_end : length d ≤ at → among t (tlvs (drop at d)) ≡ false
  unfolding among
  among_end p = let e : length (drop at d) ≡ 0 = simp length-drop (omega arith) in rw (tlvs_end (drop at d) e)

-- ---- TLVs left out: what stays is good

before-all : (t u : List ℕ) (us : List (List ℕ)) → before t u ≡ true → climbs u us ≡ true → climbs t us ≡ true
unfolding climbs
before-all t u [] b c = refl
before-all t u (v ∷ us) b c = and_both _ _ (before_trans t u v b (and_left _ _ c)) (and_right (before u v) _ c)

module _ (f : List ℕ → Bool) where
  keep-climbs : (t : List ℕ) (us : List (List ℕ)) → climbs t us ≡ true → climbs t (keep f us) ≡ true
  unfolding climbs
  keep-climbs t [] c = refl
  keep-climbs t (u ∷ us) c =
      let b : before t u ≡ true = and_left _ _ c in
      let k : climbs u us ≡ true = and_right (before t u) _ c in
      by_test (f u) (λ q. rw (q, b) (keep-climbs u us k)) (λ q. rw q (keep-climbs t us (before-all t u us b k)))

  keep-ascending : (us : List (List ℕ)) → ascending us ≡ true → ascending (keep f us) ≡ true
  unfolding ascending climbs
  keep-ascending [] c = refl
  keep-ascending (u ∷ us) c = by_test (f u) (λ q. rw q (keep-climbs u us c)) (λ q. rw q (keep-ascending us (rises_tail u us c)))
    where
      rises_tail : (t : List ℕ) (us : List (List ℕ)) → climbs t us ≡ true → ascending us ≡ true
      rises_tail t [] c = refl
      rises_tail t (u ∷ us) c = and_right (before t u) _ c

  pub keep-whole : (us : List (List ℕ)) → Wholes us → Wholes (keep f us)
  keep-whole [] w = tt
  keep-whole (u ∷ us) w = by_test (f u) (λ q. rw q (w.0, keep-whole us w.1)) (λ q. rw q (keep-whole us w.1))

  keep-length : (us : List (List ℕ)) → length (join_all (keep f us)) ≤ length (join_all us)
  keep-length [] = omega arith
  keep-length (u ∷ us) =
      let ih = keep-length us in
      let l : length (u ++ join_all us) ≡ length u + length (join_all us) = length-append u (join_all us) in
      let m : length (u ++ join_all (keep f us)) ≡ length u + length (join_all (keep f us)) = length-append u (join_all (keep f us)) in
      by_test (f u) (λ q. rw q (omega arith)) (λ q. rw q (omega arith))

  pub keep-good : (limit : ℕ) (d : List ℕ) → good limit d ≡ true → good limit (join_all (keep f (tlvs d))) ≡ true
  keep-good limit d g =
      let r : is_row d ≡ true = good-row limit d g in
      let q : length (join_all (tlvs d)) ≡ length d = ap length (tlvs-joined d r) in
      let h : length d ≤ limit = good-fits limit d g in
      good_made limit (keep f (tlvs d)) (keep-whole (tlvs d) (tlvs-whole d r)) (keep-ascending (tlvs d) (good_rises limit d g)) (omega (arith, keep-length (tlvs d)))

-- ---- a TLV taken out

same_after : (t u : List ℕ) → before t u ≡ true → same t u ≡ false
same_after t u b = by_test (same t u) (λ e. no_way (before t u) b (rw (same-is t u e) (before_self u))) (λ e. e)

without-above : (t : List ℕ) (us : List (List ℕ)) → climbs t us ≡ true → without t us ≡ us
unfolding climbs without
without-above t [] c = refl
without-above t (u ∷ us) c =
    let b : before t u ≡ true = and_left _ _ c in
    let e : same t u ≡ false = same_after t u b in
    rw e (ap (λ (x : List (List ℕ)). u ∷ x) (without-above t us (before-all t u us b (and_right (before t u) _ c))))

without-here : (t u : List ℕ) (us : List (List ℕ)) → same t u ≡ true → ascending (u ∷ us) ≡ true → without t (u ∷ us) ≡ us
unfolding without ascending
without-here t u us e a = let k : climbs t us ≡ true = rw (same-is t u e) a in rw e (without-above t us k)

without_later : (t u : List ℕ) (us : List (List ℕ)) → same t u ≡ false → without t (u ∷ us) ≡ u ∷ without t us
unfolding without
without_later t u us e = rw e

ascending_tail : (u : List ℕ) (us : List (List ℕ)) → ascending (u ∷ us) ≡ true → ascending us ≡ true
unfolding ascending climbs
ascending_tail u [] a = refl
ascending_tail u (v ∷ us) a = and_right (before u v) _ a

-- the row d without t, from at on: what find_tlv's loop keeps
module _ (d t : List ℕ) (at : ℕ) (h : Header) (k : Tells d at h) (a : ascending (tlvs (drop at d)) ≡ true) where
  pub ascending_on : ascending (tlvs (drop h.next d)) ≡ true
  ascending_on = ascending_tail (tlv_of d at h) (tlvs (drop h.next d)) (rw k.left at a)

  pub without_on : same t (tlv_of d at h) ≡ false
      → take at d ++ join_all (without t (tlvs (drop at d))) ≡ take h.next d ++ join_all (without t (tlvs (drop h.next d)))
  without_on b =
      let o : at < h.next = k.onward in
      let e : at + (h.next - at) ≡ h.next = omega arith in
      let q : take (at + (h.next - at)) d ≡ take at d ++ take (h.next - at) (drop at d) = take-add at (h.next - at) d in
      rw (k.left, without_later t (tlv_of d at h) (tlvs (drop h.next d)) b)
      (sym (append_assoc (take at d) (tlv_of d at h) (join_all (without t (tlvs (drop h.next d)))))
      ∙ ap (λ (x : List ℕ). x ++ join_all (without t (tlvs (drop h.next d)))) (sym (rw e at q)))

  -- the TLV is found
  pub stands_here : same t (tlv_of d at h) ≡ true → is_row (drop at d) ≡ true → among t (tlvs d) ≡ among t (tlvs (drop at d))
      → join_all (without t (tlvs d)) ≡ take at d ++ join_all (without t (tlvs (drop at d))) → TlvAt d t at
  unfolding among
  stands_here b r n w =
      let o : at < h.next = k.onward in
      let f : h.next ≤ length d = k.within in
      let l : length t ≡ h.next - at = ap length (same-is t (tlv_of d at h) b) ∙ part_length d at (h.next - at) (omega arith) in
      let e : at + length t ≡ h.next = omega arith in
      record {
        there = n ∙ rw (k.left, b);
        within = omega arith;
        rest = rw e (sym (w ∙ ap (λ (x : List ℕ). take at d ++ x)
            (rw (k.left, without-here t (tlv_of d at h) (tlvs (drop h.next d)) b (rw k.left at a)) (tlvs-joined (drop h.next d) k.again))));
      }

-- ---- rows of whole TLVs

pub wholes_append : (ts us : List (List ℕ)) → Wholes ts → Wholes us → Wholes (ts ++ us)
wholes_append [] us h k = k
wholes_append (t ∷ ts) us h k = (h.0, wholes_append ts us h.1 k)

pub tlvs-row : (ts : List (List ℕ)) → Wholes ts → tlvs (join_all ts) ≡ ts
unfolding tlvs
tlvs-row ts w = rw (row-joined ts w)

module _ (t : List ℕ) where
  pub place_in : (u : List ℕ) (us : List (List ℕ)) → In u (place t us) → (u ≡ t) ⊎ In u us
  unfolding place
  place_in u [] m = m
  place_in u (x ∷ us) m = by_test (before t x) (λ b. rw b at m) (λ b. ⊎_elim (λ e. inr (inl e)) (λ r. ⊎_elim inl (λ k. inr (inr k)) (place_in u us r)) (rw b at m))

  pub in_place : (u : List ℕ) (us : List (List ℕ)) → (u ≡ t) ⊎ In u us → In u (place t us)
  unfolding place
  in_place u [] m = m
  in_place u (x ∷ us) m = by_test (before t x) (λ b. rw b m) (λ b. rw b (⊎_elim (λ e. inr (in_place u us (inl e))) (⊎_elim inl (λ r. inr (in_place u us (inr r)))) m))

  -- a test that t does not meet
  pub keep-place : (f : List ℕ → Bool) (us : List (List ℕ)) → f t ≡ false → keep f (place t us) ≡ keep f us
  unfolding place
  keep-place f [] n = rw n
  keep-place f (u ∷ us) n = by_test (before t u) (λ b. rw (b, n)) (λ b. by_test (f u) (λ q. rw (b, q, keep-place f us n)) (λ q. rw (b, q, keep-place f us n)))

  pub among_in : (us : List (List ℕ)) → among t us ≡ true → In t us
  unfolding among
  among_in [] e = no_way false e refl
  among_in (u ∷ us) e = by_test (same t u) (λ b. inl (same-is t u b)) (λ b. inr (among_in us (rw b at e)))

  pub not-among : (u : List ℕ) (us : List (List ℕ)) → among t us ≡ false → In u us → same t u ≡ false
  unfolding among
  not-among u [] e m = absurd m
  not-among u (x ∷ us) e (inl q) = rw q (or_left (same t x) (among t us) e)
  not-among u (x ∷ us) e (inr m) = not-among u us (or_right (same t x) (among t us) e) m

-- a TLV has four bytes at least
wholes_few : (ts : List (List ℕ)) → Wholes ts → 4 * length ts ≤ length (join_all ts)
wholes_few [] w = omega arith
wholes_few (t ∷ ts) w = omega (arith, heads-four t w.0.heads, wholes_few ts w.1, length-append t (join_all ts))

pub tlvs-few : (d : List ℕ) → is_row d ≡ true → 4 * length (tlvs d) ≤ length d
tlvs-few d r = omega (arith, wholes_few (tlvs d) (tlvs-whole d r), ap length (tlvs-joined d r))

-- a row of whole TLVs needs no padding: its length is a multiple of four
whole_length : (t : List ℕ) → Whole t → length t % 4 ≡ 0
unfolding size_of
whole_length t w = omega (arith, w.size)

wholes_length : (ts : List (List ℕ)) → Wholes ts → length (join_all ts) % 4 ≡ 0
wholes_length [] w = refl
wholes_length (t ∷ ts) w = omega (arith, length-append t (join_all ts), whole_length t w.0, wholes_length ts w.1)

pub row-length : (d : List ℕ) → is_row d ≡ true → length d % 4 ≡ 0
row-length d r = omega (arith, wholes_length (tlvs d) (tlvs-whole d r), ap length (tlvs-joined d r))

-- ---- the TLVs of a row of bytes are bytes

bytes-part : (ts : List (List ℕ)) (t : List ℕ) → Bytes (join_all ts) → In t ts → Bytes t
bytes-part [] t h m = absurd m
bytes-part (u ∷ ts) t h (inl e) = rw e (bytes_left u (join_all ts) h)
bytes-part (u ∷ ts) t h (inr m) = bytes-part ts t (bytes_right u (join_all ts) h) m

none_found : (o : Option (List (List ℕ))) → or_else o false (λ ts. true) ≡ false → or_else o [] (λ ts. ts) ≡ []
none_found none e = refl
none_found (some ts) e = no_way true refl e

pub no_tlvs : (s : List ℕ) → is_row s ≡ false → tlvs s ≡ []
unfolding is_row tlvs
no_tlvs s r = none_found (row s) r

-- whatever the bytes
pub wholes_always : (s : List ℕ) → Wholes (tlvs s)
wholes_always s = by_test (is_row s) (tlvs-whole s) (λ r. rw (no_tlvs s r) tt)

pub place-tlvs : (t d : List ℕ) → Whole t → tlvs (join_all (place t (tlvs d))) ≡ place t (tlvs d)
place-tlvs t d w = tlvs-row (place t (tlvs d)) (place-whole t (tlvs d) w (wholes_always d))

pub keep-tlvs : (f : List ℕ → Bool) (d : List ℕ) → tlvs (join_all (keep f (tlvs d))) ≡ keep f (tlvs d)
keep-tlvs f d = tlvs-row (keep f (tlvs d)) (keep-whole f (tlvs d) (wholes_always d))

pub tlvs-bytes : (s t : List ℕ) → Bytes s → In t (tlvs s) → Bytes t
tlvs-bytes s t h m = by_test (is_row s) (λ r. bytes-part (tlvs s) t (rw (tlvs-joined s r) h) m) (λ r. absurd (rw (no_tlvs s r) at m))
