-- The TLVs of good data ascend by type: below a place stand the lower types, from it on the higher ones. Assumes nothing.
use mathlib.Core.Path.{◌≡◌, refl, sym, ap, ◌∙◌, subst}
use mathlib.Core.Bool.{true}
use mathlib.Core.Logic.{inl, inr}
use mathlib.Core.List.{List, [], ◌∷◌, ◌++◌, append_assoc, append-nil}
use Prim.Native.Nat.{ℕ, ◌+◌, ◌-◌, ◌*◌, ◌≤◌, ◌<◌}
use native.Mathlib.Omega.{arith}
use lib.ListN.{length, take, drop, length-append, length-drop}
use lib.Seq.{take_at}
use borrow.Author.Tests.{le-ltb, ne_eqb}
use Rattle.base.specs.Bytes.{Bytes}
use Rattle.base.specs.Lists.{In, All, keep, join_all}
use Rattle.base.proofs.Tests.{no_way, by_order, and_left, and_right}
use Rattle.base.proofs.Lists.{in_all, all_append, keep_append, join_append}
use Rattle.wire.specs.Row.{type_of, is_row, tlvs}
use Rattle.wire.specs.Order.{before, climbs, ascending, good}
use Rattle.wire.specs.Answers.{Tells}
use Rattle.wire.specs.declared.row.Header.{Header}
use Rattle.wire.proofs.Ordering.{before_head, before_tail}
use Rattle.wire.proofs.Rows.{tlvs_end, heads-four}
use Rattle.wire.proofs.Good.{Whole, Wholes, good-row, good_rises, row-joined, tlvs-joined, tlvs-whole, tlvs-row, tlvs-bytes}
use Rattle.model.specs.Reach.{is_peer_tlv, links, joined}
use Rattle.reach.specs.Marks.{joins}
use Rattle.reach.specs.Parts.{Passed, FirstFrom, Parted, Front}

-- ---- TLV by TLV up to the first of the type or more

module _ (d : List ℕ) (at least : ℕ) where
  pub passed_none : at ≤ length d → is_row (drop at d) ≡ true → Passed d at least at
  passed_none h r = record { below = []; parts = refl; low = tt; onward = omega arith; within = h; again = r }

  module _ (i : ℕ) (p : Passed d at least i) where
    pub passed_on : (h : Header) → Tells d i h → h.kind < least → Passed d at least h.next
    passed_on h t l =
        let one : List (List ℕ) = take (h.next - i) (drop i d) ∷ [] in
        record {
          below = p.below ++ one;
          parts = p.parts ∙ ap (λ (z : List (List ℕ)). p.below ++ z) t.left ∙ sym (append_assoc p.below one (tlvs (drop h.next d)));
          low = all_append (λ t. type_of t < least) p.below one p.low (subst (λ (k : ℕ). k < least) t.kind l, tt);
          onward = omega (arith, p.onward, t.onward);
          within = t.within;
          again = t.again;
        }

    pub parted_here : (h : Header) → Tells d i h → least ≤ h.kind → Parted d at least i
    parted_here h t l = record { passed = p; high = rw t.left (subst (λ (k : ℕ). least ≤ k) t.kind l) }

    pub parted_end : length d ≤ i → Parted d at least i
    parted_end e = record { passed = p; high = rw (tlvs_end (drop i d) (length-drop i d ∙ omega arith)) tt }

-- ---- by type

-- an earlier TLV has no higher type
before_type : (x y x' y' : ℕ) (t u : List ℕ) → y < 256 → before (x ∷ y ∷ t) (x' ∷ y' ∷ u) ≡ true → x * 256 + y ≤ x' * 256 + y'
before_type x y x' y' t u b e =
    by_order x x' (λ l. omega arith)
    (λ q. by_order y y' (λ l. omega arith) (λ r. omega arith)
    (λ g. no_way (before (y ∷ t) (y' ∷ u)) (sym (before_tail x x' (y ∷ t) (y' ∷ u) q) ∙ e) (before_head y y' t u (λ z. omega arith) ∙ le-ltb y y' (omega arith))))
    (λ g. no_way (before (x ∷ y ∷ t) (x' ∷ y' ∷ u)) e (before_head x x' (y ∷ t) (y' ∷ u) (λ z. omega arith) ∙ le-ltb x x' (omega arith)))

types_rise : (t u : List ℕ) → 2 ≤ length t → 2 ≤ length u → Bytes t → before t u ≡ true → type_of t ≤ type_of u
unfolding type_of
types_rise [] u p q b e = absurd (omega arith)
types_rise (x ∷ []) u p q b e = absurd (omega arith)
types_rise (x ∷ y ∷ t) [] p q b e = absurd (omega arith)
types_rise (x ∷ y ∷ t) (x' ∷ []) p q b e = absurd (omega arith)
types_rise (x ∷ y ∷ t) (x' ∷ y' ∷ u) p q b e = before_type x y x' y' t u b.1.0 e

abbrev Typed : List ℕ → Type 0
Typed t = Bytes t × (2 ≤ length t)

climbs-from : (k : ℕ) (t : List ℕ) (us : List (List ℕ)) → climbs t us ≡ true → Typed t → All Typed us → k ≤ type_of t → All (λ u. k ≤ type_of u) us
unfolding climbs
climbs-from k t [] c b bs l = tt
climbs-from k t (u ∷ us) c b bs l =
    let r : type_of t ≤ type_of u = types_rise t u b.1 bs.0.1 b.0 (and_left (before t u) (climbs u us) c) in
    let n : k ≤ type_of u = omega arith in
    (n, climbs-from k u us (and_right (before t u) (climbs u us) c) bs.0 bs.1 n)

from_first : (k : ℕ) (ts : List (List ℕ)) → ascending ts ≡ true → All Typed ts → FirstFrom k ts → All (λ t. k ≤ type_of t) ts
unfolding ascending
from_first k [] c b l = tt
from_first k (t ∷ ts) c b l = (l, climbs-from k t ts c b.0 b.1 l)

-- ---- parts of a list

climbs_right : (t : List ℕ) (ts us : List (List ℕ)) → climbs t (ts ++ us) ≡ true → ascending us ≡ true
unfolding climbs ascending
climbs_right t [] [] c = refl
climbs_right t [] (u ∷ us) c = and_right (before t u) (climbs u us) c
climbs_right t (s ∷ ts) us c = climbs_right s ts us (and_right (before t s) (climbs s (ts ++ us)) c)

rises_right : (ts us : List (List ℕ)) → ascending (ts ++ us) ≡ true → ascending us ≡ true
unfolding ascending
rises_right [] us c = c
rises_right (t ∷ ts) us c = climbs_right t ts us c

module _ (P : List ℕ → Type 0) where
  all_right : (ts us : List (List ℕ)) → All P (ts ++ us) → All P us
  all_right [] us h = h
  all_right (t ∷ ts) us h = all_right ts us h.1

  pub all_left : (ts us : List (List ℕ)) → All P (ts ++ us) → All P ts
  all_left [] us h = tt
  all_left (t ∷ ts) us h = (h.0, all_left ts us h.1)

wholes_left : (ts us : List (List ℕ)) → Wholes (ts ++ us) → Wholes ts
wholes_left [] us h = tt
wholes_left (t ∷ ts) us h = (h.0, wholes_left ts us h.1)

-- ---- good data from a place on

-- its TLVs ascend, and have types
pub record Rising (d : List ℕ) (at : ℕ) : Type 0 where
  pub up : ascending (tlvs (drop at d)) ≡ true
  pub typed : All Typed (tlvs (drop at d))

pub rising : (limit : ℕ) (d : List ℕ) → good limit d ≡ true → Bytes d → Rising d 0
rising limit d g b =
    record {
      up = good_rises limit d g;
      typed = in_all Typed (tlvs d) (λ t i. (tlvs-bytes d t b i, long t (all_wholes (tlvs d) (tlvs-whole d (good-row limit d g)) t i)));
    }
  where
    long : (t : List ℕ) → Whole t → 2 ≤ length t
    long t w = omega (arith, heads-four t w.heads)

    all_wholes : (ts : List (List ℕ)) → Wholes ts → (t : List ℕ) → In t ts → Whole t
    all_wholes [] w t x = elim x [ ]
    all_wholes (u ∷ ts) w t (inl q) = subst Whole (sym q) w.0
    all_wholes (u ∷ ts) w t (inr i) = all_wholes ts w.1 t i

module _ (d : List ℕ) (at : ℕ) (k : Rising d at) (least r : ℕ) where
  pub rising_on : Passed d at least r → Rising d r
  rising_on p =
      record {
        up = rises_right p.below (tlvs (drop r d)) (subst (λ (z : List (List ℕ)). ascending z ≡ true) p.parts k.up);
        typed = all_right Typed p.below (tlvs (drop r d)) (subst (All Typed) p.parts k.typed);
      }

  -- no lower type comes after the place
  pub parted_above : Parted d at least r → All (λ t. least ≤ type_of t) (tlvs (drop r d))
  parted_above p = let n = rising_on p.passed in from_first least (tlvs (drop r d)) n.up n.typed p.high

-- ---- the bytes up to the place are those of the TLVs passed

passed-bytes : (d : List ℕ) (at least r : ℕ) (p : Passed d at least r) → is_row (drop at d) ≡ true → drop at d ≡ join_all p.below ++ drop r d
passed-bytes d at least r p w =
    sym (tlvs-joined (drop at d) w) ∙ ap join_all p.parts ∙ join_append p.below (tlvs (drop r d)) ∙ ap (λ (z : List ℕ). join_all p.below ++ z) (tlvs-joined (drop r d) p.again)

module _ (d : List ℕ) (least r : ℕ) (p : Passed d 0 least r) (w : is_row d ≡ true) where
  pub front_bytes : take r d ≡ join_all p.below
  front_bytes =
      let q : d ≡ join_all p.below ++ drop r d = passed-bytes d 0 least r p w in
      let n : length d ≡ length (join_all p.below) + length (drop r d) = ap length q ∙ length-append (join_all p.below) (drop r d) in
      let k : length (join_all p.below) ≡ r = omega (arith, n, length-drop r d, p.within) in
      ap (take r) q ∙ take_at (join_all p.below) (drop r d) r k

  front_wholes : Wholes p.below
  front_wholes = wholes_left p.below (tlvs (drop r d)) (subst Wholes p.parts (tlvs-whole d w))

  front-tlvs : tlvs (take r d) ≡ p.below
  front-tlvs = ap tlvs front_bytes ∙ tlvs-row p.below front_wholes

  front-row : is_row (take r d) ≡ true
  unfolding is_row
  front-row = rw (front_bytes, row-joined p.below front_wholes)

-- ---- the links of good data stand in its front part

no_links : (ts : List (List ℕ)) → All (λ t. 9 ≤ type_of t) ts → keep is_peer_tlv ts ≡ []
no_links [] h = refl
no_links (t ∷ ts) h = rw (ne_eqb (type_of t) 8 (λ z. omega (arith, h.0)), no_links ts h.1)

module _ (limit : ℕ) (d : List ℕ) (g : good limit d ≡ true) (b : Bytes d) (r : ℕ) (p : Parted d 0 9 r) where
  front_keeps : keep is_peer_tlv (tlvs d) ≡ keep is_peer_tlv p.passed.below
  front_keeps =
      ap (keep is_peer_tlv) p.passed.parts
      ∙ keep_append is_peer_tlv p.passed.below (tlvs (drop r d))
      ∙ ap (λ (z : List (List ℕ)). keep is_peer_tlv p.passed.below ++ z) (no_links (tlvs (drop r d)) (parted_above d 0 (rising limit d g b) 9 r p))
      ∙ append-nil (keep is_peer_tlv p.passed.below)

  pub front-is : Front d (take r d)
  unfolding links
  front-is =
      let w : is_row d ≡ true = good-row limit d g in
      record { row = front-row d 9 r p.passed w; same = rw (front-tlvs d 9 r p.passed w, front_keeps) }

-- who is joined depends on the links alone
pub joins-front : (r n : ℕ) (x x' y y' : List ℕ) → Front x x' → Front y y' → joins r x' n y' ≡ joins r x n y
unfolding joined
joins-front r n x x' y y' f g = rw (f.same, g.same)
