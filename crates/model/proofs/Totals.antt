-- Totals and sums: payment by payment and node by node, their bounds, and the sum over all households. Assumes nothing.
use Rattle.std.proofs.Common.{◌≡◌, ℕ, zero, suc, ◌+◌, ◌-◌, ◌*◌, ◌/◌, ◌^◌, ◌<◌, ◌≤◌, Bool, true, false, cond, eqb, List, [], ◌∷◌, ◌++◌, map, length, take, drop, ℤ, pos, ◌+ℤ◌, sym, refl, ap, ◌∙◌, append-nil, arith, length-append, length-drop, eq-eqb, ne_eqb, eqb-true}
use mathlib.Core.Option.{none, some}
use lib.ListN.{length-map}
use lib.IntN.{+ℤ_idl, +ℤ_idr, +ℤ_assoc}
use lib.Signed.{mag}
use borrow.Author.Tests.{eqb-false}
use Rattle.base.specs.Lists.{keep, join_all, All}
use Rattle.base.specs.Signed.{sumℤ}
use Rattle.base.proofs.Tests.{by_test}
use Rattle.base.proofs.Signed.{sum_append, sum_both, sum_zeros}
use Rattle.wire.specs.declared.row.Header.{Header}
use Rattle.wire.specs.Row.{type_of, value_of, row, tlvs}
use Rattle.wire.specs.Order.{good}
use Rattle.wire.specs.Payment.{Payment, amount_limit, most_household, payment_tlv, read_payment, Payable}
use Rattle.wire.specs.Answers.{tlv_of, Tells}
use Rattle.wire.proofs.Rows.{tlvs_end}
use Rattle.wire.proofs.Good.{row-joined, good-fits, good-row, tlvs-few}
use Rattle.wire.proofs.Encoded.{payment-whole, payment_type, payment-read}
use Rattle.wire.proofs.Payments.{read-payable, payable-mag, mag-step, mag_sum}
use Rattle.model.specs.Figures.{most_nodes, data_limit}
use Rattle.model.specs.Table.{Entry, Statement, statements}
use Rattle.model.specs.Reach.{reached}
use Rattle.model.specs.State.{State}
use Rattle.model.specs.Invariant.{EntryFits, Valid}
use Rattle.model.specs.Totals.{is_payment, payments_of, payments_in, readable, unreadable, amounts, total_of, sum_of, reachable, total, sum}
use Rattle.base.proofs.Options.{by_option}
use Rattle.base.proofs.Lists.{map_append, join_append, keep_append, keep-every, all_keep, all_more, keep-few, map_same}
use Rattle.model.specs.Theorems.{up_from, amount_for, unreadable_one, sumℕ, TotalsAddUp}

-- ---- the payment TLVs, node by node and TLV by TLV

pub payments_append : (ss us : List Statement) → payments_in (ss ++ us) ≡ payments_in ss ++ payments_in us
unfolding payments_in
payments_append ss us =
    let f : Statement → List (List ℕ) = λ s. payments_of s.node_data in
    ap join_all (map_append f ss us) ∙ join_append (map f ss) (map f us)

-- the TLV at a place of node data is one of another type, or a payment; there is none at the end
module _ (d : List ℕ) (at : ℕ) where
  pub payments_end : length d ≤ at → payments_of (drop at d) ≡ []
  payments_end p = rw (tlvs_end (drop at d) (simp length-drop (omega arith)))

  module _ (h : Header) (k : Tells d at h) where
    pub payments_pass : (h.kind ≡ 40 → ⊥) → payments_of (drop at d) ≡ payments_of (drop h.next d)
    payments_pass n = rw (k.left, ne_eqb (type_of (tlv_of d at h)) 40 (λ e. n (k.kind ∙ e)))

    pub payments_meet : h.kind ≡ 40 → payments_of (drop at d) ≡ take (h.next - at) (drop at d) ∷ payments_of (drop h.next d)
    payments_meet e = rw (k.left, eq-eqb (type_of (tlv_of d at h)) 40 (sym k.kind ∙ e))

-- ---- readable and unreadable ones

module _ (t : List ℕ) (ts : List (List ℕ)) where
  pub readable_no : read_payment (value_of t) ≡ none → readable (t ∷ ts) ≡ readable ts
  unfolding readable
  readable_no e = rw e

  pub readable_yes : (p : Payment) → read_payment (value_of t) ≡ some p → readable (t ∷ ts) ≡ p ∷ readable ts
  unfolding readable
  readable_yes p e = rw e

  pub unreadable_no : read_payment (value_of t) ≡ none → unreadable (t ∷ ts) ≡ suc (unreadable ts)
  unfolding unreadable
  unreadable_no e = rw e

  pub unreadable_yes : (p : Payment) → read_payment (value_of t) ≡ some p → unreadable (t ∷ ts) ≡ unreadable ts
  unfolding unreadable
  unreadable_yes p e = rw e

pub readable_append : (ts us : List (List ℕ)) → readable (ts ++ us) ≡ readable ts ++ readable us
unfolding readable
readable_append [] us = refl
readable_append (t ∷ ts) us = by_option (read_payment (value_of t)) (λ e. rw e (readable_append ts us)) (λ p e. rw (e, readable_append ts us))

pub unreadable_append : (ts us : List (List ℕ)) → unreadable (ts ++ us) ≡ unreadable ts + unreadable us
unfolding unreadable
unreadable_append [] us = omega arith
unreadable_append (t ∷ ts) us =
    let ih = unreadable_append ts us in
    by_option (read_payment (value_of t)) (λ e. rw e (omega arith)) (λ p e. rw e ih)

-- each payment TLV is one of the two
pub payments_counted : (ts : List (List ℕ)) → length (readable ts) + unreadable ts ≡ length ts
unfolding readable unreadable
payments_counted [] = refl
payments_counted (t ∷ ts) =
    let ih = payments_counted ts in
    by_option (read_payment (value_of t)) (λ e. rw e (omega arith)) (λ p e. rw e (omega arith))

-- what is read can be written: households 1 to 9,999, amounts of 31 bits and a sign
pub readable-payable : (ts : List (List ℕ)) → All Payable (readable ts)
unfolding readable
readable-payable [] = tt
readable-payable (t ∷ ts) = by_option (read_payment (value_of t)) (λ e. rw e (readable-payable ts)) (λ p e. rw e (read-payable (value_of t) p e, readable-payable ts))

amounts-small : (ps : List Payment) → All Payable ps → All (λ x. mag x < amount_limit) (amounts ps)
amounts-small [] h = tt
amounts-small (p ∷ ps) h = (payable-mag p h.0, amounts-small ps h.1)

-- ---- the amounts that a test picks, summed: a household's total picks its own, the sum picks all

unfoldable pub tally : (Payment → Bool) → List (List ℕ) → ℤ
tally f ts = sumℤ (amounts (keep f (readable ts)))

abbrev pub of_household : ℕ → Payment → Bool
of_household h p = eqb p.household h

abbrev pub any_payment : Payment → Bool
any_payment p = true

module _ (f : Payment → Bool) where
  pub tally-none : tally f [] ≡ pos 0
  unfolding tally readable
  tally-none = refl

  -- one TLV more at the head: unreadable, not picked, picked
  module _ (t : List ℕ) (ts : List (List ℕ)) where
    pub tally-unreadable : read_payment (value_of t) ≡ none → tally f (t ∷ ts) ≡ tally f ts
    unfolding tally
    tally-unreadable e = rw (readable_no t ts e)

    module _ (p : Payment) (e : read_payment (value_of t) ≡ some p) where
      pub tally_pass : f p ≡ false → tally f (t ∷ ts) ≡ tally f ts
      unfolding tally
      tally_pass b = rw (readable_yes t ts p e, b)

      pub tally_pick : f p ≡ true → tally f (t ∷ ts) ≡ p.amount +ℤ tally f ts
      unfolding tally
      tally_pick b = rw (readable_yes t ts p e, b)

      -- the same for a loop that has summed a so far
      pub tally-onward : f p ≡ true → (a : ℤ) → a +ℤ tally f (t ∷ ts) ≡ (a +ℤ p.amount) +ℤ tally f ts
      tally-onward b a = rw (tally_pick b) (sym (+ℤ_assoc a p.amount (tally f ts)))

  pub tally_append : (ts us : List (List ℕ)) → tally f (ts ++ us) ≡ tally f ts +ℤ tally f us
  unfolding tally
  tally_append ts us =
      let a : List Payment = keep f (readable ts) in
      let b : List Payment = keep f (readable us) in
      ap (λ (ps : List Payment). sumℤ (amounts (keep f ps))) (readable_append ts us)
      ∙ ap (λ (ps : List Payment). sumℤ (amounts ps)) (keep_append f (readable ts) (readable us))
      ∙ ap sumℤ (map_append (λ (p : Payment). p.amount) a b) ∙ sum_append (amounts a) (amounts b)

  pub tally-nodes : (ss us : List Statement) → tally f (payments_in (ss ++ us)) ≡ tally f (payments_in ss) +ℤ tally f (payments_in us)
  tally-nodes ss us = ap (tally f) (payments_append ss us) ∙ tally_append (payments_in ss) (payments_in us)

  -- k payments sum to at most k times the largest
  pub tally-mag : (ts : List (List ℕ)) → mag (tally f ts) ≤ length ts * amount_limit
  unfolding tally
  tally-mag ts =
      let ps : List Payment = keep f (readable ts) in
      omega (arith, mag_sum (amounts ps) (amounts-small ps (all_keep Payable f (readable ts) (readable-payable ts))), length-map ps (λ (p : Payment). p.amount), keep-few f (readable ts), payments_counted ts)

module _ (h : ℕ) where
  pub total-is : (ss : List Statement) → total_of h ss ≡ tally (of_household h) (payments_in ss)
  unfolding total_of tally
  total-is ss = refl

  pub total-nodes : (ss us : List Statement) → total_of h (ss ++ us) ≡ total_of h ss +ℤ total_of h us
  total-nodes ss us = rw (total-is (ss ++ us), total-is ss, total-is us) (tally-nodes (of_household h) ss us)

pub sum_is : (ss : List Statement) → sum_of ss ≡ tally any_payment (payments_in ss)
unfolding sum_of tally
sum_is ss = rw (keep-every any_payment (readable (payments_in ss)) (λ p m. refl))

-- one payment that can be written: its amount, if it is picked
pub tally-one : (f : Payment → Bool) (p : Payment) → Payable p → tally f (payment_tlv p ∷ []) ≡ cond (f p) p.amount (pos 0)
tally-one f p k =
    let r : read_payment (value_of (payment_tlv p)) ≡ some p = payment-read p k in
    by_test (f p)
    (λ b. rw b (tally_pick f (payment_tlv p) [] p r b ∙ rw (tally-none f) (+ℤ_idr p.amount)))
    (λ b. rw b (tally_pass f (payment_tlv p) [] p r b ∙ tally-none f))

-- a node that publishes one payment and no more: that amount is its household's total, and nothing is another's
module _ (p : Payment) (k : Payable p) (s : Statement) (e : s.node_data ≡ payment_tlv p) where
  single-tlv : tlvs s.node_data ≡ payment_tlv p ∷ []
  unfolding tlvs
  single-tlv = let r : row (payment_tlv p) ≡ some (payment_tlv p ∷ []) = rw (append-nil (payment_tlv p)) at (row-joined (payment_tlv p ∷ []) (payment-whole p, tt)) in rw (e, r)

  single-payment : payments_in (s ∷ []) ≡ payment_tlv p ∷ []
  unfolding payments_in
  single-payment = rw (single-tlv, eq-eqb (type_of (payment_tlv p)) 40 (payment_type p))

  pub total-single : (h : ℕ) → total_of h (s ∷ []) ≡ cond (of_household h p) p.amount (pos 0)
  total-single h = rw (total-is h (s ∷ []), single-payment) (tally-one (of_household h) p k)

-- ---- a loop over the TLVs of node data d, now at place at: it has summed a and counted n unreadable ones, and will end with v and u; at most
-- k TLVs came before d, and each that was passed in d has four bytes at least

pub record Summing (f : Payment → Bool) (d : List ℕ) (k at : ℕ) (a : ℤ) (n : ℕ) (v : ℤ) (u : ℕ) : Type 0 where
  pub value : a +ℤ tally f (payments_of (drop at d)) ≡ v
  pub unread : n + unreadable (payments_of (drop at d)) ≡ u
  pub small : mag a ≤ (k + at / 4) * amount_limit
  pub few : n ≤ k + at / 4

module _ (f : Payment → Bool) (d : List ℕ) (k : ℕ) where
  pub summing_start : (a : ℤ) (n : ℕ) → mag a ≤ k * amount_limit → n ≤ k → Summing f d k 0 a n (a +ℤ tally f (payments_of d)) (n + unreadable (payments_of d))
  summing_start a n h l = record { value = refl; unread = refl; small = omega arith; few = omega arith }

  module _ (at : ℕ) (a : ℤ) (n : ℕ) (v : ℤ) (u : ℕ) (s : Summing f d k at a n v u) where
    pub summing_end : length d ≤ at → (a ≡ v) × (n ≡ u)
    unfolding unreadable
    summing_end l =
        let e : payments_of (drop at d) ≡ [] = payments_end d at l in
        let p : a +ℤ pos 0 ≡ v = rw (e, tally-none f) at s.value in
        let q : n + 0 ≡ u = rw e at s.unread in
        (sym (+ℤ_idr a) ∙ p, omega arith)

    module _ (h : Header) (t : Tells d at h) where
      summing_on : (b : ℤ) (m : ℕ) → a +ℤ tally f (payments_of (drop at d)) ≡ b +ℤ tally f (payments_of (drop h.next d))
          → n + unreadable (payments_of (drop at d)) ≡ m + unreadable (payments_of (drop h.next d))
          → mag b ≤ (k + at / 4 + 1) * amount_limit → m ≤ n + 1 → Summing f d k h.next b m v u
      summing_on b m p q l j =
          let w : at + 4 ≤ h.next = omega (arith, t.start, t.inside) in
          record { value = sym p ∙ s.value; unread = sym q ∙ s.unread; small = omega arith; few = omega (arith, s.few) }

      -- the TLV at this place is no payment
      pub summing_pass : (h.kind ≡ 40 → ⊥) → Summing f d k h.next a n v u
      summing_pass ne =
          let e : payments_of (drop at d) ≡ payments_of (drop h.next d) = payments_pass d at h t ne in
          summing_on a n (rw e) (rw e) (omega (arith, s.small)) (omega arith)

      -- it is one: unreadable, not picked, picked
      module _ (y : h.kind ≡ 40) where
        summing_at : (b : ℤ) (m : ℕ)
            → a +ℤ tally f (take (h.next - at) (drop at d) ∷ payments_of (drop h.next d)) ≡ b +ℤ tally f (payments_of (drop h.next d))
            → n + unreadable (take (h.next - at) (drop at d) ∷ payments_of (drop h.next d)) ≡ m + unreadable (payments_of (drop h.next d))
            → mag b ≤ (k + at / 4 + 1) * amount_limit → m ≤ n + 1 → Summing f d k h.next b m v u
        summing_at b m p q l j = let e = payments_meet d at h t y in summing_on b m (rw e p) (rw e q) l j

        pub summing_unreadable : read_payment (take h.len (drop h.start d)) ≡ none → Summing f d k h.next a (n + 1) v u
        summing_unreadable r =
            let x : List ℕ = take (h.next - at) (drop at d) in
            let xs : List (List ℕ) = payments_of (drop h.next d) in
            let q : read_payment (value_of x) ≡ none = rw t.value r in
            summing_at a (n + 1) (rw (tally-unreadable f x xs q)) (rw (unreadable_no x xs q) (omega arith)) (omega (arith, s.small)) (omega arith)

        module _ (p : Payment) (r : read_payment (take h.len (drop h.start d)) ≡ some p) where
          pub summing_skip : f p ≡ false → Summing f d k h.next a n v u
          summing_skip b =
              let x : List ℕ = take (h.next - at) (drop at d) in
              let xs : List (List ℕ) = payments_of (drop h.next d) in
              let q : read_payment (value_of x) ≡ some p = rw t.value r in
              summing_at a n (rw (tally_pass f x xs p q b)) (rw (unreadable_yes x xs p q)) (omega (arith, s.small)) (omega arith)

          pub summing_pick : f p ≡ true → Summing f d k h.next (a +ℤ p.amount) n v u
          summing_pick b =
              let x : List ℕ = take (h.next - at) (drop at d) in
              let xs : List (List ℕ) = payments_of (drop h.next d) in
              let q : read_payment (value_of x) ≡ some p = rw t.value r in
              summing_at (a +ℤ p.amount) n (tally-onward f x xs p q b a) (rw (unreadable_yes x xs p q))
              (mag-step (k + at / 4) a p.amount s.small (payable-mag p (read-payable (value_of x) p q))) (omega arith)

-- ---- the room there is

-- TLVs of node data at most
abbrev pub most_tlvs : ℕ
most_tlvs = data_limit / 4

pub payments_few : (d : List ℕ) → good data_limit d ≡ true → length (payments_of d) ≤ most_tlvs
payments_few d g = omega (arith, keep-few is_payment (tlvs d), tlvs-few d (good-row data_limit d g), good-fits data_limit d g)

-- nodes with good data
pub payments_good : (t : List Entry) → All (λ e. good data_limit e.says.node_data ≡ true) t → length (payments_in (statements t)) ≤ most_tlvs * length t
unfolding payments_in
payments_good [] h = omega arith
payments_good (e ∷ t) h =
    omega (arith, length-append (payments_of e.says.node_data) (payments_in (statements t)), payments_few e.says.node_data h.0, payments_good t h.1)

pub payments_room : (last : ℕ) (t : List Entry) → All (EntryFits last) t → length (payments_in (statements t)) ≤ most_tlvs * length t
payments_room last t h = payments_good t (all_more (EntryFits last) (λ e. good data_limit e.says.node_data ≡ true) (λ e f. f.fine) t h)

pub reached-fit : (own clock last : ℕ) (t : List Entry) → All (EntryFits last) t → All (EntryFits last) (reached own clock t)
unfolding reached
reached-fit own clock last t h = all_keep (EntryFits last) _ t h

pub reached-few : (own clock : ℕ) (t : List Entry) → length (reached own clock t) ≤ length t
unfolding reached
reached-few own clock t = keep-few _ t

-- the reachable nodes of a valid state publish at most 8,192
pub payments_most : (s : State) (clock : ℕ) → Valid s → length (payments_in (reachable clock s)) ≤ most_nodes * most_tlvs
payments_most s clock v =
    let n : length s.table ≤ most_nodes = v.inside.table.nodes in
    omega (arith, payments_room s.last (reached s.own clock s.table) (reached-fit s.own clock s.last s.table v.inside.table.entries), reached-few s.own clock s.table)

tally-fits : (f : Payment → Bool) (s : State) (clock : ℕ) → Valid s → mag (tally f (payments_in (reachable clock s))) < 2 ^ 63
tally-fits f s clock v = omega (arith, tally-mag f (payments_in (reachable clock s)), payments_most s clock v)

-- ---- the sum over all households

-- one household's amount is counted once among those from n on
none_below : (k n x : ℕ) (a : ℤ) → x < n → sumℤ (map (λ h. cond (eqb x h) a (pos 0)) (up_from k n)) ≡ pos 0
unfolding up_from
none_below zero n x a l = refl
none_below (suc k) n x a l = rw (ne_eqb x n (λ e. omega arith)) (+ℤ_idl _ ∙ none_below k (n + 1) x a (omega arith))

once-among : (k n x : ℕ) (a : ℤ) → n ≤ x → x < n + k → sumℤ (map (λ h. cond (eqb x h) a (pos 0)) (up_from k n)) ≡ a
unfolding up_from
once-among zero n x a l m = absurd (omega arith)
once-among (suc k) n x a l m =
    by_test (eqb x n)
    (λ e. let q : x ≡ n = eqb-true x n e in rw e (ap (λ (s : ℤ). a +ℤ s) (none_below k (n + 1) x a (omega arith)) ∙ +ℤ_idr a))
    (λ e. let q : x ≡ n → ⊥ = eqb-false x n e in rw e (+ℤ_idl _ ∙ once-among k (n + 1) x a (omega arith) (omega arith)))

abbrev total_from : List Payment → ℕ → ℤ
total_from ps h = sumℤ (amounts (keep (of_household h) ps))

total_from_cons : (p : Payment) (ps : List Payment) (h : ℕ) → total_from (p ∷ ps) h ≡ cond (of_household h p) p.amount (pos 0) +ℤ total_from ps h
total_from_cons p ps h = by_test (of_household h p) (λ e. rw e) (λ e. rw e (sym (+ℤ_idl (total_from ps h))))

households_add_up : (k n : ℕ) (ps : List Payment) → All (λ p. (n ≤ p.household) × (p.household < n + k)) ps
    → sumℤ (map (total_from ps) (up_from k n)) ≡ sumℤ (amounts ps)
households_add_up k n [] h = sum_zeros (up_from k n)
households_add_up k n (p ∷ ps) h =
    let own : ℕ → ℤ = λ x. cond (of_household x p) p.amount (pos 0) in
    ap sumℤ (map_same (total_from (p ∷ ps)) (λ x. own x +ℤ total_from ps x) (up_from k n) (total_from_cons p ps))
    ∙ sum_both own (total_from ps) (up_from k n)
    ∙ rw (once-among k n p.household p.amount h.0.0 h.0.1, households_add_up k n ps h.1)

payable-households : (ps : List Payment) → All Payable ps → All (λ p. (1 ≤ p.household) × (p.household < 1 + most_household)) ps
payable-households [] h = tt
payable-households (p ∷ ps) h = ((h.0.low, omega (arith, h.0.high)), payable-households ps h.1)

all-households : (ss : List Statement) → sumℤ (map (λ h. total_of h ss) (up_from most_household 1)) ≡ sum_of ss
unfolding total_of sum_of
all-households ss =
    households_add_up most_household 1 (readable (payments_in ss)) (payable-households (readable (payments_in ss)) (readable-payable (payments_in ss)))

-- ---- TLV by TLV: what each has for a household, and whether it is unreadable

tally-each : (h : ℕ) (ts : List (List ℕ)) → tally (of_household h) (keep is_payment ts) ≡ sumℤ (map (amount_for h) ts)
tally-each h [] = tally-none (of_household h)
tally-each h (t ∷ ts) =
    let f : Payment → Bool = of_household h in
    let us : List (List ℕ) = keep is_payment ts in
    let v : ℤ = sumℤ (map (amount_for h) ts) in
    let ih : tally f us ≡ v = tally-each h ts in
    by_test (is_payment t)
    (λ b. rw b
    (by_option (read_payment (value_of t))
    (λ e. rw e (tally-unreadable f t us e ∙ ih ∙ sym (+ℤ_idl v)))
    (λ p e. rw e
    (by_test (of_household h p)
    (λ q. rw q (tally_pick f t us p e q ∙ ap (λ (x : ℤ). p.amount +ℤ x) ih))
    (λ q. rw q (tally_pass f t us p e q ∙ ih ∙ sym (+ℤ_idl v)))))))
    (λ b. rw b (ih ∙ sym (+ℤ_idl v)))

unreadable-each : (ts : List (List ℕ)) → unreadable (keep is_payment ts) ≡ sumℕ (map unreadable_one ts)
unfolding unreadable
unreadable-each [] = refl
unreadable-each (t ∷ ts) =
    let ih : unreadable (keep is_payment ts) ≡ sumℕ (map unreadable_one ts) = unreadable-each ts in
    by_test (is_payment t)
    (λ b. rw b (by_option (read_payment (value_of t)) (λ e. rw e (omega arith)) (λ p e. rw e (omega arith))))
    (λ b. rw b (omega arith))

-- one node's payments
pub payments_node : (s : Statement) → payments_in (s ∷ []) ≡ payments_of s.node_data
unfolding payments_in
payments_node s = append-nil (payments_of s.node_data)

pub totals_add_up : TotalsAddUp
unfolding total sum
totals_add_up =
    record {
      node = λ h s. rw (total-is h (s ∷ []), payments_node s) (tally-each h (tlvs s.node_data));
      nodes = λ h s ss. total-nodes h (s ∷ []) ss;
      all = all-households;
      total = λ s clock h v. rw (total-is h (reachable clock s)) (tally-fits (of_household h) s clock v);
      sum = λ s clock v. rw (sum_is (reachable clock s)) (tally-fits any_payment s clock v);
      single = λ h node seq p k. total-single p k (record { node = node; seq = seq; node_data = payment_tlv p }) refl h;
      unread = λ s. rw (payments_node s) (unreadable-each (tlvs s.node_data));
      unreads = λ s ss. ap unreadable (payments_append (s ∷ []) ss) ∙ unreadable_append (payments_in (s ∷ [])) (payments_in ss);
      counted = payments_counted;
      count = λ s clock v. omega (arith, payments_counted (payments_in (reachable clock s)), payments_most s clock v);
      totals = λ clock h table s e. rw e;
      sums = λ clock table s e. rw e;
    }
