-- What an accepted payment adds to totals: its amount to its household's and to the sum, and nothing else changes. Assumes nothing.
use Rattle.std.proofs.Common.{◌≡◌, ℕ, ◌+◌, Bool, true, cond, List, [], ◌∷◌, ◌++◌, map, ℤ, pos, ◌+ℤ◌, sym, ap, ◌∙◌, arith, lt-ltb, eq-eqb, ne_eqb}
use lib.IntN.{+ℤ_assoc, +ℤ_idr}
use Rattle.base.specs.Lists.{keep}
use Rattle.base.proofs.Tests.{by_test}
use Rattle.base.proofs.Lists.{keep_append, keep_same}
use Rattle.base.proofs.Signed.{add_across}
use Rattle.base.proofs.Sorted.{insert-over}
use Rattle.wire.specs.Row.{type_of, value_of, tlvs}
use Rattle.wire.specs.Order.{before, place}
use Rattle.wire.specs.Payment.{Payment, Payable, payment_tlv}
use Rattle.wire.proofs.Good.{keep-place}
use Rattle.wire.proofs.Encoded.{payment-whole, payment_type, payment-read}
use Rattle.model.specs.Figures.{age_limit}
use Rattle.model.specs.Sequence.{advance}
use Rattle.model.specs.Table.{Entry, id_of, entry_of, age_at, under_age, anew, put}
use Rattle.model.specs.Reach.{vertex_of, is_peer_tlv, link_of, links, in_reach, reached}
use Rattle.model.specs.State.{State, own_entry, own_seq, own_data, publish_as, with_tlv, settle}
use Rattle.model.specs.Pay.{paid}
use Rattle.model.specs.Totals.{is_payment, payments_of, payments_in, unreadable, reachable}
use Rattle.model.specs.Invariant.{Midway}
use Rattle.model.proofs.KeptParts.{own_in, published-own}
use Rattle.model.proofs.KeptData.{put-tlvs}
use Rattle.model.proofs.KeptCalls.{node-reached}
use Rattle.model.proofs.Totals.{unreadable_append, unreadable_yes, tally, tally-none, tally_append, tally-one}
use Rattle.model.proofs.Seen.{Like, like_back, reach_seen, swapped}
use Rattle.model.proofs.Groups.{payments_among, among_append}

-- ---- a payment TLV in its place among those of node data: it counts once, wherever that is

module _ (t : List ℕ) (y : is_payment t ≡ true) where
  placed_value : (f : Payment → Bool) (us : List (List ℕ)) → tally f (keep is_payment (place t us)) ≡ tally f (t ∷ []) +ℤ tally f (keep is_payment us)
  unfolding place
  placed_value f [] = rw (y, tally-none f) (sym (+ℤ_idr (tally f (t ∷ []))))
  placed_value f (u ∷ us) =
      let a : ℤ = tally f (t ∷ []) in
      let b : ℤ = tally f (u ∷ []) in
      let more : (l : List (List ℕ)) → tally f (u ∷ l) ≡ b +ℤ tally f l = tally_append f (u ∷ []) in
      let ih = placed_value f us in
      by_test (before t u) (λ q. rw (q, y) (tally_append f (t ∷ []) (keep is_payment (u ∷ us))))
      (λ q. rw q
      (by_test (is_payment u)
      (λ z. rw (z, more (keep is_payment (place t us)), more (keep is_payment us), ih) (add_across b a (tally f (keep is_payment us))))
      (λ z. rw z ih)))

  placed_unread : (us : List (List ℕ)) → unreadable (keep is_payment (place t us)) ≡ unreadable (t ∷ []) + unreadable (keep is_payment us)
  unfolding place unreadable
  placed_unread [] = rw y (omega arith)
  placed_unread (u ∷ us) =
      let more : (v : List ℕ) (l : List (List ℕ)) → unreadable (v ∷ l) ≡ unreadable (v ∷ []) + unreadable l = λ v l. unreadable_append (v ∷ []) l in
      let ih = placed_unread us in
      by_test (before t u) (λ q. rw (q, y) (more t (keep is_payment (u ∷ us))))
      (λ q. rw q
      (by_test (is_payment u) (λ z. rw z (omega (arith, more u (keep is_payment (place t us)), more u (keep is_payment us), ih))) (λ z. rw z ih)))

-- ---- node data with one payment more

module _ (p : Payment) (d : List ℕ) where
  of_payment : is_payment (payment_tlv p) ≡ true
  of_payment = eq-eqb (type_of (payment_tlv p)) 40 (payment_type p)

  more_value : (f : Payment → Bool) → Payable p → tally f (payments_of (with_tlv (payment_tlv p) d)) ≡ cond (f p) p.amount (pos 0) +ℤ tally f (payments_of d)
  more_value f k =
      rw (put-tlvs (payment_tlv p) d (payment-whole p)) (placed_value (payment_tlv p) of_payment f (tlvs d) ∙ ap (λ (x : ℤ). x +ℤ tally f (payments_of d)) (tally-one f p k))

  more_unread : Payable p → unreadable (payments_of (with_tlv (payment_tlv p) d)) ≡ unreadable (payments_of d)
  unfolding unreadable
  more_unread k =
      let z : unreadable (payment_tlv p ∷ []) ≡ 0 = unreadable_yes (payment_tlv p) [] p (payment-read p k) in
      rw (put-tlvs (payment_tlv p) d (payment-whole p)) (omega (arith, placed_unread (payment_tlv p) of_payment (tlvs d), z))

  -- a payment names no peer
  same-links : links (with_tlv (payment_tlv p) d) ≡ links d
  unfolding links
  same-links =
      rw (put-tlvs (payment_tlv p) d (payment-whole p))
      (ap (map (λ t. link_of (value_of t))) (keep-place (payment_tlv p) is_peer_tlv (tlvs d) (rw (ne_eqb (type_of (payment_tlv p)) 8 (λ e. omega (arith, payment_type p, e))))))

-- ---- one entry among those that are kept

module _ (g : Entry → Bool) (l r : List Entry) (e : Entry) (b : g e ≡ true) where
  abbrev front : List (List ℕ)
  front = payments_among (keep g l)

  abbrev back : List (List ℕ)
  back = payments_among (keep g r)

  paid_around : payments_among (keep g (l ++ (e ∷ r))) ≡ front ++ (payments_of e.says.node_data ++ back)
  unfolding payments_in
  paid_around = ap payments_among (keep_append g l (e ∷ r)) ∙ rw b (among_append (keep g l) (e ∷ keep g r))

  around_value : (f : Payment → Bool) → tally f (payments_among (keep g (l ++ (e ∷ r)))) ≡ tally f (payments_of e.says.node_data) +ℤ (tally f front +ℤ tally f back)
  around_value f =
      let x : List (List ℕ) = payments_of e.says.node_data in
      ap (tally f) paid_around ∙ tally_append f front (x ++ back) ∙ ap (λ (v : ℤ). tally f front +ℤ v) (tally_append f x back) ∙ add_across (tally f front) (tally f x) (tally f back)

  around_unread : unreadable (payments_among (keep g (l ++ (e ∷ r)))) ≡ unreadable (payments_of e.says.node_data) + (unreadable front + unreadable back)
  around_unread =
      let x : List (List ℕ) = payments_of e.says.node_data in
      ap unreadable paid_around ∙ omega (arith, unreadable_append front (x ++ back), unreadable_append x back)

-- ---- the state after an accepted payment, our own node under age before it

module _ (clock : ℕ) (p : Payment) (rs : List ℕ) (s : State) (m : Midway clock s) where
  abbrev old : Entry
  old = own_entry s

  abbrev new : Entry
  new = entry_of s.own (advance (own_seq s) 1) (with_tlv (payment_tlv p) (own_data s)) (anew clock)

  paid-entry : own_entry (paid clock p rs s) ≡ new
  unfolding paid settle publish_as own_entry
  paid-entry = published-own (advance (own_seq s) 1) (with_tlv (payment_tlv p) (own_data s)) s.peers s

  -- age 0
  new_young : under_age clock new ≡ true
  new_young = lt-ltb (age_at clock new) age_limit (omega arith)

  pub paid-young : under_age clock (own_entry (paid clock p rs s)) ≡ true
  paid-young = ap (under_age clock) paid-entry ∙ new_young

  module _ (y : under_age clock old ≡ true) where
    like : Like (vertex_of clock old) (vertex_of clock new)
    like = record { node = (own_in s m).1; peers = sym (same-links p (own_data s)); age = y ∙ sym new_young }

    abbrev inside : Entry → Bool
    inside e = in_reach s.own clock s.table (id_of e)

    own-inside : in_reach s.own clock s.table s.own ≡ true
    own-inside = node-reached s.own clock s.table old (own_in s m).0 (own_in s m).1

    -- our table before and after: one entry in place of another, and the same nodes are reachable
    parts : (l : List Entry) × (r : List Entry) × (reached s.own clock s.table ≡ keep inside (l ++ (old ∷ r))) × (reached (paid clock p rs s).own clock (paid clock p rs s).table ≡ keep inside (l ++ (new ∷ r)))
    unfolding paid settle publish_as put reached
    parts =
        let q = insert-over id_of new old s.table m.table.ascending (own_in s m).0 (own_in s m).1 in
        let l : List Entry = q.0 in
        let r : List Entry = q.1 in
        let reach : (n : ℕ) → in_reach s.own clock (put new s.table) n ≡ in_reach s.own clock s.table n = λ n.
        ap (λ (t : List Entry). in_reach s.own clock t n) q.3
        ∙ reach_seen s.own clock clock (l ++ (new ∷ r)) (l ++ (old ∷ r)) (swapped clock l r new old (like_back like)) (swapped clock l r old new like) n
        ∙ ap (λ (t : List Entry). in_reach s.own clock t n) (sym q.2) in
        (l, r, ap (keep inside) q.2, keep_same (λ e. in_reach s.own clock (put new s.table) (id_of e)) inside (put new s.table) (λ e i. reach (id_of e)) ∙ ap (keep inside) q.3)

    pub paid-value : (f : Payment → Bool) → Payable p
        → tally f (payments_in (reachable clock (paid clock p rs s))) ≡ cond (f p) p.amount (pos 0) +ℤ tally f (payments_in (reachable clock s))
    paid-value f k =
        let q = parts in
        let a : ℤ = cond (f p) p.amount (pos 0) in
        let o : ℤ = tally f (payments_among (keep inside q.0)) +ℤ tally f (payments_among (keep inside q.1)) in
        ap (λ (t : List Entry). tally f (payments_among t)) q.3 ∙ around_value inside q.0 q.1 new own-inside f
        ∙ ap (λ (x : ℤ). x +ℤ o) (more_value p (own_data s) f k) ∙ +ℤ_assoc a (tally f (payments_of (own_data s))) o
        ∙ ap (λ (x : ℤ). a +ℤ x) (sym (around_value inside q.0 q.1 old (ap (in_reach s.own clock s.table) (own_in s m).1 ∙ own-inside) f)
        ∙ ap (λ (t : List Entry). tally f (payments_among t)) (sym q.2))

    pub paid-unread : Payable p → unreadable (payments_in (reachable clock (paid clock p rs s))) ≡ unreadable (payments_in (reachable clock s))
    paid-unread k =
        let q = parts in
        let o : ℕ = unreadable (payments_among (keep inside q.0)) + unreadable (payments_among (keep inside q.1)) in
        ap (λ (t : List Entry). unreadable (payments_among t)) q.3 ∙ around_unread inside q.0 q.1 new own-inside
        ∙ ap (λ (n : ℕ). n + o) (more_unread p (own_data s) k)
        ∙ sym (around_unread inside q.0 q.1 old (ap (in_reach s.own clock s.table) (own_in s m).1 ∙ own-inside))
        ∙ ap (λ (t : List Entry). unreadable (payments_among t)) (sym q.2)
