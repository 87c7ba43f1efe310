-- Our own payments: only a payment of our own changes which of them our data has. Assumes nothing.
use Rattle.std.proofs.Common.{◌≡◌, ℕ, Bool, true, false, cond, not, ◌&&◌, ◌||◌, eqb, leb, ◌⊎◌, ◌↔◌, List, [], ◌∷◌, ◌++◌, length, sym, refl, ap, ◌∙◌, inl, inr, ⊎_elim, arith, eq-eqb, ne_eqb}
use mathlib.Core.Bool.{and-false}
use mathlib.Core.Option.{Option, some}
use borrow.Author.Tests.{eqb-false}
use Rattle.base.specs.Lists.{any, keep, or_else, In}
use Rattle.base.specs.Bytes.{same}
use Rattle.base.proofs.Tests.{no_way, by_test}
use Rattle.base.proofs.Lists.{in_any, in_keep, keep_in, keep_same, keep-keep}
use Rattle.base.proofs.Options.{by_cond, by_or_else}
use Rattle.base.proofs.Sorted.{find_yes}
use Rattle.wire.specs.Row.{type_of, value_of, tlvs}
use Rattle.sha256.specs.Sha256.{hash16}
use Rattle.wire.specs.Order.{good, place}
use Rattle.wire.specs.Payment.{Payment, payment_tlv}
use Rattle.wire.proofs.Ordering.{same-is}
use Rattle.wire.proofs.Rows.{tlvs_end}
use Rattle.wire.proofs.Good.{Whole, place_in, in_place, keep-place, keep-tlvs}
use Rattle.wire.proofs.Encoded.{payment-whole, payment_type}
use Rattle.model.specs.Figures.{most_nodes, data_limit, refresh_age, usual_interval, reclaim_step}
use Rattle.model.specs.Sequence.{advance}
use Rattle.model.specs.Table.{Entry, id_of, entry_of, age_at, look, anew}
use Rattle.model.specs.State.{State, Peer, with_table, with_peers, endpoint_at, no_entry, own_entry, own_seq, own_data, publish_as, publish, peer_tlv, with_tlv, settle}
use Rattle.model.specs.Decide.{Received, Decision, received_of, taken, with_data, without_data, wanted_new, wanted_held, differs, decide, after}
use Rattle.model.specs.Reach.{reached}
use Rattle.model.specs.Handle.{Context, new_peer, add_peer}
use Rattle.model.specs.Receive.{Call, context_of, receive}
use Rattle.model.specs.Tick.{Sent, goes, some_of, without_peers, drop_silent, is_keep_alive, ticked, refusal_tick, tick}
use Rattle.model.specs.KeepAlive.{keep_alive_tlv, without_keep_alive, with_keep_alive, with_choice, chosen, refusal_keep_alive, keep_alive}
use Rattle.model.specs.Begin.{Done, started, begun}
use Rattle.model.specs.Pay.{paid, refusal_pay, pay, purged, refusal_purge, purge}
use Rattle.model.specs.Totals.{is_payment, payments_of}
use Rattle.model.specs.Snapshot.{Snapshot, of_links, without_links, republished, resumed}
use Rattle.model.specs.Refusals.{late, back, small_table}
use Rattle.model.specs.Invariant.{Valid}
use Rattle.model.specs.Theorems.{own_payments, OwnPaymentsStay}
use Rattle.model.proofs.KeptParts.{none-applies, not_back, valid-midway, look-put, look-other, published-own}
use Rattle.model.proofs.KeptData.{put-tlvs, peer-whole, peer_type}
use Rattle.model.proofs.KeptChoice.{alive-whole, alive_type, alive_nine}
use Rattle.model.proofs.KeptSteps.{Steps, sender_in, receive-holds}
use Rattle.model.proofs.KeptCalls.{reached-held}

-- ---- node data: TLVs that are no payments come and go

-- a TLV of another type
no_payment : (t : List ℕ) {y : ℕ} → ¬ (y ≡ 40) → type_of t ≡ y → is_payment t ≡ false
no_payment t n e = ne_eqb (type_of t) 40 (λ q. n (sym e ∙ q))

payments_with : (t d : List ℕ) → Whole t → is_payment t ≡ false → payments_of (with_tlv t d) ≡ payments_of d
payments_with t d w n = rw (put-tlvs t d w) (keep-place t is_payment (tlvs d) n)

-- a test that every payment meets keeps the payments
payments_kept : (f : List ℕ → Bool) (ts : List (List ℕ)) → ((t : List ℕ) → is_payment t ≡ true → f t ≡ true) → keep is_payment (keep f ts) ≡ keep is_payment ts
payments_kept f ts h =
    keep-keep f is_payment ts
    ∙ keep_same (λ t. f t && is_payment t) is_payment ts (λ t m. by_test (is_payment t) (λ b. rw (b, h t b)) (λ b. rw b (and-false (f t))))

payment-apart : (t : List ℕ) {y : ℕ} → ¬ (y ≡ 40) → is_payment t ≡ true → ¬ (type_of t ≡ y)
payment-apart t n b e = no_way (is_payment t) b (no_payment t n e)

payments_without : (ps : List Peer) (d : List ℕ) → payments_of (without_peers ps d) ≡ payments_of d
unfolding without_peers
payments_without ps d =
    rw (keep-tlvs (λ t. not (any (λ p. same (peer_tlv p) t) ps)) d)
    (payments_kept (λ t. not (any (λ p. same (peer_tlv p) t) ps)) (tlvs d) (λ t b. by_test (any (λ p. same (peer_tlv p) t) ps)
    (λ q. let r = in_any (λ p. same (peer_tlv p) t) ps q in absurd (payment-apart t (omega arith) b (ap type_of (sym (same-is (peer_tlv r.0) t r.2)) ∙ peer_type r.0))) (λ q. ap not q)))

payments_unlinked : (d : List ℕ) → payments_of (without_links d) ≡ payments_of d
payments_unlinked d =
    rw (keep-tlvs (λ t. not (of_links t)) d) (payments_kept (λ t. not (of_links t)) (tlvs d)
    (λ t b. rw (ne_eqb (type_of t) 8 (payment-apart t (omega arith) b), ne_eqb (type_of t) 9 (payment-apart t (omega arith) b))))

-- ---- steps on the state

published : (clock n : ℕ) (d : List ℕ) (ps : List Peer) (s : State) → own_payments (with_peers ps (publish_as clock n d s)) ≡ payments_of d
published clock n d ps s = ap (λ (e : Entry). payments_of e.says.node_data) (published-own n d ps s)

-- what is decided on a Node State is about its node
abbrev About : ℕ → Decision → Type 0
About n Decision.ignored = Unit {0}
About n (Decision.ask k) = Unit {0}
About n (Decision.take_number e) = id_of e ≡ n
About n (Decision.take_all e) = id_of e ≡ n
About n Decision.dropped = Unit {0}

module _ (clock : ℕ) (t : List Entry) (r : Received) where
  with_data_lem : (d : List ℕ) → About r.node (with_data clock r d)
  unfolding with_data
  with_data_lem d = by_cond (About r.node) (good data_limit d && same (hash16 d) r.hash) (Decision.take_all (taken clock r d)) Decision.ignored (λ b. refl) (λ b. tt)

  without_data_lem : (e : Entry) → About r.node (without_data clock r e)
  unfolding without_data
  without_data_lem e =
      by_cond (About r.node) (same (hash16 e.says.node_data) r.hash) (Decision.take_number (taken clock r e.says.node_data)) (Decision.ask r.node) (λ b. refl) (λ b. tt)

  decided : About r.node (decide clock t r)
  unfolding decide wanted_new wanted_held
  decided =
      by_or_else (About r.node) (look r.node t) (cond (leb most_nodes (length t)) Decision.dropped (wanted_new clock r)) (λ e. cond (differs e r) (wanted_held clock r e) Decision.ignored)
      (λ q. by_cond (About r.node) (leb most_nodes (length t)) Decision.dropped (wanted_new clock r) (λ b. tt)
      (λ b. by_or_else (About r.node) r.carried (Decision.ask r.node) (with_data clock r) (λ e. tt) (λ d e. with_data_lem d)))
      (λ e q. by_cond (About r.node) (differs e r) (wanted_held clock r e) Decision.ignored
      (λ b. by_or_else (About r.node) r.carried (without_data clock r e) (with_data clock r) (λ z. without_data_lem e) (λ d z. with_data_lem d)) (λ b. tt))

-- so our own entry stays
taken_own : (n : ℕ) (s : State) → ¬ (n ≡ s.own) → (d : Decision) → About n d → own_entry (with_table (after d s.table) s) ≡ own_entry s
unfolding after own_entry
taken_own n s ne Decision.ignored a = refl
taken_own n s ne (Decision.ask k) a = refl
taken_own n s ne (Decision.take_number e) a = rw (look-other s.own e s.table (λ q. ne (sym a ∙ q)))
taken_own n s ne (Decision.take_all e) a = rw (look-other s.own e s.table (λ q. ne (sym a ∙ q)))
taken_own n s ne Decision.dropped a = refl

steps-stay : (c : Context) (l : List (List ℕ)) (v : List ℕ) → Steps c (λ (s : State). own_payments s ≡ l) v
unfolding own_entry add_peer
steps-stay c l v =
    record {
      asks = λ s h. h;
      touches = λ f s h. h;
      hears = λ s h. h;
      greets = λ s ne u b h. published c.clock (advance (own_seq s) 1) (with_tlv (peer_tlv (new_peer c (sender_in v))) (own_data s)) (s.peers ++ (new_peer c (sender_in v) ∷ [])) s
          ∙ payments_with (peer_tlv (new_peer c (sender_in v))) (own_data s) (peer-whole (new_peer c (sender_in v))) (no_payment (peer_tlv (new_peer c (sender_in v))) (omega arith) (peer_type (new_peer c (sender_in v)))) ∙ h;
      reclaims = λ s h. published c.clock (advance (received_of v).seq reclaim_step) (own_data s) s.peers s ∙ h;
      takes = λ s ne h. ap (λ (e : Entry). payments_of e.says.node_data) (taken_own (received_of v).node s ne (decide c.clock s.table (received_of v)) (decided c.clock s.table (received_of v))) ∙ h;
    }

-- ---- the calls

-- the payments of an entry that was looked for
abbrev payments_found : Option Entry → List (List ℕ)
payments_found o = payments_of (or_else o no_entry (λ f. f)).says.node_data

settled : (clock : ℕ) (rs : List ℕ) (s : State) → own_payments (settle clock rs s) ≡ own_payments s
unfolding settle own_entry
settled clock rs s = refl

receives : (c : Call) (s : State) → own_payments (receive c s).state ≡ own_payments s
receives c s =
    receive-holds (λ (r : State). own_payments r ≡ own_payments s) c s (λ t m. steps-stay (context_of s c) (own_payments s) (value_of t)) (λ u h. settled c.clock c.randoms u ∙ h) refl

silent : (clock i : ℕ) (s : State) → own_payments (drop_silent clock i s) ≡ own_payments s
unfolding drop_silent
silent clock i s =
    let gone : List Peer = keep (goes clock i s.table) s.peers in
    by_cond (λ (r : State). own_payments r ≡ own_payments s) (some_of gone || leb refresh_age (age_at clock (own_entry s))) _ s
    (λ b. published clock (advance (own_seq s) 1) (without_peers gone (own_data s)) (keep (λ p. not (goes clock i s.table p)) s.peers) s ∙ payments_without gone (own_data s)) (λ b. refl)

ticks : (clock i : ℕ) (rs : List ℕ) (table room : ℕ) (s : State) → own_payments (tick clock i rs table room s).state ≡ own_payments s
unfolding tick ticked own_entry
ticks clock i rs table room s =
    by_cond (λ (a : Sent). own_payments a.state ≡ own_payments s) (eqb (refusal_tick clock i table room s) 0) (ticked clock i rs s) _
    (λ b. settled clock rs (drop_silent clock i s) ∙ silent clock i s) (λ b. refl)

-- a chosen interval changes a Keep-Alive TLV alone
payments_alive : (i n : ℕ) (d : List ℕ) → payments_of (with_keep_alive i n d) ≡ payments_of d
unfolding with_keep_alive
payments_alive i n d =
    by_cond (λ (x : List ℕ). payments_of x ≡ payments_of d) (eqb n usual_interval) (without_keep_alive i d) (with_tlv (keep_alive_tlv i n) (without_keep_alive i d)) (λ b. without)
    (λ b. payments_with (keep_alive_tlv i n) (without_keep_alive i d) (alive-whole i n) (no_payment (keep_alive_tlv i n) (omega arith) (alive_type i n)) ∙ without)
  where
    without : payments_of (without_keep_alive i d) ≡ payments_of d
    without =
        rw (keep-tlvs (λ t. not (is_keep_alive i t)) d)
        (payments_kept (λ t. not (is_keep_alive i t)) (tlvs d)
        (λ t b. by_test (is_keep_alive i t) (λ q. absurd (payment-apart t (omega arith) b (alive_nine i t q))) (λ q. ap not q)))

chooses : (clock i n : ℕ) (rs : List ℕ) (table : ℕ) (s : State) → own_payments (keep_alive clock i n rs table s).state ≡ own_payments s
unfolding keep_alive chosen with_choice own_entry publish_as
chooses clock i n rs table s =
    by_cond (λ (a : Done). own_payments a.state ≡ own_payments s) (eqb (refusal_keep_alive clock i n table s) 0) (record { number = 0; state = chosen clock i n rs s }) _
    (λ b. settled clock rs (with_choice clock i n s)
    ∙ by_cond (λ (r : State). own_payments r ≡ own_payments s) (eqb (endpoint_at i s).keep n) s _ (λ q. refl)
    (λ q. published clock (advance (own_seq s) 1) (with_keep_alive i n (own_data s)) s.peers s ∙ payments_alive i n (own_data s)))
    (λ b. refl)

reached_payments : (clock : ℕ) (s : State) → look s.own (reached s.own clock s.table) ≡ some (own_entry s) → own_payments (with_table (reached s.own clock s.table) s) ≡ own_payments s
unfolding own_entry
reached_payments clock s e = ap payments_found e

purges : (clock : ℕ) (rs : List ℕ) (table : ℕ) (s : State) → Valid s → own_payments (purge clock rs table s).state ≡ own_payments s
unfolding purge purged
purges clock rs table s v =
    by_cond (λ (a : Done). own_payments a.state ≡ own_payments s) (eqb (refusal_purge clock table s) 0) (record { number = 0; state = purged clock rs s }) _
    (λ b. let a = none-applies (late clock ∷ back clock s ∷ small_table table ∷ []) (omega arith) b in
    settled clock rs (with_table (reached s.own clock s.table) s) ∙ reached_payments clock s (reached-held clock s (valid-midway clock s v (not_back clock s a.1.0))))
    (λ b. refl)

joined : (p : Payment) (d t : List ℕ) → In t (payments_of (with_tlv (payment_tlv p) d)) ↔ (In t (payments_of d) ⊎ (t ≡ payment_tlv p))
joined p d t = rw (put-tlvs (payment_tlv p) d (payment-whole p)) (into, back)
  where
    into : In t (keep is_payment (place (payment_tlv p) (tlvs d))) → In t (payments_of d) ⊎ (t ≡ payment_tlv p)
    into m =
        let r = keep_in is_payment t (place (payment_tlv p) (tlvs d)) m in
        ⊎_elim inr (λ k. inl (in_keep is_payment t (tlvs d) k r.1)) (place_in (payment_tlv p) t (tlvs d) r.0)

    back : In t (payments_of d) ⊎ (t ≡ payment_tlv p) → In t (keep is_payment (place (payment_tlv p) (tlvs d)))
    back (inl m) = let r = keep_in is_payment t (tlvs d) m in in_keep is_payment t (place (payment_tlv p) (tlvs d)) (in_place (payment_tlv p) t (tlvs d) (inr r.0)) r.1
    back (inr e) = in_keep is_payment t (place (payment_tlv p) (tlvs d)) (in_place (payment_tlv p) t (tlvs d) (inl e)) (rw e (eq-eqb (type_of (payment_tlv p)) 40 (payment_type p)))

paid_payments : (clock : ℕ) (p : Payment) (rs : List ℕ) (s : State) → own_payments (paid clock p rs s) ≡ payments_of (with_tlv (payment_tlv p) (own_data s))
unfolding paid publish_as
paid_payments clock p rs s =
    settled clock rs (publish clock (with_tlv (payment_tlv p) (own_data s)) s) ∙ published clock (advance (own_seq s) 1) (with_tlv (payment_tlv p) (own_data s)) s.peers s

accepted : (clock : ℕ) (p : Payment) (rs : List ℕ) (table : ℕ) (s : State) → (pay clock p rs table s).number ≡ 0 → pay clock p rs table s ≡ record { number = 0; state = paid clock p rs s }
unfolding pay
accepted clock p rs table s z = by_test (eqb (refusal_pay clock p table s) 0) (λ b. rw b) (λ b. absurd (eqb-false (refusal_pay clock p table s) 0 b (rw b at z)))

pays : (clock : ℕ) (p : Payment) (rs : List ℕ) (table : ℕ) (s : State) → (pay clock p rs table s).number ≡ 0
    → (t : List ℕ) → In t (own_payments (pay clock p rs table s).state) ↔ (In t (own_payments s) ⊎ (t ≡ payment_tlv p))
pays clock p rs table s z t = rw (accepted clock p rs table s z, paid_payments clock p rs s) (joined p (own_data s) t)

begins : (own clock : ℕ) (rs : List ℕ) → own_payments (begun own clock rs) ≡ []
unfolding begun started own_entry look
begins own clock rs = ap payments_found (find_yes id_of own (entry_of own 0 [] (anew clock)) [] refl) ∙ ap (keep is_payment) (tlvs_end [] refl)

resumes : (clock : ℕ) (rs : List ℕ) (b : Snapshot) (e : Entry) → look b.own b.entries ≡ some e → own_payments (resumed clock rs b) ≡ payments_of e.says.node_data
unfolding resumed republished started own_entry
resumes clock rs b e q =
    let before : Entry = or_else (look b.own b.entries) no_entry (λ f. f) in
    ap payments_found (look-put (entry_of b.own (advance before.says.seq 1) (without_links before.says.node_data) (anew clock)) b.entries)
    ∙ payments_unlinked before.says.node_data ∙ ap payments_found q

pub own_payments_stay : OwnPaymentsStay
own_payments_stay = record { receives = receives; ticks = ticks; chooses = chooses; purges = purges; pays = pays; begins = begins; resumes = resumes }
