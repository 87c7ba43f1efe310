-- What each call leaves of an endpoint's keep-alive interval and of its last sending: only a choice changes the one, only a sending the other. Assumes
-- nothing.
use Rattle.std.proofs.Common.{◌≡◌, ℕ, zero, suc, pred, ◌+◌, ◌<◌, ◌≤◌, Bool, true, false, cond, not, ◌&&◌, eqb, ltb, List, [], ◌∷◌, map, length, get_or, set, sym, refl, ap, ◌∙◌, subst, arith, length-append, get_or-set_other, get_or-set_same, ltb-true, lt-ltb, eqb-true}
use mathlib.Core.Bool.{and-false}
use lib.ListN.{length-map, get_or-map}
use lib.Seq.{map-set_same}
use borrow.Author.Tests.{eqb-false, not-false}
use Rattle.base.specs.Lists.{is_some}
use Rattle.base.specs.Bytes.{same}
use Rattle.base.proofs.Tests.{no_way, by_test}
use Rattle.base.proofs.Options.{by_cond, by_or_else}
use Rattle.wire.specs.Row.{value_of}
use Rattle.wire.specs.Payment.{Payment, payment_tlv}
use Rattle.model.specs.Figures.{least_interval, redundancy, request_gap}
use Rattle.model.specs.Digest.{network_digest}
use Rattle.model.specs.Reach.{reached}
use Rattle.model.specs.Trickle.{Trickle, Event, fresh, hear, reset, point_due}
use Rattle.model.specs.State.{State, Endpoint, no_endpoint, endpoint_at, random_at, with_table, with_endpoint, with_trickle, with_next, with_keep, quiet_from, own_data, publish_as, publish, with_tlv, reset_all, settle}
use Rattle.model.specs.Messages.{endpoint_tlv, network_tlv}
use Rattle.model.specs.Begin.{Done, fresh_endpoint, fresh_endpoints, started, begun, refusal_begin, begin}
use Rattle.model.specs.Handle.{Context, add_peer}
use Rattle.model.specs.Receive.{Call, context_of, receive}
use Rattle.model.specs.Tick.{Sent, drop_silent, announcement, endpoint_event, after_event, with_event, ticked, refusal_tick, tick}
use Rattle.model.specs.KeepAlive.{with_keep_alive, with_choice, chosen, refusal_keep_alive, keep_alive}
use Rattle.model.specs.Snapshot.{load, resumed, refusal_resume, resume}
use Rattle.model.specs.Pay.{paid, refusal_pay, pay, purged, refusal_purge, purge}
use Rattle.model.proofs.Cases.{endpoint-length, silent-endpoints}
use Rattle.model.proofs.Happening.{fresh-idle, by_event}
use Rattle.model.proofs.KeptParts.{resets_each, resets_aside}
use Rattle.model.proofs.KeptSteps.{Steps, receive-holds}
use Rattle.model.proofs.Refusals.{refusals_exact}
use Rattle.model.proofs.Readings.{one_of_ours}

-- ---- a part of an endpoint that neither Trickle nor a request for network state changes

module _ (f : Endpoint → ℕ) (t : (u : Trickle) (e : Endpoint) → f (with_trickle u e) ≡ f e) (n : (k : ℕ) (e : Endpoint) → f (with_next k e) ≡ f e) where
  abbrev parts : State → List ℕ
  parts s = map f s.endpoints

  -- so of each endpoint
  at : (i : ℕ) (s u : State) → parts s ≡ parts u → f (endpoint_at i s) ≡ f (endpoint_at i u)
  at i s u e =
      sym (get_or-map f s.endpoints (pred i) no_endpoint) ∙ ap (λ (l : List ℕ). get_or l (pred i) (f no_endpoint)) e ∙ get_or-map f u.endpoints (pred i) no_endpoint

  settle-parts : (clock : ℕ) (rs : List ℕ) (s : State) → parts (settle clock rs s) ≡ parts s
  unfolding settle
  settle-parts clock rs s =
      by_cond (λ (es : List Endpoint). map f es ≡ parts s) (same s.digest (network_digest s.own clock s.table)) s.endpoints (reset_all clock rs s.endpoints)
      (λ b. refl) (λ b. resets_aside clock f t rs s.endpoints)

  steps-parts : (c : Context) (l : List ℕ) (v : List ℕ) → Steps c (λ (s : State). parts s ≡ l) v
  unfolding add_peer publish_as
  steps-parts c l v =
      record {
        asks = λ s h. map-set_same f s.endpoints (pred c.endpoint) (with_next (c.clock + request_gap) (endpoint_at c.endpoint s)) no_endpoint (n _ _) ∙ h;
        touches = λ g s h. h;
        hears = λ s h. map-set_same f s.endpoints (pred c.endpoint) (with_trickle (hear (endpoint_at c.endpoint s).trickle) (endpoint_at c.endpoint s)) no_endpoint (t _ _) ∙ h;
        greets = λ s ne u b h. h;
        reclaims = λ s h. h;
        takes = λ s ne h. h;
      }

  receive_parts : (c : Call) (s : State) → parts (receive c s).state ≡ parts s
  receive_parts c s =
      receive-holds (λ (u : State). parts u ≡ parts s) c s (λ x m. steps-parts (context_of s c) (parts s) (value_of x)) (λ u h. settle-parts c.clock c.randoms u ∙ h) refl

  pub received_part : (i : ℕ) (c : Call) (s : State) → f (endpoint_at i (receive c s).state) ≡ f (endpoint_at i s)
  received_part i c s = at i (receive c s).state s (receive_parts c s)

  pub paid_part : (i clock : ℕ) (p : Payment) (rs : List ℕ) (table : ℕ) (s : State) → f (endpoint_at i (pay clock p rs table s).state) ≡ f (endpoint_at i s)
  unfolding pay paid publish_as
  paid_part i clock p rs table s =
      by_cond (λ (a : Done). f (endpoint_at i a.state) ≡ f (endpoint_at i s)) (eqb (refusal_pay clock p table s) 0) (record { number = 0; state = paid clock p rs s }) _
      (λ b. at i (paid clock p rs s) s (settle-parts clock rs (publish clock (with_tlv (payment_tlv p) (own_data s)) s))) (λ b. refl)

  pub purged_part : (i clock : ℕ) (rs : List ℕ) (table : ℕ) (s : State) → f (endpoint_at i (purge clock rs table s).state) ≡ f (endpoint_at i s)
  unfolding purge purged
  purged_part i clock rs table s =
      by_cond (λ (a : Done). f (endpoint_at i a.state) ≡ f (endpoint_at i s)) (eqb (refusal_purge clock table s) 0) (record { number = 0; state = purged clock rs s }) _
      (λ b. at i (purged clock rs s) s (settle-parts clock rs (with_table (reached s.own clock s.table) s))) (λ b. refl)

  -- before the event of a tick
  pub cleared_part : (i clock j : ℕ) (rs : List ℕ) (s : State) → f (endpoint_at i (settle clock rs (drop_silent clock j s))) ≡ f (endpoint_at i s)
  cleared_part i clock j rs s =
      at i (settle clock rs (drop_silent clock j s)) s (settle-parts clock rs (drop_silent clock j s) ∙ ap (map f) (silent-endpoints clock j s))

  -- before a choice is settled, and after
  pub settled_part : (i clock : ℕ) (rs : List ℕ) (s : State) → f (endpoint_at i (settle clock rs s)) ≡ f (endpoint_at i s)
  settled_part i clock rs s = at i (settle clock rs s) s (settle-parts clock rs s)

abbrev pub interval_part : Endpoint → ℕ
interval_part e = e.keep

abbrev pub quiet_part : Endpoint → ℕ
quiet_part e = e.quiet

-- ---- one endpoint of ours set, as seen from each

module _ (f : Endpoint → ℕ) (i j : ℕ) (e : Endpoint) (s : State) (low : 1 ≤ i) (lowest : 1 ≤ j) (high : pred i < length s.endpoints) where
  set-part : f (get_or (set s.endpoints (pred j) e) (pred i) no_endpoint) ≡ cond (eqb j i) (f e) (f (endpoint_at i s))
  set-part =
      by_test (eqb j i)
      (λ b. let q : j ≡ i = eqb-true j i b in rw (b, q) (ap f (get_or-set_same s.endpoints (pred i) e no_endpoint high)))
      (λ b. let ne : ¬ (j ≡ i) = eqb-false j i b in rw b (ap f (get_or-set_other s.endpoints (pred j) (pred i) e no_endpoint (λ q. ne (omega (arith, q))))))

-- ---- a tick

-- what is sent is not empty
sends-bytes : (b : Bool) (j : ℕ) (s : State) → ltb 0 (length (cond b (announcement j s) [])) ≡ b
sends-bytes true j s =
    lt-ltb 0 (length (announcement j s)) (omega (arith, length-append (endpoint_tlv s.own j) (network_tlv s.digest), endpoint-length s.own j))
sends-bytes false j s = refl

pub tick-interval : (i clock j : ℕ) (rs : List ℕ) (table room : ℕ) (s : State) → (endpoint_at i (tick clock j rs table room s).state).keep ≡ (endpoint_at i s).keep
unfolding tick ticked
tick-interval i clock j rs table room s =
    by_cond (λ (a : Sent). (endpoint_at i a.state).keep ≡ (endpoint_at i s).keep) (eqb (refusal_tick clock j table room s) 0) (ticked clock j rs s) _
    (λ b. let r : State = settle clock rs (drop_silent clock j s) in
    at interval_part (λ u e. refl) (λ k e. refl) i (ticked clock j rs s).state r (map-set_same interval_part r.endpoints (pred j) _ no_endpoint refl)
    ∙ cleared_part interval_part (λ u e. refl) (λ k e. refl) i clock j rs s) (λ b. refl)

module _ (i clock random j : ℕ) (r : State) (v : Event) (low : 1 ≤ i) (lowest : 1 ≤ j) (high : pred i < length r.endpoints) where
  abbrev sent : Sent
  sent = with_event clock random j r v

  event-quiet : (endpoint_at i sent.state).quiet ≡ cond (eqb j i && ltb 0 (length sent.bytes)) (quiet_from clock random) (endpoint_at i r).quiet
  event-quiet =
      set-part quiet_part i j (after_event clock random v (endpoint_at j r)) r low lowest high
      ∙ rw (sends-bytes v.sends j r) (by_test (eqb j i) (λ b. rw (b, eqb-true j i b)) (λ b. rw b))

pub tick-quiet : (i clock j : ℕ) (rs : List ℕ) (table room : ℕ) (s : State) → 1 ≤ i → pred i < length s.endpoints
    → (endpoint_at i (tick clock j rs table room s).state).quiet
    ≡ cond (eqb j i && ltb 0 (length (tick clock j rs table room s).bytes)) (quiet_from clock (random_at j rs)) (endpoint_at i s).quiet
unfolding tick ticked
tick-quiet i clock j rs table room s low high =
    by_cond (λ (a : Sent). (endpoint_at i a.state).quiet ≡ cond (eqb j i && ltb 0 (length a.bytes)) (quiet_from clock (random_at j rs)) (endpoint_at i s).quiet)
    (eqb (refusal_tick clock j table room s) 0) (ticked clock j rs s) _
    (λ b. let r : State = settle clock rs (drop_silent clock j s) in
    let n : length r.endpoints ≡ length s.endpoints = cleared_length clock j rs s in
    let e : (endpoint_at i r).quiet ≡ (endpoint_at i s).quiet = cleared_part quiet_part (λ u e. refl) (λ k e. refl) i clock j rs s in
    event-quiet i clock (random_at j rs) j r (endpoint_event clock (random_at j rs) (endpoint_at j r)) low (one_of_ours clock j s _ b).0 (omega (arith, n, high))
    ∙ ap (λ (q : ℕ). cond (eqb j i && ltb 0 (length (ticked clock j rs s).bytes)) (quiet_from clock (random_at j rs)) q) e)
    (λ b. rw (and-false (eqb j i)))
  where
    cleared_length : (clock j : ℕ) (rs : List ℕ) (s : State) → length (settle clock rs (drop_silent clock j s)).endpoints ≡ length s.endpoints
    cleared_length clock j rs s =
        let r : State = settle clock rs (drop_silent clock j s) in
        sym (length-map r.endpoints quiet_part) ∙ ap length (settle-parts quiet_part (λ u e. refl) (λ k e. refl) clock rs (drop_silent clock j s))
        ∙ length-map (drop_silent clock j s).endpoints quiet_part ∙ ap length (silent-endpoints clock j s)

-- ---- before a keep-alive is due, only Trickle's own send point sends

-- one that is reset now has its send point later, so a send point that is due after settling was so before
settled_point : (clock : ℕ) (rs : List ℕ) (s : State) (i : ℕ) → pred i < length s.endpoints → point_due clock (endpoint_at i (settle clock rs s)).trickle ≡ true
    → (endpoint_at i (settle clock rs s)).trickle ≡ (endpoint_at i s).trickle
unfolding settle reset
settled_point clock rs s i high =
    by_cond (λ (es : List Endpoint). Same (get_or es (pred i) no_endpoint)) (same s.digest (network_digest s.own clock s.table)) s.endpoints (reset_all clock rs s.endpoints)
    (λ b d. refl) (λ b. resets_each clock Same (λ r e k. reset-point r e k) rs s.endpoints (pred i) high (λ d. refl))
  where
    Same : Endpoint → Type 0
    Same e = point_due clock e.trickle ≡ true → e.trickle ≡ (endpoint_at i s).trickle

    reset-point : (r : ℕ) (e : Endpoint) → Same e → Same (with_trickle (reset clock r e.trickle) e)
    reset-point r e k =
        by_cond (λ (t : Trickle). point_due clock t ≡ true → t ≡ (endpoint_at i s).trickle) (ltb least_interval e.trickle.interval) (fresh clock least_interval r) e.trickle
        (λ b d. no_way (point_due clock (fresh clock least_interval r)) d (fresh-idle clock least_interval r (omega arith)).point) (λ b. k)

pub tick-early : (clock i : ℕ) (rs : List ℕ) (s : State) → pred i < length s.endpoints → clock < (endpoint_at i s).quiet + (endpoint_at i s).keep
    → ltb 0 (length (ticked clock i rs s).bytes) ≡ true → (point_due clock (endpoint_at i s).trickle ≡ true) × ((endpoint_at i s).trickle.count < redundancy)
unfolding ticked
tick-early clock i rs s high early sent =
    let r : State = settle clock rs (drop_silent clock i s) in
    let e : Endpoint = endpoint_at i r in
    let q : e.quiet ≡ (endpoint_at i s).quiet = cleared_part quiet_part (λ u e. refl) (λ k e. refl) i clock i rs s in
    let k : e.keep ≡ (endpoint_at i s).keep = cleared_part interval_part (λ u e. refl) (λ k e. refl) i clock i rs s in
    let same_point : point_due clock e.trickle ≡ true → e.trickle ≡ (endpoint_at i s).trickle
    = λ d. settled_point clock rs (drop_silent clock i s) i (rw (silent-endpoints clock i s) high) d ∙ ap (λ (es : List Endpoint). (get_or es (pred i) no_endpoint).trickle) (silent-endpoints clock i s) in
    by_event clock (random_at i rs) e
    (λ v. v.sends ≡ true → (point_due clock (endpoint_at i s).trickle ≡ true) × ((endpoint_at i s).trickle.count < redundancy))
    (λ d w. let t = same_point d in (subst (λ (u : Trickle). point_due clock u ≡ true) t d, subst (λ (u : Trickle). u.count < redundancy) t (ltb-true e.trickle.count redundancy w)))
    (λ d o w. no_way true refl (sym w)) (λ a d w. absurd (omega (arith, d, early, q, k))) (λ a d w. no_way true refl (sym w))
    (sym (sends-bytes (endpoint_event clock (random_at i rs) e).sends i r) ∙ sent)

-- ---- a choice

module _ (i clock j k : ℕ) (rs : List ℕ) (table : ℕ) (s : State) where
  abbrev changed : State
  changed = with_endpoint j (with_keep k (endpoint_at j s)) (publish clock (with_keep_alive j k (own_data s)) s)

  pub choice_quiet : (endpoint_at i (keep_alive clock j k rs table s).state).quiet ≡ (endpoint_at i s).quiet
  unfolding keep_alive chosen with_choice publish_as
  choice_quiet =
      by_cond (λ (a : Done). (endpoint_at i a.state).quiet ≡ (endpoint_at i s).quiet) (eqb (refusal_keep_alive clock j k table s) 0) (record { number = 0; state = chosen clock j k rs s }) _
      (λ b. settled_part quiet_part (λ u e. refl) (λ m e. refl) i clock rs (with_choice clock j k s)
      ∙ by_cond (λ (u : State). (endpoint_at i u).quiet ≡ (endpoint_at i s).quiet) (eqb (endpoint_at j s).keep k) s changed (λ q. refl)
      (λ q. at quiet_part (λ u e. refl) (λ m e. refl) i changed s (map-set_same quiet_part s.endpoints (pred j) (with_keep k (endpoint_at j s)) no_endpoint refl)))
      (λ b. refl)

  with_choice_interval : 1 ≤ i → 1 ≤ j → pred i < length s.endpoints → (endpoint_at i (with_choice clock j k s)).keep ≡ cond (eqb j i) k (endpoint_at i s).keep
  unfolding with_choice publish_as
  with_choice_interval low lowest high =
      by_cond (λ (u : State). (endpoint_at i u).keep ≡ cond (eqb j i) k (endpoint_at i s).keep) (eqb (endpoint_at j s).keep k) s changed
      (λ q. by_test (eqb j i) (λ b. rw (b, sym (eqb-true j i b)) (eqb-true (endpoint_at j s).keep k q)) (λ b. rw b))
      (λ q. set-part interval_part i j (with_keep k (endpoint_at j s)) s low lowest high)

  pub choice_interval : 1 ≤ i → pred i < length s.endpoints → (endpoint_at i (keep_alive clock j k rs table s).state).keep
      ≡ cond (eqb (keep_alive clock j k rs table s).number 0 && eqb j i) k (endpoint_at i s).keep
  unfolding keep_alive chosen
  choice_interval low high =
      by_test (eqb (refusal_keep_alive clock j k table s) 0)
      (λ b. rw b (settled_part interval_part (λ u e. refl) (λ m e. refl) i clock rs (with_choice clock j k s) ∙ with_choice_interval low (one_of_ours clock j s _ b).0 high))
      (λ b. rw (b, b))

-- ---- starting anew

pub fresh_at : (clock : ℕ) (rs : List ℕ) (n : ℕ) → n < length rs → get_or (fresh_endpoints clock rs) n no_endpoint ≡ fresh_endpoint clock (get_or rs n 0)
fresh_at clock [] n l = absurd (omega (arith, l))
fresh_at clock (r ∷ rs) zero l = refl
fresh_at clock (r ∷ rs) (suc n) l = fresh_at clock rs n (omega (arith, l))

pub begun-endpoints : (own clock : ℕ) (rs : List ℕ) (table : ℕ) (s : State) → (begin own clock rs table s).number ≡ 0
    → (begin own clock rs table s).state.endpoints ≡ fresh_endpoints clock rs
unfolding begin begun started
begun-endpoints own clock rs table s z =
    by_test (eqb (refusal_begin clock table) 0) (λ b. rw b) (λ b. absurd (eqb-false (refusal_begin clock table) 0 b (rw b at z)))

pub resumed-endpoints : (clock : ℕ) (bytes rs : List ℕ) (table : ℕ) (s : State) → (resume clock bytes rs table s).number ≡ 0
    → (resume clock bytes rs table s).state.endpoints ≡ fresh_endpoints clock rs
unfolding resume resumed started
resumed-endpoints clock bytes rs table s z =
    let y : not (is_some (load clock bytes)) ≡ false = ((refusals_exact.resumes clock bytes rs table s).none.0 z).1.1.0 in
    by_test (eqb (refusal_resume clock bytes table) 0)
    (λ b. rw b (by_or_else (λ (u : State). u.endpoints ≡ fresh_endpoints clock rs) (load clock bytes) s (resumed clock rs)
    (λ e. no_way (is_some (load clock bytes)) (not-false (is_some (load clock bytes)) y) (ap is_some e)) (λ a e. refl)))
    (λ b. absurd (eqb-false (refusal_resume clock bytes table) 0 b (rw b at z)))
