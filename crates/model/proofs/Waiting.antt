-- An endpoint that waits for its keep-alive: whatever else is called, it goes on waiting, and a third event of its own at the latest sends. Assumes nothing.
use Rattle.std.proofs.Common.{◌≡◌, ℕ, zero, suc, pred, ◌+◌, ◌*◌, ◌/◌, ◌<◌, ◌≤◌, min, true, not, eqb, ltb, ◌⊎◌, List, ◌++◌, length, get_or, set, sym, refl, ap, subst, inl, inr, ⊎_elim, arith, length-set, get_or-set_other, get_or-set_same, eq-eqb, eqb-true, leb-true}
use borrow.Author.Tests.{eqb-false}
use Rattle.base.specs.Bytes.{same}
use Rattle.base.proofs.Tests.{no_way, by_test, and_left, and_right, no_not}
use Rattle.base.proofs.Lists.{all_in}
use Rattle.base.proofs.Options.{by_cond}
use Rattle.wire.specs.Row.{value_of}
use Rattle.wire.specs.Payment.{Payment, payment_tlv}
use Rattle.model.specs.Figures.{least_interval, greatest_interval, redundancy, request_gap}
use Rattle.model.specs.Digest.{network_digest}
use Rattle.model.specs.Reach.{reached}
use Rattle.model.specs.Trickle.{Trickle, fresh, hear, spend, reset, point_due}
use Rattle.model.specs.State.{State, Endpoint, no_endpoint, endpoint_at, random_at, with_table, with_trickle, with_next, with_keep, own_data, publish_as, publish, with_tlv, reset_all, settle}
use Rattle.model.specs.Messages.{endpoint_tlv, network_tlv}
use Rattle.model.specs.Begin.{Done}
use Rattle.model.specs.Tick.{Sent, drop_silent, endpoint_event, after_event, with_event, ticked, refusal_tick, tick}
use Rattle.model.specs.Handle.{Context, add_peer}
use Rattle.model.specs.Receive.{Call, Answer, context_of, handled, refusal_receive, answered, receive}
use Rattle.model.specs.Pay.{paid, refusal_pay, pay, purged, refusal_purge, purge}
use Rattle.model.specs.KeepAlive.{with_choice, chosen, refusal_keep_alive, keep_alive}
use Rattle.model.specs.Invariant.{intervals, EndpointFits, Midway, Valid}
use Rattle.model.proofs.Cases.{silent-endpoints, ticked-is, tick-accepted}
use Rattle.model.proofs.Happening.{by_event}
use Rattle.model.proofs.KeptParts.{valid-midway, endpoint-fits, settle-midway, resets_length, resets_each}
use Rattle.model.proofs.KeptSteps.{Steps, handled-holds}
use Rattle.model.proofs.Readings.{on_time, one_of_ours}
use Rattle.model.proofs.KeptTick.{silent-kept}

-- ---- the endpoint: its keep-alive is due since `from`, and k events of its own have gone since

-- the send point lies Imin/2 past `from`
abbrev pub Far : ℕ → Trickle → Type 0
Far from t = from + least_interval / 2 ≤ t.start + t.point

-- after k events that sent nothing: the first spends the send point or starts an interval, the second starts one, a third sends
abbrev pub Phase : ℕ → ℕ → Trickle → Type 0
Phase from zero t = Unit {0}
Phase from (suc zero) t = (t.spent ≡ true) ⊎ Far from t
Phase from (suc (suc zero)) t = Far from t
Phase from (suc (suc (suc k))) t = ⊥

pub record Waits (from k : ℕ) (e : Endpoint) : Type 0 where
  pub due : e.quiet + e.keep ≤ from
  pub phase : Phase from k e.trickle

-- endpoint i of these endpoints waits
pub record Pending (i from k : ℕ) (es : List Endpoint) : Type 0 where
  pub inside : pred i < length es
  pub waits : Waits from k (get_or es (pred i) no_endpoint)

-- fewer events ask for less
pub phase_lower : (from k : ℕ) (t : Trickle) → Phase from (suc k) t → Phase from k t
phase_lower from zero t h = tt
phase_lower from (suc zero) t h = inr h
phase_lower from (suc (suc k)) t h = absurd h

pub pending_lower : (i from k : ℕ) (es : List Endpoint) → Pending i from (suc k) es → Pending i from k es
pending_lower i from k es p =
    let w : Waits from (suc k) (get_or es (pred i) no_endpoint) = p.waits in
    record { inside = p.inside; waits = record { due = w.due; phase = phase_lower from k (get_or es (pred i) no_endpoint).trickle w.phase } }

-- the same phase, in another Trickle state
phase_stays : (from k : ℕ) (t u : Trickle) → (t.spent ≡ true → (u.spent ≡ true) ⊎ Far from u) → (Far from t → Far from u) → Phase from k t → Phase from k u
phase_stays from zero t u f g h = tt
phase_stays from (suc zero) t u f g h = ⊎_elim f (λ q. inr (g q)) h
phase_stays from (suc (suc zero)) t u f g h = g h
phase_stays from (suc (suc (suc k))) t u f g h = h

-- the next: no event comes while the send point is far
phase_next : (from k : ℕ) (t u : Trickle) → (u.spent ≡ true) ⊎ Far from u → (t.spent ≡ true → Far from u) → ¬ (Far from t) → Phase from k t → Phase from (suc k) u
phase_next from zero t u a f n h = a
phase_next from (suc zero) t u a f n h = ⊎_elim f (λ q. absurd (n q)) h
phase_next from (suc (suc zero)) t u a f n h = n h
phase_next from (suc (suc (suc k))) t u a f n h = h

-- an interval that starts now has its send point half of it later, at the earliest
fresh_far : (from clock i random : ℕ) → from ≤ clock → least_interval ≤ i → Far from (fresh clock i random)
unfolding fresh
fresh_far from clock i random l h = omega arith

-- ---- an event of its own sends, or it waits on

module _ (from k clock random : ℕ) (e : Endpoint) (low : from ≤ clock) (high : clock < from + least_interval / 2) where
  abbrev t : Trickle
  t = e.trickle

  point_phase : point_due clock t ≡ true → Phase from k t → Phase from (suc k) (spend t)
  unfolding spend
  point_phase b h =
      phase_next from k t (spend t) (inl refl) (λ q. no_way t.spent q (no_not t.spent (and_left _ _ b)))
      (λ f. absurd (omega (arith, f, leb-true (t.start + t.point) clock (and_right (not t.spent) _ b)))) h

  over_phase : least_interval ≤ t.interval → t.point < t.interval → t.start + t.interval ≤ clock → Phase from k t
      → Phase from (suc k) (fresh clock (min (t.interval * 2) greatest_interval) random)
  over_phase l p o h =
      let f : Far from (fresh clock (min (t.interval * 2) greatest_interval) random) = fresh_far from clock (min (t.interval * 2) greatest_interval) random low (omega arith) in
      phase_next from k t (fresh clock (min (t.interval * 2) greatest_interval) random) (inr f) (λ q. f) (λ q. absurd (omega arith)) h

  pub waits_event : (c : ℕ) → EndpointFits c e → Waits from k e
      → ((endpoint_event clock random e).sends ≡ true) ⊎ Waits from (suc k) (after_event clock random (endpoint_event clock random e) e)
  waits_event c f w =
      let l : least_interval ≤ t.interval = all_in (λ n. least_interval ≤ n) t.interval intervals (omega arith) f.trickle.interval in
      by_event clock random e (λ v. (v.sends ≡ true) ⊎ Waits from (suc k) (after_event clock random v e))
      (λ b. by_test (ltb t.count redundancy) (λ q. inl q) (λ q. inr (record { due = rw q w.due; phase = point_phase b w.phase })))
      (λ b o. inr (record { due = w.due; phase = over_phase l f.trickle.high o w.phase }))
      (λ i d. inl refl) (λ i q. absurd (omega (arith, w.due, q)))

-- ---- endpoints set and reset

-- endpoint i itself set
pending_own : (i from k : ℕ) (es : List Endpoint) (e : Endpoint) → pred i < length es → Waits from k e → Pending i from k (set es (pred i) e)
pending_own i from k es e l w =
    record { inside = rw (length-set es (pred i) e) l; waits = subst (Waits from k) (sym (get_or-set_same es (pred i) e no_endpoint l)) w }

module _ (i from k : ℕ) (es : List Endpoint) (p : Pending i from k es) (j : ℕ) (e : Endpoint) where
  -- another one
  pending_other : ¬ (j ≡ pred i) → Pending i from k (set es j e)
  pending_other n =
      record {
        inside = rw (length-set es j e) p.inside;
        waits = subst (Waits from k) (sym (get_or-set_other es j (pred i) e no_endpoint (λ q. n (sym q)))) p.waits;
      }

  -- any one, where what is set there waits as what stood there did
  pub pending_set : (Waits from k (get_or es j no_endpoint) → Waits from k e) → Pending i from k (set es j e)
  pending_set f =
      by_test (eqb j (pred i))
      (λ b. let q : pred i ≡ j = sym (eqb-true j (pred i) b) in
      subst (λ (m : ℕ). Pending i from k (set es m e)) q
      (pending_own i from k es e p.inside (f (subst (λ (m : ℕ). Waits from k (get_or es m no_endpoint)) q p.waits))))
      (λ b. pending_other (eqb-false j (pred i) b))

-- a reset starts an interval now, or leaves the one that there is
module _ (from k clock : ℕ) (low : from ≤ clock) where
  reset_phase : (random : ℕ) (t : Trickle) → Phase from k t → Phase from k (reset clock random t)
  unfolding reset
  reset_phase random t h =
      by_cond (Phase from k) (ltb least_interval t.interval) (fresh clock least_interval random) t
      (λ b. let f : Far from (fresh clock least_interval random) = fresh_far from clock least_interval random low (omega arith) in
      phase_stays from k t (fresh clock least_interval random) (λ q. inr f) (λ q. f) h)
      (λ b. h)

pub settle_pending : (i from k clock : ℕ) (rs : List ℕ) (s : State) → from ≤ clock → Pending i from k s.endpoints → Pending i from k (settle clock rs s).endpoints
unfolding settle
settle_pending i from k clock rs s l p =
    by_cond (Pending i from k) (same s.digest (network_digest s.own clock s.table)) s.endpoints (reset_all clock rs s.endpoints) (λ b. p)
    (λ b. record {
      inside = rw (resets_length clock rs s.endpoints) p.inside;
      waits = resets_each clock (Waits from k) (λ r e w. record { due = w.due; phase = reset_phase from k clock l r e.trickle w.phase }) rs s.endpoints (pred i) p.inside p.waits;
    })

-- ---- every call but a tick or a choice of its own leaves it waiting

-- the last reading is `from` or later, and endpoint i waits
abbrev pub Awaits : ℕ → ℕ → ℕ → State → Type 0
Awaits i from k s = (from ≤ s.last) × Pending i from k s.endpoints

module _ (i from k : ℕ) where
  settle_awaits : (clock : ℕ) (rs : List ℕ) (s : State) → from ≤ clock → Pending i from k s.endpoints → Awaits i from k (settle clock rs s)
  unfolding settle
  settle_awaits clock rs s l p = (l, settle_pending i from k clock rs s l p)

  -- a request for network state and an equal digest heard change no send point
  steps_pending : (c : Context) (v : List ℕ) → Steps c (λ (s : State). Pending i from k s.endpoints) v
  unfolding add_peer publish_as hear
  steps_pending c v =
      record {
        asks = λ s p. pending_set i from k s.endpoints p (pred c.endpoint) (with_next (c.clock + request_gap) (endpoint_at c.endpoint s))
            (λ w. record { due = w.due; phase = w.phase });
        touches = λ f s p. p;
        hears = λ s p. let t : Trickle = (endpoint_at c.endpoint s).trickle in
            pending_set i from k s.endpoints p (pred c.endpoint) (with_trickle (hear t) (endpoint_at c.endpoint s))
            (λ w. record { due = w.due; phase = phase_stays from k t (hear t) (λ q. inl q) (λ q. q) w.phase });
        greets = λ s ne u b p. p;
        reclaims = λ s p. p;
        takes = λ s ne p. p;
      }

  pub receive_pending : (c : Call) (s : State) → from ≤ s.last → Pending i from k s.endpoints → Awaits i from k (receive c s).state
  unfolding receive
  receive_pending c s l p =
      by_cond (λ (a : Answer). Awaits i from k a.state) (eqb (refusal_receive c s) 0) (answered c (handled s c)) _
      (λ b. settle_awaits c.clock c.randoms (handled s c).state (omega (arith, on_time c.clock s _ b))
      (handled-holds (λ (u : State). Pending i from k u.endpoints) c s (λ t m. steps_pending (context_of s c) (value_of t)) p)) (λ b. (l, p))

  pub pay_pending : (clock : ℕ) (q : Payment) (rs : List ℕ) (table : ℕ) (s : State) → from ≤ s.last → Pending i from k s.endpoints → Awaits i from k (pay clock q rs table s).state
  unfolding pay paid publish_as
  pay_pending clock q rs table s l p =
      by_cond (λ (a : Done). Awaits i from k a.state) (eqb (refusal_pay clock q table s) 0) (record { number = 0; state = paid clock q rs s }) _
      (λ b. settle_awaits clock rs (publish clock (with_tlv (payment_tlv q) (own_data s)) s) (omega (arith, on_time clock s _ b)) p) (λ b. (l, p))

  pub purge_pending : (clock : ℕ) (rs : List ℕ) (table : ℕ) (s : State) → from ≤ s.last → Pending i from k s.endpoints → Awaits i from k (purge clock rs table s).state
  unfolding purge purged
  purge_pending clock rs table s l p =
      by_cond (λ (a : Done). Awaits i from k a.state) (eqb (refusal_purge clock table s) 0) (record { number = 0; state = purged clock rs s }) _
      (λ b. settle_awaits clock rs (with_table (reached s.own clock s.table) s) (omega (arith, on_time clock s _ b)) p) (λ b. (l, p))

  -- ---- a choice or a tick of another endpoint

  module _ (low : 1 ≤ i) (j : ℕ) (ne : ¬ (j ≡ i)) where
    apart : 1 ≤ j → ¬ (pred j ≡ pred i)
    apart h q = ne (omega (arith, q))

    with_choice_pending : (clock n : ℕ) (s : State) → 1 ≤ j → Pending i from k s.endpoints → Pending i from k (with_choice clock j n s).endpoints
    unfolding with_choice publish_as
    with_choice_pending clock n s h p =
        by_cond (λ (u : State). Pending i from k u.endpoints) (eqb (endpoint_at j s).keep n) s _ (λ b. p)
        (λ b. pending_other i from k s.endpoints p (pred j) (with_keep n (endpoint_at j s)) (apart h))

    pub choice_pending : (clock n : ℕ) (rs : List ℕ) (table : ℕ) (s : State) → from ≤ s.last → Pending i from k s.endpoints
        → Awaits i from k (keep_alive clock j n rs table s).state
    unfolding keep_alive chosen
    choice_pending clock n rs table s l p =
        by_cond (λ (a : Done). Awaits i from k a.state) (eqb (refusal_keep_alive clock j n table s) 0) (record { number = 0; state = chosen clock j n rs s }) _
        (λ b. settle_awaits clock rs (with_choice clock j n s) (omega (arith, on_time clock s _ b)) (with_choice_pending clock n s (one_of_ours clock j s _ b).0 p)) (λ b. (l, p))

    pub tick_pending : (clock : ℕ) (rs : List ℕ) (table room : ℕ) (s : State) → from ≤ s.last → Pending i from k s.endpoints
        → Awaits i from k (tick clock j rs table room s).state
    unfolding tick ticked
    tick_pending clock rs table room s l p =
        by_cond (λ (a : Sent). Awaits i from k a.state) (eqb (refusal_tick clock j table room s) 0) (ticked clock j rs s) _
        (λ b. let r : State = settle clock rs (drop_silent clock j s) in
        let w : Awaits i from k r = settle_awaits clock rs (drop_silent clock j s) (omega (arith, on_time clock s _ b)) (rw (silent-endpoints clock j s) p) in
        (w.0, pending_other i from k r.endpoints w.1 (pred j) _ (apart (one_of_ours clock j s _ b).0)))
        (λ b. (l, p))

-- ---- a tick of its own sends, or leaves it waiting with an event more

-- what was sent: our endpoint, and the network state of the table that is left
abbrev pub Announces : ℕ → ℕ → Sent → Type 0
Announces clock i t = t.bytes ≡ endpoint_tlv t.state.own i ++ network_tlv (network_digest t.state.own clock t.state.table)

module _ (i from k clock : ℕ) (low : from ≤ clock) (high : clock < from + least_interval / 2) where
  event_pending : (random : ℕ) (s : State) → s.digest ≡ network_digest s.own clock s.table → EndpointFits clock (endpoint_at i s) → Pending i from k s.endpoints
      → let t : Sent = with_event clock random i s (endpoint_event clock random (endpoint_at i s)) in Announces clock i t ⊎ Pending i from (suc k) t.state.endpoints
  event_pending random s d f p =
      ⊎_elim (λ b. inl (rw b (ap (λ (h : List ℕ). endpoint_tlv s.own i ++ network_tlv h) d)))
      (λ w. inr (pending_own i from (suc k) s.endpoints _ p.inside w)) (waits_event from k clock random (endpoint_at i s) low high clock f p.waits)

  pub own-tick : (rs : List ℕ) (table room : ℕ) (s : State) → Valid s → refusal_tick clock i table room s ≡ 0 → Pending i from k s.endpoints
      → Announces clock i (tick clock i rs table room s) ⊎ Pending i from (suc k) (tick clock i rs table room s).state.endpoints
  unfolding settle
  own-tick rs table room s v z p =
      let b : eqb (refusal_tick clock i table room s) 0 ≡ true = eq-eqb (refusal_tick clock i table room s) 0 z in
      let o : (1 ≤ i) × (i ≤ 4) = one_of_ours clock i s _ b in
      let r : State = settle clock rs (drop_silent clock i s) in
      let m : Midway clock r = settle-midway clock rs (drop_silent clock i s) (silent-kept clock i s (valid-midway clock s v (on_time clock s _ b))) in
      rw (tick-accepted clock i s rs table room z, ticked-is clock i s rs)
      (event_pending (random_at i rs) r refl (endpoint-fits i o.0 o.1 r m) (settle_pending i from k clock rs (drop_silent clock i s) low (rw (silent-endpoints clock i s) p)))
