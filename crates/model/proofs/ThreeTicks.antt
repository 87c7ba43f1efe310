-- After three ticks at one reading nothing further is due on that endpoint, and at most one of the three sends. Assumes nothing.
use Rattle.std.proofs.Common.{◌≡◌, ℕ, pred, ◌*◌, ◌<◌, ◌≤◌, min, true, false, not, ◌||◌, ltb, leb, List, [], ◌∷◌, length, get_or, sym, refl, ap, ◌∙◌, subst, inl, inr, arith, length-set, get_or-set_same, leb-false}
use lib.Seq.{set-get_or}
use Rattle.base.specs.Lists.{keep, In, All}
use Rattle.base.specs.Bytes.{same}
use Rattle.base.proofs.Tests.{no_way, by_test, no_not, or_left, or_right}
use Rattle.base.proofs.Lists.{keep_in, all_more, all_in, keep-none}
use Rattle.base.proofs.Places.{all-at}
use Rattle.wire.proofs.Ordering.{same_self}
use Rattle.model.specs.Figures.{refresh_age, least_interval, greatest_interval}
use Rattle.model.specs.Table.{Entry, entry_of, id_of, age_at, look, put, anew}
use Rattle.model.specs.Digest.{network_digest}
use Rattle.model.specs.Trickle.{Trickle, Event, fresh, spend, reset, point_due}
use Rattle.model.specs.State.{State, Peer, Endpoint, endpoint_at, no_endpoint, with_endpoints, with_endpoint, with_peers, own_entry, publish_as, reset_all, settle}
use Rattle.model.specs.Tick.{Sent, interval_of, goes, some_of, drop_silent, endpoint_event, after_event, with_event, ticked}
use Rattle.model.specs.Invariant.{Valid, intervals, PeerFits, EndpointFits}
use Rattle.model.specs.Theorems.{OneAtMost, ThreeTicks}
use Rattle.base.proofs.Sorted.{find-inserted, find-other}
use Rattle.model.proofs.Happening.{Idle, Quiet, fresh-idle, turn, by_event}
use Rattle.model.proofs.KeptParts.{resets_length}
use Rattle.model.proofs.Cases.{gone, stay, settle-same, settle-reset, silent-none, silent-some, silent-endpoints, ticked-is}

-- ---- an endpoint at one reading: its send point, its interval's end and its keep-alive come one after the other, and then nothing

-- an interval that can be halved, so that a send point afresh is not due at once; a keep-alive interval that is not over at once
record Sound (e : Endpoint) : Type 0 where
  long : 2 ≤ e.trickle.interval
  least : 1 ≤ e.keep

-- nothing is due
record Resting (clock : ℕ) (e : Endpoint) : Type 0 where
  idle : Idle clock e.trickle
  quiet : Quiet clock e

-- nothing more is sent at this reading: the send point is spent and no keep-alive is due
record Hushed (clock : ℕ) (e : Endpoint) : Type 0 where
  point : point_due clock e.trickle ≡ false
  quiet : Quiet clock e

module _ (clock random : ℕ) (e : Endpoint) (s : Sound e) where
  abbrev After : (Endpoint → Type 0) → Event → Type 0
  After P v = P (after_event clock random v e)

  twice : 2 ≤ min (e.trickle.interval * 2) greatest_interval
  twice = let l : 2 ≤ e.trickle.interval = s.long in omega arith

  turn-sound : Sound (turn clock random e)
  unfolding fresh spend
  turn-sound =
      by_event clock random e (After Sound) (λ b. record { long = s.long; least = s.least }) (λ b o. record { long = twice; least = s.least })
      (λ i d. record { long = s.long; least = s.least }) (λ i q. record { long = s.long; least = s.least })

  -- the send point is spent
  first-turn : point_due clock (turn clock random e).trickle ≡ false
  unfolding spend
  first-turn =
      by_event clock random e (After (λ (f : Endpoint). point_due clock f.trickle ≡ false)) (λ b. refl) (λ b o. (fresh-idle clock _ random twice).point)
      (λ i d. (fresh-idle clock e.trickle.interval random s.long).point) (λ i q. i.point)

  -- then the interval goes on
  second-turn : point_due clock e.trickle ≡ false → Idle clock (turn clock random e).trickle
  second-turn n =
      by_event clock random e (After (λ (f : Endpoint). Idle clock f.trickle)) (λ b. no_way (point_due clock e.trickle) b n)
      (λ b o. fresh-idle clock _ random twice) (λ i d. fresh-idle clock e.trickle.interval random s.long) (λ i q. i)

  -- then no keep-alive is due
  third-turn : Idle clock e.trickle → Resting clock (turn clock random e)
  third-turn h =
      by_event clock random e (After (Resting clock)) (λ b. no_way (point_due clock e.trickle) b h.point) (λ b o. absurd (omega (arith, h.running)))
      (λ i d. let l : 1 ≤ e.keep = s.least in record { idle = fresh-idle clock e.trickle.interval random s.long; quiet = omega arith })
      (λ i q. record { idle = i; quiet = q })

  -- what is sent fixes that nothing else is
  sent_hushed : (endpoint_event clock random e).sends ≡ true → Hushed clock (turn clock random e)
  sent_hushed b = record { point = first-turn; quiet = rw b (let l : 1 ≤ e.keep = s.least in omega arith) }

-- nothing is sent again
module _ (clock random : ℕ) (e : Endpoint) (h : Hushed clock e) where
  hushed_silent : (endpoint_event clock random e).sends ≡ false
  hushed_silent =
      by_event clock random e (λ v. v.sends ≡ false) (λ b. no_way (point_due clock e.trickle) b h.point) (λ b o. refl) (λ i d. absurd (omega (arith, h.quiet)))
      (λ i q. refl)

  hushed_again : Sound e → Hushed clock (turn clock random e)
  hushed_again s = record { point = first-turn clock random e s; quiet = rw hushed_silent h.quiet }

resting_event : (clock random : ℕ) (e : Endpoint) → Resting clock e → endpoint_event clock random e ≡ record { sends = false; next = e.trickle }
resting_event clock random e h =
    by_event clock random e (λ v. v ≡ record { sends = false; next = e.trickle }) (λ b. no_way (point_due clock e.trickle) b h.idle.point)
    (λ b o. absurd (omega (arith, h.idle.running))) (λ i d. absurd (omega (arith, h.quiet))) (λ i q. refl)

-- ---- the state: nothing goes, nothing is refreshed, and the reading is settled

module _ (clock i : ℕ) where
  -- no peer of the endpoint goes, and our entry is too young to be refreshed
  record Calm (s : State) : Type 0 where
    none : some_of (gone clock i s) ≡ false
    young : age_at clock (own_entry s) < refresh_age

  -- whether a peer goes depends on its own node's entry, so what we publish changes it for none
  goes_published : (e : Entry) (t : List Entry) (p : Peer) → ¬ (p.node ≡ id_of e) → goes clock i (put e t) p ≡ goes clock i t p
  unfolding goes interval_of look put
  goes_published e t p n = rw (find-other id_of p.node e t (λ q. n (sym q)))

  -- those that stayed go on staying
  stay_stays : (e : Entry) (s : State) → All (λ p. ¬ (p.node ≡ id_of e)) s.peers → keep (goes clock i (put e s.table)) (stay clock i s) ≡ []
  stay_stays e s h =
      keep-none (goes clock i (put e s.table)) (stay clock i s)
      (λ p m. let k = keep_in (λ p. not (goes clock i s.table p)) p s.peers m in
      goes_published e s.table p (all_in (λ p. ¬ (p.node ≡ id_of e)) p s.peers h k.0) ∙ no_not (goes clock i s.table p) k.1)

  published_calm : (n : ℕ) (d : List ℕ) (s : State) → All (λ p. ¬ (p.node ≡ s.own)) s.peers → Calm (with_peers (stay clock i s) (publish_as clock n d s))
  unfolding publish_as own_entry look put
  published_calm n d s h =
      let e : Entry = entry_of s.own n d (anew clock) in
      record { none = ap some_of (stay_stays e s h); young = rw (find-inserted id_of e s.table) (omega arith) }

  silent_calm : (s : State) → All (λ p. ¬ (p.node ≡ s.own)) s.peers → Calm (drop_silent clock i s)
  silent_calm s h =
      by_test (some_of (gone clock i s) || leb refresh_age (age_at clock (own_entry s))) (λ e. rw (silent-some clock i s e) (published_calm _ _ s h))
      (λ e. let n : some_of (gone clock i s) ≡ false = or_left _ _ e in
      let y : age_at clock (own_entry s) < refresh_age = leb-false refresh_age (age_at clock (own_entry s)) (or_right (some_of (gone clock i s)) _ e) in
      rw (silent-none clock i s n y) (record { none = n; young = y }))

  -- a calm state whose reading and digest are those of now: of a tick only the event is left
  record Settled (s : State) : Type 0 where
    calm : Calm s
    last : s.last ≡ clock
    digest : s.digest ≡ network_digest s.own clock s.table

  settle_settled : (rs : List ℕ) (s : State) → Calm s → Settled (settle clock rs s)
  unfolding settle own_entry
  settle_settled rs s h = record { calm = record { none = h.none; young = h.young }; last = refl; digest = refl }

  settled_again : (rs : List ℕ) (s : State) → Settled s → settle clock rs (drop_silent clock i s) ≡ s
  settled_again rs s h =
      let d : same s.digest (network_digest s.own clock s.table) ≡ true = rw h.digest (same_self (network_digest s.own clock s.table)) in
      ap (settle clock rs) (silent-none clock i s h.calm.none h.calm.young) ∙ settle-same clock rs s d
      ∙ sym (λ j. record { own = s.own; last = h.last j; table = s.table; peers = s.peers; endpoints = s.endpoints; digest = h.digest j })

  settled_endpoint : (e : Endpoint) (s : State) → Settled s → Settled (with_endpoint i e s)
  unfolding own_entry
  settled_endpoint e s h = record { calm = record { none = h.calm.none; young = h.calm.young }; last = h.last; digest = h.digest }

  abbrev random_for : List ℕ → ℕ
  random_for rs = get_or rs (pred i) 0

  abbrev event_for : List ℕ → State → Event
  event_for rs s = endpoint_event clock (random_for rs) (endpoint_at i s)

  abbrev bytes_for : List ℕ → State → List ℕ
  bytes_for rs s = (with_event clock (random_for rs) i s (event_for rs s)).bytes

  -- the state with the endpoint after its event
  abbrev stepped : List ℕ → State → State
  stepped rs s = with_endpoint i (turn clock (random_for rs) (endpoint_at i s)) s

  settled_tick : (rs : List ℕ) (s : State) → Settled s → ticked clock i rs s ≡ with_event clock (random_for rs) i s (event_for rs s)
  settled_tick rs s h = ticked-is clock i s rs ∙ rw (settled_again rs s h)

  -- a settled state whose endpoint stands there and is sound
  record Ready (s : State) : Type 0 where
    settled : Settled s
    stands : pred i < length s.endpoints
    sound : Sound (endpoint_at i s)

  module _ (rs : List ℕ) (s : State) (h : Ready s) where
    stepped-endpoint : endpoint_at i (stepped rs s) ≡ turn clock (random_for rs) (endpoint_at i s)
    stepped-endpoint = get_or-set_same s.endpoints (pred i) (turn clock (random_for rs) (endpoint_at i s)) no_endpoint h.stands

    stepped_ready : Ready (stepped rs s)
    stepped_ready =
        record {
          settled = settled_endpoint _ s h.settled;
          stands = rw (length-set s.endpoints (pred i) (turn clock (random_for rs) (endpoint_at i s))) h.stands;
          sound = subst Sound (sym stepped-endpoint) (turn-sound clock (random_for rs) (endpoint_at i s) h.sound);
        }

    resting_tick : Resting clock (endpoint_at i s) → ticked clock i rs s ≡ record { number = 0; state = s; bytes = [] }
    resting_tick k =
        settled_tick rs s h.settled ∙ ap (with_event clock (random_for rs) i s) (resting_event clock (random_for rs) (endpoint_at i s) k)
        ∙ ap (λ (es : List Endpoint). record { number = 0; state = with_endpoints es s; bytes = [] }) (set-get_or s.endpoints (pred i) no_endpoint)

    silent_bytes : Hushed clock (endpoint_at i s) → bytes_for rs s ≡ []
    silent_bytes k = rw (hushed_silent clock (random_for rs) (endpoint_at i s) k)

    hushed_on : Hushed clock (endpoint_at i s) → Hushed clock (endpoint_at i (stepped rs s))
    hushed_on k = subst (Hushed clock) (sym stepped-endpoint) (hushed_again clock (random_for rs) (endpoint_at i s) k h.sound)

    hushed_from : (event_for rs s).sends ≡ true → Hushed clock (endpoint_at i (stepped rs s))
    hushed_from b = subst (Hushed clock) (sym stepped-endpoint) (sent_hushed clock (random_for rs) (endpoint_at i s) h.sound b)

  -- three steps, and then nothing is due
  module _ (p q r : List ℕ) (s : State) (h : Ready s) where
    abbrev one : State
    one = stepped p s

    abbrev two : State
    two = stepped q one

    abbrev three : State
    three = stepped r two

    one_ready : Ready one
    one_ready = stepped_ready p s h

    two_ready : Ready two
    two_ready = stepped_ready q one one_ready

    three_ready : Ready three
    three_ready = stepped_ready r two two_ready

    one-spent : point_due clock (endpoint_at i one).trickle ≡ false
    one-spent = subst (λ (e : Endpoint). point_due clock e.trickle ≡ false) (sym (stepped-endpoint p s h)) (first-turn clock (random_for p) (endpoint_at i s) h.sound)

    two_idle : Idle clock (endpoint_at i two).trickle
    two_idle = subst (λ (e : Endpoint). Idle clock e.trickle) (sym (stepped-endpoint q one one_ready)) (second-turn clock (random_for q) (endpoint_at i one) one_ready.sound one-spent)

    three_rests : Resting clock (endpoint_at i three)
    three_rests = subst (Resting clock) (sym (stepped-endpoint r two two_ready)) (third-turn clock (random_for r) (endpoint_at i two) two_ready.sound two_idle)

    one-sends : OneAtMost (bytes_for p s) (bytes_for q one) (bytes_for r two)
    one-sends =
        by_test (event_for p s).sends
        (λ b. let w : Hushed clock (endpoint_at i one) = hushed_from p s h b in
        inr (inr (silent_bytes q one one_ready w, silent_bytes r two two_ready (hushed_on q one one_ready w))))
        (λ b. by_test (event_for q one).sends (λ k. inr (inl (rw b, silent_bytes r two two_ready (hushed_from q one one_ready k)))) (λ k. inl (rw b, rw k)))

-- ---- the endpoints of a valid state, also after a reset

interval-long : (n : ℕ) → In n intervals → 2 ≤ n
interval-long n m = all_in (λ k. 2 ≤ k) n intervals (omega arith) m

reset-long : (clock random : ℕ) (t : Trickle) → 2 ≤ t.interval → 2 ≤ (reset clock random t).interval
unfolding reset fresh
reset-long clock random t h = by_test (ltb least_interval t.interval) (λ e. rw e (omega arith)) (λ e. rw e h)

resets_sound : (clock : ℕ) (rs : List ℕ) (es : List Endpoint) → All Sound es → All Sound (reset_all clock rs es)
unfolding reset_all
resets_sound clock rs [] h = tt
resets_sound clock [] (e ∷ es) h = h
resets_sound clock (r ∷ rs) (e ∷ es) h = (record { long = reset-long clock r e.trickle h.0.long; least = h.0.least }, resets_sound clock rs es h.1)

record Four (es : List Endpoint) : Type 0 where
  four : length es ≡ 4
  sound : All Sound es

settle-four : (clock : ℕ) (rs : List ℕ) (s : State) → Four s.endpoints → Four (settle clock rs s).endpoints
settle-four clock rs s h =
    by_test (same s.digest (network_digest s.own clock s.table)) (λ e. rw (settle-same clock rs s e) h)
    (λ e. rw (settle-reset clock rs s e) (record { four = resets_length clock rs s.endpoints ∙ h.four; sound = resets_sound clock rs s.endpoints h.sound }))

-- ---- the statement

module _ (s : State) (clock i : ℕ) (p q r : List ℕ) (v : Valid s) (low : 1 ≤ i) (high : i ≤ 4) where
  abbrev settled_then : State
  settled_then = settle clock p (drop_silent clock i s)

  foreign : All (λ p. ¬ (p.node ≡ s.own)) s.peers
  foreign = all_more (PeerFits s.own s.last) (λ p. ¬ (p.node ≡ s.own)) (λ p f. f.foreign) s.peers v.inside.peers.all

  sound : All Sound s.endpoints
  sound =
      all_more (EndpointFits s.last) Sound (λ e f. record { long = interval-long e.trickle.interval f.trickle.interval; least = f.least }) s.endpoints
      v.inside.endpoints.all

  four : Four settled_then.endpoints
  four = settle-four clock p (drop_silent clock i s) (rw (silent-endpoints clock i s) (record { four = v.inside.endpoints.four; sound = sound }))

  ready : Ready clock i settled_then
  ready =
      let l : pred i < length settled_then.endpoints = omega (arith, four.four) in
      record {
        settled = settle_settled clock i p (drop_silent clock i s) (silent_calm clock i s foreign);
        stands = l;
        sound = all-at Sound no_endpoint settled_then.endpoints (pred i) four.sound l;
      }

  abbrev first : Sent
  first = with_event clock (random_for clock i p) i settled_then (event_for clock i p settled_then)

  abbrev a : State
  a = one clock i p q r settled_then ready

  abbrev b : State
  b = two clock i p q r settled_then ready

  abbrev c : State
  c = three clock i p q r settled_then ready

  first_tick : ticked clock i p s ≡ first
  first_tick = ticked-is clock i s p

  second_tick : ticked clock i q (ticked clock i p s).state ≡ with_event clock (random_for clock i q) i a (event_for clock i q a)
  second_tick = ap (λ (t : Sent). ticked clock i q t.state) first_tick ∙ settled_tick clock i q a (one_ready clock i p q r settled_then ready).settled

  third_tick : ticked clock i r (ticked clock i q (ticked clock i p s).state).state ≡ with_event clock (random_for clock i r) i b (event_for clock i r b)
  third_tick = ap (λ (t : Sent). ticked clock i r t.state) second_tick ∙ settled_tick clock i r b (two_ready clock i p q r settled_then ready).settled

  rest : (o : List ℕ) →
      let d : State = (ticked clock i r (ticked clock i q (ticked clock i p s).state).state).state in
      ticked clock i o d ≡ record { number = 0; state = d; bytes = [] }
  rest o =
      subst (λ (d : State). ticked clock i o d ≡ record { number = 0; state = d; bytes = [] }) (sym (ap (λ (t : Sent). t.state) third_tick))
      (resting_tick clock i o c (three_ready clock i p q r settled_then ready) (three_rests clock i p q r settled_then ready))

  once : OneAtMost (ticked clock i p s).bytes (ticked clock i q (ticked clock i p s).state).bytes (ticked clock i r (ticked clock i q (ticked clock i p s).state).state).bytes
  once = rw (third_tick, second_tick, first_tick) (one-sends clock i p q r settled_then ready)

pub three_ticks : ThreeTicks
three_ticks = record { rest = λ s clock i p q r o v low high. rest s clock i p q r v low high o; once = once }
