-- A tick keeps the invariant: silent peers go with their TLVs, and at most one endpoint has an event. Assumes nothing.
use Rattle.std.proofs.Common.{◌≡◌, ℕ, ◌+◌, ◌≤◌, true, false, not, ◌&&◌, ◌||◌, eqb, leb, List, [], ◌∷◌, refl, arith}
use Rattle.base.specs.Lists.{keep, All}
use Rattle.wire.specs.Order.{good}
use Rattle.model.specs.Figures.{data_limit, refresh_age, most_bytes, last_reading, most_delay}
use Rattle.model.specs.Sequence.{advance}
use Rattle.model.specs.Table.{age_at}
use Rattle.model.specs.Trickle.{Event, is_idle}
use Rattle.model.specs.State.{State, Peer, Endpoint, with_peers, endpoint_at, random_at, quiet_from, own_entry, own_seq, own_data, publish_as, publish, settle}
use Rattle.model.specs.Refusals.{Row, late, back, no_such_endpoint, small_room}
use Rattle.model.specs.Tick.{goes, without_peers, some_of, drop_silent, Sent, keep_alive_due, endpoint_event, after_event, with_event, ticked, refusal_tick, tick}
use Rattle.model.specs.Invariant.{TrickleFits, EndpointFits, Valid, Midway}
use Rattle.model.proofs.Cases.{silent-own}
use Rattle.model.proofs.KeptParts.{none-applies, not_late, not_back, one_to_four, valid-midway, midway-own, publish-kept, advance-fits, endpoint-fits, endpoint-kept, fresh-fits, event-fits, settle-midway}
use Rattle.base.proofs.Options.{by_cond}
use Rattle.model.proofs.KeptData.{peers_keep, gone-good, gone_linked, gone-chosen}

-- the peers that go leave, and so do their TLVs
module _ (clock i : ℕ) (s : State) where
  abbrev gone : List Peer
  gone = keep (goes clock i s.table) s.peers

  abbrev left : List Peer
  left = keep (λ p. not (goes clock i s.table p)) s.peers

  drop-kept : Midway clock s → Midway clock (with_peers left (publish clock (without_peers gone (own_data s)) s))
  unfolding publish_as
  drop-kept m =
      let g : good data_limit (own_data s) ≡ true = (midway-own s m).fine in
      publish-kept (advance (own_seq s) 1) (without_peers gone (own_data s)) left s m (advance-fits (own_seq s) 1)
      (gone-good (goes clock i s.table) (own_data s) s.peers g)
      (peers_keep s.peers m.peers (λ p. not (goes clock i s.table p)))
      (gone_linked (goes clock i s.table) (own_data s) s.peers g m.links m.peers.once) s.endpoints m.endpoints
      (gone-chosen (goes clock i s.table) (own_data s) s.peers g s.endpoints m.choices)

  pub silent-kept : Midway clock s → Midway clock (drop_silent clock i s)
  unfolding drop_silent
  silent-kept m =
      by_cond (Midway clock) (some_of gone || leb refresh_age (age_at clock (own_entry s))) (with_peers left (publish clock (without_peers gone (own_data s)) s)) s (λ b. drop-kept m) (λ b. m)

-- the endpoint's event
endpoint_event_fits : (clock random : ℕ) (e : Endpoint) → EndpointFits clock e → TrickleFits clock (endpoint_event clock random e).next
unfolding endpoint_event
endpoint_event_fits clock random e f =
    by_cond (λ (v : Event). TrickleFits clock v.next) (is_idle clock e.trickle && keep_alive_due clock e) _ _ (λ b. fresh-fits clock e.trickle.interval random f.trickle.interval)
    (λ b. event-fits clock random e.trickle f.trickle)

after_event_fits : (clock random : ℕ) (v : Event) (e : Endpoint) → EndpointFits clock e → TrickleFits clock v.next → EndpointFits clock (after_event clock random v e)
after_event_fits clock random v e f t =
    record {
      trickle = t;
      next = f.next;
      least = f.least;
      most = f.most;
      quiet = by_cond (λ (n : ℕ). n ≤ clock + most_delay) v.sends (quiet_from clock random) e.quiet (λ b. omega arith) (λ b. f.quiet);
    }

event-kept : (clock i random : ℕ) (s : State) → 1 ≤ i → i ≤ 4 → Midway clock s → Midway clock (with_event clock random i s (endpoint_event clock random (endpoint_at i s))).state
event-kept clock i random s low high m =
    let f : EndpointFits clock (endpoint_at i s) = endpoint-fits i low high s m in
    let v : Event = endpoint_event clock random (endpoint_at i s) in
    endpoint-kept i low high s m (after_event clock random v (endpoint_at i s))
    (after_event_fits clock random v (endpoint_at i s) f (endpoint_event_fits clock random (endpoint_at i s) f)) refl

module _ (clock i : ℕ) (rs : List ℕ) (s : State) where
  pub ticked-valid : Midway clock s → 1 ≤ i → i ≤ 4 → clock ≤ last_reading → Valid (ticked clock i rs s).state
  unfolding ticked settle
  ticked-valid m low high l =
      record {
        inside = event-kept clock i (random_at i rs) (settle clock rs (drop_silent clock i s)) low high (settle-midway clock rs (drop_silent clock i s) (silent-kept clock i s m));
        last = l;
        digest = refl;
      }

  pub ticked_own : (ticked clock i rs s).state.own ≡ s.own
  unfolding ticked settle
  ticked_own = silent-own clock i s

module _ (clock i : ℕ) (rs : List ℕ) (table room : ℕ) (s : State) where
  abbrev rows : List Row
  rows = late clock ∷ back clock s ∷ no_such_endpoint i ∷ small_room table room most_bytes ∷ []

  pub tick-valid : Valid s → Valid (tick clock i rs table room s).state
  unfolding tick
  tick-valid v =
      by_cond (λ (a : Sent). Valid a.state) (eqb (refusal_tick clock i table room s) 0) (ticked clock i rs s) _ (λ b. accepted (none-applies rows (omega arith) b)) (λ b. v)
    where
      accepted : All (λ r. r.applies ≡ false) rows → Valid (ticked clock i rs s).state
      accepted a =
          let e : (1 ≤ i) × (i ≤ 4) = one_to_four i a.1.1.0 in
          ticked-valid clock i rs s (valid-midway clock s v (not_back clock s a.1.0)) e.0 e.1 (not_late clock a.0)

  pub tick-own : (tick clock i rs table room s).state.own ≡ s.own
  unfolding tick
  tick-own =
      by_cond (λ (a : Sent). a.state.own ≡ s.own) (eqb (refusal_tick clock i table room s) 0) (ticked clock i rs s) _ (λ b. ticked_own clock i rs s) (λ b. refl)
