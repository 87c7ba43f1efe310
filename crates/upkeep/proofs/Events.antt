-- A tick: the digest compared after silent peers have gone, the endpoint's event, and the bytes that are sent. Assumes nothing.
use mathlib.Core.Path.{◌≡◌, refl, sym, ap, ◌∙◌, subst}
use mathlib.Core.Bool.{true, false, cond}
use mathlib.Core.List.{List, [], ◌++◌}
use Prim.Native.Nat.{ℕ, pred, ◌≤◌}
use native.Mathlib.Omega.{arith}
use lib.ListN.{length, get_or, take, drop, length-append}
use Rattle.base.specs.Memory.{written}
use Rattle.base.proofs.Written.{written-length, written-above, written_more, part-there}
use Rattle.wire.proofs.Encoded.{encode-length}
use Rattle.model.specs.Figures.{most_bytes, last_reading}
use Rattle.model.specs.Digest.{network_digest}
use Rattle.model.specs.State.{State as ModelState, Endpoint as ModelEndpoint, endpoint_at, with_endpoint, settle}
use Rattle.model.specs.Messages.{endpoint_tlv, network_tlv}
use Rattle.model.specs.Tick.{drop_silent, Sent, announcement, endpoint_event, after_event, with_event, ticked}
use Rattle.model.specs.Invariant.{EndpointFits, Midway}
use Rattle.model.proofs.Cases.{endpoint-length, ticked-is}
use Rattle.model.proofs.KeptParts.{endpoint-fits, settle-midway}
use Rattle.model.proofs.KeptTick.{silent-kept}
use Rattle.trickle.specs.View.{event_of}
use Rattle.trickle.specs.declared.Event.{Event}
use Rattle.table.specs.View.{view, Wrote}
use Rattle.table.specs.declared.Table.{Table}
use Rattle.reach.specs.Marks.{Readable}
use Rattle.node.specs.View.{endpoint_of, state_of, Rep, Held, Published, Settled}
use Rattle.node.specs.declared.State.{State}
use Rattle.node.specs.declared.Endpoint.{Endpoint}
use Rattle.node.proofs.Parts.{state-own, state-digest}
use Rattle.node.proofs.Moves.{published_then}
use Rattle.node.proofs.Settling.{settled_moved}
use Rattle.upkeep.specs.Ticked.{Cleared, TickedFrom}
use Rattle.upkeep.proofs.Leaving.{midway-readable}

-- ---- the bytes

network_length : (digest : List ℕ) → length digest ≡ 16 → length (network_tlv digest) ≡ 20
network_length digest h = encode-length 4 digest ∙ rw h

module _ (own endpoint : ℕ) (digest : List ℕ) (h : length digest ≡ 16) where
  announced-length : length (endpoint_tlv own endpoint ++ network_tlv digest) ≡ 32
  announced-length = omega (arith, length-append (endpoint_tlv own endpoint) (network_tlv digest), endpoint-length own endpoint, network_length digest h)

  pub announced : (d d1 d2 tlv : List ℕ) → 32 ≤ length d → d1 ≡ written d 0 (endpoint_tlv own endpoint) → tlv ≡ network_tlv digest → d2 ≡ written d1 12 tlv
      → d2 ≡ written d 0 (endpoint_tlv own endpoint ++ network_tlv digest)
  announced d d1 d2 tlv l p q r =
      written_more d 0 (endpoint_tlv own endpoint) (network_tlv digest) d1 d2 12 p (omega (arith, endpoint-length own endpoint)) (r ∙ ap (written d1 12) q)
      (omega (arith, network_length digest h))

-- ---- silent peers gone, the digest compared

module _ (clock i : ℕ) (s : State) (m : List ℕ) (mid : Midway clock (state_of s m)) (a : State) (m' : List ℕ) (o : Published (drop_silent clock i (state_of s m)) s m a m') where
  dropped-midway : Midway clock (state_of a m')
  dropped-midway = subst (Midway clock) (sym o.moved.is) (silent-kept clock i (state_of s m) mid)

  pub dropped-readable : clock ≤ last_reading → Readable clock a.table m' × Held a m'
  dropped-readable l = midway-readable clock a m' dropped-midway o.moved.rep l

  pub dropped_cleared : (rs d : List ℕ) (r : State) → d ≡ network_digest a.own clock (view a.table m') → Settled clock rs d a r → Cleared clock i rs s m r m'
  dropped_cleared rs d r e h =
      record {
        published = published_then (settle clock rs) o h.table (settled_moved clock rs d a r m' h o.moved.rep e);
        midway = settle-midway clock rs (drop_silent clock i (state_of s m)) (silent-kept clock i (state_of s m) mid);
      }

-- ---- the tick

abbrev sent : ModelState → List ℕ → Sent
sent s d = record { number = 0; state = s; bytes = d }

module _ (clock i : ℕ) (rs : List ℕ) (s : State) (m : List ℕ) (b : State) (m' : List ℕ) (o : Cleared clock i rs s m b m')
    (e : Endpoint) (q : endpoint_of e ≡ endpoint_at i (state_of b m')) where
  abbrev after : ModelState
  after = settle clock rs (drop_silent clock i (state_of s m))

  endpoint-is : endpoint_of e ≡ endpoint_at i after
  endpoint-is = q ∙ ap (endpoint_at i) o.published.moved.is

  pub found-fits : 1 ≤ i → i ≤ 4 → EndpointFits clock (endpoint_of e)
  found-fits low high = subst (EndpointFits clock) (sym endpoint-is) (endpoint-fits i low high after o.midway)

  module _ (v : Event) (k : ℕ) (n : pred i ≡ k) (w : event_of v ≡ endpoint_event clock (get_or rs k 0) (endpoint_of e))
      (f : Endpoint) (g : endpoint_of f ≡ after_event clock (get_or rs k 0) (event_of v) (endpoint_of e))
      (r : State) (a : Rep r m') (u : state_of r m' ≡ with_endpoint i (endpoint_of f) (state_of b m')) (t : r.table ≡ b.table) where
    abbrev random : ℕ
    random = get_or rs (pred i) 0

    event-is : endpoint_event clock random (endpoint_at i after) ≡ event_of v
    event-is =
        ap (λ (j : ℕ). endpoint_event clock (get_or rs j 0) (endpoint_at i after)) n
        ∙ ap (endpoint_event clock (get_or rs k 0)) (sym endpoint-is)
        ∙ sym w

    state-is : state_of r m' ≡ with_endpoint i (after_event clock random (event_of v) (endpoint_at i after)) after
    state-is =
        u
        ∙ ap (with_endpoint i (endpoint_of f)) o.published.moved.is
        ∙ ap (λ (x : ModelEndpoint). with_endpoint i x after)
        (g ∙ ap (λ (j : ℕ). after_event clock (get_or rs j 0) (event_of v) (endpoint_of e)) (sym n) ∙ ap (after_event clock random (event_of v)) endpoint-is)

    -- what is sent names the state after the event
    announced-is : endpoint_tlv r.own i ++ network_tlv r.digest ≡ announcement i after
    announced-is =
        let c : r.own ≡ after.own = sym (state-own r m') ∙ ap (λ (x : ModelState). x.own) state-is in
        let d : r.digest ≡ after.digest = sym (state-digest r m') ∙ ap (λ (x : ModelState). x.digest) state-is in
        rw (c, d)

    answer-is : (d : List ℕ) → d ≡ cond v.sends (announcement i after) [] → sent (state_of r m') d ≡ ticked clock i rs (state_of s m)
    answer-is d p =
        ap (λ (x : ModelState). sent x d) state-is
        ∙ ap (sent (with_endpoint i (after_event clock random (event_of v) (endpoint_at i after)) after)) p
        ∙ ap (with_event clock random i after) (sym event-is)
        ∙ sym (ticked-is clock i (state_of s m) rs)

    wrote : Wrote s.table m (view r.table m') r.table m'
    wrote = subst (λ (x : Table). Wrote s.table m (view x m') x m') (sym t) o.published.wrote

    module _ (room : List ℕ) where
      -- nothing is sent
      pub quiet-tick : v.sends ≡ false → TickedFrom s m room clock i rs (record { number = 0; state = r; length = 0 }) m' room
      quiet-tick h =
          record {
            accepted = refl;
            rep = a;
            wrote = wrote;
            is = answer-is [] (rw h);
            used = omega arith;
            size = o.published.moved.size;
            beyond = o.published.moved.beyond;
            room = refl;
            rest = refl;
          }

      pub sent_tick : v.sends ≡ true → most_bytes ≤ length room → (room' : List ℕ) → room' ≡ written room 0 (endpoint_tlv r.own i ++ network_tlv r.digest)
          → TickedFrom s m room clock i rs (record { number = 0; state = r; length = 32 }) m' room'
      sent_tick h l room' p =
          let d : List ℕ = endpoint_tlv r.own i ++ network_tlv r.digest in
          let z : length (endpoint_tlv r.own i ++ network_tlv r.digest) ≡ 32 = announced-length r.own i r.digest a.digest in
          record {
            accepted = refl;
            rep = a;
            wrote = wrote;
            is = answer-is (take 32 room') (part-there room room' d 0 32 p (sym z) (omega arith) ∙ announced-is ∙ rw h);
            used = omega arith;
            size = o.published.moved.size;
            beyond = o.published.moved.beyond;
            room = ap length p ∙ written-length room d 0 (omega arith);
            rest = ap (drop 32) p ∙ written-above room d 0 (omega arith) 32 (omega arith);
          }
