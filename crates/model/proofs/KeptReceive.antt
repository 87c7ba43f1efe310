-- The handling of a datagram keeps the invariant, TLV by TLV, and our identifier. Assumes nothing.
use Rattle.std.proofs.Common.{◌≡◌, ℕ, ◌+◌, ◌<◌, ◌≤◌, true, false, cond, ◌&&◌, eqb, ltb, leb, List, [], ◌∷◌, ◌++◌, length, drop, sym, refl, ◌∙◌, arith, ltb-true, leb-false, leb-true}
use mathlib.Core.Option.{none, some}
use Rattle.base.specs.Lists.{All}
use Rattle.base.specs.Bytes.{Bytes, same}
use Rattle.base.proofs.Tests.{and_left, and_right}
use Rattle.base.proofs.Bytes.{bytes_take, bytes_drop, u32_small}
use Rattle.base.proofs.Sorted.{find-some}
use Rattle.sha256.specs.Sha256.{hash16}
use Rattle.wire.specs.Row.{length_of, value_of}
use Rattle.wire.specs.Order.{good}
use Rattle.model.specs.Figures.{most_nodes, data_limit, publish_limit, most_peers, most_age, peer_bytes, request_gap, reclaim_step, most_bytes}
use Rattle.model.specs.Sequence.{circle, advance}
use Rattle.model.specs.Table.{Entry, id_of, look}
use Rattle.model.specs.Trickle.{hear}
use Rattle.model.specs.State.{State, Peer, with_table, endpoint_at, with_trickle, with_next, own_seq, own_data, publish_as, peer_tlv, with_tlv, settle}
use Rattle.model.specs.Decide.{Received, Decision, received_of, taken, with_data, without_data, wanted_new, wanted_held, differs, decide, after}
use Rattle.model.specs.Handle.{Context, new_peer, room_for_peer, add_peer}
use Rattle.model.specs.Refusals.{Row, late, back, no_such_endpoint, small_room, long, no_row}
use Rattle.model.specs.Receive.{Call, Answer, context_of, handled, refusal_receive, answered, receive}
use Rattle.model.specs.Invariant.{EntryFits, PeerFits, EndpointFits, Valid, Midway}
use Rattle.model.proofs.KeptParts.{none-applies, not_late, not_back, one_to_four, valid-midway, settle_valid, settle-own, midway-own, foreign_kept, publish-kept, republish_kept, advance-fits, touch-kept, endpoint-fits, endpoint-kept, hear-fits, with_trickle_lem}
use Rattle.model.proofs.KeptData.{known, acceptable, peers_new, peer-good, peer_linked, peer-chosen}
use Rattle.wire.proofs.Good.{tlvs-bytes}
use Rattle.base.proofs.Options.{by_cond, by_or_else}
use Rattle.base.proofs.Lists.{all_in}
use Rattle.model.proofs.KeptSteps.{Steps, sender_in, handled-holds, receive-holds}

-- ---- what a received Node State about another node puts into the table

-- the numbers of a received Node State are of 32 bits
pub record Numbers (r : Received) : Type 0 where
  pub node : r.node < circle
  pub seq : r.seq < circle
  pub age : r.age ≤ most_age

received_numbers : (v : List ℕ) → Bytes v → Numbers (received_of v)
unfolding received_of
received_numbers v h = record { node = u32_small v 0 h; seq = u32_small v 4 h; age = omega (arith, u32_small v 8 h) }

-- the entry e is about the node, fits, and has room in the table t
pub record Taken (clock : ℕ) (t : List Entry) (r : Received) (e : Entry) : Type 0 where
  pub node : id_of e ≡ r.node
  pub fits : EntryFits clock e
  pub room : look (id_of e) t ≡ none → length t < most_nodes

abbrev pub Takes : ℕ → List Entry → Received → Decision → Type 0
Takes clock t r Decision.ignored = Unit {0}
Takes clock t r (Decision.ask n) = Unit {0}
Takes clock t r (Decision.take_number e) = Taken clock t r e
Takes clock t r (Decision.take_all e) = Taken clock t r e
Takes clock t r Decision.dropped = Unit {0}

module _ (clock : ℕ) (t : List Entry) (r : Received) (n : Numbers r) where
  taken-fits : (d : List ℕ) → good data_limit d ≡ true → (look r.node t ≡ none → length t < most_nodes) → Taken clock t r (taken clock r d)
  taken-fits d g room =
      record { node = refl; fits = record { node = n.node; seq = n.seq; fine = g; age = n.age; since = omega arith }; room = room }

  with_data_lem : (d : List ℕ) → (look r.node t ≡ none → length t < most_nodes) → Takes clock t r (with_data clock r d)
  unfolding with_data
  with_data_lem d room =
      by_cond (Takes clock t r) (good data_limit d && same (hash16 d) r.hash) (Decision.take_all (taken clock r d)) Decision.ignored
      (λ b. taken-fits d (and_left _ _ b) room) (λ b. tt)

  wanted_new_lem : length t < most_nodes → Takes clock t r (wanted_new clock r)
  unfolding wanted_new
  wanted_new_lem l = by_or_else (Takes clock t r) r.carried (Decision.ask r.node) (with_data clock r) (λ e. tt) (λ d e. with_data_lem d (λ q. l))

  module _ (e : Entry) (q : look r.node t ≡ some e) (h : All (EntryFits clock) t) where
    there : look r.node t ≡ none → length t < most_nodes
    there z = let y : ◌≡◌ {A = ℕ} 0 1 = cc in absurd (omega arith)

    held_fits : EntryFits clock e
    unfolding look
    held_fits = all_in (EntryFits clock) e t h (find-some id_of r.node e t q).0

    without_data_lem : Takes clock t r (without_data clock r e)
    unfolding without_data
    without_data_lem =
        by_cond (Takes clock t r) (same (hash16 e.says.node_data) r.hash) (Decision.take_number (taken clock r e.says.node_data)) (Decision.ask r.node)
        (λ b. taken-fits e.says.node_data held_fits.fine there) (λ b. tt)

    wanted_held_lem : Takes clock t r (wanted_held clock r e)
    unfolding wanted_held
    wanted_held_lem = by_or_else (Takes clock t r) r.carried (without_data clock r e) (with_data clock r) (λ b. without_data_lem) (λ d b. with_data_lem d there)

  pub decide-takes : All (EntryFits clock) t → Takes clock t r (decide clock t r)
  unfolding decide
  decide-takes h =
      by_or_else (Takes clock t r) (look r.node t) (cond (leb most_nodes (length t)) Decision.dropped (wanted_new clock r))
      (λ e. cond (differs e r) (wanted_held clock r e) Decision.ignored)
      (λ q. by_cond (Takes clock t r) (leb most_nodes (length t)) Decision.dropped (wanted_new clock r) (λ b. tt) (λ b. wanted_new_lem (leb-false most_nodes (length t) b)))
      (λ e q. by_cond (Takes clock t r) (differs e r) (wanted_held clock r e) Decision.ignored (λ b. wanted_held_lem e q h) (λ b. tt))

-- the table after a decision
after_kept : (clock : ℕ) (r : Received) (s : State) → Midway clock s → ¬ (r.node ≡ s.own) → (d : Decision) → Takes clock s.table r d → Midway clock (with_table (after d s.table) s)
unfolding after
after_kept clock r s m ne Decision.ignored k = m
after_kept clock r s m ne (Decision.ask n) k = m
after_kept clock r s m ne (Decision.take_number e) k = foreign_kept e s m (λ q. ne (sym k.node ∙ q)) k.fits k.room
after_kept clock r s m ne (Decision.take_all e) k = foreign_kept e s m (λ q. ne (sym k.node ∙ q)) k.fits k.room
after_kept clock r s m ne Decision.dropped k = m

-- ---- the steps keep the invariant

pub add_kept : (clock : ℕ) (p : Peer) (s : State) → Midway clock s → PeerFits s.own clock p → known p s.peers ≡ false → room_for_peer s ≡ true → Midway clock (add_peer clock p s)
unfolding add_peer publish_as
add_kept clock p s m f u b =
    let few : length s.peers < most_peers = ltb-true (length s.peers) most_peers (and_left _ _ b) in
    let room : length (own_data s) + peer_bytes ≤ data_limit = acceptable (leb-true (length (own_data s) + peer_bytes) publish_limit (and_right (ltb (length s.peers) most_peers) _ b)) in
    let g : good data_limit (own_data s) ≡ true = (midway-own s m).fine in
    publish-kept (advance (own_seq s) 1) (with_tlv (peer_tlv p) (own_data s)) (s.peers ++ (p ∷ [])) s m (advance-fits (own_seq s) 1)
    (peer-good p (own_data s) s.peers m.links u g room)
    (peers_new s.peers m.peers p few u f)
    (peer_linked p (own_data s) s.peers m.links u g room) s.endpoints m.endpoints
    (peer-chosen p (own_data s) s.peers m.links u g room s.endpoints m.choices)

module _ (c : Context) (low : 1 ≤ c.endpoint) (high : c.endpoint ≤ 4) where
  pub steps-kept : (v : List ℕ) → Bytes v → Steps c (Midway c.clock) v
  steps-kept v h =
      record {
        asks = λ s m. let e : EndpointFits c.clock (endpoint_at c.endpoint s) = endpoint-fits c.endpoint low high s m in
            endpoint-kept c.endpoint low high s m (with_next (c.clock + request_gap) (endpoint_at c.endpoint s))
            (record { trickle = e.trickle; next = omega arith; least = e.least; most = e.most; quiet = e.quiet }) refl;
        touches = λ f s m. touch-kept f.node f.endpoint c.endpoint c.clock s m;
        hears = λ s m. let e : EndpointFits c.clock (endpoint_at c.endpoint s) = endpoint-fits c.endpoint low high s m in
            endpoint-kept c.endpoint low high s m (with_trickle (hear (endpoint_at c.endpoint s).trickle) (endpoint_at c.endpoint s))
            (with_trickle_lem c.clock (hear (endpoint_at c.endpoint s).trickle) (endpoint_at c.endpoint s) e (hear-fits c.clock (endpoint_at c.endpoint s).trickle e.trickle))
            refl;
        greets = λ s ne u b m. add_kept c.clock (new_peer c (sender_in v)) s m
            (record { node = u32_small v 0 h; theirs = u32_small v 4 h; first = low; fourth = high; foreign = ne; contact = omega arith }) u b;
        reclaims = λ s m. republish_kept (advance (received_of v).seq reclaim_step) s m (advance-fits (received_of v).seq reclaim_step);
        takes = λ s ne m. after_kept c.clock (received_of v) s m ne (decide c.clock s.table (received_of v))
            (decide-takes c.clock s.table (received_of v) (received_numbers v h) m.table.entries);
      }

-- ---- a datagram

value-bytes : (t : List ℕ) → Bytes t → Bytes (value_of t)
unfolding value_of
value-bytes t h = bytes_take (length_of t) (drop 4 t) (bytes_drop 4 t h)

pub handled-kept : (c : Call) (s : State) → 1 ≤ c.endpoint → c.endpoint ≤ 4 → Bytes c.datagram → Midway c.clock s → Midway c.clock (handled s c).state
handled-kept c s low high h m =
    handled-holds (Midway c.clock) c s (λ t k. steps-kept (context_of s c) low high (value_of t) (value-bytes t (tlvs-bytes c.datagram t h k))) m

abbrev rows : Call → State → List Row
rows c s =
    late c.clock ∷ back c.clock s ∷ no_such_endpoint c.endpoint ∷ small_room c.table c.room most_bytes ∷ long c.datagram ∷ no_row c.datagram
    ∷ []

pub receive-valid : (c : Call) (s : State) → Bytes c.datagram → Valid s → Valid (receive c s).state
unfolding receive
receive-valid c s h v =
    by_cond (λ (a : Answer). Valid a.state) (eqb (refusal_receive c s) 0) (answered c (handled s c)) _
    (λ b. accepted (none-applies (rows c s) (omega arith) b)) (λ b. v)
  where
    accepted : All (λ r. r.applies ≡ false) (rows c s) → Valid (settle c.clock c.randoms (handled s c).state)
    accepted a =
        let i : (1 ≤ c.endpoint) × (c.endpoint ≤ 4) = one_to_four c.endpoint a.1.1.0 in
        settle_valid c.clock c.randoms (handled s c).state
        (handled-kept c s i.0 i.1 h (valid-midway c.clock s v (not_back c.clock s a.1.0)))
        (not_late c.clock a.0)

-- ---- our identifier stays

steps-own : (c : Context) (own : ℕ) (v : List ℕ) → Steps c (λ (s : State). s.own ≡ own) v
unfolding add_peer publish_as
steps-own c own v = record { asks = λ s h. h; touches = λ f s h. h; hears = λ s h. h; greets = λ s ne u b h. h; reclaims = λ s h. h; takes = λ s ne h. h }

pub receive-own : (c : Call) (s : State) → (receive c s).state.own ≡ s.own
receive-own c s =
    receive-holds (λ (u : State). u.own ≡ s.own) c s (λ t m. steps-own (context_of s c) s.own (value_of t)) (λ u h. settle-own c.clock c.randoms u ∙ h) refl
