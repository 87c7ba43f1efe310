-- The parts of the invariant, and how each stands after a step: an entry put, our own published, peers touched, an endpoint set, a reading
-- taken. Assumes nothing.
use Rattle.std.proofs.Common.{◌≡◌, ℕ, zero, suc, pred, ◌*◌, ◌/◌, ◌%◌, ◌<◌, ◌≤◌, min, true, false, ◌&&◌, eqb, ltb, leb, List, [], ◌∷◌, map, length, get_or, sym, refl, ap, ◌∙◌, subst, inl, mod-lt, arith, length-set, ltb-false, eqb-true, leb-true}
use mathlib.Core.Option.{Option, none, some}
use lib.ListN.{length-map}
use lib.Seq.{map-set_same}
use borrow.Author.Tests.{eqb-false, not-false}
use Rattle.base.specs.Lists.{any, or_else, is_some, In, All}
use Rattle.base.specs.Bytes.{same}
use Rattle.base.proofs.Tests.{no_way, by_test, and_left, and_right}
use Rattle.base.proofs.Lists.{in_any, all_in, all_more, all_map, all_set}
use Rattle.base.proofs.Sorted.{insert-ascending, insert-length, find-some, by_find, all_insert, find-inserted, find-other, over-length}
use Rattle.base.proofs.Places.{all-at}
use Rattle.wire.specs.Order.{good}
use Rattle.model.specs.Figures.{most_nodes, data_limit, last_reading, least_interval, greatest_interval}
use Rattle.model.specs.Sequence.{circle, advance}
use Rattle.model.specs.Table.{Entry, id_of, entry_of, look, put, anew}
use Rattle.model.specs.Digest.{network_digest}
use Rattle.model.specs.Trickle.{Trickle, fresh, hear, spend, reset, event, point_due, interval_over}
use Rattle.model.specs.State.{State, Peer, Endpoint, with_table, with_peers, with_endpoints, with_trickle, endpoint_at, with_endpoint, no_endpoint, no_entry, own_entry, own_data, publish_as, peer_tlv, is_peer, contacted, reset_all, settle}
use Rattle.model.specs.Refusals.{Row, first_of, late, back, no_such_endpoint}
use Rattle.model.specs.Invariant.{EntryFits, PeerFits, Once, intervals, TrickleFits, EndpointFits, TableFits, PeersFit, Linked, Chosen, EndpointsFit, Midway, Valid}

-- ---- a call that is not refused: no row of its table applies, and what that says of the reading and the endpoint

pub none-applies : (rs : List Row) → All (λ r. ¬ (r.number ≡ 0)) rs → eqb (first_of rs) 0 ≡ true → All (λ r. r.applies ≡ false) rs
none-applies [] n e = tt
none-applies (r ∷ rs) n e =
    by_test r.applies (λ b. absurd (n.0 (eqb-true r.number 0 (rw b at e)))) (λ b. (b, none-applies rs n.1 (rw b at e)))

pub not_late : (clock : ℕ) → (late clock).applies ≡ false → clock ≤ last_reading
not_late clock e = ltb-false last_reading clock e

pub not_back : (clock : ℕ) (s : State) → (back clock s).applies ≡ false → s.last ≤ clock
not_back clock s e = ltb-false clock s.last e

pub one_to_four : (i : ℕ) → (no_such_endpoint i).applies ≡ false → (1 ≤ i) × (i ≤ 4)
one_to_four i e =
    let b : leb 1 i && leb i 4 ≡ true = not-false (leb 1 i && leb i 4) e in
    (leb-true 1 i (and_left _ _ b), leb-true i 4 (and_right (leb 1 i) _ b))

-- ---- a later reading

module _ {a b : ℕ} (l : a ≤ b) where
  entry_later : (e : Entry) → EntryFits a e → EntryFits b e
  entry_later e f = record { node = f.node; seq = f.seq; fine = f.fine; age = f.age; since = omega (arith, f.since) }

  peer_later : {own : ℕ} (p : Peer) → PeerFits own a p → PeerFits own b p
  peer_later p f =
      record { node = f.node; theirs = f.theirs; first = f.first; fourth = f.fourth; foreign = f.foreign; contact = omega (arith, f.contact) }

  trickle_later : (t : Trickle) → TrickleFits a t → TrickleFits b t
  trickle_later t f = record { interval = f.interval; low = f.low; high = f.high; count = f.count; start = omega (arith, f.start) }

  endpoint_later : (e : Endpoint) → EndpointFits a e → EndpointFits b e
  endpoint_later e f =
      record { trickle = trickle_later e.trickle f.trickle; next = omega (arith, f.next); least = f.least; most = f.most; quiet = omega (arith, f.quiet) }

-- into a call, and out of it
pub valid-midway : (clock : ℕ) (s : State) → Valid s → s.last ≤ clock → Midway clock s
valid-midway clock s v l =
    let m : Midway s.last s = v.inside in
    record {
      own = m.own;
      table = record {
        ascending = m.table.ascending;
        held = m.table.held;
        nodes = m.table.nodes;
        entries = all_more (EntryFits s.last) (EntryFits clock) (entry_later l) s.table m.table.entries;
      };
      peers = record {
        few = m.peers.few;
        once = m.peers.once;
        all = all_more (PeerFits s.own s.last) (PeerFits s.own clock) (peer_later l) s.peers m.peers.all;
      };
      links = m.links;
      choices = m.choices;
      endpoints = record {
        four = m.endpoints.four;
        all = all_more (EndpointFits s.last) (EndpointFits clock) (endpoint_later l) s.endpoints m.endpoints.all;
      };
    }

-- ---- our own entry

pub found : (o : Option Entry) → is_some o ≡ true → o ≡ some (or_else o no_entry (λ e. e))
found none h = no_way false h refl
found (some e) h = refl

module _ {clock : ℕ} (s : State) (m : Midway clock s) where
  pub midway-held : look s.own s.table ≡ some (own_entry s)
  unfolding own_entry
  midway-held = found (look s.own s.table) m.table.held

  pub own_in : In (own_entry s) s.table × (id_of (own_entry s) ≡ s.own)
  unfolding look
  own_in = find-some id_of s.own (own_entry s) s.table midway-held

  pub midway-own : EntryFits clock (own_entry s)
  midway-own = all_in (EntryFits clock) (own_entry s) s.table m.table.entries own_in.0

-- ---- an entry put into the table

pub look-put : (e : Entry) (t : List Entry) → look (id_of e) (put e t) ≡ some e
unfolding look put
look-put e t = find-inserted id_of e t

pub look-other : (n : ℕ) (e : Entry) (t : List Entry) → ¬ (id_of e ≡ n) → look n (put e t) ≡ look n t
unfolding look put
look-other n e t ne = find-other id_of n e t ne

module _ {own clock : ℕ} (e : Entry) (t : List Entry) (h : TableFits own clock t) where
  put-held : is_some (look own (put e t)) ≡ true
  put-held =
      by_test (eqb (id_of e) own) (λ b. subst (λ (n : ℕ). is_some (look n (put e t)) ≡ true) (eqb-true (id_of e) own b) (ap is_some (look-put e t)))
      (λ b. ap is_some (look-other own e t (eqb-false (id_of e) own b)) ∙ h.held)

  put-nodes : (look (id_of e) t ≡ none → length t < most_nodes) → length (put e t) ≤ most_nodes
  unfolding look put
  put-nodes room =
      let n : length t ≤ most_nodes = h.nodes in
      by_find id_of (id_of e) t (λ q. let r : length t < most_nodes = room q in omega (arith, insert-length id_of e t q))
      (λ b q. let r : In b t × (id_of b ≡ id_of e) = find-some id_of (id_of e) b t q in omega (arith, over-length id_of e b t h.ascending r.0 r.1))

  -- over an entry of the same node, or where there is room for one more
  pub put-fits : EntryFits clock e → (look (id_of e) t ≡ none → length t < most_nodes) → TableFits own clock (put e t)
  unfolding put
  put-fits f room =
      record {
        ascending = insert-ascending id_of e t h.ascending;
        held = put-held;
        nodes = put-nodes room;
        entries = all_insert (EntryFits clock) id_of e t f h.entries;
      }

-- a foreign entry
module _ {clock : ℕ} (e : Entry) (s : State) (m : Midway clock s) (ne : ¬ (id_of e ≡ s.own)) where
  pub foreign-own : own_entry (with_table (put e s.table) s) ≡ own_entry s
  unfolding own_entry
  foreign-own = rw (look-other s.own e s.table ne)

  pub foreign_kept : EntryFits clock e → (look (id_of e) s.table ≡ none → length s.table < most_nodes) → Midway clock (with_table (put e s.table) s)
  foreign_kept f room =
      record {
        own = m.own;
        table = put-fits e s.table m.table f room;
        peers = m.peers;
        links = subst (λ (e : Entry). Linked e.says.node_data s.peers) (sym foreign-own) m.links;
        choices = subst (λ (e : Entry). Chosen e.says.node_data s.endpoints) (sym foreign-own) m.choices;
        endpoints = m.endpoints;
      }

-- our own entry, published, with the peers and the intervals that its data names
module _ {clock : ℕ} (n : ℕ) (d : List ℕ) (ps : List Peer) (s : State) where
  pub published-own : own_entry (with_peers ps (publish_as clock n d s)) ≡ entry_of s.own n d (anew clock)
  unfolding own_entry publish_as
  published-own = rw (look-put (entry_of s.own n d (anew clock)) s.table)

  pub publish-kept : Midway clock s → n < circle → good data_limit d ≡ true → PeersFit s.own clock ps → Linked d ps
      → (es : List Endpoint) → EndpointsFit clock es → Chosen d es → Midway clock (with_endpoints es (with_peers ps (publish_as clock n d s)))
  unfolding publish_as own_entry
  publish-kept m l g p k es f h =
      let e : Entry = entry_of s.own n d (anew clock) in
      record {
        own = m.own;
        table = put-fits e s.table m.table (record { node = m.own; seq = l; fine = g; age = omega arith; since = omega arith })
            (λ q. let z : ◌≡◌ {A = ℕ} 0 1 = cc (midway-held s m) in absurd (omega arith));
        peers = p;
        links = subst (λ (e : Entry). Linked e.says.node_data ps) (sym published-own) k;
        choices = subst (λ (e : Entry). Chosen e.says.node_data es) (sym published-own) h;
        endpoints = f;
      }

-- the same data, under another number
pub republish_kept : {clock : ℕ} (n : ℕ) (s : State) → Midway clock s → n < circle → Midway clock (publish_as clock n (own_data s) s)
unfolding publish_as
republish_kept n s m l = publish-kept n (own_data s) s.peers s m l (midway-own s m).fine m.peers m.links s.endpoints m.endpoints m.choices

pub advance-fits : (n k : ℕ) → advance n k < circle
unfolding advance
advance-fits n k = omega arith

-- ---- peers touched

module _ (n theirs ours clock : ℕ) where
  contacted-tlv : (p : Peer) → peer_tlv (contacted n theirs ours clock p) ≡ peer_tlv p
  unfolding peer_tlv
  contacted-tlv p = by_test (is_peer n theirs ours p) (λ b. rw b) (λ b. rw b)

  contacted-tlvs : (ps : List Peer) → map peer_tlv (map (contacted n theirs ours clock) ps) ≡ map peer_tlv ps
  contacted-tlvs [] = refl
  contacted-tlvs (p ∷ ps) = rw (contacted-tlv p, contacted-tlvs ps)

  contacted-is : (a b c : ℕ) (p : Peer) → is_peer a b c (contacted n theirs ours clock p) ≡ is_peer a b c p
  contacted-is a b c p = by_test (is_peer n theirs ours p) (λ t. rw t) (λ t. rw t)

  contacted-any : (a b c : ℕ) (ps : List Peer) → any (is_peer a b c) (map (contacted n theirs ours clock) ps) ≡ any (is_peer a b c) ps
  contacted-any a b c [] = refl
  contacted-any a b c (p ∷ ps) = rw (contacted-is a b c p, contacted-any a b c ps)

  contacted-once : (ps : List Peer) → Once ps → Once (map (contacted n theirs ours clock) ps)
  contacted-once [] o = tt
  contacted-once (p ∷ ps) o =
      let a : any (is_peer p.node p.theirs p.ours) (map (contacted n theirs ours clock) ps) ≡ false = contacted-any p.node p.theirs p.ours ps ∙ o.0 in
      let k : Once (map (contacted n theirs ours clock) ps) = contacted-once ps o.1 in
      by_test (is_peer n theirs ours p) (λ t. rw t (a, k)) (λ t. rw t (a, k))

  contacted-fits : (own : ℕ) (p : Peer) → PeerFits own clock p → PeerFits own clock (contacted n theirs ours clock p)
  contacted-fits own p f =
      by_test (is_peer n theirs ours p)
      (λ t. rw t (record { node = f.node; theirs = f.theirs; first = f.first; fourth = f.fourth; foreign = f.foreign; contact = omega arith }))
      (λ t. rw t f)

  pub touch-kept : (s : State) → Midway clock s → Midway clock (with_peers (map (contacted n theirs ours clock) s.peers) s)
  unfolding own_entry
  touch-kept s m =
      record {
        own = m.own;
        table = m.table;
        peers = record {
          few = rw (length-map s.peers (contacted n theirs ours clock)) m.peers.few;
          once = contacted-once s.peers m.peers.once;
          all = all_map (PeerFits s.own clock) (contacted n theirs ours clock) (contacted-fits s.own) s.peers m.peers.all;
        };
        links = rw (contacted-tlvs s.peers) m.links;
        choices = m.choices;
        endpoints = m.endpoints;
      }

-- ---- an endpoint set

module _ {clock : ℕ} (i : ℕ) (low : 1 ≤ i) (high : i ≤ 4) (s : State) (m : Midway clock s) where
  pub endpoint-fits : EndpointFits clock (endpoint_at i s)
  endpoint-fits = all-at (EndpointFits clock) no_endpoint s.endpoints (pred i) m.endpoints.all (omega (arith, m.endpoints.four))

  -- with the interval that it had
  pub endpoint-kept : (e : Endpoint) → EndpointFits clock e → e.keep ≡ (endpoint_at i s).keep → Midway clock (with_endpoint i e s)
  unfolding own_entry
  endpoint-kept e f q =
      record {
        own = m.own;
        table = m.table;
        peers = m.peers;
        links = m.links;
        choices = rw (map-set_same (λ (x : Endpoint). x.keep) s.endpoints (pred i) e no_endpoint q) m.choices;
        endpoints = record { four = length-set s.endpoints (pred i) e ∙ m.endpoints.four; all = all_set (EndpointFits clock) s.endpoints (pred i) e m.endpoints.all f };
      }

-- ---- Trickle

interval-least : (n : ℕ) → In n intervals → least_interval ≤ n
interval-least n h = all_in (λ m. least_interval ≤ m) n intervals (omega arith) h

-- an interval doubled, up to the greatest, is an interval
doubled : All (λ n. any (eqb (min (n * 2) greatest_interval)) intervals ≡ true) intervals
doubled = (refl, (refl, (refl, (refl, (refl, (refl, (refl, (refl, tt))))))))

interval_doubled : (n : ℕ) → In n intervals → In (min (n * 2) greatest_interval) intervals
interval_doubled n h =
    let r = in_any (eqb (min (n * 2) greatest_interval)) intervals (all_in (λ m. any (eqb (min (m * 2) greatest_interval)) intervals ≡ true) n intervals doubled h) in
    rw (eqb-true (min (n * 2) greatest_interval) r.0 r.2) r.1

pub fresh-fits : (clock interval random : ℕ) → In interval intervals → TrickleFits clock (fresh clock interval random)
unfolding fresh
fresh-fits clock i r h =
    let l : least_interval ≤ i = interval-least i h in
    let m : r % (i / 2) < i / 2 = mod-lt r (omega arith) in
    record { interval = h; low = omega arith; high = omega arith; count = omega arith; start = omega arith }

pub hear-fits : (clock : ℕ) (t : Trickle) → TrickleFits clock t → TrickleFits clock (hear t)
unfolding hear
hear-fits clock t f = record { interval = f.interval; low = f.low; high = f.high; count = omega arith; start = f.start }

spend-fits : (clock : ℕ) (t : Trickle) → TrickleFits clock t → TrickleFits clock (spend t)
unfolding spend
spend-fits clock t f = record { interval = f.interval; low = f.low; high = f.high; count = f.count; start = f.start }

reset-fits : (clock random : ℕ) (t : Trickle) → TrickleFits clock t → TrickleFits clock (reset clock random t)
unfolding reset
reset-fits clock r t f = by_test (ltb least_interval t.interval) (λ b. rw b (fresh-fits clock least_interval r (inl refl))) (λ b. rw b f)

pub event-fits : (clock random : ℕ) (t : Trickle) → TrickleFits clock t → TrickleFits clock (event clock random t).next
unfolding event
event-fits clock r t f =
    by_test (point_due clock t) (λ b. rw b (spend-fits clock t f))
    (λ b. by_test (interval_over clock t) (λ q. rw (b, q) (fresh-fits clock (min (t.interval * 2) greatest_interval) r (interval_doubled t.interval f.interval)))
    (λ q. rw (b, q) f))

pub with_trickle_lem : (clock : ℕ) (t : Trickle) (e : Endpoint) → EndpointFits clock e → TrickleFits clock t → EndpointFits clock (with_trickle t e)
with_trickle_lem clock t e f g = record { trickle = g; next = f.next; least = f.least; most = f.most; quiet = f.quiet }

-- ---- a reading taken

module _ (clock : ℕ) where
  pub resets_length : (rs : List ℕ) (es : List Endpoint) → length (reset_all clock rs es) ≡ length es
  unfolding reset_all
  resets_length rs [] = refl
  resets_length [] (e ∷ es) = refl
  resets_length (r ∷ rs) (e ∷ es) = ap suc (resets_length rs es)

  resets_fit : (rs : List ℕ) (es : List Endpoint) → All (EndpointFits clock) es → All (EndpointFits clock) (reset_all clock rs es)
  unfolding reset_all
  resets_fit rs [] h = tt
  resets_fit [] (e ∷ es) h = h
  resets_fit (r ∷ rs) (e ∷ es) h = (with_trickle_lem clock (reset clock r e.trickle) e h.0 (reset-fits clock r e.trickle h.0.trickle), resets_fit rs es h.1)

  -- one endpoint of them is reset, or as it was
  pub resets_each : (P : Endpoint → Type 0) → ((r : ℕ) (e : Endpoint) → P e → P (with_trickle (reset clock r e.trickle) e)) → (rs : List ℕ) (es : List Endpoint) (j : ℕ)
      → j < length es → P (get_or es j no_endpoint) → P (get_or (reset_all clock rs es) j no_endpoint)
  unfolding reset_all
  resets_each P f rs [] j l h = h
  resets_each P f [] (e ∷ es) j l h = h
  resets_each P f (r ∷ rs) (e ∷ es) zero l h = f r e h
  resets_each P f (r ∷ rs) (e ∷ es) (suc j) l h = resets_each P f rs es j (omega (arith, l)) h

  -- what is no part of its Trickle state stays
  pub resets_aside : (f : Endpoint → ℕ) → ((t : Trickle) (e : Endpoint) → f (with_trickle t e) ≡ f e) → (rs : List ℕ) (es : List Endpoint)
      → map f (reset_all clock rs es) ≡ map f es
  unfolding reset_all
  resets_aside f h rs [] = refl
  resets_aside f h [] (e ∷ es) = refl
  resets_aside f h (r ∷ rs) (e ∷ es) = rw (h (reset clock r e.trickle) e, resets_aside f h rs es)

  pub settle-own : (rs : List ℕ) (s : State) → (settle clock rs s).own ≡ s.own
  unfolding settle
  settle-own rs s = refl

  pub settle-midway : (rs : List ℕ) (s : State) → Midway clock s → Midway clock (settle clock rs s)
  unfolding settle own_entry
  settle-midway rs s m =
      record {
        own = m.own;
        table = m.table;
        peers = m.peers;
        links = m.links;
        choices = by_test (same s.digest (network_digest s.own clock s.table)) (λ b. rw b m.choices)
            (λ b. rw b (rw (resets_aside (λ (e : Endpoint). e.keep) (λ t e. refl) rs s.endpoints) m.choices));
        endpoints = by_test (same s.digest (network_digest s.own clock s.table)) (λ b. rw b m.endpoints)
            (λ b. rw b (record { four = resets_length rs s.endpoints ∙ m.endpoints.four; all = resets_fit rs s.endpoints m.endpoints.all }));
      }

  pub settle_valid : (rs : List ℕ) (s : State) → Midway clock s → clock ≤ last_reading → Valid (settle clock rs s)
  unfolding settle
  settle_valid rs s m l = record { inside = settle-midway rs s m; last = l; digest = refl }
