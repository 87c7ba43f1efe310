-- The one invariant of the state, kept by every call (document 01: "that is the one premise, and every call restores it"). Assumes nothing.
use Rattle.std.specs.Prelude.{◌≡◌, ℕ, ◌+◌, ◌/◌, ◌<◌, ◌≤◌, true, false, ◌↔◌, List, [], ◌∷◌, map, length}
use Rattle.base.specs.Lists.{any, is_some, In, All}
use Rattle.base.specs.Sorted.{Ascending}
use Rattle.wire.specs.Row.{type_of, tlvs}
use Rattle.wire.specs.Order.{good}
use Rattle.model.specs.Figures.{most_nodes, data_limit, most_endpoints, most_peers, last_reading, most_count, most_age, request_gap, least_keep_alive, most_keep_alive, most_delay}
use Rattle.model.specs.Sequence.{circle}
use Rattle.model.specs.Table.{Entry, id_of, look}
use Rattle.model.specs.Digest.{network_digest}
use Rattle.model.specs.Trickle.{Trickle}
use Rattle.model.specs.KeepAlive.{keep_alives}
use Rattle.model.specs.Snapshot.{Snapshot}
use Rattle.model.specs.State.{State, Peer, Endpoint, own_data, peer_tlv, is_peer}

-- an entry: numbers in range, good data, taken no later than the last reading
pub record EntryFits (last : ℕ) (e : Entry) : Type 0 where
  pub node : id_of e < circle
  pub seq : e.says.seq < circle
  pub fine : good data_limit e.says.node_data ≡ true
  pub age : e.stamp.age ≤ most_age
  pub since : e.stamp.since ≤ last

-- a peer: not our own node, on one of our endpoints, heard no later than the last reading
pub record PeerFits (own last : ℕ) (p : Peer) : Type 0 where
  pub node : p.node < circle
  pub theirs : p.theirs < circle
  pub first : 1 ≤ p.ours
  pub fourth : p.ours ≤ most_endpoints
  pub foreign : ¬ (p.node ≡ own)
  pub contact : p.contact ≤ last

-- no triple stands twice
abbrev pub Once : List Peer → Type 0
Once [] = Unit {0}
Once (p ∷ ps) = (any (is_peer p.node p.theirs p.ours) ps ≡ false) × Once ps

-- 200 doubled up to seven times
abbrev pub intervals : List ℕ
intervals = 200 ∷ 400 ∷ 800 ∷ 1600 ∷ 3200 ∷ 6400 ∷ 12800 ∷ 25600 ∷ []

pub record TrickleFits (last : ℕ) (t : Trickle) : Type 0 where
  pub interval : In t.interval intervals
  pub low : t.interval / 2 ≤ t.point
  pub high : t.point < t.interval
  pub count : t.count ≤ most_count
  pub start : t.start ≤ last

-- a request went out no later than the last reading, if one did; so did the last sending, whose delay is at most 100 ms; the interval is one that can be
-- chosen
pub record EndpointFits (last : ℕ) (e : Endpoint) : Type 0 where
  pub trickle : TrickleFits last e.trickle
  pub next : e.next ≤ last + request_gap
  pub least : least_keep_alive ≤ e.keep
  pub most : e.keep ≤ most_keep_alive
  pub quiet : e.quiet ≤ last + most_delay

-- ---- the parts, at a reading

pub record TableFits (own clock : ℕ) (t : List Entry) : Type 0 where
  pub ascending : Ascending id_of t
  pub held : is_some (look own t) ≡ true
  pub nodes : length t ≤ most_nodes
  pub entries : All (EntryFits clock) t

pub record PeersFit (own clock : ℕ) (ps : List Peer) : Type 0 where
  pub few : length ps ≤ most_peers
  pub once : Once ps
  pub all : All (PeerFits own clock) ps

-- the TLVs of type k of the data d are exactly these
abbrev pub Only : ℕ → List ℕ → List (List ℕ) → Type 0
Only k d ts = (t : List ℕ) → (In t (tlvs d) × (type_of t ≡ k)) ↔ In t ts

-- type 8: the peers' Peer TLVs
abbrev pub Linked : List ℕ → List Peer → Type 0
Linked d ps = Only 8 d (map peer_tlv ps)

-- type 9: the Keep-Alive TLVs of the endpoints whose interval isn't the usual one
abbrev pub intervals_of : List Endpoint → List ℕ
intervals_of es = map (λ (e : Endpoint). e.keep) es

abbrev pub Chosen : List ℕ → List Endpoint → Type 0
Chosen d es = Only 9 d (keep_alives 1 (intervals_of es))

pub record EndpointsFit (clock : ℕ) (es : List Endpoint) : Type 0 where
  pub four : length es ≡ most_endpoints
  pub all : All (EndpointFits clock) es

-- what holds of the state within a call at the reading `clock`
pub record Midway (clock : ℕ) (s : State) : Type 0 where
  pub own : s.own < circle
  pub table : TableFits s.own clock s.table
  pub peers : PeersFit s.own clock s.peers
  pub links : Linked (own_data s) s.peers
  pub choices : Chosen (own_data s) s.endpoints
  pub endpoints : EndpointsFit clock s.endpoints

-- what holds of it between calls: the same at the last reading, and the stored digest is the network digest at that reading
pub record Valid (s : State) : Type 0 where
  pub inside : Midway s.last s
  pub last : s.last ≤ last_reading
  pub digest : s.digest ≡ network_digest s.own s.last s.table

-- what a snapshot that loads holds: our own node in a table that fits
pub record SnapshotFits (clock : ℕ) (b : Snapshot) : Type 0 where
  pub own : b.own < circle
  pub table : TableFits b.own clock b.entries
