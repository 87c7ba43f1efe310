-- The code's state with its table memory as the state of the model: the one abstraction function. Assumes nothing.
use Rattle.std.specs.Prelude.{◌≡◌, true, List, map, ℕ, ◌≤◌, length, take, drop}
use Rattle.base.specs.Lists.{is_some}
use Rattle.model.specs.Figures.{most_endpoints, most_peers, table_bytes}
use Rattle.model.specs.Table.{look}
use Rattle.model.specs.Digest.{network_digest}
use Rattle.model.specs.State.{settle, State as ModelState, Peer as ModelPeer, Endpoint as ModelEndpoint}
use Rattle.trickle.specs.View.{trickle_of}
use Rattle.table.specs.View.{view, Kept, Wrote}
use Rattle.node.specs.declared.State.{State}
use Rattle.node.specs.declared.Endpoint.{Endpoint}
use Rattle.node.specs.declared.peers.Peer.{Peer}
use Rattle.node.specs.declared.peers.Peers.{Peers}

abbrev pub peer_of : Peer → ModelPeer
peer_of p = record { node = p.node; theirs = p.theirs; ours = p.ours; contact = p.contact }

unfoldable pub peers_of : Peers → List ModelPeer
peers_of p = map peer_of (take p.count p.list)

abbrev pub endpoint_of : Endpoint → ModelEndpoint
endpoint_of e = record { trickle = trickle_of e.trickle; next = e.next; keep = e.keep; quiet = e.quiet }

abbrev pub endpoints_of : List Endpoint → List ModelEndpoint
endpoints_of es = map endpoint_of es

-- the state s with the table memory m
unfoldable pub state_of : State → List ℕ → ModelState
state_of s m =
    record {
      own = s.own;
      last = s.last;
      table = view s.table m;
      peers = peers_of s.peers;
      endpoints = endpoints_of s.endpoints;
      digest = s.digest;
    }

-- ---- what the representation keeps

pub record PeersRep (p : Peers) : Type 0 where
  pub few : p.count ≤ most_peers
  pub list : length p.list ≡ most_peers

pub record Rep (s : State) (m : List ℕ) : Type 0 where
  pub table : Kept s.table m
  pub peers : PeersRep s.peers
  pub four : length s.endpoints ≡ most_endpoints
  pub digest : length s.digest ≡ 16

-- our own node stands in the table
abbrev pub Held : State → List ℕ → Type 0
Held s m = is_some (look s.own (view s.table m)) ≡ true

-- a step on state and table memory: the state of the model after it is `after`, and the bytes past the table's stay
pub record Moved (after : ModelState) (m : List ℕ) (r : State) (m' : List ℕ) : Type 0 where
  pub rep : Rep r m'
  pub is : state_of r m' ≡ after
  pub size : length m' ≡ length m
  pub beyond : drop table_bytes m' ≡ drop table_bytes m

-- such a step on a state, which may publish: no other byte of the memory is written than the data of the entries that the table then holds
pub record Published (after : ModelState) (s : State) (m : List ℕ) (r : State) (m' : List ℕ) : Type 0 where
  pub moved : Moved after m r m'
  pub wrote : Wrote s.table m (view r.table m') r.table m'

-- the end of a call at the reading `clock`, where d is the network digest then
pub record Settled (clock : ℕ) (randoms d : List ℕ) (s r : State) : Type 0 where
  pub rep : (m : List ℕ) → Rep s m → Rep r m
  pub is : (m : List ℕ) → d ≡ network_digest s.own clock (view s.table m) → state_of r m ≡ settle clock randoms (state_of s m)
  pub table : r.table ≡ s.table
