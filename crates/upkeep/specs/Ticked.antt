-- What a tick that is not refused leaves. Assumes nothing.
use Rattle.std.specs.Prelude.{◌≡◌, Bool, false, List, ℕ, ◌≤◌, ◌<◌, length, get_or, take, drop}
use Rattle.model.specs.Figures.{most_bytes, most_peers, table_bytes}
use Rattle.model.specs.Table.{Entry}
use Rattle.model.specs.State.{State as ModelState, Peer as ModelPeer, settle}
use Rattle.model.specs.Tick.{goes, drop_silent, ticked}
use Rattle.model.specs.Invariant.{Midway}
use Rattle.table.specs.View.{view, Kept, AllGood, Wrote}
use Rattle.table.specs.declared.Table.{Table}
use Rattle.node.specs.declared.State.{State}
use Rattle.node.specs.declared.peers.Peer.{Peer}
use Rattle.node.specs.View.{peer_of, state_of, Rep, Published}
use Rattle.node.specs.declared.answers.Sent.{Sent}

-- what the scan asks of the peers that are lent to it, of the table and of its memory: the first `count` stand there and were heard by now
pub record Lent (clock count : ℕ) (t : Table) (m : List ℕ) (list : List Peer) : Type 0 where
  pub table : Kept t m
  pub fine : AllGood (view t m)
  pub few : count ≤ most_peers
  pub here : count ≤ length list
  pub heard : (i : ℕ) → i < count → (p : Peer) → (get_or list i p).contact ≤ clock

-- a mark for each of the first `count` peers of the list, set exactly if it goes
pub record Scanned (clock endpoint count : ℕ) (t : List Entry) (list : List Peer) (marks : List Bool) : Type 0 where
  pub wide : length marks ≡ most_peers
  pub each : (i : ℕ) → i < count → (p : Peer) → get_or marks i false ≡ goes clock endpoint t (peer_of (get_or list i p))
  pub none : (i : ℕ) → count ≤ i → get_or marks i false ≡ false

-- a mark for each peer, set exactly if it goes
pub record Going (clock endpoint : ℕ) (s : ModelState) (marks : List Bool) : Type 0 where
  pub wide : length marks ≡ most_peers
  pub each : (i : ℕ) → i < length s.peers → (p : ModelPeer) → get_or marks i false ≡ goes clock endpoint s.table (get_or s.peers i p)
  pub none : (i : ℕ) → length s.peers ≤ i → get_or marks i false ≡ false

-- silent peers gone and the digest compared: what the event then finds
pub record Cleared (clock endpoint : ℕ) (randoms : List ℕ) (s : State) (m : List ℕ) (r : State) (m' : List ℕ) : Type 0 where
  pub published : Published (settle clock randoms (drop_silent clock endpoint (state_of s m))) s m r m'
  pub midway : Midway clock (settle clock randoms (drop_silent clock endpoint (state_of s m)))

-- the model's answer, and every byte that is not the answer's as it was
pub record TickedFrom (s : State) (m r : List ℕ) (clock endpoint : ℕ) (randoms : List ℕ) (o : Sent) (m' r' : List ℕ) : Type 0 where
  pub rep : Rep o.state m'
  pub accepted : o.number ≡ 0
  pub is : record { number = o.number; state = state_of o.state m'; bytes = take o.length r' } ≡ ticked clock endpoint randoms (state_of s m)
  pub wrote : Wrote s.table m (view o.state.table m') o.state.table m'
  pub used : o.length ≤ most_bytes
  pub size : length m' ≡ length m
  pub beyond : drop table_bytes m' ≡ drop table_bytes m
  pub room : length r' ≡ length r
  pub rest : drop o.length r' ≡ drop o.length r
