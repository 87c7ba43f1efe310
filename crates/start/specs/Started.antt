-- What beginning and resuming answer, step by step. Assumes nothing.
use Rattle.std.specs.Prelude.{◌≡◌, List, [], ◌++◌, ℕ, replicate, Option, Some, None}
use Rattle.std.proofs.Math.Option.{none, some}
use Rattle.model.specs.Table.{Entry}
use Rattle.model.specs.Digest.{network_digest}
use Rattle.model.specs.State.{State as ModelState, own_data, publish}
use Rattle.model.specs.Begin.{fresh_endpoints}
use Rattle.model.specs.Snapshot.{Snapshot, load, without_links, resumed}
use Rattle.table.specs.View.{Lays}
use Rattle.node.specs.View.{Moved}
use Rattle.node.specs.declared.State.{State}

-- the model's started state, but for the digest
unfoldable pub undigested : ℕ → ℕ → List ℕ → List Entry → ModelState
undigested own clock randoms t =
    record { own = own; last = clock; table = t; peers = []; endpoints = fresh_endpoints clock randoms; digest = replicate 16 0 }

-- the network digest at the reading
unfoldable pub digested : ℕ → ModelState → ModelState
digested clock s =
    record { own = s.own; last = s.last; table = s.table; peers = s.peers; endpoints = s.endpoints; digest = network_digest s.own clock s.table }

-- our data published without the Peer and Keep-Alive TLVs
unfoldable pub unlinked : ℕ → ModelState → ModelState
unlinked clock s = publish clock (without_links (own_data s)) s

-- the state is that of the model, resumed from the snapshot that loads
pub record Resumes (clock : ℕ) (bytes randoms m : List ℕ) (r : State) (m' : List ℕ) : Type 0 where
  pub snapshot : Snapshot
  pub loads : load clock bytes ≡ some snapshot
  pub resumes : Moved (resumed clock randoms snapshot) m r m'
  -- the entries of the snapshot are laid in the memory, then the table that they become
  pub lays : Lays m (snapshot.entries ++ (resumed clock randoms snapshot).table) r.table m'

-- the snapshot was judged whole: only if it loads does anything change
abbrev pub ResumedFrom : ℕ → List ℕ → List ℕ → List ℕ → Option State → List ℕ → Type 0
ResumedFrom clock bytes randoms m (Some r) m' = Resumes clock bytes randoms m r m'
ResumedFrom clock bytes randoms m None m' = (load clock bytes ≡ none) × (m' ≡ m)
