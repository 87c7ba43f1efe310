-- What is saved comes back, over the promises of `save` and `resume` (document 01, the book). Assumes nothing.
use Rattle.std.specs.Prelude.{◌≡◌, List, map, ℕ, ◌≤◌, length, take}
use Rattle.std.proofs.Math.Option.{some}
use Rattle.model.specs.Figures.{table_bytes, last_reading, snapshot_bytes}
use Rattle.model.specs.Snapshot.{Snapshot, load, resumed}
use Rattle.model.specs.Theorems.{capped}
use Rattle.table.specs.View.{view}
use Rattle.node.specs.View.{state_of}
use Rattle.node.specs.declared.State.{State}
use Rattle.node.specs.declared.answers.Done.{Done}
use Rattle.ledger.specs.declared.answers.Saved.{Saved}
use Rattle.ledger.specs.Promises.{AsLeft, Resumes, Saves}

-- the state's table, saved at one reading and read at another: every node with its data, ages capped and counted on from the second
abbrev pub snapshot_of : ℕ → ℕ → State → List ℕ → Snapshot
snapshot_of clock later s m = record { own = s.own; entries = map (capped clock later) (view s.table m) }

pub record SavedComesBack : Type 0 where
  -- what an accepted save has written is as long as document 01 allows, and loads
  pub fits : (clock : ℕ) (s : State) (m q : List ℕ) (r : Saved) (q' : List ℕ) → AsLeft s m → Saves clock s m q r q' → r.length ≤ snapshot_bytes
  pub loads : (clock later : ℕ) (s : State) (m q : List ℕ) (r : Saved) (q' : List ℕ) → AsLeft s m → Saves clock s m q r q' → r.number ≡ 0
      → load later (take r.length q') ≡ some (snapshot_of clock later s m)
  -- resuming from it, whatever the state and the table memory by then, is accepted and leaves the node of that snapshot
  pub resumes : (clock later : ℕ) (randoms : List ℕ) (s : State) (m q : List ℕ) (r : Saved) (q' : List ℕ) → AsLeft s m → Saves clock s m q r q' → r.number ≡ 0
      → later ≤ last_reading → (u : State) (n : List ℕ) (d : Done) (n' : List ℕ) → table_bytes ≤ length n → Resumes (take r.length q') later randoms u n d n'
      → (d.number ≡ 0) × (state_of d.state n' ≡ resumed later randoms (snapshot_of clock later s m))
