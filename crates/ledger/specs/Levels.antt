-- How far marking goes: the number of the last level that `marks` answers (document 02, How far does marking go?). Assumes nothing.
use Rattle.std.specs.Prelude.{◌≡◌, false, List, [], ◌∷◌, ◌↔◌, ℕ, ◌+◌, ◌≤◌}
use Rattle.base.specs.Lists.{In}
use Rattle.model.specs.Table.{Entry, id_of, under_age}
use Rattle.model.specs.Theorems.{StandsIn}
use Rattle.table.specs.View.{view}
use Rattle.node.specs.declared.State.{State}
use Rattle.ledger.specs.declared.answers.Marked.{Marked}
use Rattle.ledger.specs.Promises.{AsLeft, listed, Marks}

pub record LastLevelGreatest : Type 0 where
  -- "It is the greatest ring number": a reachable node stands in that level, which is the number of steps of its shortest way
  pub stands : (clock : ℕ) (s : State) (m : List ℕ) (r : Marked) → AsLeft s m → Marks clock s m r → r.number ≡ 0
      → (n : ℕ) × In n (listed r) × StandsIn s.own clock (view s.table m) r.levels n
  -- and each reachable node in one up to it
  pub within : (clock : ℕ) (s : State) (m : List ℕ) (r : Marked) → AsLeft s m → Marks clock s m r → r.number ≡ 0
      → (n : ℕ) → In n (listed r) → (k : ℕ) × (k ≤ r.levels) × StandsIn s.own clock (view s.table m) k n
  -- "0 for a box alone": exactly where no other node is reachable
  pub alone : (clock : ℕ) (s : State) (m : List ℕ) (r : Marked) → AsLeft s m → Marks clock s m r → r.number ≡ 0
      → (r.levels ≡ 0) ↔ (listed r ≡ s.own ∷ [])
  -- it is also 0 where our own node is at the age limit or over it, whoever stands in the table
  pub too_old : (clock : ℕ) (s : State) (m : List ℕ) (r : Marked) → AsLeft s m → Marks clock s m r → r.number ≡ 0
      → (e : Entry) → In e (view s.table m) → id_of e ≡ s.own → under_age clock e ≡ false → r.levels ≡ 0
  -- "never more than the number of boxes held less one", nor of those that are reachable
  pub fewer : (clock : ℕ) (s : State) (m : List ℕ) (r : Marked) → AsLeft s m → Marks clock s m r → r.number ≡ 0
      → (r.levels + 1 ≤ r.count) × (r.count ≤ s.table.count)
