-- The one premise, and a call that is refused or not. Assumes nothing.
use mathlib.Core.Path.{◌≡◌, refl, ap}
use mathlib.Core.Bool.{false}
use mathlib.Core.List.{List, [], ◌∷◌, ◌++◌}
use Prim.Native.Nat.{ℕ, ◌≤◌}
use native.Mathlib.Omega.{arith}
use lib.ListN.{length}
use lib.Dec.{eqb, ltb}
use borrow.Author.Tests.{ltb-false}
use Rattle.base.specs.Lists.{All}
use Rattle.base.proofs.Tests.{by_test, or_left, or_right}
use Rattle.model.specs.Figures.{table_bytes, most_bytes, last_reading, most_keep_alive}
use Rattle.model.specs.Refusals.{Row, first_of, late, back, no_such_endpoint, no_interval, small_table, small_room}
use Rattle.model.specs.State.{State as ModelState}
use Rattle.model.specs.Invariant.{Valid, Midway}
use Rattle.model.proofs.KeptParts.{none-applies, not_late, not_back, one_to_four, valid-midway}
use Rattle.model.proofs.KeptChoice.{in_range}
use Rattle.node.specs.declared.State.{State}
use Rattle.node.specs.View.{state_of, Rep}
use Rattle.ledger.specs.Promises.{AsLeft}

module _ {s : State} {m : List ℕ} (l : AsLeft s m) (room : table_bytes ≤ length m) where
  pub left-rep : Rep s m
  left-rep = record { table = record { arranged = l.arranged; room = room; hashed = l.hashed room }; peers = l.peers; four = l.four; digest = l.digest }

  pub left-midway : (clock : ℕ) → (state_of s m).last ≤ clock → Midway clock (state_of s m)
  left-midway clock later = valid-midway clock (state_of s m) (l.valid room) later

-- a state that is kept, and valid with its memory
pub rep-left : {s : State} {m : List ℕ} → Rep s m → Valid (state_of s m) → AsLeft s m
rep-left k v =
    record {
      arranged = k.table.arranged;
      peers = k.peers;
      four = k.four;
      digest = k.digest;
      hashed = λ room. k.table.hashed;
      valid = λ room. v;
    }

-- ---- the number of a table of refusals, by parts

abbrev pub Numbered : List Row → Type 0
Numbered rs = All (λ r. ¬ (r.number ≡ 0)) rs

-- the first part has a row that applies
pub first-early : (es bs : List Row) → ¬ (first_of es ≡ 0) → first_of (es ++ bs) ≡ first_of es
first-early [] bs n = absurd (n refl)
first-early (r ∷ es) bs n = by_test r.applies (λ b. rw b refl) (λ b. rw b (first-early es bs (rw b at n)))

-- it has none
pub first-late : (es bs : List Row) → Numbered es → first_of es ≡ 0 → first_of (es ++ bs) ≡ first_of bs
first-late [] bs n e = refl
first-late (r ∷ es) bs n e = by_test r.applies (λ b. absurd (n.0 (rw b at e))) (λ b. rw b (first-late es bs n.1 (rw b at e)))

-- ---- a call that is not refused: what that says of clock, endpoint and lent memory

pub none_first : (rs : List Row) → Numbered rs → first_of rs ≡ 0 → All (λ r. r.applies ≡ false) rs
none_first rs n e = none-applies rs n (ap (λ (k : ℕ). eqb k 0) e)

pub not-small : (table : ℕ) → (small_table table).applies ≡ false → table_bytes ≤ table
not-small table e = ltb-false table table_bytes e

pub not_small_room : (table room least : ℕ) → (small_room table room least).applies ≡ false → (table_bytes ≤ table) × (least ≤ room)
not_small_room table room least e =
    (ltb-false table table_bytes (or_left (ltb table table_bytes) _ e), ltb-false room least (or_right (ltb table table_bytes) _ e))

pub start-accepted : (clock table : ℕ) → first_of (late clock ∷ small_table table ∷ []) ≡ 0 → (clock ≤ last_reading) × (table_bytes ≤ table)
start-accepted clock table e =
    let a : All (λ r. r.applies ≡ false) (late clock ∷ small_table table ∷ []) = none_first (late clock ∷ small_table table ∷ []) (omega arith) e in
    (not_late clock a.0, not-small table a.1.0)

module _ (clock : ℕ) (s : ModelState) where
  pub table-accepted : (table : ℕ) (more : List Row) → Numbered more → first_of (late clock ∷ back clock s ∷ small_table table ∷ more) ≡ 0
      → (clock ≤ last_reading) × ((s.last ≤ clock) × ((table_bytes ≤ table) × All (λ r. r.applies ≡ false) more))
  table-accepted table more n e =
      let rows : List Row = late clock ∷ back clock s ∷ small_table table ∷ more in
      let a : All (λ r. r.applies ≡ false) rows = none_first rows ((λ z. omega (arith, z)), ((λ z. omega (arith, z)), ((λ z. omega (arith, z)), n))) e in
      (not_late clock a.0, (not_back clock s a.1.0, (not-small table a.1.1.0, a.1.1.1)))

  pub room-accepted : (table room least : ℕ) → first_of (late clock ∷ back clock s ∷ small_room table room least ∷ []) ≡ 0
      → (clock ≤ last_reading) × ((s.last ≤ clock) × ((table_bytes ≤ table) × (least ≤ room)))
  room-accepted table room least e =
      let rows : List Row = late clock ∷ back clock s ∷ small_room table room least ∷ [] in
      let a : All (λ r. r.applies ≡ false) rows = none_first rows (omega arith) e in
      (not_late clock a.0, (not_back clock s a.1.0, not_small_room table room least a.1.1.0))

  pub interval-accepted : (endpoint interval table : ℕ) (more : List Row) → Numbered more
      → first_of (late clock ∷ back clock s ∷ no_such_endpoint endpoint ∷ no_interval interval ∷ small_table table ∷ more) ≡ 0
      → (clock ≤ last_reading) × ((s.last ≤ clock) × (((1 ≤ endpoint) × (endpoint ≤ 4)) × (((1 ≤ interval) × (interval ≤ most_keep_alive)) × ((table_bytes ≤ table) × All (λ r. r.applies ≡ false) more))))
  interval-accepted endpoint interval table more n e =
      let rows : List Row = late clock ∷ back clock s ∷ no_such_endpoint endpoint ∷ no_interval interval ∷ small_table table ∷ more in
      let a : All (λ r. r.applies ≡ false) rows = none_first rows ((λ z. omega (arith, z)), ((λ z. omega (arith, z)), ((λ z. omega (arith, z)), ((λ z. omega (arith, z)), ((λ z. omega (arith, z)), n))))) e in
      (not_late clock a.0, (not_back clock s a.1.0, (one_to_four endpoint a.1.1.0, (in_range interval a.1.1.1.0, (not-small table a.1.1.1.1.0, a.1.1.1.1.1)))))

  pub endpoint-accepted : (endpoint table room : ℕ) (more : List Row) → Numbered more → first_of (late clock ∷ back clock s ∷ no_such_endpoint endpoint ∷ small_room table room most_bytes ∷ more) ≡ 0
      → (clock ≤ last_reading) × ((s.last ≤ clock) × (((1 ≤ endpoint) × (endpoint ≤ 4)) × ((table_bytes ≤ table) × (most_bytes ≤ room))))
  endpoint-accepted endpoint table room more n e =
      let rows : List Row = late clock ∷ back clock s ∷ no_such_endpoint endpoint ∷ small_room table room most_bytes ∷ more in
      let a : All (λ r. r.applies ≡ false) rows = none_first rows ((λ z. omega (arith, z)), ((λ z. omega (arith, z)), ((λ z. omega (arith, z)), ((λ z. omega (arith, z)), n)))) e in
      (not_late clock a.0, (not_back clock s a.1.0, (one_to_four endpoint a.1.1.0, not_small_room table room most_bytes a.1.1.1.0)))
