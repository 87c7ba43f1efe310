-- What saving and loading answer, over the model's table. Assumes nothing.
use Rattle.std.specs.Prelude.{◌≡◌, true, List, ℕ, ◌+◌, ◌≤◌, ◌<◌, length, take, drop, Option, Some, None}
use Rattle.std.proofs.Math.Option.{none, some}
use Rattle.base.specs.Bytes.{most_u32}
use Rattle.base.specs.Lists.{or_else, cons_to}
use Rattle.base.specs.Memory.{written}
use Rattle.wire.specs.Order.{good}
use Rattle.model.specs.Figures.{most_nodes, data_limit, table_bytes, most_age}
use Rattle.model.specs.Table.{Entry, entry_of, stamp}
use Rattle.model.specs.Snapshot.{load_entries, holds_own, load}
use Rattle.table.specs.View.{view, Kept, Lays}
use Rattle.snapshot.specs.declared.read.Saved.{Saved}
use Rattle.snapshot.specs.declared.read.Head.{Head}
use Rattle.snapshot.specs.declared.read.Cursor.{Cursor}
use Rattle.snapshot.specs.declared.load.Loaded.{Loaded}

-- the bytes are written to the front of the room, and r is how many; every other byte stays
pub record SavedTo (bytes room : List ℕ) (room' : List ℕ) (r : ℕ) : Type 0 where
  pub front : room' ≡ written room 0 bytes
  pub size : r ≡ length bytes

-- the table entry that e becomes at the reading
abbrev pub entry_from : ℕ → List ℕ → Saved → Entry
entry_from clock s e = entry_of e.node e.seq (take e.size (drop e.start s)) (stamp e.age clock)

-- the entry e, with an identifier from `low` on, stands at place `at` of s; its data are the `size` bytes from `start` on
pub record EntryAt (s : List ℕ) (at low : ℕ) (e : Saved) : Type 0 where
  pub high : low ≤ e.node
  pub node_fits : e.node ≤ most_u32
  pub seq_fits : e.seq ≤ most_u32
  pub age_fits : e.age ≤ most_age
  pub onward : at < e.start
  pub within : e.start + e.size ≤ length s
  pub short : e.size ≤ data_limit
  pub fine : good data_limit (take e.size (drop e.start s)) ≡ true
  pub loads : (clock n : ℕ) → load_entries clock (n + 1) low (drop at s) ≡ cons_to (entry_from clock s e) (load_entries clock n (e.node + 1) (drop (e.start + e.size) s))

-- no entry with an identifier from `low` on stands at place `at` of s, so nothing loads from there
abbrev pub Stops : List ℕ → ℕ → ℕ → Type 0
Stops s at low = (clock n : ℕ) → load_entries clock (n + 1) low (drop at s) ≡ none

abbrev pub ReadEntry : List ℕ → ℕ → ℕ → Option Saved → Type 0
ReadEntry s at low (Some e) = EntryAt s at low e
ReadEntry s at low None = Stops s at low

-- the entry at the cursor, which goes on behind it; where none stands, the cursor stays
abbrev pub Went : List ℕ → Cursor → Option Saved → Cursor → Type 0
Went s c (Some e) c' = EntryAt s c.place c.low e × ((c'.place ≡ e.start + e.size) × (c'.low ≡ e.node + 1))
Went s c None c' = Stops s c.place c.low × (c' ≡ c)

-- edition, own identifier and count stand at the front of s; the entries start at place `next`
pub record Heads (s : List ℕ) (h : Head) : Type 0 where
  pub some : 1 ≤ h.count
  pub few : h.count ≤ most_nodes
  pub within : h.next ≤ length s
  pub loads : (clock : ℕ) → load clock s ≡ or_else (load_entries clock h.count 0 (drop h.next s)) none (holds_own h.own)

abbrev pub ReadHead : List ℕ → Option Head → Type 0
ReadHead s (Some h) = Heads s h
ReadHead s None = (clock : ℕ) → load clock s ≡ none

-- table and memory hold what the snapshot s loads
pub record Holds (clock : ℕ) (s m : List ℕ) (r : Loaded) (m' : List ℕ) : Type 0 where
  pub kept : Kept r.table m'
  pub loads : load clock s ≡ some (record { own = r.own; entries = view r.table m' })
  pub lays : Lays m (view r.table m') r.table m'
  pub size : length m' ≡ length m
  pub beyond : drop table_bytes m' ≡ drop table_bytes m

-- the snapshot s was judged whole: only if it loads is the table memory written
abbrev pub LoadedFrom : ℕ → List ℕ → List ℕ → Option Loaded → List ℕ → Type 0
LoadedFrom clock s m (Some r) m' = Holds clock s m r m'
LoadedFrom clock s m None m' = (load clock s ≡ none) × (m' ≡ m)
