-- The code's node table with its memory as the table of the model. Assumes nothing.
use Rattle.std.specs.Prelude.{ℕ, ◌+◌, ◌*◌, ◌≤◌, ◌<◌, ◌≡◌, Bool, true, false, List, [], ◌∷◌, ◌++◌, map, length, get_or, take, drop, set, Result, Ok, Err}
use Rattle.std.proofs.Math.Option.{Option, some}
use Rattle.base.specs.Lists.{or_else, is_some, All, keep_by}
use Rattle.base.specs.Memory.{written, Outside}
use Rattle.base.specs.Sorted.{find, Ascending}
use Rattle.wire.specs.Order.{good}
use Rattle.sha256.specs.Sha256.{hash16}
use Rattle.model.specs.Figures.{most_nodes, data_limit, table_bytes}
use Rattle.model.specs.Table.{Entry, entry_of, id_of, put, stamp}
use Rattle.table.specs.declared.Table.{Table}
use Rattle.table.specs.declared.Entry.{Entry as Meta}
use Rattle.table.specs.declared.Version.{Version}

abbrev pub no_meta : Meta
no_meta = record { id = 0; seq = 0; age = 0; len = 0; slot = 0; since = 0; hash = [] }

abbrev pub meta_id : Meta → ℕ
meta_id e = e.id

-- the entries that count
abbrev pub live : Table → List Meta
live t = take t.count t.entries

abbrev pub meta_at : Table → ℕ → Meta
meta_at t i = get_or t.entries i no_meta

abbrev pub data_of : List ℕ → Meta → List ℕ
data_of m e = take e.len (drop (e.slot * data_limit) m)

-- the entry that e stands for, where its data are the bytes d
abbrev pub entry_with : Meta → List ℕ → Entry
entry_with e d = entry_of e.id e.seq d (stamp e.age e.since)

-- the entry of a version with the data d
abbrev pub version_of : Version → List ℕ → Entry
version_of v d = entry_of v.id v.seq d (stamp v.age v.since)

abbrev pub version_anew : ℕ → ℕ → ℕ → Version
version_anew id seq since = record { id = id; seq = seq; age = 0; since = since }

-- as it is kept
abbrev pub entry_in : Version → ℕ → ℕ → List ℕ → Meta
entry_in v slot len hash = record { id = v.id; seq = v.seq; age = v.age; len = len; slot = slot; since = v.since; hash = hash }

abbrev pub seen : List ℕ → Meta → Entry
seen m e = entry_with e (data_of m e)

unfoldable pub view : Table → List ℕ → List Entry
view t m = map (seen m) (live t)

-- ---- the invariant

-- only slot s of the memory differs: every slot has the room of the data limit
abbrev pub OnlySlot : ℕ → List ℕ → List ℕ → Type 0
OnlySlot s m m' = Outside (s * data_limit) data_limit m m'

-- no entry has slot s
abbrev pub Free : ℕ → List Meta → Type 0
Free s l = All (λ e. ¬ (e.slot ≡ s)) l

abbrev pub Apart : List Meta → Type 0
Apart [] = Unit {0}
Apart (e ∷ l) = Free e.slot l × Apart l

abbrev pub FitMeta : Meta → Type 0
FitMeta e = (e.slot < most_nodes) × (e.len ≤ data_limit)

abbrev pub Fit : List Meta → Type 0
Fit l = All FitMeta l

pub record Arranged (t : Table) : Type 0 where
  pub most : t.count ≤ most_nodes
  pub wide : length t.entries ≡ most_nodes
  pub ascending : Ascending meta_id (live t)
  pub fit : Fit (live t)
  pub apart : Apart (live t)

-- the digest kept with each entry is that of its data
abbrev pub Hashed : List ℕ → List Meta → Type 0
Hashed m l = All (λ e. e.hash ≡ hash16 (data_of m e)) l

pub record Kept (t : Table) (m : List ℕ) : Type 0 where
  pub arranged : Arranged t
  pub room : table_bytes ≤ length m
  pub hashed : Hashed m (live t)

-- every node's data are good
abbrev pub AllGood : List Entry → Type 0
AllGood t = All (λ e. good data_limit e.says.node_data ≡ true) t

-- ---- found

-- the entry at place i
pub record Read (t : Table) (i : ℕ) (r : Meta) : Type 0 where
  pub same : r ≡ meta_at t i
  pub long : r.len ≡ (meta_at t i).len
  pub low : r.slot < most_nodes
  pub short : r.len ≤ data_limit

-- the node id stands at place i
pub record Stands (t : Table) (id i : ℕ) : Type 0 where
  pub at : i < t.count
  pub named : (meta_at t i).id ≡ id

-- it stands nowhere, and would stand at place i
pub record Gap (t : Table) (id i : ℕ) : Type 0 where
  pub at : i ≤ t.count
  pub below : (j : ℕ) → j < i → (meta_at t j).id < id
  pub above : i < t.count → id < (meta_at t i).id

abbrev pub Finding : Table → ℕ → Result ℕ ℕ → Type 0
Finding t id (Ok i) = Stands t id i
Finding t id (Err i) = Gap t id i

-- ---- the memory, byte by byte

-- what is known of the node n, if it is held
abbrev pub meta_of : Table → ℕ → Option Meta
meta_of t n = find meta_id n (live t)

-- the memory m after the data of these entries were written to it, one after the other, each to the start of its node's slot in t
unfoldable pub laid : Table → List Entry → List ℕ → List ℕ
laid t [] m = m
laid t (e ∷ es) m = laid t es (or_else (meta_of t (id_of e)) m (λ x. written m (x.slot * data_limit) e.says.node_data))

-- every node that t holds stands in r too, in the same slot
abbrev pub SlotsStay : Table → Table → Type 0
SlotsStay t r = (n : ℕ) (x : Meta) → meta_of t n ≡ some x → (y : Meta) × (meta_of r n ≡ some y) × (y.slot ≡ x.slot)

-- the entry's node is held, and its data fit a slot
abbrev pub Housed : Table → Entry → Type 0
Housed t e = (is_some (meta_of t (id_of e)) ≡ true) × (length e.says.node_data ≤ data_limit)

-- the data of the entries es, which are all housed in the table r, were written, and no other byte
pub record Lays (m : List ℕ) (es : List Entry) (r : Table) (m' : List ℕ) : Type 0 where
  pub housed : All (Housed r) es
  pub memory : m' ≡ laid r es m

-- the same from the table t to the table r
pub record Wrote (t : Table) (m : List ℕ) (es : List Entry) (r : Table) (m' : List ℕ) : Type 0 where
  pub slots : SlotsStay t r
  pub lays : Lays m es r m'

-- ---- changed

-- the entry e is put in: it stands at place i, its data in the slot of that place, and every other byte stays
pub record Stored (e : Entry) (t : Table) (m : List ℕ) (i : ℕ) (r : Table) (m' : List ℕ) : Type 0 where
  pub kept : Kept r m'
  pub viewed : view r m' ≡ put e (view t m)
  pub stands : Stands r (id_of e) i
  pub memory : m' ≡ written m ((meta_at r i).slot * data_limit) e.says.node_data
  pub slots : SlotsStay t r
  pub beyond : drop table_bytes m' ≡ drop table_bytes m

abbrev pub with_meta : Table → ℕ → Meta → Table
with_meta t i e = record { count = t.count; entries = set t.entries i e }

abbrev pub inserted : Table → ℕ → Meta → Table
inserted t i e =
    record { count = t.count + 1; entries = take (t.count + 1) (take i t.entries ++ (e ∷ drop i t.entries)) ++ drop (t.count + 1) t.entries }

-- only number, age and reading of the node at place i are new
pub record Renumbered (id seq age since : ℕ) (t : Table) (i : ℕ) (r : Table) : Type 0 where
  pub arranged : Arranged r
  pub kept : (m : List ℕ) → Kept t m → Kept r m
  pub viewed : (m : List ℕ) → view r m ≡ put (entry_of id seq (data_of m (meta_at t i)) (stamp age since)) (view t m)
  pub slots : SlotsStay t r

-- an entry has slot s, or none has
abbrev pub SlotUsed : Table → ℕ → Bool → Type 0
SlotUsed t s true = (k : ℕ) × ((k < t.count) × ((meta_at t k).slot ≡ s))
SlotUsed t s false = (k : ℕ) → k < t.count → ¬ ((meta_at t k).slot ≡ s)

pub record Purged (marks : List Bool) (t r : Table) : Type 0 where
  pub arranged : Arranged r
  pub kept : (m : List ℕ) → Kept t m → Kept r m
  pub viewed : (m : List ℕ) → view r m ≡ keep_by marks (view t m)
  pub slots : SlotsStay r t
