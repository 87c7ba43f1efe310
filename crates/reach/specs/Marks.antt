-- What the marking answers, over the model's table. Assumes nothing.
use Rattle.std.specs.Prelude.{◌≡◌, Option, None, Some, Bool, true, false, not, ◌&&◌, ◌||◌, List, ◌++◌, map, ℕ, ◌-◌, ◌≤◌, ◌<◌, length, get_or, take, drop, replicate}
use Rattle.base.specs.Lists.{any, keep_by, join_all, All}
use Rattle.model.specs.Figures.{most_nodes, table_bytes, last_reading}
use Rattle.model.specs.Table.{Entry, id_of, under_age}
use Rattle.wire.specs.Row.{value_of}
use Rattle.model.specs.Reach.{Link as ModelLink, link_of, is_peer_tlv, Vertex, vertices, joined, touched, is_node, levels_from, last_level, in_reach}
use Rattle.model.specs.Digest.{network_digest}
use Rattle.model.specs.State.{no_entry}
use Rattle.model.specs.Invariant.{EntryFits}
use Rattle.table.specs.declared.Table.{Table}
use Rattle.table.specs.declared.Entry.{Entry as Meta}
use Rattle.table.specs.View.{meta_id, live, seen, view, FitMeta, Kept}
use Rattle.reach.specs.declared.link.Link.{Link}
use Rattle.reach.specs.declared.list.Nodes.{Nodes}
use Rattle.reach.specs.declared.mark.Wave.{Wave}
use Rattle.reach.specs.declared.mark.Traversed.{Traversed}
use Rattle.reach.specs.declared.Reached.{Reached}

abbrev pub link_in : Link → ModelLink
link_in l = record { peer = l.peer; peer_end = l.peerend; own_end = l.ownend }

-- the link that the code finds in a TLV: that of a Peer TLV that is long enough
abbrev pub Holds : List ℕ → Option Link → Type 0
Holds t None = is_peer_tlv t ≡ false
Holds t (Some l) = (is_peer_tlv t ≡ true) × (link_in l ≡ link_of (value_of t))

-- node r, which publishes x, and node n, which publishes y, are joined
abbrev pub joins : ℕ → List ℕ → ℕ → List ℕ → Bool
joins r x n y = joined (record { node = r; seq = 0; node_data = x }) (record { node = n; seq = 0; node_data = y })

-- what the marking asks of the table: kept, every entry in range with good data and taken by now, and a clock in range
pub record Readable (clock : ℕ) (t : Table) (m : List ℕ) : Type 0 where
  pub kept : Kept t m
  pub entries : All (EntryFits clock) (view t m)
  pub reading : clock ≤ last_reading

-- a mark for each place of the table
abbrev pub Wide : List Bool → Type 0
Wide marks = length marks ≡ most_nodes

-- the vertices whose mark is set
abbrev pub marked_of : ℕ → List Entry → List Bool → List Vertex
marked_of clock t marks = keep_by marks (vertices clock t)

abbrev pub no_vertex : Vertex
no_vertex = record { says = no_entry.says; young = false }

-- node r is young, and joined to node v
abbrev pub leads : ℕ → Entry → Entry → Bool
leads clock r v = under_age clock r && joined r.says v.says

-- what the marking asks of an entry
pub record Legible (clock : ℕ) (m : List ℕ) (e : Meta) : Type 0 where
  pub fit : FitMeta e
  pub room : table_bytes ≤ length m
  pub entry : EntryFits clock (seen m e)
  pub reading : clock ≤ last_reading

-- the next level: the places not yet met whose node is joined to a young node of the level
pub record NextLevel (clock : ℕ) (t : List Entry) (level met next : List Bool) : Type 0 where
  pub wide : Wide next
  pub each : (i : ℕ) → i < length t → get_or next i false ≡ not (get_or met i false) && touched (marked_of clock t level) (get_or (vertices clock t) i no_vertex)
  pub beyond : (i : ℕ) → length t ≤ i → get_or next i false ≡ false

-- the next level joins those met, and is the last
pub record Onward (w : Wave) (next : List Bool) (r : Wave) : Type 0 where
  pub wide : Wide r.met
  pub met : (i : ℕ) → i < most_nodes → get_or r.met i false ≡ get_or w.met i false || get_or next i false
  pub level : r.level ≡ next

-- the levels after `first`, where `first` alone is met
abbrev pub levels_after : ℕ → List Entry → List Bool → List (List Vertex)
levels_after clock t first = levels_from (length t) (keep_by (map not first) (vertices clock t)) (marked_of clock t first)

-- all that these levels reach, and how many there are
pub record Spread (clock : ℕ) (t : List Entry) (first : List Bool) (r : Traversed) : Type 0 where
  pub wide : Wide r.marks
  pub each : (n : ℕ) → any (is_node n) (marked_of clock t r.marks) ≡ any (is_node n) (marked_of clock t first ++ join_all (levels_after clock t first))
  pub count : r.levels ≡ length (levels_after clock t first)

-- the marks of the table's places are those of the definition
pub record Marking (own clock : ℕ) (t : List Entry) (marks : List Bool) : Type 0 where
  pub wide : Wide marks
  pub each : (i : ℕ) → i < length t → get_or marks i false ≡ in_reach own clock t (id_of (get_or t i no_entry))

-- the marks, and how many levels come after our own node: the number of the last
pub record Levelled (own clock : ℕ) (t : List Entry) (r : Traversed) : Type 0 where
  pub marks : Marking own clock t r.marks
  pub count : r.levels ≡ last_level own clock t

-- marks, last level and network digest
pub record Reaching (own clock : ℕ) (t : List Entry) (r : Reached) : Type 0 where
  pub marks : Marking own clock t r.marks
  pub count : r.levels ≡ last_level own clock t
  pub digest : r.digest ≡ network_digest own clock t

-- the identifiers of the marked entries, in the table's order, and nothing behind them
pub record Listed (marks : List Bool) (t : Table) (r : Nodes) : Type 0 where
  pub few : r.count ≤ most_nodes
  pub is : take r.count r.list ≡ map meta_id (keep_by marks (live t))
  pub wide : length r.list ≡ most_nodes
  pub rest : drop r.count r.list ≡ replicate (most_nodes - r.count) 0
