-- The nodes at the places of the table as the marking sees them. Assumes nothing.
use mathlib.Core.Path.{◌≡◌, refl, ap, ◌∙◌}
use mathlib.Core.Bool.{Bool, true, false, ◌&&◌}
use mathlib.Core.List.{List, [], ◌∷◌}
use Prim.Native.Nat.{ℕ, zero, suc, ◌+◌, ◌-◌, ◌≤◌, ◌<◌}
use native.Mathlib.Nat.{not-suc-le-zero, le_of_suc-le-suc}
use native.Mathlib.Omega.{arith}
use lib.ListN.{length, get_or, length-map}
use borrow.Author.Tests.{lt-ltb, le-ltb}
use Rattle.wire.specs.Row.{is_row}
use Rattle.wire.specs.Order.{good}
use Rattle.wire.proofs.Good.{good-row}
use Rattle.model.specs.Figures.{most_nodes, data_limit, table_bytes, age_limit, last_reading}
use Rattle.model.specs.Table.{Entry, Statement, under_age}
use Rattle.model.specs.Reach.{Vertex, vertices, joined}
use Rattle.model.specs.Invariant.{EntryFits, TableFits}
use Rattle.table.specs.declared.Table.{Table}
use Rattle.table.specs.declared.Entry.{Entry as Meta}
use Rattle.table.specs.View.{no_meta, meta_at, data_of, seen, view, FitMeta, Arranged, Kept, Read}
use Rattle.table.proofs.Tables.{meta_read, view-length, view-at, view-each}
use Rattle.reach.specs.Marks.{joins, Readable, Legible, no_vertex, leads}
use Rattle.reach.specs.Parts.{Front}
use Rattle.reach.proofs.Fronts.{joins-front}

-- a table that fits may be marked
pub fits-readable : (own clock : ℕ) (t : Table) (m : List ℕ) → Kept t m → TableFits own clock (view t m) → clock ≤ last_reading → Readable clock t m
fits-readable own clock t m k f l = record { kept = k; entries = f.entries; reading = l }

-- ---- a node

abbrev pub vertex_of : ℕ → Entry → Vertex
vertex_of clock e = record { says = e.says; young = under_age clock e }

pub vertex_at : (clock : ℕ) (t : List Entry) (i : ℕ) (d : Entry) → i < length t → get_or (vertices clock t) i no_vertex ≡ vertex_of clock (get_or t i d)
vertex_at clock [] i d p = absurd (not-suc-le-zero p)
vertex_at clock (e ∷ t) zero d p = refl
vertex_at clock (e ∷ t) (suc i) d p = vertex_at clock t i d (le_of_suc-le-suc p)

pub vertices-length : (clock : ℕ) (t : List Entry) → length (vertices clock t) ≡ length t
vertices-length clock t = length-map t (vertex_of clock)

-- the node at place r is young, and joined to that at place v
abbrev pub leads_at : ℕ → List Entry → ℕ → ℕ → Bool
leads_at clock t r v =
    (get_or (vertices clock t) r no_vertex).young && joined (get_or (vertices clock t) r no_vertex).says (get_or (vertices clock t) v no_vertex).says

-- who is joined depends on identifiers and data alone
joins-says : (r n : Statement) → joins r.node r.node_data n.node n.node_data ≡ joined r n
unfolding joined
joins-says r n = refl

-- ---- an entry

module _ (clock : ℕ) (m : List ℕ) (e : Meta) (g : Legible clock m e) where
  -- what `age_at` asks of it
  pub meta_age : (e.since ≤ clock) × (clock ≤ last_reading)
  meta_age = (g.entry.since, g.reading)

  -- what `front_of` asks of it: its data is good
  pub front_asks : FitMeta e × ((table_bytes ≤ length m) × (good data_limit (data_of m e) ≡ true))
  front_asks = (g.fit, (g.room, g.entry.fine))

module _ (clock : ℕ) (m : List ℕ) (e f : Meta) (a : ℕ) (w : a ≡ e.age + (clock - e.since)) where
  pub old-leads : age_limit ≤ a → leads clock (seen m e) (seen m f) ≡ false
  old-leads l = rw (le-ltb (e.age + (clock - e.since)) age_limit (omega arith))

  pub young-leads : a < age_limit → (x y : List ℕ) → Front (data_of m e) x → Front (data_of m f) y → {b : Bool} → b ≡ joins e.id x f.id y → b ≡ leads clock (seen m e) (seen m f)
  young-leads l x y fx fy j =
      rw (lt-ltb (e.age + (clock - e.since)) age_limit (omega arith))
      (j ∙ joins-front e.id f.id (data_of m e) x (data_of m f) y fx fy ∙ joins-says (seen m e).says (seen m f).says)

pub few-nodes : (t : Table) (m : List ℕ) → Arranged t → length (view t m) ≤ most_nodes
few-nodes t m k = rw (view-length t k m) k.most

-- ---- the entry at a place

pub held : (t : Table) (m : List ℕ) → Arranged t → (i : ℕ) → i < t.count → i < length (view t m)
held t m k i p = rw (view-length t k m) p

module _ (clock : ℕ) (t : Table) (m : List ℕ) (g : Readable clock t m) where
  module _ (i : ℕ) (p : i < t.count) where
    node_at : get_or (vertices clock (view t m)) i no_vertex ≡ vertex_of clock (seen m (meta_at t i))
    node_at = vertex_at clock (view t m) i (seen m no_meta) (held t m g.kept.arranged i p) ∙ ap (vertex_of clock) (view-at t g.kept.arranged m i p)

    pub legible_at : Legible clock m (meta_at t i)
    legible_at =
        let f : Read t i (meta_at t i) = meta_read t i g.kept.arranged p in
        record { fit = (f.low, f.short); room = g.kept.room; entry = view-each t g.kept.arranged (EntryFits clock) m i g.entries p; reading = g.reading }

    -- its numbers are in range, also once it was read
    pub age_fits_lem : (e : Meta) → Read t i e → (e.since ≤ clock) × (clock ≤ last_reading)
    age_fits_lem e o = rw o.same (legible_at.entry.since, g.reading)

    -- its data is a row
    pub data_row : (x : List ℕ) → x ≡ data_of m (meta_at t i) → is_row x ≡ true
    data_row x e = rw e (good-row data_limit (data_of m (meta_at t i)) legible_at.entry.fine)

  -- whether the entry at place r leads to that at place v
  pub leads_at_lem : (r v : ℕ) → r < t.count → v < t.count → leads clock (seen m (meta_at t r)) (seen m (meta_at t v)) ≡ leads_at clock (view t m) r v
  leads_at_lem r v p q = rw (node_at r p, node_at v q)
