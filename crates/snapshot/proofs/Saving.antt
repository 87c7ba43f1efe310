-- Saving: a table entry as the model has it, and the snapshot piece by piece. Assumes nothing.
use mathlib.Core.Path.{◌≡◌, refl, sym, ap, ◌∙◌, subst}
use mathlib.Core.List.{List, ◌++◌}
use Prim.Native.Nat.{ℕ, ◌+◌, ◌-◌, ◌*◌, ◌≤◌, ◌<◌, min}
use native.Mathlib.Omega.{arith}
use lib.ListN.{length, take, get_or, length-append}
use lib.Seq.{take_all}
use Rattle.base.specs.Memory.{written}
use Rattle.base.proofs.Places.{all-at, get_d_any}
use Rattle.base.proofs.Written.{written_none, written-length, written_more, written_three}
use Rattle.wire.specs.Groups.{groups}
use Rattle.wire.proofs.Good.{good-fits}
use Rattle.wire.proofs.Varints.{groups-length}
use Rattle.model.specs.Figures.{most_nodes, data_limit, table_bytes, most_age, snapshot_bytes}
use Rattle.model.specs.Sequence.{circle}
use Rattle.model.specs.Table.{Entry}
use Rattle.model.specs.State.{no_entry}
use Rattle.model.specs.Invariant.{EntryFits, TableFits}
use Rattle.model.specs.Snapshot.{save_entry, saved}
use Rattle.model.proofs.Snapshots.{saved_head, saved_entries, entry_bytes, head_bytes, saved-is, entries_next, entry-put, entry_end, head_short, entry-short, save-short}
use Rattle.table.specs.declared.Table.{Table}
use Rattle.table.specs.declared.Entry.{Entry as Meta}
use Rattle.table.specs.View.{no_meta, meta_at, data_of, seen, view, FitMeta, Kept, Read, entry_with}
use Rattle.table.proofs.Tables.{meta_read, view-length, view-at, data_length}
use Rattle.snapshot.specs.Answers.{SavedTo}

-- an entry that fits is short, and so is an age as it is saved
pub record Short (r : Meta) (bytes : List ℕ) : Type 0 where
  pub id : length (groups r.id) ≤ 5
  pub seq : length (groups r.seq) ≤ 5
  pub size : length (groups r.len) ≤ 2
  pub most : length bytes ≤ data_limit

pub short_row : (clock : ℕ) (r : Meta) (bytes : List ℕ) → EntryFits clock (entry_with r bytes) → r.len ≡ length bytes → Short r bytes
short_row clock r bytes f e =
    let l : length bytes ≤ data_limit = good-fits data_limit bytes f.fine in
    record {
      id = groups-length 4 r.id (omega (arith, f.node));
      seq = groups-length 4 r.seq (omega (arith, f.seq));
      size = groups-length 1 r.len (omega arith);
      most = l;
    }

pub short-age : (age cap : ℕ) → cap ≡ min age most_age → length (groups cap) ≤ 5
short-age age cap e = groups-length 4 cap (omega arith)

-- what the code writes of the entry r, whose data are the bytes, and where it ends
module _ (r : Meta) (bytes : List ℕ) (clock at : ℕ) (d d1 d2 d3 d4 d5 : List ℕ) (a1 a2 a3 a4 cap : ℕ)
    (e1 : d1 ≡ written d at (groups r.id)) (q1 : a1 ≡ at + length (groups r.id))
    (e2 : d2 ≡ written d1 a1 (groups r.seq)) (q2 : a2 ≡ a1 + length (groups r.seq))
    (most : cap ≡ min (r.age + (clock - r.since)) most_age)
    (e3 : d3 ≡ written d2 a2 (groups cap)) (q3 : a3 ≡ a2 + length (groups cap))
    (e4 : d4 ≡ written d3 a3 (groups r.len)) (q4 : a4 ≡ a3 + length (groups r.len))
    (size : r.len ≡ length bytes) (e5 : d5 ≡ written d4 a4 bytes) (fits : a4 + length bytes ≤ length d) where
  pub meta_saved : (d5 ≡ written d at (save_entry clock (entry_with r bytes))) × (a4 + length bytes ≡ at + length (save_entry clock (entry_with r bytes)))
  meta_saved = (
    entry-put d at clock (entry_with r bytes) d1 d2 d3 d4 d5 a1 a2 a3 a4 e1 q1 e2 q2 (rw most at e3) (rw most at q3) (rw size at e4) (rw size at q4) e5 fits,
    entry_end d at clock (entry_with r bytes) d1 d2 d3 d4 d5 a1 a2 a3 a4 e1 q1 e2 q2 (rw most at e3) (rw most at q3) (rw size at e4) (rw size at q4) e5 fits,
  )

-- the entry at place i of the table
module _ (t : Table) (m : List ℕ) (i : ℕ) (k : Kept t m) (p : i < t.count) where
  pub meta_fit : FitMeta (meta_at t i) × (table_bytes ≤ length m)
  meta_fit = let f : Read t i (meta_at t i) = meta_read t i k.arranged p in ((f.low, f.short), k.room)

  module _ (bytes : List ℕ) (e : bytes ≡ data_of m (meta_at t i)) where
    pub entry_seen : get_or (view t m) i no_entry ≡ entry_with (meta_at t i) bytes
    entry_seen = get_d_any (view t m) i no_entry (seen m no_meta) (rw (view-length t k.arranged m) p) ∙ view-at t k.arranged m i p ∙ ap (entry_with (meta_at t i)) (sym e)

    pub meta_fits : (own clock : ℕ) → TableFits own clock (view t m) → EntryFits clock (entry_with (meta_at t i) bytes)
    meta_fits own clock f = subst (EntryFits clock) entry_seen (all-at (EntryFits clock) no_entry (view t m) i f.entries (rw (view-length t k.arranged m) p))

    pub row-size : (meta_at t i).len ≡ length bytes
    row-size = sym (ap length e ∙ (data_length t m i k p).0)

-- ---- the numbers before the entries: the room d' holds them, and the entries go to place at

pub record Headed (own : ℕ) (es : List Entry) (d d' : List ℕ) (at : ℕ) : Type 0 where
  pub front : d' ≡ written d 0 (saved_head own (length es))
  pub place : at ≡ length (saved_head own (length es))
  pub low : at ≤ head_bytes
  pub room : snapshot_bytes ≤ length d'

module _ (own n : ℕ) (d d1 d2 d3 : List ℕ) (a1 a2 a3 : ℕ)
    (h1 : (d1 ≡ written d 0 (groups 1)) × (a1 ≡ 0 + length (groups 1)))
    (h2 : (d2 ≡ written d1 a1 (groups own)) × (a2 ≡ a1 + length (groups own)))
    (h3 : (d3 ≡ written d2 a2 (groups n)) × (a3 ≡ a2 + length (groups n))) where
  head_end : a3 ≡ length (saved_head own n)
  head_end = simp length-append (omega (arith, h1.1, h2.1, h3.1))

  pub headed : (es : List Entry) → n ≡ length es → length es ≤ most_nodes → own < circle → snapshot_bytes ≤ length d → length d3 ≡ length d → Headed own es d d3 a3
  headed es e f o r l =
      let low : length (saved_head own n) ≤ head_bytes = head_short own n o (omega arith) in
      record {
        front = rw (← e) (written_three d 0 (groups 1) (groups own) (groups n) d1 d2 d3 a1 a2 h1.0 h1.1 h2.0 h2.1 h3.0 (omega (arith, head_end, h3.1)));
        place = rw (← e) head_end;
        low = omega (arith, head_end);
        room = omega arith;
      }

-- ---- the snapshot, entry by entry

-- the first i entries of the table are written to d from place at on, and d' and a are the room then and the place behind them
pub record Through (clock : ℕ) (t : List Entry) (d : List ℕ) (at : ℕ) (d' : List ℕ) (a i : ℕ) : Type 0 where
  pub part : i ≤ length t
  pub front : d' ≡ written d at (saved_entries clock (take i t))
  pub place : a ≡ at + length (saved_entries clock (take i t))
  pub size : length d' ≡ length d

pub through_start : (clock : ℕ) (t : List Entry) (d : List ℕ) (at : ℕ) → Through clock t d at d at 0
through_start clock t d at = record { part = omega arith; front = sym (written_none d at); place = omega arith; size = refl }

module _ (own clock : ℕ) (t : List Entry) (fits : TableFits own clock t) (d₀ d : List ℕ) (at : ℕ) (g : Headed own t d₀ d at) where
  module _ (d' : List ℕ) (a i : ℕ) (h : Through clock t d at d' a i) where
    -- room for one more, which goes in behind
    pub through_room : i < length t → a + entry_bytes ≤ length d'
    through_room p = omega (arith, h.place, h.size, fits.nodes, g.low, g.room, save-short clock clock t i fits.entries h.part)

    module _ (d'' : List ℕ) (b : ℕ) (p : i < length t) (e : d'' ≡ written d' a (save_entry clock (get_or t i no_entry))) (q : b ≡ a + length (save_entry clock (get_or t i no_entry))) where
      short : a + length (save_entry clock (get_or t i no_entry)) ≤ length d'
      short = omega (arith, through_room p, entry-short clock clock (get_or t i no_entry) (all-at (EntryFits clock) no_entry t i fits.entries p))

      pub through_next : Through clock t d at d'' b (i + 1)
      through_next =
          let n : saved_entries clock (take (i + 1) t) ≡ saved_entries clock (take i t) ++ save_entry clock (get_or t i no_entry) = entries_next clock t i no_entry p in
          let l = length-append (saved_entries clock (take i t)) (save_entry clock (get_or t i no_entry)) in
          record {
            part = omega arith;
            front = rw n (written_more d at (saved_entries clock (take i t)) (save_entry clock (get_or t i no_entry)) d' d'' a h.front h.place e (omega (arith, short, h.size)));
            place = rw n (omega (arith, h.place));
            size = ap length e ∙ written-length d' (save_entry clock (get_or t i no_entry)) a short ∙ h.size;
          }

    -- all of it
    pub all_saved : own < circle → snapshot_bytes ≤ length d₀ → length t ≤ i → SavedTo (saved own clock t) d₀ d' a
    all_saved o room p =
        let w : take i t ≡ t = take_all i t p in
        let front : d' ≡ written d at (saved_entries clock t) = rw w at h.front in
        let place : a ≡ at + length (saved_entries clock t) = rw w at h.place in
        let short : length (saved_entries clock (take i t)) ≤ entry_bytes * i = save-short clock clock t i fits.entries h.part in
        let l = length-append (saved_head own (length t)) (saved_entries clock t) in
        record {
          front =
              rw (saved-is own clock t)
              (written_more d₀ 0 (saved_head own (length t)) (saved_entries clock t) d d' at g.front (omega (arith, g.place)) front (omega (arith, g.place, rw w at short, h.part, fits.nodes, head_short own (length t) o fits.nodes)));
          size = rw (saved-is own clock t) (omega (arith, g.place));
        }
