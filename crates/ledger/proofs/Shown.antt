-- One node's data, shown in the table memory. Assumes nothing.
use mathlib.Core.Path.{◌≡◌, refl, sym, ap, ◌∙◌}
use mathlib.Core.List.{List, [], ◌∷◌}
use Rattle.std.specs.Prelude.{Result, Ok, Err}
use Rattle.std.specs.Result.{result_or}
use mathlib.Core.Option.{none, some}
use Prim.Native.Nat.{ℕ, ◌*◌, ◌≤◌, ◌<◌}
use native.Mathlib.Omega.{arith}
use lib.ListN.{length}
use borrow.Author.Tests.{lt-ltb, le-ltb, eq-eqb, ne_eqb}
use Rattle.model.specs.Figures.{data_limit, table_bytes}
use Rattle.model.specs.Table.{look}
use Rattle.model.specs.Refusals.{small_table, no_such_node}
use Rattle.model.specs.Numbers.{number}
use Rattle.model.specs.declared.numbers.Refusal.{Refusal}
use Rattle.model.specs.declared.numbers.Refusal.TheVariants.{BufferTooSmall, NoSuchNode}
use Rattle.model.specs.Show.{shown, refusal_show}
use Rattle.table.specs.View.{meta_at, data_of, seen, meta_of, Arranged, Read, Stands, Gap, Finding}
use Rattle.table.specs.declared.Table.{Table}
use Rattle.table.specs.declared.Entry.{Entry as Meta}
use Rattle.table.proofs.Tables.{stands-found, look_gap, look-stands}
use Rattle.node.specs.declared.State.{State}
use Rattle.node.specs.View.{state_of}
use Rattle.node.proofs.Parts.{state-table}
use Rattle.ledger.specs.Promises.{AsLeft, Shows}
use Rattle.ledger.specs.Inner.{Placed}
use Rattle.ledger.proofs.Left.{none_first, not-small}
use Rattle.ledger.proofs.Answering.{refused}

-- ---- a node stands at one place only

one_place : (t : Table) → Arranged t → (n i j : ℕ) → Stands t n i → Stands t n j → meta_at t i ≡ meta_at t j
one_place t k n i j g h =
    let p : meta_of t n ≡ some (meta_at t i) = stands-found t n i k g in
    let q : meta_of t n ≡ some (meta_at t j) = stands-found t n j k h in
    cc

-- ---- the place, or the number of the call

module _ (n : ℕ) (s : State) (m : List ℕ) where
  pub placed_small : length m < table_bytes → Placed n s m (Err BufferTooSmall)
  placed_small h = rw (lt-ltb (length m) table_bytes h)

  module _ (l : AsLeft s m) (room : table_bytes ≤ length m) where
    shown-entry : (i : ℕ) → Stands s.table n i → look n (state_of s m).table ≡ some (seen m (meta_at s.table i))
    shown-entry i h = ap (look n) (state-table s m) ∙ look-stands s.table l.arranged n i m h

    shown_nowhere : (i : ℕ) → Gap s.table n i → look n (state_of s m).table ≡ none
    shown_nowhere i h = ap (look n) (state-table s m) ∙ look_gap s.table l.arranged n i m h

    pub placed : (r : Result ℕ ℕ) → Finding s.table n r → Placed n s m (result_or r (Err NoSuchNode))
    placed (Ok i) h = (h, rw (le-ltb (length m) table_bytes room, shown-entry i h))
    placed (Err i) h = rw (le-ltb (length m) table_bytes room, shown_nowhere i h)

-- a place tells that the memory is there
placed-room : (n : ℕ) (s : State) (m : List ℕ) → 0 ≡ refusal_show n (length m) (state_of s m) → table_bytes ≤ length m
placed-room n s m e = not-small (length m) (none_first (small_table (length m) ∷ no_such_node n (state_of s m) ∷ []) (omega arith) (sym e)).0

-- ---- where the data stand

module _ (n : ℕ) (s : State) (m : List ℕ) where
  -- nothing is shown
  pub shows_nothing : (r : Refusal) → number r ≡ refusal_show n (length m) (state_of s m) → Shows n s m (record { start = 0; length = 0 })
  unfolding shown
  shows_nothing r e =
      let h : ¬ (refusal_show n (length m) (state_of s m) ≡ 0) = λ z. refused r (e ∙ z) in
      record {
        is = rw (ne_eqb (refusal_show n (length m) (state_of s m)) 0 h);
        within = omega arith;
        slot = λ z. absurd (h z);
        refused = λ y. (refl, refl);
      }

  module _ (l : AsLeft s m) (i : ℕ) (p : Placed n s m (Ok i)) (e : Meta) (r : Read s.table i e) (start : ℕ) (q : start ≡ e.slot * data_limit) where
    shown-is : shown n (length m) (state_of s m) ≡ data_of m (meta_at s.table i)
    unfolding shown
    shown-is = rw (eq-eqb (refusal_show n (length m) (state_of s m)) 0 (sym p.1), shown-entry n s m l (placed-room n s m p.1) i p.0)

    pub shows-found : Shows n s m (record { start = start; length = e.len })
    shows-found =
        let room = placed-room n s m p.1 in
        rw q
        (record {
          is = ap (data_of m) r.same ∙ sym shown-is;
          within = omega (arith, r.low, r.short);
          slot = λ z j g. ap (λ (x : Meta). x.slot * data_limit) (r.same ∙ one_place s.table l.arranged n i j p.0 g);
          refused = λ z. absurd (z (sym p.1));
        })
