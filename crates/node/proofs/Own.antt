-- Our own node: where it stands in the table, and its entry in the model. Assumes nothing.
use mathlib.Core.Path.{◌≡◌, ap, ◌∙◌}
use mathlib.Core.List.{List}
use Prim.Native.Nat.{ℕ}
use lib.ListN.{length}
use Rattle.table.specs.View.{data_of, seen, meta_at, Stands}
use Rattle.table.proofs.Tables.{look-stands, data_length}
use Rattle.model.specs.Table.{Entry}
use Rattle.model.specs.State.{own_entry, own_seq, own_data}
use Rattle.node.specs.View.{state_of, Rep}
use Rattle.node.specs.declared.State.{State}

module _ (s : State) (m : List ℕ) (i : ℕ) (k : Rep s m) (h : Stands s.table s.own i) where
  pub own-entry : own_entry (state_of s m) ≡ seen m (meta_at s.table i)
  unfolding own_entry state_of
  own-entry = rw (look-stands s.table k.table.arranged s.own i m h)

  pub own-seq : own_seq (state_of s m) ≡ (meta_at s.table i).seq
  own-seq = ap (λ (e : Entry). e.says.seq) own-entry

  pub own_data_lem : own_data (state_of s m) ≡ data_of m (meta_at s.table i)
  own_data_lem = ap (λ (e : Entry). e.says.node_data) own-entry

  pub own-length : length (own_data (state_of s m)) ≡ (meta_at s.table i).len
  own-length = ap length own_data_lem ∙ (data_length s.table m i k.table h.at).0
