-- Keep-Alive intervals: the search for the TLV, and the interval of a peer's node. Assumes nothing.
use mathlib.Core.Path.{◌≡◌, sym, ap, ◌∙◌}
use mathlib.Core.Bool.{Bool, true, false, ◌&&◌}
use mathlib.Core.List.{List}
use Prim.Native.Nat.{ℕ, ◌+◌, ◌-◌, ◌≤◌}
use native.Mathlib.Omega.{arith}
use lib.ListN.{length, drop, length-drop}
use lib.Dec.{eqb, leb}
use borrow.Author.Tests.{eq-eqb, ne_eqb, leb-true}
use Rattle.base.specs.Bytes.{u32_at}
use Rattle.base.proofs.Tests.{and_left, and_right}
use Rattle.wire.specs.Row.{type_of, value_of, is_row, tlvs}
use Rattle.wire.specs.Order.{good}
use Rattle.wire.specs.Answers.{tlv_of, Tells}
use Rattle.wire.specs.declared.row.Header.{Header}
use Rattle.wire.proofs.Rows.{tlvs_end, value-length, value-number}
use Rattle.wire.proofs.Good.{good-row}
use Rattle.model.specs.Figures.{usual_interval, data_limit}
use Rattle.model.specs.Table.{Entry}
use Rattle.model.specs.State.{Peer as ModelPeer}
use Rattle.model.specs.Tick.{is_keep_alive, interval_for, all_endpoints, interval_in, interval_of, silent_for, goes}
use Rattle.table.specs.View.{data_of, meta_at, view, Kept, Stands, Gap, AllGood}
use Rattle.table.specs.declared.Table.{Table}
use Rattle.table.proofs.Tables.{look-stands, look_gap, view-each}

-- ---- one TLV

module _ (s : List ℕ) (at : ℕ) (h : Header) (k : Tells s at h) where
  module _ (endpoint : ℕ) where
    pub long_enough : {b : Bool} → b ≡ is_keep_alive endpoint (tlv_of s at h) → b ≡ true → 8 ≤ h.len
    long_enough e t =
        let q : eqb (type_of (tlv_of s at h)) 9 && leb 8 (length (value_of (tlv_of s at h))) ≡ true = and_left _ _ (sym e ∙ t) in
        rw (value-length s at h k) at (leb-true 8 (length (value_of (tlv_of s at h))) (and_right (eqb (type_of (tlv_of s at h)) 9) _ q))

-- ---- the search

module _ (s : List ℕ) (endpoint other at : ℕ) where
  pub for_end : length s ≤ at → interval_for endpoint other (tlvs (drop at s)) ≡ other
  for_end p = rw (tlvs_end (drop at s) (simp length-drop (omega arith)))

  module _ (h : Header) (k : Tells s at h) {b : Bool} (e : b ≡ is_keep_alive endpoint (tlv_of s at h)) where
    pub for_here : b ≡ true → interval_for endpoint other (tlvs (drop at s)) ≡ u32_at s (h.start + 4)
    for_here t = ap (interval_for endpoint other) k.left ∙ rw (sym e ∙ t) (value-number s at h k 4 (long_enough s at h k endpoint e t))

-- the endpoint's own, else that for all endpoints
pub interval-is : (s : List ℕ) (endpoint all : ℕ) → all ≡ interval_for all_endpoints usual_interval (tlvs s) → interval_for endpoint all (tlvs s) ≡ interval_in s endpoint
unfolding interval_in
interval-is s endpoint all e = ap (λ (n : ℕ). interval_for endpoint n (tlvs s)) e

-- ---- the interval of a peer

module _ (t : Table) (m : List ℕ) (k : Kept t m) (i : ℕ) where
  -- the data of a node that stands in the table are a row
  pub stands-row : (id : ℕ) → AllGood (view t m) → Stands t id i → is_row (data_of m (meta_at t i)) ≡ true
  stands-row id g s =
      good-row data_limit (data_of m (meta_at t i)) (view-each t k.arranged (λ e. good data_limit e.says.node_data ≡ true) m i g s.at)

  module _ (p : ModelPeer) where
    pub interval-found : Stands t p.node i → interval_of (view t m) p ≡ interval_in (data_of m (meta_at t i)) p.theirs
    unfolding interval_of
    interval-found s = rw (look-stands t k.arranged p.node i m s)

    pub interval_missing : Gap t p.node i → interval_of (view t m) p ≡ usual_interval
    unfolding interval_of
    interval_missing g = rw (look_gap t k.arranged p.node i m g)

module _ (clock endpoint : ℕ) (t : List Entry) (p : ModelPeer) where
  pub goes_other : ¬ (p.ours ≡ endpoint) → goes clock endpoint t p ≡ false
  unfolding goes
  goes_other n = rw (ne_eqb p.ours endpoint n)

  pub goes-here : p.ours ≡ endpoint → goes clock endpoint t p ≡ silent_for (interval_of t p) (clock - p.contact)
  unfolding goes
  goes-here e = rw (eq-eqb p.ours endpoint e)
