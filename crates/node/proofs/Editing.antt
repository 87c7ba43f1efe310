-- Our own data changed in place in its slot, and then published; a TLV put in for another. Assumes nothing.
use mathlib.Core.Path.{◌≡◌, sym, ap, ◌∙◌, subst}
use mathlib.Core.Bool.{true}
use mathlib.Core.List.{List}
use Prim.Native.Nat.{ℕ, ◌+◌, ◌-◌, ◌*◌, ◌≤◌}
use native.Mathlib.Omega.{arith}
use lib.ListN.{length, take, drop}
use Rattle.base.specs.Lists.{join_all}
use Rattle.base.specs.Memory.{part, written, spliced, cut}
use Rattle.base.proofs.Lists.{part-is}
use Rattle.base.proofs.Written.{written-length, written_over, part-there, cut-length}
use Rattle.wire.specs.Row.{is_row, tlvs}
use Rattle.wire.specs.Order.{place}
use Rattle.model.specs.Figures.{data_limit, table_bytes}
use Rattle.model.specs.Table.{entry_of, anew}
use Rattle.model.specs.State.{own_data, publish_as, with_tlv}
use Rattle.model.proofs.KeptData.{tlv-length}
use Rattle.table.specs.View.{meta_at, data_of, Arranged, Kept, Read, Stands, Stored}
use Rattle.table.specs.declared.Table.{Table}
use Rattle.table.specs.declared.Entry.{Entry as Meta}
use Rattle.node.specs.View.{state_of, Rep, Published}
use Rattle.node.specs.declared.State.{State}
use Rattle.node.proofs.Parts.{put_table}
use Rattle.node.proofs.Own.{own_data_lem, own-length}
use Rattle.node.proofs.Moves.{stored-published}

-- ---- the slot of our own node, whose entry is e

module _ (s : State) (m : List ℕ) (k : Rep s m) (i : ℕ) (h : Stands s.table s.own i) (e : Meta) (o : Read s.table i e) (start : ℕ) (z : start ≡ e.slot * data_limit) where
  pub own-part : part m start e.len ≡ own_data (state_of s m)
  own-part = ap (λ (x : ℕ). part m x e.len) z ∙ ap (data_of m) o.same ∙ sym (own_data_lem s m i k h)

  pub slot-room : start + data_limit ≤ length m
  slot-room = omega (arith, o.low, k.table.room)

  -- its first n bytes are now d
  module _ (d m' : List ℕ) (n : ℕ) (l : length d ≤ data_limit) (w : m' ≡ written m start d) (q : n ≡ length d) where
    pub slot_asks : Arranged s.table × (Stands s.table s.own i × ((n ≤ data_limit) × (table_bytes ≤ length m')))
    slot_asks = (k.table.arranged, (h, (omega (arith, l, q), rw w (rw (written-length m d start (omega (arith, slot-room, l))) k.table.room))))

    pub slot-published : (clock seq : ℕ) (t : Table) (d' : List ℕ) → d ≡ d'
        → ((x y : List ℕ) → Kept s.table x → length y ≡ n → m' ≡ written x ((meta_at s.table i).slot * data_limit) y → Stored (entry_of s.own seq y (anew clock)) s.table x i t m')
        → Published (publish_as clock seq d' (state_of s m)) s m (put_table t s) m'
    slot-published clock seq t d' c f =
        stored-published s m i k h clock seq t d d' m' c
        (f m d k.table (sym q) (w ∙ ap (λ (x : ℕ). written m x d) z ∙ ap (λ (x : Meta). written m (x.slot * data_limit) d) o.same))

-- ---- bytes taken out, and a TLV put in its place

module _ (m : List ℕ) (at len p n : ℕ) (tlv : List ℕ) (h : p + n ≤ len) (room : at + len ≤ length m) where
  abbrev left : List ℕ
  left = cut (part m at len) p n

  left-length : length left ≡ len - n
  left-length = cut-length m at len p room n h

  -- what stands there between the two
  pub left_there : (m1 : List ℕ) (size : ℕ) → m1 ≡ written m at left → size ≡ len - n → take size (drop at m1) ≡ left
  left_there m1 size e q = part-there m m1 left at size e (q ∙ sym left-length) (omega (arith, left-length))

  module _ (more : at + (len - n) + length tlv ≤ length m) (r : is_row left ≡ true) where
    with_length : length (with_tlv tlv left) ≡ len - n + length tlv
    with_length = omega (arith, tlv-length tlv left r, left-length)

    pub swapped : (m1 m2 : List ℕ) (size end q : ℕ) → m1 ≡ written m at left → size ≡ len - n → end ≡ at + size
        → spliced (take (end - at) (drop at m1)) q tlv ≡ join_all (place tlv (tlvs (take (end - at) (drop at m1))))
        → m2 ≡ written m1 at (spliced (part m1 at size) q tlv) → (m2 ≡ written m at (with_tlv tlv left)) × (size + length tlv ≡ length (with_tlv tlv left))
    unfolding with_tlv
    swapped m1 m2 size end q e1 es ee w e2 =
        let there : part m1 at size ≡ left = left_there m1 size e1 es in
        let x : take (end - at) (drop at m1) ≡ left = part-is m1 at end size ee ∙ there in
        let new : spliced left q tlv ≡ join_all (place tlv (tlvs left))
        = subst (λ (d : List ℕ). spliced d q tlv ≡ join_all (place tlv (tlvs d))) x w in (
          e2 ∙ ap (λ (d : List ℕ). written m1 at (spliced d q tlv)) there ∙ ap (written m1 at) new ∙ ap (λ (d : List ℕ). written d at (join_all (place tlv (tlvs left)))) e1
              ∙ written_over m at at left (join_all (place tlv (tlvs left))) (omega arith) (omega (arith, with_length, left-length)) (omega (arith, with_length)),
          omega (arith, with_length, es),
        )

-- in our own data, published
module _ (s : State) (m : List ℕ) (k : Rep s m) (i : ℕ) (h : Stands s.table s.own i) (e : Meta) (o : Read s.table i e) (start : ℕ) (z : start ≡ e.slot * data_limit)
    (p n : ℕ) (tlv : List ℕ)
    (f : (p + n ≤ length (own_data (state_of s m))) × ((is_row (cut (own_data (state_of s m)) p n) ≡ true) × (length (with_tlv tlv (cut (own_data (state_of s m)) p n)) ≤ data_limit))) where
  abbrev rest : List ℕ
  rest = cut (part m start e.len) p n

  rest-is : rest ≡ cut (own_data (state_of s m)) p n
  rest-is = ap (λ (d : List ℕ). cut d p n) (own-part s m k i h e o start z)

  inside : p + n ≤ e.len
  inside = omega (arith, f.0, own-length s m i k h, o.long)

  whole : start + e.len ≤ length m
  whole = omega (arith, slot-room s m k i h e o start z, o.short)

  rest-row : is_row rest ≡ true
  rest-row = ap is_row rest-is ∙ f.1.0

  few : length (with_tlv tlv rest) ≤ data_limit
  few = subst (λ (d : List ℕ). length (with_tlv tlv d) ≤ data_limit) (sym rest-is) f.1.1

  more : start + (e.len - n) + length tlv ≤ length m
  more = omega (arith, few, tlv-length tlv rest rest-row, left-length m start e.len p n tlv inside whole, slot-room s m k i h e o start z)

  pub swap_asks : (p + n ≤ e.len) × ((start + e.len ≤ length m) × ((start + (e.len - n) + length tlv ≤ length m) × (is_row rest ≡ true)))
  swap_asks = (inside, (whole, (more, rest-row)))

  module _ (m' : List ℕ) (size : ℕ) (w : (m' ≡ written m start (with_tlv tlv rest)) × (size ≡ length (with_tlv tlv rest))) where
    pub swap_slot : Arranged s.table × (Stands s.table s.own i × ((size ≤ data_limit) × (table_bytes ≤ length m')))
    swap_slot = slot_asks s m k i h e o start z (with_tlv tlv rest) m' size few w.0 w.1

    pub swap_published : (clock seq : ℕ) (t : Table)
        → ((x y : List ℕ) → Kept s.table x → length y ≡ size → m' ≡ written x ((meta_at s.table i).slot * data_limit) y → Stored (entry_of s.own seq y (anew clock)) s.table x i t m')
        → Published (publish_as clock seq (with_tlv tlv (cut (own_data (state_of s m)) p n)) (state_of s m)) s m (put_table t s) m'
    swap_published clock seq t =
        slot-published s m k i h e o start z (with_tlv tlv rest) m' size few w.0 w.1 clock seq t (with_tlv tlv (cut (own_data (state_of s m)) p n)) (ap (with_tlv tlv) rest-is)
