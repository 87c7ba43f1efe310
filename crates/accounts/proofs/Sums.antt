-- Sums step by step: a TLV, a node's data, the marked nodes of the table. Assumes nothing.
use mathlib.Core.Path.{◌≡◌, sym, ap, ◌∙◌}
use mathlib.Core.Bool.{Bool, true, false}
use mathlib.Core.List.{List, [], ◌∷◌, ◌++◌}
use mathlib.Core.Option.{Option, none, some}
use Prim.Native.Nat.{ℕ, ◌+◌, ◌*◌, ◌/◌, ◌≤◌, ◌<◌}
use native.Mathlib.Omega.{arith}
use lib.ListN.{length, get_or, take, drop, length-take}
use lib.Seq.{take_all}
use lib.Dec.{eqb}
use lib.IntN.{ℤ, pos, ◌+ℤ◌, +ℤ_idl, +ℤ_idr, +ℤ_assoc}
use lib.Signed.{mag}
use borrow.Author.Tests.{eq-eqb, ne_eqb, eqb-true, eqb-false}
use mir.Syntax.{w32, w64}
use mir.Val.{SFits, to_z, of_z}
use Rattle.base.specs.Lists.{keep_by}
use Rattle.base.proofs.Tests.{by_test}
use Rattle.base.proofs.Options.{by_option}
use Rattle.base.proofs.Lists.{map_append, all_keep_by, all_take}
use Rattle.base.proofs.Marks.{keep_by_nil, keep_by_length, keep_by_in, keep_by_out}
use Rattle.base.proofs.Signed.{narrow_back, wide_back}
use Rattle.wire.specs.Order.{good}
use Rattle.wire.specs.Payment.{Payment, amount_limit, read_payment}
use Rattle.wire.specs.Answers.{Tells, told}
use Rattle.wire.specs.declared.row.Header.{Header}
use Rattle.wire.specs.declared.payment.Payment.{Payment as Paid}
use Rattle.wire.proofs.Payments.{read-payable, payable-mag, mag-step}
use Rattle.model.specs.Figures.{most_nodes, data_limit}
use Rattle.model.specs.Table.{Entry, Statement, statements}
use Rattle.model.specs.Totals.{unreadable, payments_of, payments_in}
use Rattle.model.proofs.Totals.{payments_append, payments_counted, payments_good, payments_node, unreadable_append, tally, tally-none, tally_append, tally-mag, total-is, sum_is, Summing, summing_start, summing_end, summing_pass, summing_unreadable, summing_skip, summing_pick}
use Rattle.table.specs.declared.Table.{Table}
use Rattle.table.specs.View.{no_meta, meta_at, data_of, seen, view, Kept, AllGood}
use Rattle.table.proofs.Tables.{view-length, view-at, view-each}
use Rattle.accounts.specs.Tallied.{sum_for, Tallied, counted, add_paid, add_tlv, Added, publishing, most_payments, Room}
use Rattle.accounts.specs.declared.totals.Whose.{Whose}
use Rattle.accounts.specs.declared.totals.Whose.TheVariants.{All, Of}
use Rattle.accounts.specs.declared.totals.Total.{Total}

-- ---- whose payments are summed

abbrev picked : Whose → Payment → Bool
picked w p = counted w p.household

-- ---- one TLV: of another type, or a payment that is unreadable, not picked, picked

abbrev total : ℤ → ℕ → Total
total v n = record { value = v; unread = n }

module _ (w : Whose) (kind : ℕ) (v : List ℕ) (t : Total) where
  pub add_other : (kind ≡ 40 → ⊥) → add_tlv w kind v t ≡ t
  unfolding add_tlv
  add_other n = rw (ne_eqb kind 40 n)

  module _ (k : kind ≡ 40) where
    add_paid_lem : (o : Option Payment) → read_payment v ≡ o → add_tlv w kind v t ≡ add_paid w o t
    unfolding add_tlv
    add_paid_lem o e = rw (eq-eqb kind 40 k, e)

    add_unread : read_payment v ≡ none → add_tlv w kind v t ≡ total t.value (t.unread + 1)
    add_unread e = add_paid_lem none e

    module _ (p : Payment) (e : read_payment v ≡ some p) where
      add_not : picked w p ≡ false → add_tlv w kind v t ≡ t
      add_not b = add_paid_lem (some p) e ∙ rw b

      add_picked : picked w p ≡ true → add_tlv w kind v t ≡ total (t.value +ℤ p.amount) t.unread
      add_picked b = add_paid_lem (some p) e ∙ rw b

-- ---- as the code adds it: words of 64 bits have room for all payments of a table

room_fits : (t : Total) → Room (most_payments * 2) t → SFits w64 t.value
room_fits t m = record { sfits = omega (arith, m.value) }

module _ (w : Whose) (kind : ℕ) (v : List ℕ) (t : Total) (k : kind ≡ 40) (m : Room (most_payments * 2) t) where
  pub code_unread : none ≡ read_payment v → total (to_z w64 (of_z w64 t.value)) (t.unread + 1) ≡ add_tlv w kind v t
  code_unread e = rw (narrow_back w64 t.value (room_fits t m)) (sym (add_unread w kind v t k (sym e)))

  module _ (p : Paid) (e : some (told p) ≡ read_payment v) where
    small : mag p.amount < amount_limit
    small = payable-mag (told p) (read-payable v (told p) (sym e))

    sum_fits : SFits w64 (t.value +ℤ p.amount)
    sum_fits = record { sfits = omega (arith, mag-step (most_payments * 2) t.value p.amount m.value small) }

    fits : SFits w32 p.amount
    fits = record { sfits = small }

    pub code_sum : SFits w64 (to_z w64 (of_z w64 t.value) +ℤ to_z w64 (of_z w64 (to_z w32 (of_z w32 p.amount))))
    code_sum = rw (narrow_back w64 t.value (room_fits t m), wide_back p.amount fits) sum_fits

    pub code_not : counted w p.household ≡ false → t ≡ add_tlv w kind v t
    code_not b = sym (add_not w kind v t k (told p) (sym e) b)

    pub code_picked : counted w p.household ≡ true
        → total (to_z w64 (of_z w64 (to_z w64 (of_z w64 t.value) +ℤ to_z w64 (of_z w64 (to_z w32 (of_z w32 p.amount)))))) t.unread ≡ add_tlv w kind v t
    code_picked b =
        rw (narrow_back w64 t.value (room_fits t m), wide_back p.amount fits, narrow_back w64 (t.value +ℤ p.amount) sum_fits) (sym (add_picked w kind v t k (told p) (sym e) b))

-- ---- the sum asked for is the tally of the payments that it picks

sum_for_lem : (w : Whose) (ss : List Statement) → sum_for w ss ≡ tally (picked w) (payments_in ss)
sum_for_lem All ss = sum_is ss
sum_for_lem (Of h) ss = total-is h ss

-- ---- one node's data d: r is t with the TLVs before place at

abbrev pub AddedTo : Whose → List ℕ → Total → Total → ℕ → Type 0
AddedTo w d t r at =
    Summing (picked w) d most_payments at r.value r.unread (t.value +ℤ tally (picked w) (payments_of d)) (t.unread + unreadable (payments_of d))

module _ (w : Whose) (d : List ℕ) (t : Total) where
  pub data_start : Room most_payments t → AddedTo w d t t 0
  data_start m = summing_start (picked w) d most_payments t.value t.unread m.value m.unread

  module _ (r : Total) (at : ℕ) (s : AddedTo w d t r at) where
    -- there is room for one more
    pub data_room : at ≤ data_limit → Room (most_payments * 2) r
    data_room l = record { value = omega (arith, s.small); unread = omega (arith, s.few) }

    pub data_on : (h : Header) → Tells d at h → AddedTo w d t (add_tlv w h.kind (take h.len (drop h.start d)) r) h.next
    data_on h k =
        let f : Payment → Bool = picked w in
        let b : List ℕ = take h.len (drop h.start d) in
        by_test (eqb h.kind 40)
        (λ i. let y : h.kind ≡ 40 = eqb-true h.kind 40 i in
        by_option (read_payment b)
        (λ e. rw (add_unread w h.kind b r y e) (summing_unreadable f d most_payments at r.value r.unread _ _ s h k y e))
        (λ p e. by_test (picked w p)
        (λ q. rw (add_picked w h.kind b r y p e q) (summing_pick f d most_payments at r.value r.unread _ _ s h k y p e q))
        (λ q. rw (add_not w h.kind b r y p e q) (summing_skip f d most_payments at r.value r.unread _ _ s h k y p e q))))
        (λ i. let n : h.kind ≡ 40 → ⊥ = eqb-false h.kind 40 i in
        rw (add_other w h.kind b r n) (summing_pass f d most_payments at r.value r.unread _ _ s h k n))

    pub data_end : length d ≤ at → Added w (publishing d ∷ []) t r
    data_end l =
        let e = summing_end (picked w) d most_payments at r.value r.unread _ _ s l in
        record {
          value = e.0 ∙ ap (λ (x : ℤ). t.value +ℤ x) (sym (sum_for_lem w (publishing d ∷ []) ∙ ap (tally (picked w)) (payments_node (publishing d))));
          unread = e.1 ∙ ap (λ (ts : List (List ℕ)). t.unread + unreadable ts) (sym (payments_node (publishing d)));
        }

-- ---- node after node: sums over some nodes, and over others after them

module _ (w : Whose) where
  -- only what a node publishes matters
  added_says : (d : List ℕ) (s : Statement) (t r : Total) → d ≡ s.node_data → Added w (publishing d ∷ []) t r → Added w (s ∷ []) t r
  added_says d s t r e a =
      let q : payments_in (publishing d ∷ []) ≡ payments_in (s ∷ []) = payments_node (publishing d) ∙ ap payments_of e ∙ sym (payments_node s) in
      record {
        value = a.value ∙ ap (λ (x : ℤ). t.value +ℤ x) (sum_for_lem w (publishing d ∷ []) ∙ ap (tally (picked w)) q ∙ sym (sum_for_lem w (s ∷ [])));
        unread = a.unread ∙ ap (λ (ts : List (List ℕ)). t.unread + unreadable ts) q;
      }

  sum_both : (ss us : List Statement) → sum_for w (ss ++ us) ≡ sum_for w ss +ℤ sum_for w us
  sum_both ss us =
      rw (sum_for_lem w (ss ++ us), sum_for_lem w ss, sum_for_lem w us)
      (ap (tally (picked w)) (payments_append ss us) ∙ tally_append (picked w) (payments_in ss) (payments_in us))

  added_then : (ss us : List Statement) (t r q : Total) → Added w ss t r → Added w us r q → Added w (ss ++ us) t q
  added_then ss us t r q a b =
      record {
        value = b.value ∙ ap (λ (x : ℤ). x +ℤ sum_for w us) a.value ∙ +ℤ_assoc t.value (sum_for w ss) (sum_for w us)
            ∙ ap (λ (x : ℤ). t.value +ℤ x) (sym (sum_both ss us));
        unread = b.unread ∙ rw (a.unread, payments_append ss us, unreadable_append (payments_in ss) (payments_in us)) (omega arith);
      }

  added_none : (t : Total) → Added w [] t t
  unfolding payments_in unreadable
  added_none t = record { value = rw (sum_for_lem w [], tally-none (picked w)) (sym (+ℤ_idr t.value)); unread = omega arith }

  tallied : (ss : List Statement) (r : Total) → Added w ss (total (pos 0) 0) r → Tallied w ss r
  tallied ss r a = record { value = a.value ∙ +ℤ_idl (sum_for w ss); unread = omega (arith, a.unread) }

-- ---- the marked nodes of a table

-- r sums the marked nodes below place i
abbrev pub AddedBelow : Whose → List Bool → List Entry → Total → ℕ → Type 0
AddedBelow w marks t r i = Added w (statements (keep_by marks (take i t))) (total (pos 0) 0) r

module _ (w : Whose) (marks : List Bool) (t : List Entry) where
  pub table-start : (r : Total) → (r.value ≡ pos 0) × (r.unread ≡ 0) → AddedBelow w marks t r 0
  table-start r e = rw (keep_by_nil {A = Entry} marks) (let a = added_none w (total (pos 0) 0) in record { value = e.0 ∙ a.value; unread = e.1 ∙ a.unread })

  module _ (r : Total) (i : ℕ) (s : AddedBelow w marks t r i) where
    -- there is room for one node's payments more
    table-room : AllGood t → i ≤ most_nodes → Room most_payments r
    table-room g l =
        let es : List Entry = keep_by marks (take i t) in
        let ts : List (List ℕ) = payments_in (statements es) in
        let n : length ts ≤ data_limit / 4 * length es =
        payments_good es (all_keep_by (λ e. good data_limit e.says.node_data ≡ true) marks (take i t) (all_take (λ e. good data_limit e.says.node_data ≡ true) i t g)) in
        let f : length es ≤ i = omega (arith, keep_by_length marks (take i t), length-take i t) in
        let v : r.value ≡ tally (picked w) ts = (tallied w (statements es) r s).value ∙ sum_for_lem w (statements es) in
        record {
          value = rw v (omega (arith, tally-mag (picked w) ts));
          unread = omega (arith, s.unread, payments_counted ts);
        }

    module _ (x : Entry) (p : i < length t) where
      table-stay : get_or marks i false ≡ false → AddedBelow w marks t r (i + 1)
      table-stay b = rw (keep_by_out x marks t i p b) s

      table_on : (d : List ℕ) (q : Total) → get_or marks i false ≡ true → d ≡ (get_or t i x).says.node_data → Added w (publishing d ∷ []) r q → AddedBelow w marks t q (i + 1)
      table_on d q b n a =
          let es : List Entry = keep_by marks (take i t) in
          let e : Entry = get_or t i x in
          rw (keep_by_in x marks t i p b, map_append (λ (y : Entry). y.says) es (e ∷ []))
          (added_then w (statements es) (e.says ∷ []) (total (pos 0) 0) r q s (added_says w d e.says r q n a))

    table_end : length t ≤ i → Tallied w (statements (keep_by marks t)) r
    table_end l = tallied w (statements (keep_by marks t)) r (rw (take_all i t l) at s)

-- ---- as the code goes over its table: entry by entry, each with its data in the table memory

module _ (t : Table) (m : List ℕ) (k : Kept t m) where
  pub meta_inside : (i : ℕ) → i < t.count → i < length (view t m)
  meta_inside i p = rw (view-length t k.arranged m) p

  pub meta_says : (i : ℕ) → i < t.count → (d : List ℕ) → d ≡ data_of m (meta_at t i) → d ≡ (get_or (view t m) i (seen m no_meta)).says.node_data
  meta_says i p d e = e ∙ ap (λ (x : Entry). x.says.node_data) (sym (view-at t k.arranged m i p))

  pub meta_good : AllGood (view t m) → (i : ℕ) → i < t.count → (d : List ℕ) → d ≡ data_of m (meta_at t i) → good data_limit d ≡ true
  meta_good g i p d e = rw e (view-each t k.arranged (λ x. good data_limit x.says.node_data ≡ true) m i g p)

  module _ (w : Whose) (marks : List Bool) (r : Total) (i : ℕ) (s : AddedBelow w marks (view t m) r i) where
    pub metas_room : AllGood (view t m) → i < t.count → Room most_payments r
    metas_room g p = table-room w marks (view t m) r i s g (omega (arith, k.arranged.most))

    pub metas_stay : (q : Total) → i < t.count → get_or marks i false ≡ false → q ≡ r → AddedBelow w marks (view t m) q (i + 1)
    metas_stay q p b e = rw e (table-stay w marks (view t m) r i s (seen m no_meta) (meta_inside i p) b)

    pub metas_on : (q : Total) → i < t.count → get_or marks i false ≡ true → (d : List ℕ) → d ≡ data_of m (meta_at t i)
        → (u : Total) → Added w (publishing d ∷ []) r u → q ≡ u → AddedBelow w marks (view t m) q (i + 1)
    metas_on q p b d e u a n = rw n (table_on w marks (view t m) r i s (seen m no_meta) (meta_inside i p) d u b (meta_says i p d e) a)

    pub metas_end : t.count ≤ i → Tallied w (statements (keep_by marks (view t m))) r
    metas_end l = table_end w marks (view t m) r i s (rw (view-length t k.arranged m) l)
