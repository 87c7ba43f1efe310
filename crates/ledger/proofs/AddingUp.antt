-- Totals add up, group by group and payment by payment, over the promises. Assumes nothing.
use mathlib.Core.Path.{◌≡◌, refl, sym, ap, subst, ◌∙◌}
use mathlib.Core.Bool.{Bool, true, false, not, cond}
use mathlib.Core.List.{List, [], ◌∷◌, ◌++◌}
use mathlib.Core.Logic.{◌⊎◌, inl, inr, ⊎_elim}
use Prim.Native.Nat.{ℕ, ◌+◌}
use native.Mathlib.Omega.{arith}
use lib.ListN.{length}
use lib.Dec.{eqb}
use lib.IntN.{ℤ, pos, ◌+ℤ◌}
use borrow.Author.Tests.{eqb-true, eqb-false, eq-eqb, le-ltb}
use Rattle.base.specs.Lists.{any, keep, In}
use Rattle.base.specs.Sorted.{Ascending}
use Rattle.base.proofs.Tests.{no_way, by_test, not_no, no_not}
use Rattle.base.proofs.Lists.{in_left, in_right, in_append, in_keep, keep_in, any_in, in_any}
use Rattle.base.proofs.Signed.{cancelled}
use Rattle.base.proofs.Sorted.{one_each, keep-ascending, keys_in, in_keys}
use Rattle.wire.specs.Payment.{Payment}
use Rattle.model.specs.Table.{Entry, Statement, id_of, under_age, statements}
use Rattle.model.specs.Reach.{reached}
use Rattle.model.specs.State.{State as ModelState, own_entry, publish_as, settle}
use Rattle.model.specs.Begin.{Done as ModelDone}
use Rattle.model.specs.Pay.{paid, refusal_pay, pay}
use Rattle.model.specs.Refusals.{first_of, late, back, small_table, no_household}
use Rattle.model.specs.Totals.{Summed as ModelSummed, payments_of, total_of, sum_of, payments_in, readable, unreadable, reachable, not_summed, total, sum}
use Rattle.model.specs.Invariant.{Midway}
use Rattle.model.proofs.Refusals.{refusals_exact}
use Rattle.model.proofs.KeptParts.{not_back, valid-midway}
use Rattle.model.proofs.Totals.{tally, total-is, sum_is}
use Rattle.model.proofs.Groups.{payments_among, picked_value, picked_unread, same-paid}
use Rattle.model.proofs.Amounts.{paid-young, paid-value, paid-unread}
use Rattle.table.specs.View.{view}
use Rattle.node.specs.View.{state_of}
use Rattle.node.specs.declared.State.{State}
use Rattle.ledger.specs.declared.answers.Summed.{Summed}
use Rattle.ledger.specs.Promises.{AsLeft, summed_of}
use Rattle.ledger.specs.Calls.{PublicCall}
use Rattle.ledger.specs.AddingUp.{Question, AnswerTo, value_over, over, AddsUp, ids_of, Split, Report, GroupsAddUp, Booked, asks_for, adding, Opposite, OppositesCancel}
use Rattle.ledger.proofs.Left.{not-small}
use Rattle.ledger.proofs.Answering.{as_accepted}
use Rattle.ledger.proofs.Calls.{numbers_exact}
use Rattle.ledger.proofs.Chains.{one-reachable, only-reachable}

-- either question sums the payments that it asks for
value-is : (q : Question) (ss : List Statement) → value_over q ss ≡ tally (asks_for q) (payments_in ss)
value-is (Question.household h) ss = total-is h ss
value-is Question.all ss = sum_is ss

-- ---- two groups

module _ (es a b : List Entry) (p : Ascending id_of es) (d : Split es a b) where
  -- the first group, as a test
  abbrev in_first : ℕ → Bool
  in_first n = any (eqb n) (ids_of a)

  first_in : (n : ℕ) → in_first n ≡ true → In n (ids_of a)
  first_in n y = let k = in_any (eqb n) (ids_of a) y in subst (λ (j : ℕ). In j (ids_of a)) (sym (eqb-true n k.0 k.2)) k.1

  in_first_lem : (n : ℕ) → In n (ids_of a) → in_first n ≡ true
  in_first_lem n i = any_in (eqb n) n (ids_of a) i (eq-eqb n n refl)

  not_first : (n : ℕ) → In n (ids_of b) → in_first n ≡ false
  not_first n j = by_test (in_first n) (λ y. absurd (d.apart n (first_in n y) j)) (λ z. z)

  first-paid : payments_among (keep (λ e. in_first (id_of e)) es) ≡ payments_among a
  first-paid =
      same-paid es a in_first p d.once.0 (λ n i y. first_in n y) (λ n j. ((d.every n).1 (inl j), in_first_lem n j)) (λ e f i j k. d.same e f i (in_left f a b j) k)

  second-paid : payments_among (keep (λ e. not (in_first (id_of e))) es) ≡ payments_among b
  second-paid =
      same-paid es b (λ n. not (in_first n)) p d.once.1 (λ n i y. ⊎_elim (λ j. no_way (in_first n) (in_first_lem n j) (no_not (in_first n) y)) (λ j. j) ((d.every n).0 i))
      (λ n j. ((d.every n).1 (inr j), not_no (in_first n) (not_first n j))) (λ e f i j k. d.same e f i (in_right f a b j) k)

  split_adds : (q : Question) → AddsUp (over q es) (over q a) (over q b)
  split_adds q =
      let f = asks_for q in (
        value-is q (statements es) ∙ picked_value f (λ e. in_first (id_of e)) es
            ∙ (λ i. tally f (first-paid i) +ℤ tally f (second-paid i))
            ∙ (λ i. sym (value-is q (statements a)) i +ℤ sym (value-is q (statements b)) i),
        picked_unread (λ e. in_first (id_of e)) es ∙ (λ i. unreadable (first-paid i) + unreadable (second-paid i)),
      )

marking : (f : ℕ → Bool) (es : List Entry) → Ascending id_of es → Split es (keep (λ e. f (id_of e)) es) (keep (λ e. not (f (id_of e))) es)
marking f es p = record { every = λ n. (part n, whole n); apart = apart; once = (keep-ascending id_of yes es p, keep-ascending id_of no es p); same = same }
  where
    yes : Entry → Bool
    yes e = f (id_of e)

    no : Entry → Bool
    no e = not (f (id_of e))

    -- a node of a group is one of es, and meets its test
    of_group : (g : ℕ → Bool) (n : ℕ) → In n (ids_of (keep (λ e. g (id_of e)) es)) → In n (ids_of es) × (g n ≡ true)
    of_group g n i =
        let e = keys_in id_of n (keep (λ e. g (id_of e)) es) i in
        let k = keep_in (λ e. g (id_of e)) e.0 es e.1 in
        (subst (λ (j : ℕ). In j (ids_of es)) e.2 (in_keys id_of e.0 es k.0), ap g (sym e.2) ∙ k.1)

    part : (n : ℕ) → In n (ids_of es) → In n (ids_of (keep yes es)) ⊎ In n (ids_of (keep no es))
    part n i =
        let e = keys_in id_of n es i in
        by_test (yes e.0) (λ y. inl (subst (λ (j : ℕ). In j (ids_of (keep yes es))) e.2 (in_keys id_of e.0 (keep yes es) (in_keep yes e.0 es e.1 y))))
        (λ z. inr (subst (λ (j : ℕ). In j (ids_of (keep no es))) e.2 (in_keys id_of e.0 (keep no es) (in_keep no e.0 es e.1 (not_no (yes e.0) z)))))

    whole : (n : ℕ) → In n (ids_of (keep yes es)) ⊎ In n (ids_of (keep no es)) → In n (ids_of es)
    whole n i = ⊎_elim (λ j. (of_group f n j).0) (λ j. (of_group (λ k. not (f k)) n j).0) i

    apart : (n : ℕ) → In n (ids_of (keep yes es)) → ¬ In n (ids_of (keep no es))
    apart n i j = no_way (f n) (of_group f n i).1 (no_not (f n) (of_group (λ k. not (f k)) n j).1)

    same : (e g : Entry) → In e es → In g (keep yes es ++ keep no es) → id_of e ≡ id_of g → payments_of e.says.node_data ≡ payments_of g.says.node_data
    same e g i j k =
        let h : In g es = ⊎_elim (λ x. (keep_in yes g es x).0) (λ x. (keep_in no g es x).0) (in_append g (keep yes es) (keep no es) j) in
        ap (λ (x : Entry). payments_of x.says.node_data) (one_each id_of e g es p i h k)

-- ---- an accepted answer is over the reachable nodes

report-is : (q : Question) (x : Report q) → (x.answer.value ≡ (over q x.nodes).value) × (x.answer.unread ≡ (over q x.nodes).unread)
report-is (Question.household h) x =
    let r = only-reachable.totalled x.clock h x.state x.memory x.answer x.left x.promised x.accepted in
    let e = one-reachable x.state.own x.clock (view x.state.table x.memory) r.0 x.nodes r.1 x.reached in
    (r.2 ∙ ap (λ (es : List Entry). total_of h (statements es)) e, r.3 ∙ ap (λ (es : List Entry). unreadable (payments_among es)) e)
report-is Question.all x =
    let r = only-reachable.summed x.clock x.state x.memory x.answer x.left x.promised x.accepted in
    let e = one-reachable x.state.own x.clock (view x.state.table x.memory) r.0 x.nodes r.1 x.reached in
    (r.2 ∙ ap (λ (es : List Entry). sum_of (statements es)) e, r.3 ∙ ap (λ (es : List Entry). unreadable (payments_among es)) e)

groups : (q : Question) (x : Report q) (a b : List Entry) → Split x.nodes a b → AddsUp (summed_of x.answer) (over q a) (over q b)
groups q x a b d =
    let r = report-is q x in
    let s = split_adds x.nodes a b x.reached.ascending d q in
    (r.0 ∙ s.0, r.1 ∙ s.1)

nothing : (q : Question) → over q [] ≡ not_summed 0
unfolding total_of sum_of payments_in readable unreadable
nothing (Question.household h) = refl
nothing Question.all = refl

reports : (q : Question) (ours valley hill : Report q) → Split ours.nodes valley.nodes hill.nodes → AddsUp (summed_of ours.answer) (summed_of valley.answer) (summed_of hill.answer)
reports q ours valley hill d =
    let g = groups q ours valley.nodes hill.nodes d in
    let v = report-is q valley in
    let h = report-is q hill in
    (g.0 ∙ (λ i. sym v.0 i +ℤ sym h.0 i), g.1 ∙ (λ i. sym v.1 i + sym h.1 i))

pub groups_add_up : GroupsAddUp
groups_add_up = record { groups = groups; nothing = nothing; marking = marking; reports = reports }

-- ---- an answer where clock and table memory are in order: only the household may still be refused

abbrev InOrder : ℕ → ℕ → ModelState → Type 0
InOrder clock table s = ((late clock).applies ≡ false) × ((back clock s).applies ≡ false) × ((small_table table).applies ≡ false)

abbrev refusal_left : Question → ℕ
refusal_left (Question.household h) = first_of (no_household h ∷ [])
refusal_left Question.all = 0

abbrev over_state : Question → ℕ → ModelState → ModelSummed
over_state q clock s = over q (reached s.own clock s.table)

abbrev answer_in : Question → ModelSummed → ModelSummed
answer_in q x = cond (eqb (refusal_left q) 0) x (not_summed (refusal_left q))

answered : (q : Question) (clock : ℕ) (s : State) (m : List ℕ) (r : Summed) → AnswerTo q clock s m r → InOrder clock (length m) (state_of s m) → summed_of r ≡ answer_in q (over_state q clock (state_of s m))
unfolding total sum
answered (Question.household h) clock s m r a o = a ∙ rw (o.0, o.1, o.2)
answered Question.all clock s m r a o = a ∙ rw (o.0, o.1, o.2)

-- ---- an accepted payment

-- our own node is under age, of the model's state
abbrev Young : ℕ → ModelState → Type 0
Young clock s = under_age clock (own_entry s) ≡ true

module _ (clock : ℕ) (s : State) (m : List ℕ) (x : Booked clock s m) where
  abbrev old : ModelState
  old = state_of s m

  abbrev new : ModelState
  new = state_of x.answer.state x.memory

  rows : InOrder clock (length m) old
  rows = let a = (numbers_exact.number (PublicCall.pays clock x.payment x.randoms x.answer x.memory) s m x.promised).none.0 x.accepted in (a.0, a.1.0, a.1.1.0)

  new_is : new ≡ paid clock x.payment x.randoms old
  unfolding pay
  new_is =
      let d : ModelDone = record { number = 0; state = paid clock x.payment x.randoms old } in
      let n : x.answer.number ≡ refusal_pay clock x.payment (length m) old =
      ap (λ (a : ModelDone). a.number) x.promised.0.is ∙ (refusals_exact.pays clock x.payment x.randoms (length m) old).answered in
      ap (λ (a : ModelDone). a.state) (x.promised.0.is ∙ sym (as_accepted x.answer.number (refusal_pay clock x.payment (length m) old) n d (λ k. record { number = k; state = old }) x.accepted))

  new_last : new.last ≡ clock
  unfolding paid settle publish_as
  new_last = ap (λ (v : ModelState). v.last) new_is

  new_rows : InOrder clock (length x.memory) new
  new_rows = (rows.0, le-ltb clock new.last (omega (arith, new_last)), ap (λ (n : ℕ). (small_table n).applies) x.promised.0.size ∙ rows.2)

  module _ (l : AsLeft s m) where
    midway : Midway clock old
    midway = valid-midway clock old (l.valid (not-small (length m) rows.2)) (not_back clock old rows.1)

    new_young : Young clock new
    new_young = ap (λ (v : ModelState). under_age clock (own_entry v)) new_is ∙ paid-young clock x.payment x.randoms old midway

    module _ (y : Young clock old) where
      new_adds : (q : Question) → AddsUp (over_state q clock new) (adding q x.payment) (over_state q clock old)
      new_adds q = (
        ap (λ (v : ModelState). value_over q (reachable clock v)) new_is ∙ value-is q (reachable clock (paid clock x.payment x.randoms old))
            ∙ paid-value clock x.payment x.randoms old midway y (asks_for q) x.payable
            ∙ ap (λ (v : ℤ). (adding q x.payment).value +ℤ v) (sym (value-is q (reachable clock old))),
        omega (arith, ap (λ (v : ModelState). unreadable (payments_in (reachable clock v))) new_is, paid-unread clock x.payment x.randoms old midway y x.payable),
      )

      adds : (q : Question) (a b : Summed) → AnswerTo q clock s m a → AnswerTo q clock x.answer.state x.memory b → a.number ≡ 0
          → (b.number ≡ 0) × AddsUp (summed_of b) (adding q x.payment) (summed_of a)
      adds q a b ha hb z =
          by_test (eqb (refusal_left q) 0)
          (λ e. let p : summed_of a ≡ over_state q clock old = answered q clock s m a ha rows ∙ rw e in
          let r : summed_of b ≡ over_state q clock new = answered q clock x.answer.state x.memory b hb new_rows ∙ rw e in
          let n = new_adds q in (
            ap (λ (v : ModelSummed). v.number) r,
            (
              ap (λ (v : ModelSummed). v.value) r ∙ n.0 ∙ ap (λ (v : ModelSummed). (adding q x.payment).value +ℤ v.value) (sym p),
              ap (λ (v : ModelSummed). v.unread) r ∙ n.1 ∙ ap (λ (v : ModelSummed). (adding q x.payment).unread + v.unread) (sym p),
            ),
          ))
          (λ e. let p : summed_of a ≡ not_summed (refusal_left q) = answered q clock s m a ha rows ∙ rw e in
          absurd (eqb-false (refusal_left q) 0 e (sym (ap (λ (v : ModelSummed). v.number) p) ∙ z)))

-- ---- a payment and its opposite

asked-alike : (q : Question) (p o : Payment) → o.household ≡ p.household → asks_for q o ≡ asks_for q p
asked-alike (Question.household h) p o e = ap (λ (n : ℕ). eqb n h) e
asked-alike Question.all p o e = refl

module _ (clock : ℕ) (s : State) (m : List ℕ) (l : AsLeft s m) (v : Young clock (state_of s m)) (x : Booked clock s m) (y : Booked clock x.answer.state x.memory) where
  abbrev between : ModelState
  between = state_of x.answer.state x.memory

  abbrev after : ModelState
  after = state_of y.answer.state y.memory

  -- what each of the two adds
  first : (q : Question) → AddsUp (over_state q clock between) (adding q x.payment) (over_state q clock (state_of s m))
  first q = new_adds clock s m x l v q

  second : (q : Question) → AddsUp (over_state q clock after) (adding q y.payment) (over_state q clock between)
  second q = new_adds clock x.answer.state x.memory y x.promised.0.left (new_young clock s m x l) q

  module _ (o : Opposite x.payment y.payment) where
    value-back : (q : Question) → (over_state q clock after).value ≡ (over_state q clock (state_of s m)).value
    value-back q =
        (second q).0
        ∙ (λ i. cond (asked-alike q x.payment y.payment o.0 i) (o.1 i) (pos 0) +ℤ (first q).0 i)
        ∙ cancelled (asks_for q x.payment) x.payment.amount (over_state q clock (state_of s m)).value

    as_before : (q : Question) → over_state q clock after ≡ over_state q clock (state_of s m)
    as_before q =
        let v = value-back q in
        let u : (over_state q clock after).unread ≡ (over_state q clock (state_of s m)).unread = omega (arith, (second q).1, (first q).1) in
        λ i. record { number = 0; value = v i; unread = u i }

    cancels : (q : Question) (a b : Summed) → AnswerTo q clock s m a → AnswerTo q clock y.answer.state y.memory b → b ≡ a
    cancels q a b ha hb =
        let w : summed_of b ≡ summed_of a =
        answered q clock y.answer.state y.memory b hb (new_rows clock x.answer.state x.memory y) ∙ ap (answer_in q) (as_before q)
        ∙ sym (answered q clock s m a ha (rows clock s m x)) in
        λ i. record { number = (w i).number; value = (w i).value; unread = (w i).unread }

pub opposites_cancel : OppositesCancel
opposites_cancel = record { adds = λ clock s m l y x. adds clock s m x l y; cancels = cancels }
