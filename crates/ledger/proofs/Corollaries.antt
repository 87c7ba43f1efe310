-- The model's theorems on ticks, totals and what is sent, carried over to the promises. Assumes nothing.
use mathlib.Core.Path.{◌≡◌, refl, sym, ap, subst, ◌∙◌}
use mathlib.Core.Bool.{Bool}
use mathlib.Core.List.{List, [], ◌∷◌, map}
use Prim.Native.Nat.{ℕ, zero, suc, ◌+◌, ◌≤◌, ◌<◌}
use native.Mathlib.Omega.{arith}
use lib.ListN.{length, take, drop}
use lib.IntN.{ℤ}
use lib.Dec.{eqb}
use borrow.Author.Tests.{eqb-true, eqb-false, le-leb}
use Rattle.base.specs.Signed.{sumℤ}
use Rattle.base.proofs.Tests.{by_test}
use Rattle.wire.specs.Payment.{most_household}
use Rattle.model.specs.Figures.{table_bytes, most_bytes, last_reading}
use Rattle.model.specs.Table.{Entry, statements}
use Rattle.model.specs.State.{State as ModelState}
use Rattle.model.specs.Tick.{Sent as ModelSent, ticked}
use Rattle.model.specs.Receive.{Call, Answer as ModelAnswer}
use Rattle.model.specs.Totals.{Summed as ModelSummed, total_of, refusal_sum, refusal_total}
use Rattle.model.specs.Refusals.{first_of, late, back, small_table, no_household}
use Rattle.model.specs.Theorems.{OneAtMost, up_from, Form}
use Rattle.model.proofs.Refusals.{refusals_exact}
use Rattle.model.proofs.ThreeTicks.{three_ticks}
use Rattle.model.proofs.Totals.{totals_add_up}
use Rattle.model.proofs.Sent.{sent_form}
use Rattle.table.specs.View.{Wrote}
use Rattle.table.proofs.Laying.{wrote-again}
use Rattle.node.specs.View.{state_of}
use Rattle.node.specs.declared.State.{State}
use Rattle.exchange.specs.Datagram.{call_of}
use Rattle.node.specs.declared.answers.Sent.{Sent}
use Rattle.node.specs.declared.answers.Answer.{Answer}
use Rattle.ledger.specs.declared.answers.Summed.{Summed}
use Rattle.ledger.specs.Promises.{AsLeft, Receives, Ticks, Totals, SumsUp}
use Rattle.ledger.specs.Calls.{Promised, Trace}
use Rattle.ledger.specs.Demands.{Ticking, tick_at, sent_by, OverPromises}
use Rattle.ledger.proofs.Left.{endpoint-accepted, first-late}
use Rattle.ledger.proofs.Calls.{nothing-taken, refusals_leave_all}
use Rattle.ledger.proofs.Chains.{counted, sum-counted, total-counted, ticks_as}

-- ---- ticks

-- what an accepted tick answers is the model's
module _ (clock endpoint : ℕ) (s : State) (m : List ℕ) (x : Ticking) (h : Promised (tick_at clock endpoint x) s m) (y : x.answer.number ≡ 0) where
  abbrev pub answer_of : ModelSent
  answer_of = record { number = x.answer.number; state = state_of x.answer.state x.memory; bytes = sent_by x }

  pub tick_as : answer_of ≡ ticked clock endpoint x.randoms (state_of s m)
  tick_as = ticks_as clock endpoint x.randoms s m x.room x.answer x.memory x.written h y

  pub tick_in_order : (clock ≤ last_reading) × (((state_of s m).last ≤ clock) × (((1 ≤ endpoint) × (endpoint ≤ 4)) × ((table_bytes ≤ length m) × (most_bytes ≤ length x.room))))
  tick_in_order =
      let n = ap (λ (a : ModelSent). a.number) h.is ∙ (refusals_exact.ticks clock endpoint x.randoms (length m) (length x.room) (state_of s m)).answered in
      endpoint-accepted clock (state_of s m) endpoint (length m) (length x.room) [] tt (sym n ∙ y)

module _ (clock endpoint : ℕ) (s : State) (m : List ℕ) (a b c : Ticking) (l : AsLeft s m) (t : Trace s m (map (tick_at clock endpoint) (a ∷ b ∷ c ∷ [])))
    (ya : a.answer.number ≡ 0) (yb : b.answer.number ≡ 0) (yc : c.answer.number ≡ 0) where
  -- the model's three ticks
  abbrev first : ModelSent
  first = ticked clock endpoint a.randoms (state_of s m)

  abbrev second : ModelSent
  second = ticked clock endpoint b.randoms first.state

  abbrev third : ModelSent
  third = ticked clock endpoint c.randoms second.state

  first-is : answer_of clock endpoint s m a t.0 ya ≡ first
  first-is = tick_as clock endpoint s m a t.0 ya

  second_is : answer_of clock endpoint a.answer.state a.memory b t.1.0 yb ≡ second
  second_is =
      tick_as clock endpoint a.answer.state a.memory b t.1.0 yb ∙ ap (λ (x : ModelSent). ticked clock endpoint b.randoms x.state) first-is

  third-is : answer_of clock endpoint b.answer.state b.memory c t.1.1.0 yc ≡ third
  third-is =
      tick_as clock endpoint b.answer.state b.memory c t.1.1.0 yc ∙ ap (λ (x : ModelSent). ticked clock endpoint c.randoms x.state) second_is

  accepted : (clock ≤ last_reading) × (((state_of s m).last ≤ clock) × (((1 ≤ endpoint) × (endpoint ≤ 4)) × ((table_bytes ≤ length m) × (most_bytes ≤ length a.room))))
  accepted = tick_in_order clock endpoint s m a t.0 ya

  one-sends : OneAtMost (sent_by a) (sent_by b) (sent_by c)
  one-sends =
      let r = accepted in
      rw (ap (λ (x : ModelSent). x.bytes) first-is, ap (λ (x : ModelSent). x.bytes) second_is, ap (λ (x : ModelSent). x.bytes) third-is)
      (three_ticks.once (state_of s m) clock endpoint a.randoms b.randoms c.randoms (l.valid r.1.1.1.0) r.1.1.0.0 r.1.1.0.1)

  -- a fourth
  module _ (d : Ticking) (h : Promised (tick_at clock endpoint d) c.answer.state c.memory) where
    abbrev calm : ModelState
    calm = state_of c.answer.state c.memory

    nothing_due : ticked clock endpoint d.randoms calm ≡ record { number = 0; state = calm; bytes = [] }
    nothing_due =
        let r = accepted in
        let e : calm ≡ third.state = ap (λ (x : ModelSent). x.state) third-is in
        subst (λ (v : ModelState). ticked clock endpoint d.randoms v ≡ record { number = 0; state = v; bytes = [] }) (sym e)
        (three_ticks.rest (state_of s m) clock endpoint a.randoms b.randoms c.randoms d.randoms (l.valid r.1.1.1.0) r.1.1.0.0 r.1.1.0.1)

    -- accepted
    module _ (yd : d.answer.number ≡ 0) where
      as_before : answer_of clock endpoint c.answer.state c.memory d h yd ≡ record { number = 0; state = calm; bytes = [] }
      as_before = tick_as clock endpoint c.answer.state c.memory d h yd ∙ nothing_due

      none-sent : d.answer.length ≡ 0
      none-sent = nothing-taken d.answer.length d.written h.within (ap (λ (x : ModelSent). x.bytes) as_before)

      memory-same : d.memory ≡ c.memory
      unfolding state_of
      memory-same =
          let room : table_bytes ≤ length c.memory = (tick_in_order clock endpoint c.answer.state c.memory d h yd).1.1.1.0 in
          let k : AsLeft c.answer.state c.memory = t.1.1.0.left in
          wrote-again c.answer.state.table d.answer.state.table c.memory d.memory (record { arranged = k.arranged; room = room; hashed = k.hashed room })
          (subst (λ (es : List Entry). Wrote c.answer.state.table c.memory es d.answer.state.table d.memory)
          (ap (λ (x : ModelSent). x.state.table) (sym h.is ∙ as_before)) (h.wrote yd))

    fourth : (d.answer.length ≡ 0) × (d.written ≡ d.room) × (d.memory ≡ c.memory) × (state_of d.answer.state d.memory ≡ calm)
    fourth =
        by_test (eqb d.answer.number 0)
        (λ q. let y : d.answer.number ≡ 0 = eqb-true d.answer.number 0 q in (
          none-sent y,
          subst (λ (n : ℕ). drop n d.written ≡ drop n d.room) (none-sent y) h.rest,
          memory-same y,
          ap (λ (x : ModelSent). x.state) (as_before y),
        ))
        (λ q. let r = refusals_leave_all.refused (tick_at clock endpoint d) c.answer.state c.memory h (eqb-false d.answer.number 0 q) in
        (r.1.1.0, r.1.1.1, r.1.0, ap (λ (v : State). state_of v d.memory) r.0 ∙ ap (state_of c.answer.state) r.1.0))

-- ---- totals

map_up : (f g : ℕ → ℤ) (k n : ℕ) → ((h : ℕ) → n ≤ h → h < n + k → f h ≡ g h) → map f (up_from k n) ≡ map g (up_from k n)
unfolding up_from
map_up f g zero n e = refl
map_up f g (suc k) n e = rw (e n (omega arith) (omega arith), map_up f g k (n + 1) (λ h p q. e h (omega arith) (omega arith)))

household-fine : (h : ℕ) → 1 ≤ h → h ≤ most_household → first_of (no_household h ∷ []) ≡ 0
household-fine h p q = rw (le-leb 1 h p, le-leb h most_household q)

module _ (clock : ℕ) (s : State) (m : List ℕ) (r : Summed) (e : SumsUp clock s m r) (z : r.number ≡ 0) (t : ℕ → Summed)
    (each : (h : ℕ) → 1 ≤ h → h ≤ most_household → Totals clock h s m (t h)) where
  not-refused : (h : ℕ) → 1 ≤ h → h ≤ most_household → (t h).number ≡ 0
  not-refused h p q =
      let n : r.number ≡ refusal_sum clock (length m) (state_of s m) = ap (λ (x : ModelSummed). x.number) e ∙ (refusals_exact.sums clock (length m) (state_of s m)).answered in
      let k : (t h).number ≡ refusal_total clock h (length m) (state_of s m) =
      ap (λ (x : ModelSummed). x.number) (each h p q) ∙ (refusals_exact.totals clock h (length m) (state_of s m)).answered in
      k ∙ first-late (late clock ∷ back clock (state_of s m) ∷ small_table (length m) ∷ []) (no_household h ∷ []) (omega arith) (sym n ∙ z) ∙ household-fine h p q

  one-count : (h : ℕ) → 1 ≤ h → h ≤ most_household → (t h).unread ≡ r.unread
  one-count h p q =
      ap (λ (x : ModelSummed). x.unread) (total-counted clock s m h (t h) (each h p q) (not-refused h p q)) ∙ sym (ap (λ (x : ModelSummed). x.unread) (sum-counted clock s m r e z))

  add_up : sumℤ (map (λ (h : ℕ). (t h).value) (up_from most_household 1)) ≡ r.value
  add_up =
      ap sumℤ
      (map_up (λ h. (t h).value) (λ h. total_of h (statements (counted clock s m))) most_household 1
      (λ h p q. let w : h ≤ most_household = omega arith in ap (λ (x : ModelSummed). x.value) (total-counted clock s m h (t h) (each h p w) (not-refused h p w))))
      ∙ totals_add_up.all (statements (counted clock s m)) ∙ sym (ap (λ (x : ModelSummed). x.value) (sum-counted clock s m r e z))

-- ---- what is sent

answered : (datagram : List ℕ) (clock endpoint : ℕ) (unicast : Bool) (randoms : List ℕ) (s : State) (m q : List ℕ) (r : Answer) (m' q' : List ℕ)
    → Receives datagram clock endpoint unicast randoms s m q r m' q' → Form s.own endpoint (take r.length q')
unfolding state_of
answered datagram clock endpoint unicast randoms s m q r m' q' h =
    let c : Call = call_of datagram clock endpoint unicast randoms (length m) (length q) in
    subst (Form s.own endpoint) (sym (ap (λ (a : ModelAnswer). a.bytes) h.is)) (sent_form.receives c (state_of s m))

announced : (clock endpoint : ℕ) (randoms : List ℕ) (s : State) (m q : List ℕ) (r : Sent) (m' q' : List ℕ)
    → Ticks clock endpoint randoms s m q r m' q' → Form s.own endpoint (take r.length q')
unfolding state_of
announced clock endpoint randoms s m q r m' q' h =
    subst (Form s.own endpoint) (sym (ap (λ (a : ModelSent). a.bytes) h.is)) (sent_form.ticks clock endpoint randoms (length m) (length q) (state_of s m))

pub over_promises : OverPromises
over_promises =
    record {
      ticks = λ clock i s m a b c d l t x y z. fourth clock i s m a b c l (t.0, (t.1.0, (t.1.1.0, tt))) x y z d t.1.1.1.0;
      once = one-sends;
      households = λ clock s m r e z t each. (add_up clock s m r e z t each, one-count clock s m r e z t each);
      answered = answered;
      announced = announced;
    }
