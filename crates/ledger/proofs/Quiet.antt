-- Quiet links kept alive: the model's laws of a waiting endpoint, carried over to lists of public calls. Assumes nothing.
use mathlib.Core.Path.{◌≡◌, refl, sym, ap, subst, ◌∙◌}
use mathlib.Core.Bool.{true, not, cond, ◌&&◌}
use mathlib.Core.List.{List, [], ◌∷◌, ◌++◌}
use mathlib.Core.Logic.{◌⊎◌, inl, inr, ⊎_elim}
use Prim.Native.Nat.{ℕ, suc, pred, ◌+◌, ◌/◌, ◌≤◌, ◌<◌}
use native.Mathlib.Omega.{arith}
use lib.ListN.{length, get_or, length-map}
use lib.Seq.{length-take-le}
use lib.Dec.{eqb, ltb}
use borrow.Author.Tests.{eqb-true, eqb-false, lt-ltb, not-true}
use Rattle.base.specs.Lists.{In, All}
use Rattle.base.proofs.Tests.{by_test}
use Rattle.base.proofs.Lists.{in_left, in_right}
use Rattle.model.specs.Figures.{most_endpoints, table_bytes, least_interval, redundancy}
use Rattle.model.specs.Trickle.{point_due}
use Rattle.model.specs.State.{State as ModelState, Endpoint, no_endpoint, endpoint_at, random_at, quiet_from, own_data, settle}
use Rattle.model.specs.Begin.{Done as ModelDone, fresh_endpoint, fresh_endpoints}
use Rattle.model.specs.Tick.{Sent as ModelSent, interval_in, ticked, tick}
use Rattle.model.specs.Receive.{Answer as ModelAnswer}
use Rattle.model.proofs.Refusals.{refusals_exact}
use Rattle.model.proofs.Readings.{receive-last, tick-last, pay-last, purge-last, choice_last}
use Rattle.model.proofs.Waiting.{Pending, Awaits, Announces as Announced, pending_lower, receive_pending, pay_pending, purge_pending, choice_pending, tick_pending, own-tick}
use Rattle.model.proofs.KeptChoice.{alive-read}
use Rattle.model.proofs.Sendings.{interval_part, quiet_part, received_part, paid_part, purged_part, tick-interval, tick-quiet, tick-early, choice_quiet, choice_interval, fresh_at, begun-endpoints, resumed-endpoints}
use Rattle.node.specs.View.{endpoint_of, state_of}
use Rattle.node.specs.declared.State.{State}
use Rattle.exchange.specs.Datagram.{call_of}
use Rattle.node.specs.declared.answers.Done.{Done}
use Rattle.ledger.specs.Promises.{AsLeft}
use Rattle.ledger.specs.Calls.{PublicCall, Promised, state_after, memory_after, Trace, state_at_end, memory_at_end}
use Rattle.ledger.specs.Demands.{Ticking, tick_at}
use Rattle.ledger.specs.Quiet.{quiet_at, interval_at, quiet_after, interval_after, quiet_over, interval_over, Announces, may_come, QuietLinksKept}
use Rattle.ledger.proofs.Calls.{premise_holds, always, refusals_leave_all}
use Rattle.ledger.proofs.Corollaries.{tick_as, tick_in_order}

-- refused, nothing moved
unmoved : (s v : State) (m m' : List ℕ) → (v ≡ s) × (m' ≡ m) → state_of v m' ≡ state_of s m
unmoved s v m m' e = ap (λ (u : State). state_of u m') e.0 ∙ ap (state_of s) e.1

-- ---- one tick of the endpoint

module _ (i clock : ℕ) (s : State) (m : List ℕ) (x : Ticking) (h : Promised (tick_at clock i x) s m) (y : x.answer.number ≡ 0) where
  abbrev after : ModelState
  after = state_of x.answer.state x.memory

  on_time : (state_of s m).last ≤ clock
  on_time = (tick_in_order clock i s m x h y).1.0

  -- the last reading is the tick's
  own-last : after.last ≡ clock
  unfolding ticked settle
  own-last = ap (λ (a : ModelSent). a.state.last) (tick_as clock i s m x h y)

  -- it sends, or the endpoint waits on with an event more
  own_waits : (from k : ℕ) → AsLeft s m → from ≤ clock → clock < from + least_interval / 2 → Pending i from k (state_of s m).endpoints
      → Announces i (tick_at clock i x) ⊎ Awaits i from (suc k) after
  unfolding state_of
  own_waits from k l low high p =
      let n = sym (ap (λ (a : ModelSent). a.number) h.is ∙ (refusals_exact.ticks clock i x.randoms (length m) (length x.room) (state_of s m)).answered) ∙ y in
      ⊎_elim (λ e. inl (refl, subst (Announced clock i) (sym h.is) e))
      (λ w. inr (omega (arith, own-last, low), subst (λ (a : ModelSent). Pending i from (suc k) a.state.endpoints) (sym h.is) w))
      (own-tick i from k clock low high x.randoms (length m) (length x.room) (state_of s m) (l.valid (tick_in_order clock i s m x h y).1.1.1.0) n p)

-- ---- any call in between

refused_no : (r : Done) → not (eqb r.number 0) ≡ true → ¬ (r.number ≡ 0)
refused_no r f = eqb-false r.number 0 (not-true (eqb r.number 0) f)

-- the last reading only rises
rises : (i : ℕ) (x : PublicCall) (s : State) (m : List ℕ) → Promised x s m → may_come i x ≡ true → (state_of s m).last ≤ (state_of (state_after x s) (memory_after x m)).last
rises i (PublicCall.begins own clock rs r) s m h f = rw (ap (λ (v : ModelState). v.last) (unmoved s r.state m m (h.refused (refused_no r f)))) (omega arith)
rises i (PublicCall.resumes bytes clock rs r m') s m h f = rw (ap (λ (v : ModelState). v.last) (unmoved s r.state m m' (h.0.refused (refused_no r f)))) (omega arith)
rises i (PublicCall.receives datagram clock j unicast rs q r m' q') s m h f =
    rw (ap (λ (a : ModelAnswer). a.state.last) h.is) (receive-last (call_of datagram clock j unicast rs (length m) (length q)) (state_of s m))
rises i (PublicCall.ticks clock j rs q r m' q') s m h f = rw (ap (λ (a : ModelSent). a.state.last) h.is) (tick-last clock j rs (length m) (length q) (state_of s m))
rises i (PublicCall.chooses clock j interval rs r m') s m h f =
    rw (ap (λ (a : ModelDone). a.state.last) h.0.is) (choice_last clock j interval rs (length m) (state_of s m))
rises i (PublicCall.pays clock p rs r m') s m h f = rw (ap (λ (a : ModelDone). a.state.last) h.0.is) (pay-last clock p rs (length m) (state_of s m))
rises i (PublicCall.purges clock rs r) s m h f = rw (ap (λ (a : ModelDone). a.state.last) h.0.is) (purge-last clock rs (length m) (state_of s m))
rises i (PublicCall.looks x) s m h f = omega arith

module _ (i from k : ℕ) (low : 1 ≤ i) where
  -- a tick of another endpoint, or a refused one
  other_waits : (clock j : ℕ) (s : State) (m : List ℕ) (x : Ticking) → Promised (tick_at clock j x) s m → ¬ (j ≡ i) ⊎ ¬ (x.answer.number ≡ 0)
      → Awaits i from k (state_of s m) → Awaits i from k (state_of x.answer.state x.memory)
  other_waits clock j s m x h (inl ne) w =
      subst (λ (a : ModelSent). Awaits i from k a.state) (sym h.is) (tick_pending i from k low j ne clock x.randoms (length m) (length x.room) (state_of s m) w.0 w.1)
  other_waits clock j s m x h (inr n) w =
      let e = h.refused n in
      subst (λ (v : ModelState). Awaits i from k v) (sym (unmoved s x.answer.state m x.memory (e.0, e.1.0))) w

  -- it sends, or leaves the endpoint waiting
  one_waits : (x : PublicCall) (s : State) (m : List ℕ) → AsLeft s m → Promised x s m → may_come i x ≡ true
      → (state_of (state_after x s) (memory_after x m)).last < from + least_interval / 2 → Awaits i from k (state_of s m) → Announces i x ⊎ Awaits i from k (state_of (state_after x s) (memory_after x m))
  one_waits (PublicCall.begins own clock rs r) s m l h f near w =
      inr (subst (λ (v : ModelState). Awaits i from k v) (sym (unmoved s r.state m m (h.refused (refused_no r f)))) w)
  one_waits (PublicCall.resumes bytes clock rs r m') s m l h f near w =
      inr (subst (λ (v : ModelState). Awaits i from k v) (sym (unmoved s r.state m m' (h.0.refused (refused_no r f)))) w)
  one_waits (PublicCall.receives datagram clock j unicast rs q r m' q') s m l h f near w =
      inr (subst (λ (a : ModelAnswer). Awaits i from k a.state) (sym h.is)
      (receive_pending i from k (call_of datagram clock j unicast rs (length m) (length q)) (state_of s m) w.0 w.1))
  one_waits (PublicCall.ticks clock j rs q r m' q') s m l h f near w =
      by_test (eqb j i)
      (λ b. by_test (eqb r.number 0)
      (λ z. own (eqb-true j i b) (eqb-true r.number 0 z))
      (λ z. inr (other_waits clock j s m x h (inr (eqb-false r.number 0 z)) w)))
      (λ b. inr (other_waits clock j s m x h (inl (eqb-false j i b)) w))
    where
      x : Ticking
      x = record { randoms = rs; room = q; answer = r; memory = m'; written = q' }

      own : j ≡ i → r.number ≡ 0 → Announces i (tick_at clock j x) ⊎ Awaits i from k (state_of r.state m')
      own e y =
          let g : Promised (tick_at clock i x) s m = subst (λ (n : ℕ). Promised (tick_at clock n x) s m) e h in
          let t : clock ≡ (state_of r.state m').last = sym (own-last i clock s m x g y) in
          ⊎_elim (λ a. inl (subst (λ (n : ℕ). Announces i (tick_at clock n x)) (sym e) a))
          (λ v. inr (v.0, pending_lower i from k (state_of r.state m').endpoints v.1))
          (own_waits i clock s m x g y from k l (omega (arith, w.0, on_time i clock s m x g y)) (omega (arith, near, t)) w.1)
  one_waits (PublicCall.chooses clock j interval rs r m') s m l h f near w =
      by_test (eqb r.number 0)
      (λ z. inr (subst (λ (a : ModelDone). Awaits i from k a.state) (sym h.0.is)
      (choice_pending i from k low j (eqb-false j i (not-true (eqb j i) (rw z at f))) clock interval rs (length m) (state_of s m) w.0 w.1)))
      (λ z. inr (subst (λ (v : ModelState). Awaits i from k v) (sym (unmoved s r.state m m' (h.0.refused (eqb-false r.number 0 z)))) w))
  one_waits (PublicCall.pays clock p rs r m') s m l h f near w =
      inr (subst (λ (a : ModelDone). Awaits i from k a.state) (sym h.0.is) (pay_pending i from k clock p rs (length m) (state_of s m) w.0 w.1))
  one_waits (PublicCall.purges clock rs r) s m l h f near w =
      inr (subst (λ (a : ModelDone). Awaits i from k a.state) (sym h.0.is) (purge_pending i from k clock rs (length m) (state_of s m) w.0 w.1))
  one_waits (PublicCall.looks x) s m l h f near w = inr w

-- ---- lists of calls

-- one of them sends
abbrev Said : ℕ → List PublicCall → Type 0
Said i xs = (x : PublicCall) × In x xs × Announces i x

all_rise : (i : ℕ) (xs : List PublicCall) (s : State) (m : List ℕ) → Trace s m xs → All (λ x. may_come i x ≡ true) xs
    → (state_of s m).last ≤ (state_of (state_at_end s xs) (memory_at_end m xs)).last
all_rise i [] s m h f = omega arith
all_rise i (x ∷ xs) s m h f = omega (arith, rises i x s m h.0 f.0, all_rise i xs (state_after x s) (memory_after x m) h.1 f.1)

all_wait : (i from k : ℕ) (low : 1 ≤ i) (xs : List PublicCall) (s : State) (m : List ℕ) → AsLeft s m → Trace s m xs → All (λ x. may_come i x ≡ true) xs
    → (state_of (state_at_end s xs) (memory_at_end m xs)).last < from + least_interval / 2 → Awaits i from k (state_of s m) → Said i xs ⊎ Awaits i from k (state_of (state_at_end s xs) (memory_at_end m xs))
all_wait i from k low [] s m l h f near w = inr w
all_wait i from k low (x ∷ xs) s m l h f near w =
    let r = all_rise i xs (state_after x s) (memory_after x m) h.1 f.1 in
    ⊎_elim (λ a. inl (x, inl refl, a))
    (λ v. ⊎_elim (λ (z, n, a). inl (z, inr n, a)) inr
    (all_wait i from k low xs (state_after x s) (memory_after x m) (premise_holds.next x s m l h.0) h.1 f.1 near v))
    (one_waits i from k low x s m l h.0 f.0 (omega (arith, r, near)) w)

trace-apart : (xs ys : List PublicCall) (s : State) (m : List ℕ) → Trace s m (xs ++ ys) → Trace s m xs × Trace (state_at_end s xs) (memory_at_end m xs) ys
trace-apart [] ys s m h = (tt, h)
trace-apart (x ∷ xs) ys s m h = let r = trace-apart xs ys (state_after x s) (memory_after x m) h.1 in ((h.0, r.0), r.1)

-- ---- three ticks

module _ (i : ℕ) (s : State) (m : List ℕ) (t₁ t₂ t₃ : ℕ) (a b c : Ticking) (xs ys : List PublicCall) (l : AsLeft s m)
    (h : Trace s m (tick_at t₁ i a ∷ (xs ++ (tick_at t₂ i b ∷ (ys ++ (tick_at t₃ i c ∷ [])))))) (ya : a.answer.number ≡ 0) (yb : b.answer.number ≡ 0) (yc : c.answer.number ≡ 0)
    (fx : All (λ x. may_come i x ≡ true) xs) (fy : All (λ x. may_come i x ≡ true) ys)
    (due : quiet_at i s m + interval_at i s m ≤ t₁) (near : t₃ < t₁ + least_interval / 2) where
  -- before the second tick, and before the third
  abbrev s₁ : State
  s₁ = state_at_end a.answer.state xs

  abbrev m₁ : List ℕ
  m₁ = memory_at_end a.memory xs

  abbrev s₂ : State
  s₂ = state_at_end b.answer.state ys

  abbrev m₂ : List ℕ
  m₂ = memory_at_end b.memory ys

  abbrev later : List PublicCall
  later = tick_at t₂ i b ∷ (ys ++ (tick_at t₃ i c ∷ []))

  first_part : Trace a.answer.state a.memory xs × Trace s₁ m₁ later
  first_part = trace-apart xs later a.answer.state a.memory h.1

  second-part : Trace b.answer.state b.memory ys × Trace s₂ m₂ (tick_at t₃ i c ∷ [])
  second-part = trace-apart ys (tick_at t₃ i c ∷ []) b.answer.state b.memory first_part.1.1

  left_a : AsLeft a.answer.state a.memory
  left_a = h.0.left

  left_one : AsLeft s₁ m₁
  left_one = always xs a.answer.state a.memory left_a first_part.0

  left_b : AsLeft b.answer.state b.memory
  left_b = first_part.1.0.left

  left_two : AsLeft s₂ m₂
  left_two = always ys b.answer.state b.memory left_b second-part.0

  -- the readings in between
  middle_last : (state_of b.answer.state b.memory).last ≡ t₂
  middle_last = own-last i t₂ s₁ m₁ b first_part.1.0 yb

  end_last : (state_of s₂ m₂).last ≤ t₃
  end_last = on_time i t₃ s₂ m₂ c second-part.1.0 yc

  to_end : t₂ ≤ (state_of s₂ m₂).last
  to_end = omega (arith, middle_last, all_rise i ys b.answer.state b.memory second-part.0 fy)

  to_middle : (state_of s₁ m₁).last ≤ t₂
  to_middle = on_time i t₂ s₁ m₁ b first_part.1.0 yb

  ours : (1 ≤ i) × (i ≤ 4)
  ours = (tick_in_order t₁ i s m a h.0 ya).1.1.0

  waiting : Pending i t₁ 0 (state_of s m).endpoints
  unfolding state_of
  waiting = record { inside = omega (arith, length-map s.endpoints endpoint_of, l.four, ours.1, ours.0); waits = record { due = due; phase = tt } }

  abbrev calls : List PublicCall
  calls = tick_at t₁ i a ∷ (xs ++ later)

  third-sends : Awaits i t₁ 2 (state_of s₂ m₂) → Said i calls
  third-sends w =
      ⊎_elim (λ e. (tick_at t₃ i c, inr (in_right (tick_at t₃ i c) xs later (inr (in_right (tick_at t₃ i c) ys (tick_at t₃ i c ∷ []) (inl refl)))), e))
      (λ v. absurd v.1.waits.phase)
      (own_waits i t₃ s₂ m₂ c second-part.1.0 yc t₁ 2 left_two (omega (arith, w.0, end_last)) (omega (arith, near)) w.1)

  second-sends : Awaits i t₁ 1 (state_of s₁ m₁) → Said i calls
  second-sends w =
      ⊎_elim (λ e. (tick_at t₂ i b, inr (in_right (tick_at t₂ i b) xs later (inl refl)), e))
      (λ v. ⊎_elim (λ (x, n, e). (x, inr (in_right x xs later (inr (in_left x ys (tick_at t₃ i c ∷ []) n))), e)) third-sends
      (all_wait i t₁ 2 ours.0 ys b.answer.state b.memory left_b second-part.0 fy (omega (arith, end_last, near)) v))
      (own_waits i t₂ s₁ m₁ b first_part.1.0 yb t₁ 1 left_one (omega (arith, w.0, to_middle)) (omega (arith, to_end, end_last, near)) w.1)

  one-sends : Said i calls
  one-sends =
      ⊎_elim (λ e. (tick_at t₁ i a, inl refl, e))
      (λ v. ⊎_elim (λ (x, n, e). (x, inr (in_left x xs later n), e)) second-sends
      (all_wait i t₁ 1 ours.0 xs a.answer.state a.memory left_a first_part.0 fx (omega (arith, to_middle, to_end, end_last, near)) v))
      (own_waits i t₁ s m a h.0 ya t₁ 0 l (omega arith) (omega arith) waiting)

-- ---- the last sending and the interval, call by call

module _ (i : ℕ) (low : 1 ≤ i) (high : i ≤ most_endpoints) where
  inside : (s : State) (m : List ℕ) → AsLeft s m → pred i < length (state_of s m).endpoints
  unfolding state_of
  inside s m l = omega (arith, length-map s.endpoints endpoint_of, l.four)

  -- every endpoint started: one for each random number, so these are four
  anew : (clock : ℕ) (rs : List ℕ) (v : State) (m : List ℕ) → AsLeft v m → (state_of v m).endpoints ≡ fresh_endpoints clock rs
      → endpoint_at i (state_of v m) ≡ fresh_endpoint clock (random_at i rs)
  unfolding state_of
  anew clock rs v m l e =
      let n : length rs ≡ 4 = sym (length-map rs (fresh_endpoint clock)) ∙ ap length (sym e) ∙ length-map v.endpoints endpoint_of ∙ l.four in
      ap (λ (es : List Endpoint). get_or es (pred i) no_endpoint) e ∙ fresh_at clock rs (pred i) (omega (arith, n))

  -- a part of the endpoint after a call that starts anew, if it is accepted
  module _ (f : Endpoint → ℕ) (clock : ℕ) (rs : List ℕ) (s : State) (m : List ℕ) (k : ℕ) (v : State) (m' : List ℕ) where
    started-part : (k ≡ 0 → (state_of v m').endpoints ≡ fresh_endpoints clock rs) → AsLeft v m' → (¬ (k ≡ 0) → (v ≡ s) × (m' ≡ m))
        → f (endpoint_at i (state_of v m')) ≡ cond (eqb k 0) (f (fresh_endpoint clock (random_at i rs))) (f (endpoint_at i (state_of s m)))
    started-part e l r =
        by_test (eqb k 0) (λ b. rw b (ap f (anew clock rs v m' l (e (eqb-true k 0 b)))))
        (λ b. rw b (ap (λ (w : ModelState). f (endpoint_at i w)) (unmoved s v m m' (r (eqb-false k 0 b)))))

  begins-fresh : (own clock : ℕ) (rs : List ℕ) (s : State) (m : List ℕ) (r : Done) → Promised (PublicCall.begins own clock rs r) s m → r.number ≡ 0
      → (state_of r.state m).endpoints ≡ fresh_endpoints clock rs
  begins-fresh own clock rs s m r h z =
      ap (λ (d : ModelDone). d.state.endpoints) h.is ∙ begun-endpoints own clock rs (length m) (state_of s m) (sym (ap (λ (d : ModelDone). d.number) h.is) ∙ z)

  resumes-fresh : (bytes : List ℕ) (clock : ℕ) (rs : List ℕ) (s : State) (m : List ℕ) (r : Done) (m' : List ℕ) → Promised (PublicCall.resumes bytes clock rs r m') s m
      → r.number ≡ 0 → (state_of r.state m').endpoints ≡ fresh_endpoints clock rs
  resumes-fresh bytes clock rs s m r m' h z =
      ap (λ (d : ModelDone). d.state.endpoints) h.0.is ∙ resumed-endpoints clock bytes rs (length m) (state_of s m) (sym (ap (λ (d : ModelDone). d.number) h.0.is) ∙ z)

  fixed : (x : PublicCall) (s : State) (m : List ℕ) → AsLeft s m → Promised x s m → quiet_at i (state_after x s) (memory_after x m) ≡ quiet_after i x (quiet_at i s m)
  fixed (PublicCall.begins own clock rs r) s m l h = started-part quiet_part clock rs s m r.number r.state m (begins-fresh own clock rs s m r h) h.left h.refused
  fixed (PublicCall.resumes bytes clock rs r m') s m l h =
      started-part quiet_part clock rs s m r.number r.state m' (resumes-fresh bytes clock rs s m r m' h) h.0.left h.0.refused
  fixed (PublicCall.receives datagram clock j unicast rs q r m' q') s m l h =
      ap (λ (a : ModelAnswer). (endpoint_at i a.state).quiet) h.is
      ∙ received_part quiet_part (λ u e. refl) (λ k e. refl) i (call_of datagram clock j unicast rs (length m) (length q)) (state_of s m)
  fixed (PublicCall.ticks clock j rs q r m' q') s m l h =
      let n : length (tick clock j rs (length m) (length q) (state_of s m)).bytes ≡ r.length
      = ap (λ (a : ModelSent). length a.bytes) (sym h.is) ∙ length-take-le r.length q' h.within in
      ap (λ (a : ModelSent). (endpoint_at i a.state).quiet) h.is ∙ tick-quiet i clock j rs (length m) (length q) (state_of s m) low (inside s m l)
      ∙ ap (λ (k : ℕ). cond (eqb j i && ltb 0 k) (quiet_from clock (random_at j rs)) (quiet_at i s m)) n
  fixed (PublicCall.chooses clock j interval rs r m') s m l h =
      ap (λ (d : ModelDone). (endpoint_at i d.state).quiet) h.0.is ∙ choice_quiet i clock j interval rs (length m) (state_of s m)
  fixed (PublicCall.pays clock p rs r m') s m l h =
      ap (λ (d : ModelDone). (endpoint_at i d.state).quiet) h.0.is ∙ paid_part quiet_part (λ u e. refl) (λ k e. refl) i clock p rs (length m) (state_of s m)
  fixed (PublicCall.purges clock rs r) s m l h =
      ap (λ (d : ModelDone). (endpoint_at i d.state).quiet) h.0.is ∙ purged_part quiet_part (λ u e. refl) (λ k e. refl) i clock rs (length m) (state_of s m)
  fixed (PublicCall.looks x) s m l h = refl

  chosen : (x : PublicCall) (s : State) (m : List ℕ) → AsLeft s m → Promised x s m → interval_at i (state_after x s) (memory_after x m) ≡ interval_after i x (interval_at i s m)
  chosen (PublicCall.begins own clock rs r) s m l h =
      started-part interval_part clock rs s m r.number r.state m (begins-fresh own clock rs s m r h) h.left h.refused
  chosen (PublicCall.resumes bytes clock rs r m') s m l h =
      started-part interval_part clock rs s m r.number r.state m' (resumes-fresh bytes clock rs s m r m' h) h.0.left h.0.refused
  chosen (PublicCall.receives datagram clock j unicast rs q r m' q') s m l h =
      ap (λ (a : ModelAnswer). (endpoint_at i a.state).keep) h.is
      ∙ received_part interval_part (λ u e. refl) (λ k e. refl) i (call_of datagram clock j unicast rs (length m) (length q)) (state_of s m)
  chosen (PublicCall.ticks clock j rs q r m' q') s m l h =
      ap (λ (a : ModelSent). (endpoint_at i a.state).keep) h.is ∙ tick-interval i clock j rs (length m) (length q) (state_of s m)
  chosen (PublicCall.chooses clock j interval rs r m') s m l h =
      ap (λ (d : ModelDone). (endpoint_at i d.state).keep) h.0.is ∙ choice_interval i clock j interval rs (length m) (state_of s m) low (inside s m l)
      ∙ ap (λ (d : ModelDone). cond (eqb d.number 0 && eqb j i) interval (interval_at i s m)) (sym h.0.is)
  chosen (PublicCall.pays clock p rs r m') s m l h =
      ap (λ (d : ModelDone). (endpoint_at i d.state).keep) h.0.is ∙ paid_part interval_part (λ u e. refl) (λ k e. refl) i clock p rs (length m) (state_of s m)
  chosen (PublicCall.purges clock rs r) s m l h =
      ap (λ (d : ModelDone). (endpoint_at i d.state).keep) h.0.is ∙ purged_part interval_part (λ u e. refl) (λ k e. refl) i clock rs (length m) (state_of s m)
  chosen (PublicCall.looks x) s m l h = refl

  fixed-over : (xs : List PublicCall) (s : State) (m : List ℕ) → AsLeft s m → Trace s m xs
      → quiet_at i (state_at_end s xs) (memory_at_end m xs) ≡ quiet_over i xs (quiet_at i s m)
  fixed-over [] s m l h = refl
  fixed-over (x ∷ xs) s m l h =
      fixed-over xs (state_after x s) (memory_after x m) (premise_holds.next x s m l h.0) h.1 ∙ ap (quiet_over i xs) (fixed x s m l h.0)

  chosen-over : (xs : List PublicCall) (s : State) (m : List ℕ) → AsLeft s m → Trace s m xs
      → interval_at i (state_at_end s xs) (memory_at_end m xs) ≡ interval_over i xs (interval_at i s m)
  chosen-over [] s m l h = refl
  chosen-over (x ∷ xs) s m l h =
      chosen-over xs (state_after x s) (memory_after x m) (premise_holds.next x s m l h.0) h.1 ∙ ap (interval_over i xs) (chosen x s m l h.0)

  read : (s : State) (m : List ℕ) → AsLeft s m → table_bytes ≤ length m → interval_in (own_data (state_of s m)) i ≡ interval_at i s m
  read s m l room = alive-read (own_data (state_of s m)) (state_of s m).endpoints (l.valid room).inside.choices i low (inside s m l)

-- what a tick before it is due sends, it sends at the send point; a refused one sends nothing
not-before : (clock i : ℕ) (s : State) (m : List ℕ) (a : Ticking) → AsLeft s m → Promised (tick_at clock i a) s m → clock < quiet_at i s m + interval_at i s m
    → ¬ (a.answer.length ≡ 0) → (point_due clock (endpoint_at i (state_of s m)).trickle ≡ true) × ((endpoint_at i (state_of s m)).trickle.count < redundancy)
not-before clock i s m a l h early n =
    by_test (eqb a.answer.number 0)
    (λ z. let y : a.answer.number ≡ 0 = eqb-true a.answer.number 0 z in
    let o = (tick_in_order clock i s m a h y).1.1.0 in
    let k : length (ticked clock i a.randoms (state_of s m)).bytes ≡ a.answer.length
    = ap (λ (x : ModelSent). length x.bytes) (sym (tick_as clock i s m a h y)) ∙ length-take-le a.answer.length a.written h.within in
    tick-early clock i a.randoms (state_of s m) (inside i o.0 o.1 s m l) early (lt-ltb 0 (length (ticked clock i a.randoms (state_of s m)).bytes) (omega (arith, k, n))))
    (λ z. absurd (n (refusals_leave_all.refused (tick_at clock i a) s m h (eqb-false a.answer.number 0 z)).1.1.0))

pub quiet_links_kept : QuietLinksKept
quiet_links_kept =
    record {
      fixed = λ i s m xs low high. fixed-over i low high xs s m;
      chosen = λ i s m xs low high. chosen-over i low high xs s m;
      told = λ s m l room. (l.valid room).inside.choices;
      read = λ i s m low high. read i low high s m;
      not_before = not-before;
      sends = one-sends;
    }
