-- One public call after the other: the premise, the numbers, and refusals. Assumes nothing.
use mathlib.Core.Path.{◌≡◌, refl, sym, ap, subst, ◌∙◌}
use mathlib.Core.List.{List, [], ◌∷◌}
use Prim.Native.Nat.{ℕ, ◌-◌, ◌≤◌}
use native.Mathlib.Omega.{arith}
use lib.ListN.{length, take, drop, replicate}
use lib.Seq.{length-take-le}
use Rattle.model.specs.Figures.{most_nodes}
use Rattle.model.specs.Refusals.{Row}
use Rattle.model.specs.Begin.{Done as ModelDone}
use Rattle.model.specs.Tick.{Sent as ModelSent}
use Rattle.model.specs.Receive.{Call, Answer as ModelAnswer}
use Rattle.model.specs.Totals.{Summed as ModelSummed}
use Rattle.model.specs.Show.{Marks as ModelMarks}
use Rattle.model.specs.Snapshot.{Saved as ModelSaved}
use Rattle.model.specs.Theorems.{Exact}
use Rattle.model.proofs.Refusals.{refusals_exact, refusals_change_nothing}
use Rattle.node.specs.View.{state_of}
use Rattle.node.specs.declared.State.{State}
use Rattle.exchange.specs.Datagram.{call_of}
use Rattle.ledger.specs.Promises.{AsLeft}
use Rattle.ledger.specs.Calls.{Look, PublicCall, Looks, Promised, state_after, memory_after, look_number, number_of, look_refusals, refusals_of, LookBare, Bare, Trace, state_at_end, memory_at_end}
use Rattle.ledger.specs.Demands.{PremiseHolds, NumbersExact, RefusalsLeaveAll}

-- ---- the premise

next : (x : PublicCall) (s : State) (m : List ℕ) → AsLeft s m → Promised x s m → AsLeft (state_after x s) (memory_after x m)
next (PublicCall.begins own clock rs r) s m l h = h.left
next (PublicCall.resumes bytes clock rs r m') s m l h = h.0.left
next (PublicCall.receives datagram clock endpoint unicast rs q r m' q') s m l h = h.left
next (PublicCall.ticks clock endpoint rs q r m' q') s m l h = h.left
next (PublicCall.chooses clock endpoint interval rs r m') s m l h = h.0.left
next (PublicCall.pays clock p rs r m') s m l h = h.0.left
next (PublicCall.purges clock rs r) s m l h = h.0.left
next (PublicCall.looks x) s m l h = l

pub always : (xs : List PublicCall) (s : State) (m : List ℕ) → AsLeft s m → Trace s m xs → AsLeft (state_at_end s xs) (memory_at_end m xs)
always [] s m l h = l
always (x ∷ xs) s m l h = always xs (state_after x s) (memory_after x m) (next x s m l h.0) h.1

pub premise_holds : PremiseHolds
premise_holds = record { first = λ s b m. (b m).0; next = next; always = λ s b m xs h. always xs s m (b m).0 h }

-- ---- the numbers: the one that came back is the model's

by_model : (n k : ℕ) (rows : List Row) → k ≡ n → Exact k rows → Exact n rows
by_model n k rows e = subst (λ (i : ℕ). Exact i rows) e

looked : (x : Look) (s : State) (m : List ℕ) → Looks x s m → Exact (look_number x s m) (look_refusals x s m)
looked (Look.totals clock household r) s m h =
    by_model r.number _ _ (sym (ap (λ (d : ModelSummed). d.number) h)) (refusals_exact.totals clock household (length m) (state_of s m))
looked (Look.sums clock r) s m h = by_model r.number _ _ (sym (ap (λ (d : ModelSummed). d.number) h)) (refusals_exact.sums clock (length m) (state_of s m))
looked (Look.marks clock r) s m h =
    by_model r.number _ _ (sym (ap (λ (d : ModelMarks). d.number) h.is)) (refusals_exact.marking clock (length m) (state_of s m))
looked (Look.saves clock q r q') s m h =
    by_model r.number _ _ (sym (ap (λ (d : ModelSaved). d.number) h.is)) (refusals_exact.saves clock (length m) (length q) (state_of s m))
looked (Look.shows n r) s m h = refusals_exact.shows n (length m) (state_of s m)
looked (Look.asks n k) s m h = by_model k _ _ (sym h) (refusals_exact.shows n (length m) (state_of s m))

number : (x : PublicCall) (s : State) (m : List ℕ) → Promised x s m → Exact (number_of x s m) (refusals_of x s m)
number (PublicCall.begins own clock rs r) s m h =
    by_model r.number _ _ (sym (ap (λ (d : ModelDone). d.number) h.is)) (refusals_exact.begins own clock rs (length m) (state_of s m))
number (PublicCall.resumes bytes clock rs r m') s m h =
    by_model r.number _ _ (sym (ap (λ (d : ModelDone). d.number) h.0.is)) (refusals_exact.resumes clock bytes rs (length m) (state_of s m))
number (PublicCall.receives datagram clock endpoint unicast rs q r m' q') s m h =
    by_model r.number _ _ (sym (ap (λ (d : ModelAnswer). d.number) h.is)) (refusals_exact.receives (call_of datagram clock endpoint unicast rs (length m) (length q)) (state_of s m))
number (PublicCall.ticks clock endpoint rs q r m' q') s m h =
    by_model r.number _ _ (sym (ap (λ (d : ModelSent). d.number) h.is)) (refusals_exact.ticks clock endpoint rs (length m) (length q) (state_of s m))
number (PublicCall.chooses clock endpoint interval rs r m') s m h =
    by_model r.number _ _ (sym (ap (λ (d : ModelDone). d.number) h.0.is)) (refusals_exact.chooses clock endpoint interval rs (length m) (state_of s m))
number (PublicCall.pays clock p rs r m') s m h =
    by_model r.number _ _ (sym (ap (λ (d : ModelDone). d.number) h.0.is)) (refusals_exact.pays clock p rs (length m) (state_of s m))
number (PublicCall.purges clock rs r) s m h =
    by_model r.number _ _ (sym (ap (λ (d : ModelDone). d.number) h.0.is)) (refusals_exact.purges clock rs (length m) (state_of s m))
number (PublicCall.looks x) s m h = looked x s m h

pub numbers_exact : NumbersExact
numbers_exact = record { number = number }

-- ---- refusals

-- nothing was taken
pub nothing-taken : (k : ℕ) (l : List ℕ) → k ≤ length l → take k l ≡ [] → k ≡ 0
nothing-taken k l p e = omega (arith, length-take-le k l p, ap length e)

look_bare : (x : Look) (s : State) (m : List ℕ) → Looks x s m → ¬ (look_number x s m ≡ 0) → LookBare x
look_bare (Look.totals clock household r) s m h n =
    let e = h ∙ refusals_change_nothing.totals clock household (length m) (state_of s m) (λ w. n (ap (λ (d : ModelSummed). d.number) h ∙ w)) in
    (ap (λ (d : ModelSummed). d.value) e, ap (λ (d : ModelSummed). d.unread) e)
look_bare (Look.sums clock r) s m h n =
    let e = h ∙ refusals_change_nothing.sums clock (length m) (state_of s m) (λ w. n (ap (λ (d : ModelSummed). d.number) h ∙ w)) in
    (ap (λ (d : ModelSummed). d.value) e, ap (λ (d : ModelSummed). d.unread) e)
look_bare (Look.marks clock r) s m h n =
    let e = h.is ∙ refusals_change_nothing.marking clock (length m) (state_of s m) (λ w. n (ap (λ (d : ModelMarks). d.number) h.is ∙ w)) in
    let k : r.count ≡ 0 = nothing-taken r.count r.nodes (omega (arith, h.few, h.wide)) (ap (λ (d : ModelMarks). d.nodes) e) in
    (k, ap (λ (d : ModelMarks). d.last_level) e, subst (λ (i : ℕ). drop i r.nodes ≡ replicate (most_nodes - i) 0) k h.rest, ap (λ (d : ModelMarks). d.digest) e)
look_bare (Look.saves clock q r q') s m h n =
    let e = h.is ∙ refusals_change_nothing.saves clock (length m) (length q) (state_of s m) (λ w. n (ap (λ (d : ModelSaved). d.number) h.is ∙ w)) in
    let k : r.length ≡ 0 = nothing-taken r.length q' h.within (ap (λ (d : ModelSaved). d.bytes) e) in
    (k, subst (λ (i : ℕ). drop i q' ≡ drop i q) k h.rest)
look_bare (Look.shows node r) s m h n = h.refused n
look_bare (Look.asks node k) s m h n = tt

bare : (x : PublicCall) (s : State) (m : List ℕ) → Promised x s m → ¬ (number_of x s m ≡ 0) → Bare x
bare (PublicCall.begins own clock rs r) s m h n = tt
bare (PublicCall.resumes bytes clock rs r m') s m h n = tt
bare (PublicCall.receives datagram clock endpoint unicast rs q r m' q') s m h n =
    let c : Call = call_of datagram clock endpoint unicast rs (length m) (length q) in
    let e = h.is ∙ refusals_change_nothing.receives c (state_of s m) (λ w. n (ap (λ (d : ModelAnswer). d.number) h.is ∙ w)) in
    (nothing-taken r.length q' h.within (ap (λ (d : ModelAnswer). d.bytes) e), (ap (λ (d : ModelAnswer). d.omitted) e, (ap (λ (d : ModelAnswer). d.dropped) e, (h.refused n).1.1)))
bare (PublicCall.ticks clock endpoint rs q r m' q') s m h n =
    let e = h.is ∙ refusals_change_nothing.ticks clock endpoint rs (length m) (length q) (state_of s m) (λ w. n (ap (λ (d : ModelSent). d.number) h.is ∙ w)) in
    (nothing-taken r.length q' h.within (ap (λ (d : ModelSent). d.bytes) e), (h.refused n).1.1)
bare (PublicCall.chooses clock endpoint interval rs r m') s m h n = tt
bare (PublicCall.pays clock p rs r m') s m h n = tt
bare (PublicCall.purges clock rs r) s m h n = tt
bare (PublicCall.looks x) s m h n = look_bare x s m h n

same-state : (x : PublicCall) (s : State) (m : List ℕ) → Promised x s m → ¬ (number_of x s m ≡ 0) → (state_after x s ≡ s) × (memory_after x m ≡ m)
same-state (PublicCall.begins own clock rs r) s m h n = ((h.refused n).0, refl)
same-state (PublicCall.resumes bytes clock rs r m') s m h n = h.0.refused n
same-state (PublicCall.receives datagram clock endpoint unicast rs q r m' q') s m h n = ((h.refused n).0, (h.refused n).1.0)
same-state (PublicCall.ticks clock endpoint rs q r m' q') s m h n = ((h.refused n).0, (h.refused n).1.0)
same-state (PublicCall.chooses clock endpoint interval rs r m') s m h n = h.0.refused n
same-state (PublicCall.pays clock p rs r m') s m h n = h.0.refused n
same-state (PublicCall.purges clock rs r) s m h n = ((h.0.refused n).0, refl)
same-state (PublicCall.looks x) s m h n = (refl, refl)

pub refusals_leave_all : RefusalsLeaveAll
refusals_leave_all = record { refused = λ x s m h n. let e = same-state x s m h n in (e.0, (e.1, bare x s m h n)) }
