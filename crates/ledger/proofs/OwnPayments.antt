-- Our own payments over any list of public calls: the model's theorem, carried over to the promises. Assumes nothing.
use mathlib.Core.Path.{◌≡◌, refl, sym, ap, subst, ◌∙◌}
use mathlib.Core.Bool.{true, false}
use mathlib.Core.List.{List, [], ◌∷◌}
use mathlib.Core.Option.{Option, none, some}
use mathlib.Core.Logic.{◌⊎◌, inl, inr, ⊎_elim, ◌↔◌}
use Prim.Native.Nat.{ℕ, ◌≤◌}
use lib.ListN.{length, take}
use lib.Dec.{eqb}
use borrow.Author.Tests.{eqb-true, eqb-false}
use Rattle.base.specs.Lists.{or_else, In, All}
use Rattle.base.proofs.Tests.{no_way, by_test}
use Rattle.base.proofs.Lists.{in_append, in_left, in_right}
use Rattle.base.proofs.Sorted.{find-map}
use Rattle.model.specs.Figures.{table_bytes, last_reading, snapshot_bytes}
use Rattle.model.specs.Table.{Entry, id_of, look}
use Rattle.model.specs.State.{own_entry}
use Rattle.model.specs.Begin.{Done as ModelDone, begun, refusal_begin, begin}
use Rattle.model.specs.Tick.{Sent as ModelSent}
use Rattle.model.specs.Receive.{Answer as ModelAnswer}
use Rattle.model.specs.Invariant.{Valid}
use Rattle.model.specs.Theorems.{own_payments, capped}
use Rattle.model.proofs.Refusals.{refusals_exact}
use Rattle.model.proofs.KeptParts.{midway-held}
use Rattle.model.proofs.OwnPayments.{own_payments_stay}
use Rattle.table.specs.View.{view}
use Rattle.node.specs.View.{state_of}
use Rattle.node.specs.declared.State.{State}
use Rattle.exchange.specs.Datagram.{call_of}
use Rattle.node.specs.declared.answers.Done.{Done}
use Rattle.ledger.specs.declared.answers.Saved.{Saved}
use Rattle.ledger.specs.Promises.{AsLeft, Begins, Resumes, Saves}
use Rattle.ledger.specs.Calls.{Look, PublicCall, Promised, state_after, memory_after, starts_anew, Trace, state_at_end, memory_at_end}
use Rattle.ledger.specs.Returning.{snapshot_of}
use Rattle.ledger.specs.OwnPayments.{payments_at, paid_by, paid_over, PaidStays}
use Rattle.ledger.proofs.Left.{not-small, not_small_room}
use Rattle.ledger.proofs.Answering.{as_accepted}
use Rattle.ledger.proofs.Calls.{premise_holds, numbers_exact}
use Rattle.ledger.proofs.Returns.{saved_comes_back}

-- ---- one call

-- the payments of s and m after it, and those that it accepted
abbrev Grows : PublicCall → State → List ℕ → Type 0
Grows x s m = (t : List ℕ) → In t (payments_at (state_after x s) (memory_after x m)) ↔ (In t (payments_at s m) ⊎ In t (paid_by x))

-- none was accepted, and they are as they were
still : (l k : List (List ℕ)) → l ≡ k → (t : List ℕ) → In t l ↔ (In t k ⊎ In t [])
still l k e t = (λ i. inl (rw (sym e) i), λ i. ⊎_elim (λ j. rw e j) absurd i)

-- a state and a memory that did not change
unmoved : (s u : State) (m n : List ℕ) → (u ≡ s) × (n ≡ m) → payments_at u n ≡ payments_at s m
unmoved s u m n e = ap (λ (v : State). payments_at v n) e.0 ∙ ap (payments_at s) e.1

grows : (x : PublicCall) (s : State) (m : List ℕ) → AsLeft s m → Promised x s m → starts_anew x ≡ false → Grows x s m
grows (PublicCall.begins own clock rs r) s m l h f = no_way true refl f
grows (PublicCall.resumes bytes clock rs r m') s m l h f = no_way true refl f
grows (PublicCall.receives datagram clock endpoint unicast rs q r m' q') s m l h f =
    still (payments_at r.state m') (payments_at s m)
    (ap (λ (a : ModelAnswer). own_payments a.state) h.is ∙ own_payments_stay.receives (call_of datagram clock endpoint unicast rs (length m) (length q)) (state_of s m))
grows (PublicCall.ticks clock endpoint rs q r m' q') s m l h f =
    still (payments_at r.state m') (payments_at s m)
    (ap (λ (a : ModelSent). own_payments a.state) h.is ∙ own_payments_stay.ticks clock endpoint rs (length m) (length q) (state_of s m))
grows (PublicCall.chooses clock endpoint interval rs r m') s m l h f =
    still (payments_at r.state m') (payments_at s m)
    (ap (λ (a : ModelDone). own_payments a.state) h.0.is ∙ own_payments_stay.chooses clock endpoint interval rs (length m) (state_of s m))
grows (PublicCall.pays clock p rs r m') s m l h f = λ t.
    by_test (eqb r.number 0)
    (λ b. let z = sym (ap (λ (a : ModelDone). a.number) h.0.is) ∙ eqb-true r.number 0 b in
    let o = own_payments_stay.pays clock p rs (length m) (state_of s m) z t in
    let e = ap (λ (a : ModelDone). own_payments a.state) h.0.is in
    rw b
    (λ i. ⊎_elim inl (λ q. inr (inl q)) (o.0 (subst (In t) e i)), λ i. subst (In t) (sym e) (o.1 (⊎_elim inl (λ j. inr (⊎_elim (λ q. q) absurd j)) i))))
    (λ b. rw b (still (payments_at r.state m') (payments_at s m) (unmoved s r.state m m' (h.0.refused (eqb-false r.number 0 b))) t))
grows (PublicCall.purges clock rs r) s m l h f =
    still (payments_at r.state m) (payments_at s m)
    (by_test (eqb r.number 0)
    (λ b. let a = (numbers_exact.number (PublicCall.purges clock rs r) s m h).none.0 (eqb-true r.number 0 b) in
    ap (λ (d : ModelDone). own_payments d.state) h.0.is ∙ own_payments_stay.purges clock rs (length m) (state_of s m) (l.valid (not-small (length m) a.1.1.0)))
    (λ b. unmoved s r.state m m (h.0.refused (eqb-false r.number 0 b))))
grows (PublicCall.looks x) s m l h f = still (payments_at s m) (payments_at s m) refl

-- ---- any list of calls

kept : (xs : List PublicCall) (s : State) (m : List ℕ) → AsLeft s m → Trace s m xs → All (λ x. starts_anew x ≡ false) xs
    → (t : List ℕ) → In t (payments_at (state_at_end s xs) (memory_at_end m xs)) ↔ (In t (payments_at s m) ⊎ In t (paid_over xs))
kept [] s m l h f t = (inl, ⊎_elim (λ i. i) absurd)
kept (x ∷ xs) s m l h f t =
    let g = grows x s m l h.0 f.0 t in
    let k = kept xs (state_after x s) (memory_after x m) (premise_holds.next x s m l h.0) h.1 f.1 t in (
      λ i. ⊎_elim (λ j. ⊎_elim inl (λ q. inr (in_left t (paid_by x) (paid_over xs) q)) (g.0 j)) (λ q. inr (in_right t (paid_by x) (paid_over xs) q)) (k.0 i),
      λ i. k.1 (⊎_elim (λ j. inl (g.1 (inl j))) (λ q. ⊎_elim (λ j. inl (g.1 (inr j))) inr (in_append t (paid_by x) (paid_over xs) q)) i),
    )

-- ---- starting anew

none-begun : (own clock : ℕ) (rs : List ℕ) (s : State) (m : List ℕ) (r : Done) → Begins own clock rs s m r → r.number ≡ 0 → payments_at r.state m ≡ []
unfolding begin
none-begun own clock rs s m r h z =
    let n : r.number ≡ refusal_begin clock (length m) = ap (λ (x : ModelDone). x.number) h.is ∙ (refusals_exact.begins own clock rs (length m) (state_of s m)).answered in
    ap (λ (x : ModelDone). own_payments x.state)
    (h.is ∙ sym (as_accepted r.number (refusal_begin clock (length m)) n (record { number = 0; state = begun own clock rs }) (λ k. record { number = k; state = state_of s m }) z))
    ∙ own_payments_stay.begins own clock rs

-- our entry in what is saved
saved-own : (clock later : ℕ) (s : State) (m : List ℕ) → Valid (state_of s m)
    → look (snapshot_of clock later s m).own (snapshot_of clock later s m).entries ≡ some (capped clock later (own_entry (state_of s m)))
unfolding state_of look
saved-own clock later s m v =
    find-map (capped clock later) id_of s.own (view s.table m)
    ∙ ap (λ (o : Option Entry). or_else o none (λ e. some (capped clock later e))) (midway-held (state_of s m) v.inside)

brought-back : (clock later : ℕ) (rs : List ℕ) (s : State) (m q : List ℕ) (r : Saved) (q' : List ℕ) → AsLeft s m → Saves clock s m q r q' → r.number ≡ 0
    → later ≤ last_reading → (u : State) (n : List ℕ) (d : Done) (n' : List ℕ) → table_bytes ≤ length n → Resumes (take r.length q') later rs u n d n'
    → payments_at d.state n' ≡ payments_at s m
unfolding state_of
brought-back clock later rs s m q r q' l h z fine u n d n' room g =
    let a = (numbers_exact.number (PublicCall.looks (Look.saves clock q r q')) s m h).none.0 z in
    ap own_payments (saved_comes_back.resumes clock later rs s m q r q' l h z fine u n d n' room g).1
    ∙ own_payments_stay.resumes later rs (snapshot_of clock later s m) (capped clock later (own_entry (state_of s m)))
    (saved-own clock later s m (l.valid (not_small_room (length m) (length q) snapshot_bytes a.1.1.0).0))

pub paid-stays : PaidStays
paid-stays = record { kept = λ s m xs. kept xs s m; begun = none-begun; resumed = brought-back }
