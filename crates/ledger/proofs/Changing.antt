-- Calls that change state, refused or not, as the model's. Assumes nothing.
use mathlib.Core.Path.{◌≡◌, refl, sym, ap, subst, ◌∙◌}
use mathlib.Core.Bool.{true, false, cond}
use mathlib.Core.List.{List, [], ◌∷◌, ◌++◌}
use mathlib.Core.Option.{Option, none, some}
use Prim.Native.Nat.{ℕ, ◌+◌, ◌≤◌, ◌<◌}
use native.Mathlib.Omega.{arith}
use lib.ListN.{length, length-map}
use lib.Dec.{eqb}
use borrow.Author.Tests.{ltb-false}
use Rattle.base.specs.Lists.{is_some, or_else}
use Rattle.wire.specs.Row.{tlvs}
use Rattle.wire.specs.Order.{among}
use Rattle.wire.specs.Payment.{Payment, payment_tlv}
use Rattle.model.specs.Figures.{publish_limit, most_keep_alive}
use Rattle.model.specs.Sequence.{circle}
use Rattle.model.specs.Table.{Entry}
use Rattle.model.specs.Numbers.{number}
use Rattle.model.specs.declared.numbers.Refusal.{Refusal}
use Rattle.model.specs.Refusals.{Row, first_of, late, small_table, no_household, paid_already, full}
use Rattle.model.specs.State.{State as ModelState, own_data}
use Rattle.model.specs.Begin.{Done as ModelDone, fresh_endpoints, started, begun, refusal_begin, begin}
use Rattle.model.specs.Snapshot.{Snapshot, load, no_snapshot, resumed, refusal_resume, resume}
use Rattle.model.specs.KeepAlive.{with_keep_alive, chosen, no_room, refusal_keep_alive, keep_alive}
use Rattle.model.specs.Pay.{paid, refusal_pay, pay, purged, refusal_purge, purge}
use Rattle.model.specs.Invariant.{Valid, Midway}
use Rattle.model.proofs.Kept.{invariant_kept}
use Rattle.node.specs.declared.State.{State}
use Rattle.table.specs.View.{Lays, SlotsStay, Wrote}
use Rattle.table.proofs.Laying.{stays_self}
use Rattle.node.specs.View.{state_of, Rep, Moved, Published}
use Rattle.node.proofs.Parts.{state-last, state-table}
use Rattle.start.specs.Started.{Resumes as Resumed}
use Rattle.ledger.specs.Promises.{AsLeft, Changes, Publishes, Resumes, Chooses, Pays, Purges}
use Rattle.ledger.proofs.Left.{rep-left, start-accepted, table-accepted, interval-accepted}
use Rattle.ledger.proofs.Answering.{refused, goes-early, goes-late, as_refused, as_accepted, ready}

-- ---- a refused call, and one that moves the state

module _ {s : State} {m : List ℕ} {d : ModelDone} where
  pub changes_refused : {n : ℕ} → record { number = n; state = state_of s m } ≡ d → AsLeft s m → Changes d s m (record { number = n; state = s }) m
  changes_refused e l = record { is = e; left = l; size = refl; beyond = refl; refused = λ z. (refl, refl) }

  pub changes_moved : {a : ModelState} {r : State} {m' : List ℕ} → record { number = 0; state = a } ≡ d → Moved a m r m' → Valid d.state
      → Changes d s m (record { number = 0; state = r }) m'
  changes_moved e h v =
      record {
        is = ap (λ (x : ModelState). record { number = 0; state = x }) h.is ∙ e;
        left = rep-left h.rep (subst Valid (sym (h.is ∙ ap (λ (x : ModelDone). x.state) e)) v);
        size = h.size;
        beyond = h.beyond;
        refused = λ z. absurd (z refl);
      }

-- what was published is all that was written
pub wrote_as : {a : ModelState} {s : State} {m : List ℕ} {r : State} {m' : List ℕ} → Published a s m r m' → {es : List Entry} → a.table ≡ es → Wrote s.table m es r.table m'
wrote_as {s = s} {m = m} {r = r} {m' = m'} h e =
    subst (λ (es : List Entry). Wrote s.table m es r.table m') (sym (state-table r m') ∙ ap (λ (x : ModelState). x.table) h.moved.is ∙ e) h.wrote

-- a state that starts has one endpoint for each random number, so these are four
module _ (clock : ℕ) (rs : List ℕ) {a : ModelState} {m : List ℕ} {r : State} {m' : List ℕ} (h : Moved a m r m') where
  randoms-four : a.endpoints ≡ fresh_endpoints clock rs → length rs ≡ 4
  unfolding state_of
  randoms-four e =
      sym (length-map rs _) ∙ ap length (sym e) ∙ ap (λ (x : ModelState). length x.endpoints) (sym h.is) ∙ length-map r.endpoints _ ∙ h.rep.four

-- ---- the calls

module _ {s : State} {m : List ℕ} (l : AsLeft s m) (clock : ℕ) (rs : List ℕ) where
  -- the refusal that a call answers
  abbrev told : ℕ → ModelDone
  told k = record { number = k; state = state_of s m }

  abbrev done : ModelState → ModelDone
  done a = record { number = 0; state = a }

  -- beginning
  module _ (own : ℕ) where
    pub begin_no : (n : Refusal) → number n ≡ refusal_begin clock (length m) → Changes (begin own clock rs (length m) (state_of s m)) s m (record { number = number n; state = s }) m
    unfolding begin
    begin_no n e = changes_refused (as_refused (number n) (refusal_begin clock (length m)) e (done (begun own clock rs)) told (refused n)) l

    pub begin_yes : (r : State) → own < circle → 0 ≡ refusal_begin clock (length m) → Moved (begun own clock rs) m r m
        → Changes (begin own clock rs (length m) (state_of s m)) s m (record { number = 0; state = r }) m
    unfolding begin begun started
    begin_yes r small e h =
        changes_moved (as_accepted 0 (refusal_begin clock (length m)) e (done (begun own clock rs)) told refl) h
        (invariant_kept.begins own clock rs (length m) (state_of s m) small (randoms-four clock rs h refl) (l.valid (start-accepted clock (length m) (sym e)).1))

  -- purging
  pub purge_no : (n : Refusal) → ((v : ModelState) → v.last ≡ s.last → number n ≡ refusal_purge clock (length m) v) → Purges clock rs s m (record { number = number n; state = s })
  unfolding purge
  purge_no n f =
      let e = f (state_of s m) (state-last s m) in
      (changes_refused (as_refused (number n) (refusal_purge clock (length m) (state_of s m)) e (done (purged clock rs (state_of s m))) told (refused n)) l, stays_self s.table)

  pub purge_yes : (r : State) → ((v : ModelState) → v.last ≡ s.last → 0 ≡ refusal_purge clock (length m) v)
      → Moved (purged clock rs (state_of s m)) m r m × SlotsStay r.table s.table → Purges clock rs s m (record { number = 0; state = r })
  unfolding purge
  purge_yes r f h =
      let e = f (state_of s m) (state-last s m) in
      let room = (table-accepted clock (state_of s m) (length m) [] tt (sym e)).1.1.0 in (
        changes_moved (as_accepted 0 (refusal_purge clock (length m) (state_of s m)) e (done (purged clock rs (state_of s m))) told refl) h.0
            (invariant_kept.purges clock rs (length m) (state_of s m) (l.valid room)),
        h.1,
      )

  -- publishing: refused, and not
  module _ (k : ℕ) (a : ModelState) where
    publish_no : (n : Refusal) → number n ≡ k → Publishes (cond (eqb k 0) (done a) (told k)) s m (record { number = number n; state = s }) m
    publish_no n e = (changes_refused (as_refused (number n) k e (done a) told (refused n)) l, λ y. absurd (refused n y))

    publish_yes : (r : State) (m' : List ℕ) → 0 ≡ k → Published a s m r m' → Valid (cond (eqb k 0) (done a) (told k)).state
        → Publishes (cond (eqb k 0) (done a) (told k)) s m (record { number = 0; state = r }) m'
    publish_yes r m' e h v =
        let d : done a ≡ cond (eqb k 0) (done a) (told k) = as_accepted 0 k e (done a) told refl in
        (changes_moved d h.moved v, λ y. wrote_as h (ap (λ (x : ModelDone). x.state.table) d))

  -- choosing an interval
  module _ (i k : ℕ) where
    pub choice_no : (n : Refusal) → number n ≡ refusal_keep_alive clock i k (length m) (state_of s m) → Chooses clock i k rs s m (record { number = number n; state = s }) m
    unfolding keep_alive
    choice_no n e = publish_no (refusal_keep_alive clock i k (length m) (state_of s m)) (chosen clock i k rs (state_of s m)) n e

    -- what it says that none of the refusals applies
    pub choice_ready : 0 ≡ refusal_keep_alive clock i k (length m) (state_of s m)
        → Rep s m × (Midway clock (state_of s m) × ((1 ≤ k) × ((k ≤ most_keep_alive) × (length (with_keep_alive i k (own_data (state_of s m))) ≤ publish_limit))))
    choice_ready e =
        let f = interval-accepted clock (state_of s m) i k (length m) (no_room i k (state_of s m) ∷ []) (omega arith) (sym e) in
        let r = ready l clock (f.0, (f.1.0, f.1.1.1.1.0)) in
        (r.0, (r.1.0, (f.1.1.1.0.0, (f.1.1.1.0.1, ltb-false publish_limit (length (with_keep_alive i k (own_data (state_of s m)))) f.1.1.1.1.1.0))))

    pub choice_yes : (r : State) (m' : List ℕ) → 0 ≡ refusal_keep_alive clock i k (length m) (state_of s m) → Published (chosen clock i k rs (state_of s m)) s m r m'
        → Chooses clock i k rs s m (record { number = 0; state = r }) m'
    unfolding keep_alive
    choice_yes r m' e h =
        publish_yes (refusal_keep_alive clock i k (length m) (state_of s m)) (chosen clock i k rs (state_of s m)) r m' e h
        (invariant_kept.chooses clock i k rs (length m) (state_of s m) (l.valid (choice_ready e).0.table.room))

  -- paying
  module _ (p : Payment) where
    pub pay_no : (n : Refusal) → number n ≡ refusal_pay clock p (length m) (state_of s m) → Pays clock p rs s m (record { number = number n; state = s }) m
    unfolding pay
    pay_no n e = publish_no (refusal_pay clock p (length m) (state_of s m)) (paid clock p rs (state_of s m)) n e

    pub pay_ready : 0 ≡ refusal_pay clock p (length m) (state_of s m)
        → Rep s m × (Midway clock (state_of s m) × ((among (payment_tlv p) (tlvs (own_data (state_of s m))) ≡ false) × (length (own_data (state_of s m)) + length (payment_tlv p) ≤ publish_limit)))
    pay_ready e =
        let more : List Row = no_household p.household ∷ paid_already p (state_of s m) ∷ full p (state_of s m) ∷ [] in
        let f = table-accepted clock (state_of s m) (length m) more (omega arith) (sym e) in
        let r = ready l clock (f.0, (f.1.0, f.1.1.0)) in
        (r.0, (r.1.0, (f.1.1.1.1.0, ltb-false publish_limit (length (own_data (state_of s m)) + length (payment_tlv p)) f.1.1.1.1.1.0)))

    pub pay_yes : (r : State) (m' : List ℕ) → 0 ≡ refusal_pay clock p (length m) (state_of s m) → Published (paid clock p rs (state_of s m)) s m r m'
        → Pays clock p rs s m (record { number = 0; state = r }) m'
    unfolding pay
    pay_yes r m' e h =
        publish_yes (refusal_pay clock p (length m) (state_of s m)) (paid clock p rs (state_of s m)) r m' e h
        (invariant_kept.pays clock p rs (length m) (state_of s m) (l.valid (pay_ready e).0.table.room))

  -- resuming: only the snapshot itself can be refused, once clock and memory are in order
  module _ (bytes : List ℕ) where
    abbrev first : List Row
    first = late clock ∷ small_table (length m) ∷ []

    unread : is_some (load clock bytes) ≡ false → first_of (no_snapshot clock bytes ∷ []) ≡ 11
    unread n = rw n refl

    read : is_some (load clock bytes) ≡ true → first_of (no_snapshot clock bytes ∷ []) ≡ 0
    read y = rw y refl

    pub resume_no : (n : Refusal) → number n ≡ first_of first → Resumes bytes clock rs s m (record { number = number n; state = s }) m
    unfolding resume
    resume_no n e =
        let k = goes-early first (no_snapshot clock bytes ∷ []) n e in
        (changes_refused (as_refused (number n) (refusal_resume clock bytes (length m)) k _ told (refused n)) l, λ y. absurd (refused n y))

    module _ (e : 0 ≡ first_of first) (m' : List ℕ) where
      refusal_last : {n : ℕ} → n ≡ first_of (no_snapshot clock bytes ∷ []) → n ≡ refusal_resume clock bytes (length m)
      refusal_last k = goes-late first (no_snapshot clock bytes ∷ []) (omega arith) e k

      pub resume-unread : (load clock bytes ≡ none) × (m' ≡ m) → Resumes bytes clock rs s m (record { number = 11; state = s }) m'
      unfolding resume
      resume-unread h =
          let k : 11 ≡ refusal_resume clock bytes (length m) = refusal_last (sym (unread (ap is_some h.0))) in (
            rw h.1 (changes_refused (as_refused 11 (refusal_resume clock bytes (length m)) k _ told (λ z. omega (arith, z))) l),
            λ y. absurd (let z : 11 ≡ 0 = y in omega arith),
          )

      resume_as : (b : Snapshot) → load clock bytes ≡ some b → 0 ≡ refusal_resume clock bytes (length m)
          → done (resumed clock rs b) ≡ resume clock bytes rs (length m) (state_of s m)
      unfolding resume
      resume_as b q k =
          ap (λ (o : Option Snapshot). done (or_else o (state_of s m) (resumed clock rs))) (sym q)
          ∙ as_accepted 0 (refusal_resume clock bytes (length m)) k (done (or_else (load clock bytes) (state_of s m) (resumed clock rs))) told refl

      pub resume_yes : (r : State) → Resumed clock bytes rs m r m' → Resumes bytes clock rs s m (record { number = 0; state = r }) m'
      unfolding resumed started
      resume_yes r h = (
        changes_moved (resume_as h.snapshot h.loads (refusal_last (sym (read (ap is_some h.loads))))) h.resumes
            (invariant_kept.resumes clock bytes rs (length m) (state_of s m) (randoms-four clock rs h.resumes refl) (l.valid (start-accepted clock (length m) (sym e)).1)),
        λ z b q. let x : h.snapshot ≡ b = cc (h.loads, q) in subst (λ (y : Snapshot). Lays m (y.entries ++ (resumed clock rs y).table) r.table m') x h.lays,
      )
