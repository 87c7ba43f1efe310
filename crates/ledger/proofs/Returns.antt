-- What is saved comes back: the model's theorem, carried over to the promises of `save` and `resume`. Assumes nothing.
use mathlib.Core.Path.{◌≡◌, refl, sym, ap, ◌∙◌}
use mathlib.Core.List.{List, [], ◌∷◌}
use mathlib.Core.Option.{Option, some}
use Prim.Native.Nat.{ℕ, ◌≤◌}
use native.Mathlib.Omega.{arith}
use lib.ListN.{length, take}
use lib.Seq.{length-take-le}
use lib.Dec.{eqb}
use borrow.Author.Tests.{eqb-true, eqb-false, le-ltb}
use Rattle.base.specs.Lists.{or_else}
use Rattle.base.proofs.Tests.{by_test}
use Rattle.model.specs.Figures.{table_bytes, last_reading, snapshot_bytes}
use Rattle.model.specs.Refusals.{first_of, late, small_table}
use Rattle.model.specs.State.{State as ModelState}
use Rattle.model.specs.Begin.{Done as ModelDone}
use Rattle.model.specs.Snapshot.{Snapshot, Saved as ModelSaved, saved, refusal_save, save, load, no_snapshot, resumed, refusal_resume, resume}
use Rattle.model.specs.Invariant.{Valid}
use Rattle.model.proofs.Refusals.{refusals_exact}
use Rattle.model.proofs.Snapshots.{snapshots}
use Rattle.table.specs.View.{view}
use Rattle.node.specs.View.{state_of}
use Rattle.node.specs.declared.State.{State}
use Rattle.node.specs.declared.answers.Done.{Done}
use Rattle.ledger.specs.declared.answers.Saved.{Saved}
use Rattle.ledger.specs.Promises.{AsLeft, Resumes, Saves}
use Rattle.ledger.specs.Calls.{Look, PublicCall}
use Rattle.ledger.specs.Returning.{snapshot_of, SavedComesBack}
use Rattle.ledger.proofs.Left.{room-accepted}
use Rattle.ledger.proofs.Answering.{goes-late, as_accepted}
use Rattle.ledger.proofs.Calls.{refusals_leave_all}

-- ---- saved

module _ (clock : ℕ) (s : State) (m q : List ℕ) (r : Saved) (q' : List ℕ) (l : AsLeft s m) (h : Saves clock s m q r q') (z : r.number ≡ 0) where
  number_is : r.number ≡ refusal_save clock (length m) (length q) (state_of s m)
  number_is = ap (λ (x : ModelSaved). x.number) h.is ∙ (refusals_exact.saves clock (length m) (length q) (state_of s m)).answered

  written : take r.length q' ≡ saved s.own clock (view s.table m)
  unfolding save state_of
  written =
      ap (λ (x : ModelSaved). x.bytes)
      (h.is ∙ sym (as_accepted r.number (refusal_save clock (length m) (length q) (state_of s m)) number_is (record { number = 0; bytes = saved s.own clock (view s.table m) }) (λ k. record { number = k; bytes = [] }) z))

  valid : Valid (state_of s m)
  valid = l.valid (room-accepted clock (state_of s m) (length m) (length q) snapshot_bytes (sym number_is ∙ z)).1.1.0

  short : r.length ≤ snapshot_bytes
  unfolding state_of
  short = omega (arith, snapshots.room (state_of s m) clock valid, ap length written, length-take-le r.length q' h.within)

  loads : (later : ℕ) → load later (take r.length q') ≡ some (snapshot_of clock later s m)
  unfolding state_of
  loads later =
      ap (load later) written ∙ snapshots.back (state_of s m) clock later valid

-- ---- resumed

module _ (later : ℕ) (bytes rs : List ℕ) (table : ℕ) (v : ModelState) (b : Snapshot) (fine : later ≤ last_reading) (room : table_bytes ≤ table) (e : load later bytes ≡ some b) where
  begun : 0 ≡ first_of (late later ∷ small_table table ∷ [])
  begun = rw (le-ltb last_reading later fine, le-ltb table table_bytes room)

  read : 0 ≡ first_of (no_snapshot later bytes ∷ [])
  read = rw e refl

  not-refused : 0 ≡ refusal_resume later bytes table
  not-refused = goes-late (late later ∷ small_table table ∷ []) (no_snapshot later bytes ∷ []) (omega arith) begun read

  resume-is : resume later bytes rs table v ≡ record { number = 0; state = resumed later rs b }
  unfolding resume
  resume-is =
      sym (as_accepted 0 (refusal_resume later bytes table) not-refused (record { number = 0; state = or_else (load later bytes) v (resumed later rs) }) (λ k. record { number = k; state = v }) refl)
      ∙ ap (λ (o : Option Snapshot). record { number = 0; state = or_else o v (resumed later rs) }) e

resumes : (clock later : ℕ) (rs : List ℕ) (s : State) (m q : List ℕ) (r : Saved) (q' : List ℕ) → AsLeft s m → Saves clock s m q r q' → r.number ≡ 0
    → later ≤ last_reading → (u : State) (n : List ℕ) (d : Done) (n' : List ℕ) → table_bytes ≤ length n → Resumes (take r.length q') later rs u n d n'
    → (d.number ≡ 0) × (state_of d.state n' ≡ resumed later rs (snapshot_of clock later s m))
resumes clock later rs s m q r q' l h z fine u n d n' room g =
    let e : ◌≡◌ {A = ModelDone} (record { number = d.number; state = state_of d.state n' }) (record { number = 0; state = resumed later rs (snapshot_of clock later s m) }) =
    g.0.is ∙ resume-is later (take r.length q') rs (length n) (state_of u n) (snapshot_of clock later s m) fine room (loads clock s m q r q' l h z later) in
    (ap (λ (x : ModelDone). x.number) e, ap (λ (x : ModelDone). x.state) e)

-- refused, it has no length at all
fits : (clock : ℕ) (s : State) (m q : List ℕ) (r : Saved) (q' : List ℕ) → AsLeft s m → Saves clock s m q r q' → r.length ≤ snapshot_bytes
fits clock s m q r q' l h =
    by_test (eqb r.number 0) (λ b. short clock s m q r q' l h (eqb-true r.number 0 b))
    (λ b. omega (arith, (refusals_leave_all.refused (PublicCall.looks (Look.saves clock q r q')) s m h (eqb-false r.number 0 b)).1.1.0))

pub saved_comes_back : SavedComesBack
saved_comes_back = record { fits = fits; loads = λ clock later s m q r q' l h z. loads clock s m q r q' l h z later; resumes = resumes }
