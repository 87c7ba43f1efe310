-- A call by its number: what it answers where it is refused and where it is not, and what it may then read. Assumes nothing.
use mathlib.Core.Path.{◌≡◌, sym, ap, ◌∙◌}
use mathlib.Core.Bool.{cond}
use mathlib.Core.List.{List, ◌∷◌, ◌++◌}
use Prim.Native.Nat.{ℕ, ◌≤◌, ◌<◌}
use native.Mathlib.Omega.{arith}
use lib.ListN.{length}
use lib.Dec.{eqb}
use borrow.Author.Tests.{eq-eqb, ne_eqb}
use Rattle.model.specs.Figures.{table_bytes, last_reading}
use Rattle.model.specs.Refusals.{Row, first_of, late, back, small_table}
use Rattle.model.specs.Numbers.{number}
use Rattle.model.specs.declared.numbers.Refusal.{Refusal}
use Rattle.model.specs.declared.numbers.Refusal.TheVariants.{ClockTooHigh, ClockBack, NoSuchEndpoint, BufferTooSmall, DatagramTooLong, DatagramMalformed, NoSuchHousehold, PaidAlready, DataFull, NoSuchNode, NotASnapshot, NoSuchInterval}
use Rattle.model.specs.State.{State as ModelState}
use Rattle.model.specs.Invariant.{Midway}
use Rattle.node.specs.declared.State.{State}
use Rattle.node.specs.View.{state_of, Rep}
use Rattle.node.proofs.Parts.{state-last}
use Rattle.ledger.specs.Promises.{AsLeft}
use Rattle.ledger.proofs.Left.{Numbered, first-early, first-late, left-rep, left-midway, table-accepted}

-- 0 is no refusal's number
numbered : (r : Refusal) → 0 < number r
numbered ClockTooHigh = omega arith
numbered ClockBack = omega arith
numbered NoSuchEndpoint = omega arith
numbered BufferTooSmall = omega arith
numbered DatagramTooLong = omega arith
numbered DatagramMalformed = omega arith
numbered NoSuchHousehold = omega arith
numbered PaidAlready = omega arith
numbered DataFull = omega arith
numbered NoSuchNode = omega arith
numbered NotASnapshot = omega arith
numbered NoSuchInterval = omega arith

pub refused : (r : Refusal) → ¬ (number r ≡ 0)
refused r z = omega (arith, numbered r, z)

-- the refusals of a table whose first part another function has tested
module _ (es bs : List Row) where
  pub goes-early : (r : Refusal) → number r ≡ first_of es → number r ≡ first_of (es ++ bs)
  goes-early r e = e ∙ sym (first-early es bs (λ z. refused r (e ∙ z)))

  pub goes-late : Numbered es → 0 ≡ first_of es → {n : ℕ} → n ≡ first_of bs → n ≡ first_of (es ++ bs)
  goes-late f z e = e ∙ sym (first-late es bs f (sym z))

module _ {A : Type 0} (k n : ℕ) (e : k ≡ n) (done : A) (refusal : ℕ → A) where
  -- the number k that the code found is the definition's n, and not 0
  pub as_refused : ¬ (k ≡ 0) → refusal k ≡ cond (eqb n 0) done (refusal n)
  as_refused z = ap refusal e ∙ rw (ne_eqb n 0 (λ y. z (e ∙ y)))

  -- it is 0
  pub as_accepted : k ≡ 0 → done ≡ cond (eqb n 0) done (refusal n)
  as_accepted z = rw (eq-eqb n 0 (sym e ∙ z))

module _ {s : State} {m : List ℕ} (l : AsLeft s m) (clock : ℕ) where
  -- a call whose clock and memory are in order: the state is kept, and one that a call at this reading may pass through
  pub ready : (clock ≤ last_reading) × (((state_of s m).last ≤ clock) × (table_bytes ≤ length m)) → Rep s m × (Midway clock (state_of s m) × (clock ≤ last_reading))
  unfolding state_of
  ready a = (left-rep l a.1.1, (left-midway l a.1.1 clock a.1.0, a.0))

  -- so of a call that is not refused, whose tests knew the last reading alone
  pub table_ready : (more : List Row) → Numbered more → ((v : ModelState) → v.last ≡ s.last → 0 ≡ first_of (late clock ∷ back clock v ∷ small_table (length m) ∷ more))
      → Rep s m × (Midway clock (state_of s m) × (clock ≤ last_reading))
  table_ready more n f =
      let a = table-accepted clock (state_of s m) (length m) more n (sym (f (state_of s m) (state-last s m))) in
      ready (a.0, (a.1.0, a.1.1.0))
