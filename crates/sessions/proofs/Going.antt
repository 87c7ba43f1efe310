-- Each call with a memory that is too small is refused, and so leaves all as it was. Assumes nothing.
use mathlib.Core.Path.{◌≡◌, sym, ap, ◌∙◌}
use mathlib.Core.List.{List}
use Prim.Native.Nat.{ℕ, ◌≤◌}
use native.Mathlib.Omega.{arith}
use lib.ListN.{length}
use Rattle.wire.specs.Payment.{Payment}
use Rattle.model.specs.Table.{Entry}
use Rattle.model.specs.Figures.{table_bytes, most_bytes}
use Rattle.model.specs.State.{State as ModelState}
use Rattle.model.specs.Begin.{Done as ModelDone, begin}
use Rattle.model.specs.Snapshot.{resume}
use Rattle.model.specs.KeepAlive.{keep_alive}
use Rattle.model.specs.Pay.{pay, purge}
use Rattle.model.specs.Tick.{Sent as ModelSent, tick}
use Rattle.model.specs.Receive.{Call, Answer as ModelAnswer, receive}
use Rattle.model.proofs.Refusals.{refusals_exact}
use Rattle.node.specs.declared.State.{State}
use Rattle.node.specs.declared.answers.Done.{Done}
use Rattle.node.specs.declared.answers.Sent.{Sent}
use Rattle.node.specs.declared.answers.Answer.{Answer}
use Rattle.ledger.specs.Promises.{Changes, Sends, Answers}
use Rattle.ledger.proofs.Left.{not-small, not_small_room}
use Rattle.sessions.specs.Kept.{Goes}

-- ---- a call that is accepted has its table memory: no row of its refusals applies, and one of them is that memory's

module _ (clock table : ℕ) (s : ModelState) where
  pub begin-room : (own : ℕ) (rs : List ℕ) → (begin own clock rs table s).number ≡ 0 → table_bytes ≤ table
  begin-room own rs h = not-small table ((refusals_exact.begins own clock rs table s).none.0 h).1.0

  pub resume-room : (bytes rs : List ℕ) → (resume clock bytes rs table s).number ≡ 0 → table_bytes ≤ table
  resume-room bytes rs h = not-small table ((refusals_exact.resumes clock bytes rs table s).none.0 h).1.0

  pub tick-room : (endpoint room : ℕ) (rs : List ℕ) → (tick clock endpoint rs table room s).number ≡ 0 → table_bytes ≤ table
  tick-room endpoint room rs h = (not_small_room table room most_bytes ((refusals_exact.ticks clock endpoint rs table room s).none.0 h).1.1.1.0).0

  pub keep_alive_room : (endpoint interval : ℕ) (rs : List ℕ) → (keep_alive clock endpoint interval rs table s).number ≡ 0 → table_bytes ≤ table
  keep_alive_room endpoint interval rs h = not-small table ((refusals_exact.chooses clock endpoint interval rs table s).none.0 h).1.1.1.1.0

  pub pay-room : (p : Payment) (rs : List ℕ) → (pay clock p rs table s).number ≡ 0 → table_bytes ≤ table
  pay-room p rs h = not-small table ((refusals_exact.pays clock p rs table s).none.0 h).1.1.0

  pub purge-room : (rs : List ℕ) → (purge clock rs table s).number ≡ 0 → table_bytes ≤ table
  purge-room rs h = not-small table ((refusals_exact.purges clock rs table s).none.0 h).1.1.0

pub receive-room : (c : Call) (s : ModelState) → (receive c s).number ≡ 0 → table_bytes ≤ c.table
receive-room c s h = (not_small_room c.table c.room most_bytes ((refusals_exact.receives c s).none.0 h).1.1.1.0).0

-- ---- so a call keeps the premise, and a small memory as it was

module _ {s : State} {m m' : List ℕ} where
  pub changes_goes : {d : ModelDone} {r : Done} → Changes d s m r m' → (d.number ≡ 0 → table_bytes ≤ length m) → Goes s m r.state m'
  changes_goes h f =
      record { left = h.left; size = h.size; small = λ n. h.refused (λ z. omega (arith, n, f (sym (ap (λ (x : ModelDone). x.number) h.is) ∙ z))) }

  pub sends_goes : {q q' : List ℕ} {d : ModelSent} {r : Sent} → Sends d s m q r m' q' → (d.number ≡ 0 → table_bytes ≤ length m) → Goes s m r.state m'
  sends_goes h f =
      record {
        left = h.left;
        size = h.size;
        small = λ n.
            let k = h.refused (λ z. omega (arith, n, f (sym (ap (λ (x : ModelSent). x.number) h.is) ∙ z))) in
            (k.0, k.1.0);
      }

  pub answers_goes : {q q' : List ℕ} {d : ModelAnswer} {es : List Entry} {r : Answer} → Answers d es s m q r m' q' → (d.number ≡ 0 → table_bytes ≤ length m) → Goes s m r.state m'
  answers_goes h f =
      record {
        left = h.left;
        size = h.size;
        small = λ n.
            let k = h.refused (λ z. omega (arith, n, f (sym (ap (λ (x : ModelAnswer). x.number) h.is) ∙ z))) in
            (k.0, k.1.0);
      }
