-- Calls that write what is sent, refused or not, as the model's. Assumes nothing.
use mathlib.Core.Path.{◌≡◌, refl, sym, ap, subst, ◌∙◌}
use mathlib.Core.Bool.{Bool, true, false}
use mathlib.Core.List.{List, [], ◌∷◌}
use Prim.Native.Nat.{ℕ, ◌≤◌}
use native.Mathlib.Omega.{arith}
use lib.ListN.{length, take}
use borrow.Author.Tests.{ltb-false, not-false}
use Rattle.base.specs.Bytes.{Bytes}
use Rattle.base.specs.Lists.{All}
use Rattle.wire.specs.Row.{is_row}
use Rattle.model.specs.Figures.{table_bytes, most_bytes, last_reading}
use Rattle.model.specs.Table.{Entry}
use Rattle.model.specs.Numbers.{number}
use Rattle.model.specs.declared.numbers.Refusal.{Refusal}
use Rattle.model.specs.State.{State as ModelState}
use Rattle.model.specs.Refusals.{Row, late, back, no_such_endpoint, small_room, long, no_row}
use Rattle.model.specs.Receive.{Call, Answer as ModelAnswer, handled, refusal_receive, receive}
use Rattle.model.specs.Tick.{Sent as ModelSent, ticked, refusal_tick, tick}
use Rattle.model.specs.Invariant.{Valid, Midway}
use Rattle.model.proofs.Kept.{invariant_kept}
use Rattle.model.proofs.Cases.{receive-accepted, receive-refused}
use Rattle.table.specs.View.{Wrote}
use Rattle.node.specs.declared.State.{State}
use Rattle.node.proofs.Parts.{state-last, state-table}
use Rattle.node.specs.View.{state_of, Rep}
use Rattle.upkeep.specs.Ticked.{TickedFrom}
use Rattle.node.specs.declared.answers.Sent.{Sent}
use Rattle.node.specs.declared.answers.Answer.{Answer}
use Rattle.exchange.specs.Datagram.{call_of, tables_of, Handled}
use Rattle.ledger.specs.Promises.{AsLeft, Sends, Answers}
use Rattle.ledger.proofs.Left.{rep-left, none_first, endpoint-accepted}
use Rattle.ledger.proofs.Answering.{refused, as_refused, as_accepted, ready}

-- what a call may read and write whose refusals are past clock, endpoint and lent memory
sending_ready : {s : State} {m : List ℕ} (q : List ℕ) → AsLeft s m → (clock endpoint : ℕ)
    → (clock ≤ last_reading) × (((state_of s m).last ≤ clock) × (((1 ≤ endpoint) × (endpoint ≤ 4)) × ((table_bytes ≤ length m) × (most_bytes ≤ length q))))
    → Rep s m × (Midway clock (state_of s m) × (most_bytes ≤ length q))
sending_ready q l clock endpoint f =
    let r = ready l clock (f.0, (f.1.0, f.1.1.1.0)) in
    (r.0, (r.1.0, f.1.1.1.1))

module _ {s : State} {m : List ℕ} (q : List ℕ) (l : AsLeft s m) (clock endpoint : ℕ) (rs : List ℕ) where
  abbrev told : ℕ → ModelSent
  told k = record { number = k; state = state_of s m; bytes = [] }

  pub tick_no : (n : Refusal) → ((v : ModelState) → v.last ≡ s.last → number n ≡ refusal_tick clock endpoint (length m) (length q) v)
      → Sends (tick clock endpoint rs (length m) (length q) (state_of s m)) s m q (record { number = number n; state = s; length = 0 }) m q
  unfolding tick
  tick_no n f =
      let e = f (state_of s m) (state-last s m) in
      record {
        is = as_refused (number n) (refusal_tick clock endpoint (length m) (length q) (state_of s m)) e (ticked clock endpoint rs (state_of s m)) told (refused n);
        left = l;
        wrote = λ y. absurd (refused n y);
        size = refl;
        beyond = refl;
        within = omega arith;
        room = refl;
        rest = refl;
        refused = λ y. (refl, (refl, refl));
      }

  -- a call that is not refused
  module _ (f : (v : ModelState) → v.last ≡ s.last → 0 ≡ refusal_tick clock endpoint (length m) (length q) v) where
    none : 0 ≡ refusal_tick clock endpoint (length m) (length q) (state_of s m)
    none = f (state_of s m) (state-last s m)

    pub tick_ready : Rep s m × (Midway clock (state_of s m) × (most_bytes ≤ length q))
    tick_ready = sending_ready q l clock endpoint (endpoint-accepted clock (state_of s m) endpoint (length m) (length q) [] tt (sym none))

    pub tick_yes : (o : Sent) (m' q' : List ℕ) → TickedFrom s m q clock endpoint rs o m' q'
        → Sends (tick clock endpoint rs (length m) (length q) (state_of s m)) s m q o m' q'
    unfolding tick
    tick_yes o m' q' h =
        record {
          is = is;
          left = rep-left h.rep (subst (λ (x : ModelSent). Valid x.state) (sym is) (invariant_kept.ticks clock endpoint rs (length m) (length q) (state_of s m) (l.valid tick_ready.0.table.room)));
          wrote = λ y. subst (λ (es : List Entry). Wrote s.table m es o.state.table m') (sym (state-table o.state m') ∙ ap (λ (x : ModelSent). x.state.table) is) h.wrote;
          size = h.size;
          beyond = h.beyond;
          within = omega (arith, h.used, h.room, tick_ready.1.1);
          room = h.room;
          rest = h.rest;
          refused = λ z. absurd (z h.accepted);
        }
      where
        is : record { number = o.number; state = state_of o.state m'; bytes = take o.length q' } ≡ tick clock endpoint rs (length m) (length q) (state_of s m)
        is = h.is ∙ as_accepted 0 (refusal_tick clock endpoint (length m) (length q) (state_of s m)) none (ticked clock endpoint rs (state_of s m)) told refl

module _ {s : State} {m : List ℕ} (q : List ℕ) (l : AsLeft s m) (datagram : List ℕ) (clock endpoint : ℕ) (unicast : Bool) (rs : List ℕ) where
  abbrev call : Call
  call = call_of datagram clock endpoint unicast rs (length m) (length q)

  pub receive_no : (n : Refusal) → ((v : ModelState) → v.last ≡ s.last → number n ≡ refusal_receive call v)
      → Answers (receive call (state_of s m)) (tables_of (state_of s m) call) s m q (record { number = number n; state = s; length = 0; omitted = 0; dropped = 0 }) m q
  receive_no n f =
      let e = f (state_of s m) (state-last s m) in
      record {
        is = ap (λ (k : ℕ). record { number = k; state = state_of s m; bytes = []; omitted = 0; dropped = 0 }) e ∙ sym (receive-refused call (state_of s m) (λ y. refused n (e ∙ y)));
        left = l;
        wrote = λ y. absurd (refused n y);
        size = refl;
        beyond = refl;
        within = omega arith;
        room = refl;
        rest = refl;
        refused = λ y. (refl, (refl, refl));
      }

  -- a call that is not refused
  module _ (f : (v : ModelState) → v.last ≡ s.last → 0 ≡ refusal_receive call v) where
    none-applies : 0 ≡ refusal_receive call (state_of s m)
    none-applies = f (state_of s m) (state-last s m)

    pub receive_ready : Rep s m × (Midway clock (state_of s m) × ((most_bytes ≤ length q) × ((is_row datagram ≡ true) × (length datagram ≤ most_bytes))))
    receive_ready =
        let more : List Row = long datagram ∷ no_row datagram ∷ [] in
        let rows : List Row = late clock ∷ back clock (state_of s m) ∷ no_such_endpoint endpoint ∷ small_room (length m) (length q) most_bytes ∷ more in
        let a : All (λ (r : Row). r.applies ≡ false) rows = none_first rows (omega arith) (sym none-applies) in
        let r = sending_ready q l clock endpoint (endpoint-accepted clock (state_of s m) endpoint (length m) (length q) more (omega arith) (sym none-applies)) in
        (r.0, (r.1.0, (r.1.1, (not-false (is_row datagram) a.1.1.1.1.1.0, ltb-false most_bytes (length datagram) a.1.1.1.1.0))))

    pub receive_yes : (o : Answer) (m' q' : List ℕ) → Bytes datagram → Handled s m q datagram clock endpoint unicast rs o m' q'
        → Answers (receive call (state_of s m)) (tables_of (state_of s m) call) s m q o m' q'
    unfolding handled
    receive_yes o m' q' bytes h =
        record {
          is = is;
          left = rep-left h.rep (subst (λ (x : ModelAnswer). Valid x.state) (sym is) (invariant_kept.receives call (state_of s m) bytes (l.valid receive_ready.0.table.room)));
          wrote = λ y. h.wrote;
          size = h.size;
          beyond = h.beyond;
          within = omega (arith, h.used, h.room, receive_ready.1.1.0);
          room = h.room;
          rest = h.rest;
          refused = λ z. absurd (z h.accepted);
        }
      where
        is : record { number = o.number; state = state_of o.state m'; bytes = take o.length q'; omitted = o.omitted; dropped = o.dropped } ≡ receive call (state_of s m)
        is = h.is ∙ sym (receive-accepted call (state_of s m) (sym none-applies))
