-- Demand 3 over the traffic that there is, carried over to the promises. Assumes nothing.
use mathlib.Core.Path.{◌≡◌, refl, sym, ap, subst, ◌∙◌}
use mathlib.Core.Bool.{true, false}
use mathlib.Core.List.{List, [], ◌∷◌, ◌++◌, append-nil, append_assoc}
use mathlib.Core.Logic.{◌↔◌}
use Prim.Native.Nat.{ℕ, ◌≤◌, ◌<◌}
use native.Mathlib.Omega.{arith}
use lib.ListN.{length}
use lib.Dec.{leb}
use borrow.Author.Tests.{leb-true, leb-false}
use Rattle.base.specs.Lists.{In, All}
use Rattle.base.proofs.Tests.{no_way, by_test}
use Rattle.base.proofs.Sorted.{keep-ascending}
use Rattle.wire.specs.Payment.{Payment}
use Rattle.model.specs.Figures.{table_bytes, most_bytes}
use Rattle.model.specs.Table.{Statement, id_of, statements}
use Rattle.model.specs.State.{State as ModelState}
use Rattle.model.specs.Begin.{Done as ModelDone}
use Rattle.model.specs.Tick.{Sent as ModelSent, tick}
use Rattle.model.specs.KeepAlive.{keep_alive}
use Rattle.model.specs.Pay.{pay}
use Rattle.model.specs.Receive.{Answer as ModelAnswer}
use Rattle.model.specs.Delivery.{Holds}
use Rattle.model.specs.Traffic.{Turn, turned, heard_by, turns, heard_over, others_of, Traffic}
use Rattle.model.proofs.Refusals.{refusals_exact, refusals_change_nothing}
use Rattle.model.proofs.Traffic.{traffic_loses_nothing}
use Rattle.table.specs.View.{view}
use Rattle.table.proofs.Tables.{view-ascending}
use Rattle.node.specs.View.{state_of}
use Rattle.node.specs.declared.State.{State}
use Rattle.exchange.specs.Datagram.{call_of}
use Rattle.ledger.specs.Calls.{PublicCall, Promised, state_after, memory_after, Trace, state_at_end, memory_at_end}
use Rattle.ledger.specs.Traffic.{continues, turn_of, turns_of, held_or_heard_of, Carried, others_at_end, RealTrafficLosesNothing}
use Rattle.ledger.proofs.Left.{not-small, not_small_room}
use Rattle.ledger.proofs.Slots.{size}
use Rattle.ledger.proofs.Deliveries.{not-accepted, not-moved, holds-own}

-- ---- the model's state after the calls is that of the code's state and memory

turns_append : (v : ModelState) (xs ys : List Turn) → turns v (xs ++ ys) ≡ turns (turns v xs) ys
unfolding turns
turns_append v [] ys = refl
turns_append v (x ∷ xs) ys = turns_append (turned v x) xs ys

one-turn : (x : PublicCall) (s : State) (m : List ℕ) → continues x ≡ true → Promised x s m → turns (state_of s m) (turn_of (length m) x) ≡ state_of (state_after x s) (memory_after x m)
unfolding turns
one-turn (PublicCall.begins own clock rs r) s m f h = no_way false f refl
one-turn (PublicCall.resumes bytes clock rs r m') s m f h = no_way false f refl
one-turn (PublicCall.receives datagram clock endpoint unicast rs q r m' q') s m f h = sym (ap (λ (a : ModelAnswer). a.state) h.is)
one-turn (PublicCall.ticks clock endpoint rs q r m' q') s m f h = sym (ap (λ (a : ModelSent). a.state) h.is)
one-turn (PublicCall.chooses clock endpoint interval rs r m') s m f h = sym (ap (λ (a : ModelDone). a.state) h.0.is)
one-turn (PublicCall.pays clock p rs r m') s m f h = sym (ap (λ (a : ModelDone). a.state) h.0.is)
one-turn (PublicCall.purges clock rs r) s m f h = no_way false f refl
one-turn (PublicCall.looks x) s m f h = refl

all-turns : (xs : List PublicCall) (s : State) (m : List ℕ) → All (λ x. continues x ≡ true) xs → Trace s m xs → turns (state_of s m) (turns_of (length m) xs) ≡ state_of (state_at_end s xs) (memory_at_end m xs)
unfolding turns
all-turns [] s m f h = refl
all-turns (x ∷ xs) s m f h =
    turns_append (state_of s m) (turn_of (length m) x) (turns_of (length m) xs)
    ∙ ap (λ (v : ModelState). turns v (turns_of (length m) xs)) (one-turn x s m f.0 h.0)
    ∙ ap (λ (n : ℕ). turns (state_of (state_after x s) (memory_after x m)) (turns_of n xs)) (sym (size x s m h.0))
    ∙ all-turns xs (state_after x s) (memory_after x m) f.1 h.1

-- ---- a table memory below its figure: every call is refused, so that nothing changes and nothing is heard

module _ (n : ℕ) (short : n < table_bytes) (v : ModelState) where
  abbrev Idle : List Turn → Type 0
  Idle ts = (turns v ts ≡ v) × (heard_over v ts ≡ [])

  tick-idle : (clock i : ℕ) (rs : List ℕ) (room : ℕ) → (tick clock i rs n room v).state ≡ v
  tick-idle clock i rs room =
      ap (λ (a : ModelSent). a.state)
      (refusals_change_nothing.ticks clock i rs n room v
      (λ z. omega (arith, short, (not_small_room n room most_bytes ((refusals_exact.ticks clock i rs n room v).none.0 z).1.1.1.0).0)))

  choice_idle : (clock i k : ℕ) (rs : List ℕ) → (keep_alive clock i k rs n v).state ≡ v
  choice_idle clock i k rs =
      refusals_change_nothing.chooses clock i k rs n v (λ z. omega (arith, short, not-small n ((refusals_exact.chooses clock i k rs n v).none.0 z).1.1.1.1.0))

  pay-idle : (clock : ℕ) (p : Payment) (rs : List ℕ) → (pay clock p rs n v).state ≡ v
  pay-idle clock p rs =
      refusals_change_nothing.pays clock p rs n v (λ z. omega (arith, short, not-small n ((refusals_exact.pays clock p rs n v).none.0 z).1.1.0))

  turn-idle : (x : PublicCall) → Idle (turn_of n x)
  unfolding turns heard_over heard_by
  turn-idle (PublicCall.begins own clock rs r) = (refl, refl)
  turn-idle (PublicCall.resumes bytes clock rs r m') = (refl, refl)
  turn-idle (PublicCall.receives datagram clock endpoint unicast rs q r m' q') =
      (not-moved v (call_of datagram clock endpoint unicast rs n (length q)) short, rw (not-accepted v (call_of datagram clock endpoint unicast rs n (length q)) short))
  turn-idle (PublicCall.ticks clock endpoint rs q r m' q') = (tick-idle clock endpoint rs (length q), refl)
  turn-idle (PublicCall.chooses clock endpoint interval rs r m') = (choice_idle clock endpoint interval rs, refl)
  turn-idle (PublicCall.pays clock p rs r m') = (pay-idle clock p rs, refl)
  turn-idle (PublicCall.purges clock rs r) = (refl, refl)
  turn-idle (PublicCall.looks x) = (refl, refl)

  heard_append : (u : ModelState) (xs ys : List Turn) → heard_over u (xs ++ ys) ≡ heard_over u xs ++ heard_over (turns u xs) ys
  unfolding heard_over turns
  heard_append u [] ys = refl
  heard_append u (x ∷ xs) ys = ap (λ (l : List Statement). heard_by u x ++ l) (heard_append (turned u x) xs ys) ∙ sym (append_assoc (heard_by u x) (heard_over (turned u x) xs) (heard_over (turns (turned u x) xs) ys))

  all-idle : (xs : List PublicCall) → Idle (turns_of n xs)
  unfolding turns heard_over
  all-idle [] = (refl, refl)
  all-idle (x ∷ xs) =
      let a = turn-idle x in
      let b = all-idle xs in (
        turns_append v (turn_of n x) (turns_of n xs) ∙ ap (λ (u : ModelState). turns u (turns_of n xs)) a.0 ∙ b.0,
        heard_append v (turn_of n x) (turns_of n xs) ∙ ap (λ (l : List Statement). l ++ heard_over (turns v (turn_of n x)) (turns_of n xs)) a.1
            ∙ ap (λ (u : ModelState). heard_over u (turns_of n xs)) a.0 ∙ b.1,
      )

-- ---- both halves

module _ (s : State) (m : List ℕ) where
  traffic : (xs : List PublicCall) → Carried s m xs → table_bytes ≤ length m → Traffic (state_of s m) (turns_of (length m) xs)
  unfolding state_of
  traffic xs d room = record { valid = d.left.valid room; few = d.few; close = d.close; single = d.single }

  after : (xs : List PublicCall) → Carried s m xs → others_of s.own (turns (state_of s m) (turns_of (length m) xs)).table ≡ others_at_end s m xs
  unfolding state_of
  after xs d = ap (λ (v : ModelState). others_of s.own v.table) (all-turns xs s m d.goes_on d.trace)

  own : (xs : List PublicCall) → Carried s m xs → (state_at_end s xs).own ≡ s.own
  unfolding state_of
  own xs d = ap (λ (v : ModelState). v.own) (sym (all-turns xs s m d.goes_on d.trace)) ∙ traffic_loses_nothing.own (state_of s m) (turns_of (length m) xs)

  -- nothing changed
  idle-after : (xs : List PublicCall) → Carried s m xs → length m < table_bytes → others_of s.own (view s.table m) ≡ others_at_end s m xs
  unfolding state_of
  idle-after xs d short = ap (λ (v : ModelState). others_of s.own v.table) (sym (all-idle (length m) short (state_of s m) xs).0) ∙ after xs d

  kept : (xs : List PublicCall) → Carried s m xs → Holds (λ (x : Statement). In x (held_or_heard_of s m xs)) (others_at_end s m xs)
  unfolding state_of
  kept xs d =
      by_test (leb table_bytes (length m))
      (λ y. subst (Holds (λ (x : Statement). In x (held_or_heard_of s m xs))) (after xs d)
      (traffic_loses_nothing.kept (state_of s m) (turns_of (length m) xs) (traffic xs d (leb-true table_bytes (length m) y))))
      (λ n. let short : length m < table_bytes = leb-false table_bytes (length m) n in
      rw ((all-idle (length m) short (state_of s m) xs).1, append-nil (statements (others_of s.own (view s.table m))), sym (idle-after xs d short))
      (holds-own (others_of s.own (view s.table m)) (keep-ascending id_of _ (view s.table m) (view-ascending s.table d.left.arranged m))))

  alike : (xs ys : List PublicCall) → Carried s m xs → Carried s m ys
      → ((x : Statement) → In x (heard_over (state_of s m) (turns_of (length m) xs)) ↔ In x (heard_over (state_of s m) (turns_of (length m) ys)))
      → statements (others_at_end s m xs) ≡ statements (others_at_end s m ys)
  unfolding state_of
  alike xs ys d e same =
      by_test (leb table_bytes (length m))
      (λ y. let room : table_bytes ≤ length m = leb-true table_bytes (length m) y in
      ap statements (sym (after xs d)) ∙ traffic_loses_nothing.alike (state_of s m) (turns_of (length m) xs) (turns_of (length m) ys) (traffic xs d room) (traffic ys e room) same
      ∙ ap statements (after ys e))
      (λ n. let short : length m < table_bytes = leb-false table_bytes (length m) n in ap statements (sym (idle-after xs d short) ∙ idle-after ys e short))

pub real_traffic_loses_nothing : RealTrafficLosesNothing
real_traffic_loses_nothing = record { own = own; kept = kept; alike = alike }
