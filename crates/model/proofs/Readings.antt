-- The reading of an accepted call: no earlier than the last, which so only rises. Assumes nothing.
use Rattle.std.proofs.Common.{◌≡◌, ℕ, suc, ◌≤◌, Bool, true, false, cond, eqb, List, refl, arith, eqb-true}
use Rattle.base.proofs.Options.{by_cond}
use Rattle.wire.specs.Payment.{Payment}
use Rattle.model.specs.State.{State, settle}
use Rattle.model.specs.Refusals.{late, back, no_such_endpoint}
use Rattle.model.specs.Begin.{Done}
use Rattle.model.specs.Tick.{Sent, ticked, refusal_tick, tick}
use Rattle.model.specs.Receive.{Call, Answer, handled, refusal_receive, answered, receive}
use Rattle.model.specs.Pay.{paid, refusal_pay, pay, purged, refusal_purge, purge}
use Rattle.model.specs.KeepAlive.{chosen, refusal_keep_alive, keep_alive}
use Rattle.model.proofs.KeptParts.{not_back, one_to_four}

-- ---- a call that is not refused has a reading that is no earlier than the last, and an endpoint of ours

passes : (b : Bool) (m n : ℕ) → eqb (cond b (suc m) n) 0 ≡ true → (b ≡ false) × (eqb n 0 ≡ true)
passes true m n e = absurd (omega (arith, eqb-true (suc m) 0 e))
passes false m n e = (refl, e)

-- the first two refusals, before a further one n
abbrev refusal_then : ℕ → State → ℕ → ℕ
refusal_then clock s n = cond (late clock).applies 1 (cond (back clock s).applies 2 n)

further : (clock : ℕ) (s : State) (n : ℕ) → eqb (refusal_then clock s n) 0 ≡ true → (s.last ≤ clock) × (eqb n 0 ≡ true)
further clock s n e =
    let p = passes (back clock s).applies 1 n (passes (late clock).applies 0 (cond (back clock s).applies 2 n) e).1 in
    (not_back clock s p.0, p.1)

pub on_time : (clock : ℕ) (s : State) (n : ℕ) → eqb (refusal_then clock s n) 0 ≡ true → s.last ≤ clock
on_time clock s n e = (further clock s n e).0

pub one_of_ours : (clock i : ℕ) (s : State) (n : ℕ) → eqb (refusal_then clock s (cond (no_such_endpoint i).applies 3 n)) 0 ≡ true → (1 ≤ i) × (i ≤ 4)
one_of_ours clock i s n e = one_to_four i (passes (no_such_endpoint i).applies 2 n (further clock s (cond (no_such_endpoint i).applies 3 n) e).1).0

-- ---- the last reading only rises

pub receive-last : (c : Call) (s : State) → s.last ≤ (receive c s).state.last
unfolding receive settle
receive-last c s =
    by_cond (λ (a : Answer). s.last ≤ a.state.last) (eqb (refusal_receive c s) 0) (answered c (handled s c)) _ (λ b. on_time c.clock s _ b) (λ b. omega arith)

pub tick-last : (clock i : ℕ) (rs : List ℕ) (table room : ℕ) (s : State) → s.last ≤ (tick clock i rs table room s).state.last
unfolding tick ticked settle
tick-last clock i rs table room s =
    by_cond (λ (a : Sent). s.last ≤ a.state.last) (eqb (refusal_tick clock i table room s) 0) (ticked clock i rs s) _ (λ b. on_time clock s _ b) (λ b. omega arith)

pub pay-last : (clock : ℕ) (p : Payment) (rs : List ℕ) (table : ℕ) (s : State) → s.last ≤ (pay clock p rs table s).state.last
unfolding pay paid settle
pay-last clock p rs table s =
    by_cond (λ (a : Done). s.last ≤ a.state.last) (eqb (refusal_pay clock p table s) 0) (record { number = 0; state = paid clock p rs s }) _
    (λ b. on_time clock s _ b) (λ b. omega arith)

pub purge-last : (clock : ℕ) (rs : List ℕ) (table : ℕ) (s : State) → s.last ≤ (purge clock rs table s).state.last
unfolding purge purged settle
purge-last clock rs table s =
    by_cond (λ (a : Done). s.last ≤ a.state.last) (eqb (refusal_purge clock table s) 0) (record { number = 0; state = purged clock rs s }) _
    (λ b. on_time clock s _ b) (λ b. omega arith)

pub choice_last : (clock j n : ℕ) (rs : List ℕ) (table : ℕ) (s : State) → s.last ≤ (keep_alive clock j n rs table s).state.last
unfolding keep_alive chosen settle
choice_last clock j n rs table s =
    by_cond (λ (a : Done). s.last ≤ a.state.last) (eqb (refusal_keep_alive clock j n table s) 0) (record { number = 0; state = chosen clock j n rs s }) _
    (λ b. on_time clock s _ b) (λ b. omega arith)
