-- The event of an endpoint at a reading, by its cases: the send point, the interval's end, a keep-alive, or nothing. Assumes nothing.
use Rattle.std.proofs.Common.{◌≡◌, ℕ, ◌+◌, ◌*◌, ◌/◌, ◌%◌, ◌<◌, ◌≤◌, min, true, false, ltb, leb, sym, ◌∙◌, subst, arith, leb-false, leb-true}
use borrow.Author.Tests.{lt-leb}
use Rattle.base.proofs.Tests.{by_test}
use Rattle.model.specs.Figures.{greatest_interval, redundancy}
use Rattle.model.specs.Trickle.{Trickle, Event, fresh, spend, point_due, interval_over, is_idle}
use Rattle.model.specs.State.{Endpoint}
use Rattle.model.specs.Tick.{endpoint_event, after_event}
use Rattle.model.proofs.Cases.{event-point, event-over, event_busy, event-alive, event_rests}

-- neither the send point nor the end of the interval is due
pub record Idle (clock : ℕ) (t : Trickle) : Type 0 where
  pub point : point_due clock t ≡ false
  pub running : clock < t.start + t.interval

-- an interval that starts now
pub fresh-idle : (clock i random : ℕ) → 2 ≤ i → Idle clock (fresh clock i random)
unfolding fresh
fresh-idle clock i random h = record { point = lt-leb (clock + (i / 2 + random % (i / 2))) clock (omega arith); running = omega arith }

-- no keep-alive is due
abbrev pub Quiet : ℕ → Endpoint → Type 0
Quiet clock e = clock < e.quiet + e.keep

module _ (clock random : ℕ) (e : Endpoint) where
  abbrev t : Trickle
  t = e.trickle

  abbrev event : Event
  event = endpoint_event clock random e

  -- the endpoint after it
  abbrev pub turn : Endpoint
  turn = after_event clock random event e

  abbrev pub at_point : Event
  at_point = record { sends = ltb t.count redundancy; next = spend t }

  abbrev pub at_end : Event
  at_end = record { sends = false; next = fresh clock (min (t.interval * 2) greatest_interval) random }

  abbrev pub kept_alive : Event
  kept_alive = record { sends = true; next = fresh clock t.interval random }

  abbrev pub nothing : Event
  nothing = record { sends = false; next = t }

  idle : Idle clock t → is_idle clock t ≡ true
  idle h = rw (h.point, lt-leb (t.start + t.interval) clock h.running)

  pub by_event : (P : Event → Type 0) → (point_due clock t ≡ true → P at_point) → (point_due clock t ≡ false → t.start + t.interval ≤ clock → P at_end)
      → (Idle clock t → e.quiet + e.keep ≤ clock → P kept_alive) → (Idle clock t → Quiet clock e → P nothing) → P event
  by_event P point over alive none =
      by_test (point_due clock t) (λ b. subst P (sym (event_busy clock random e (rw b) ∙ event-point clock random t b)) (point b))
      (λ b. by_test (interval_over clock t)
      (λ o. let l : t.start + t.interval ≤ clock = leb-true (t.start + t.interval) clock o in
      subst P (sym (event_busy clock random e (rw (b, o)) ∙ event-over clock random t b l)) (over b l))
      (λ o. waits (record { point = b; running = leb-false (t.start + t.interval) clock o })))
    where
      waits : Idle clock t → P event
      waits i =
          by_test (leb (e.quiet + e.keep) clock)
          (λ k. let l : e.quiet + e.keep ≤ clock = leb-true (e.quiet + e.keep) clock k in subst P (sym (event-alive clock random e (idle i) l)) (alive i l))
          (λ k. let l : Quiet clock e = leb-false (e.quiet + e.keep) clock k in subst P (sym (event_rests clock random e (idle i) l)) (none i l))
