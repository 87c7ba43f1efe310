use mathlib.Core.Path.{sym, ap, ◌∙◌}
use mathlib.Core.Bool.{true}
use Rattle.model.specs.Trickle.{Trickle as ModelTrickle}
use Rattle.model.proofs.Cases.{event_busy, event-alive, event_rests}
use Rattle.node.specs.View.{endpoint_of}
use Rattle.upkeep.proofs.tick.event_of.Goals as goal

pub returns-then-not-is_idle : goal.returns-then-not-is_idle
returns-then-not-is_idle c =
    let e = c.milliseconds-now.ensures.same in
    (rw e at c.tick.ensures) ∙ sym (event_busy c.args.clock c.args.random (endpoint_of c.args.e) (sym (rw e at c.is_idle.ensures) ∙ c.if-not-is_idle.true))

pub returns-then-now-e : goal.returns-then-now-e
returns-then-now-e c =
    let e = c.milliseconds-now.ensures.same in
    sym (event_rests c.args.clock c.args.random (endpoint_of c.args.e) (sym (rw e at c.is_idle.ensures) ∙ c.if-not-is_idle.false) (rw (e, c.from.ensures) at c.if-now-e.true))

pub returns-else-now-e : goal.returns-else-now-e
returns-else-now-e c =
    let e = c.milliseconds-now.ensures.same in
    ap (λ (t : ModelTrickle). record { sends = true; next = t }) (rw e at c.fresh.ensures)
    ∙ sym (event-alive c.args.clock c.args.random (endpoint_of c.args.e) (sym (rw e at c.is_idle.ensures) ∙ c.if-not-is_idle.false) (rw (e, c.from.ensures) at c.if-now-e.false))
