use mathlib.Core.Path.{sym, ap, ◌∙◌}
use mathlib.Core.Bool.{false}
use Rattle.model.specs.Trickle.{Trickle as ModelTrickle, spend}
use Rattle.trickle.specs.View.{trickle_of}
use Rattle.model.proofs.Cases.{event-point, event-over, event-none}
use Rattle.trickle.proofs.Trickle.tick.Goals as goal

pub returns-then-is_due : goal.returns-then-is_due
unfolding spend
returns-then-is_due c =
    sym (event-point c.args.clock c.args.random (trickle_of c.args.self) (sym c.is_due.ensures ∙ c.if-is_due.true))

pub returns-then-self-clock : goal.returns-then-self-clock
returns-then-self-clock c =
    ap (λ (n : ModelTrickle). record { sends = false; next = n }) c.doubled.ensures
    ∙ sym (event-over c.args.clock c.args.random (trickle_of c.args.self) (sym c.is_due.ensures ∙ c.if-is_due.false) c.if-self-clock.true)

pub returns-else-self-clock : goal.returns-else-self-clock
returns-else-self-clock c =
    sym (event-none c.args.clock c.args.random (trickle_of c.args.self) (sym c.is_due.ensures ∙ c.if-is_due.false) c.if-self-clock.false)
