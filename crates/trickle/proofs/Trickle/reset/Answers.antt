use mathlib.Core.Path.{sym, ◌∙◌}
use native.Mathlib.Omega.{arith}
use Rattle.trickle.specs.View.{trickle_of}
use Rattle.model.proofs.Cases.{reset_longer, reset-least}
use Rattle.trickle.proofs.Trickle.reset.Goals as goal

pub returns-then-self-gt-LEAST_INTERVAL : goal.returns-then-self-gt-LEAST_INTERVAL
returns-then-self-gt-LEAST_INTERVAL c =
    c.fresh.ensures ∙ sym (reset_longer c.args.clock c.args.random (trickle_of c.args.self) (omega arith))

pub returns-else-self-gt-LEAST_INTERVAL : goal.returns-else-self-gt-LEAST_INTERVAL
returns-else-self-gt-LEAST_INTERVAL c = sym (reset-least c.args.clock c.args.random (trickle_of c.args.self) (omega arith))
