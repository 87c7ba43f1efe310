use Rattle.std.proofs.Common.{rules, ap, get_or}
use Rattle.node.specs.View.{endpoint_of}
use native.Mathlib.Omega.{arith}
use Rattle.model.specs.Trickle.{Trickle}
use Rattle.model.specs.State.{with_trickle}
use Rattle.node.proofs.Settling.{no_endpoint, reset-none, reset_next, reset_four}
use Rattle.node.proofs.settle.reset_all.Goals as goal

pub loop-i-init : goal.loop-i-init
loop-i-init c = reset-none c.args.clock c.args.randoms c.args.es (search rules)

pub loop-i-preserved : goal.loop-i-preserved
loop-i-preserved c =
    reset_next c.args.clock c.args.randoms c.args.es c.loop-i.es c.loop-i.i _ c.loop-i.invariant (omega arith)
    (ap (λ (t : Trickle). with_trickle t (endpoint_of (get_or c.loop-i.es c.loop-i.i no_endpoint))) c.reset.ensures)

pub returns : goal.returns
returns c =
    (c.loop-i.invariant.four, reset_four c.args.clock c.args.randoms c.args.es c.loop-i.es c.loop-i.i c.loop-i.invariant (search rules) (search rules) (omega arith))
