use mathlib.Core.Path.{refl}
use native.Mathlib.Omega.{arith}
use native.Mathlib.Nat.{mod-lt}
use Rattle.model.specs.Trickle.{fresh}
use Rattle.trickle.proofs.Laws.{half-some}
use Rattle.trickle.proofs.Trickle.fresh.Goals as goal

pub overflow_add-result : goal.overflow_add-result
overflow_add-result c = record { fits = omega (arith, mod-lt c.from.result (half-some c.args.interval c.requires.0)) }

pub returns : goal.returns
unfolding fresh
returns c = rw c.from.ensures refl
