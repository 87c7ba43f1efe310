use Rattle.std.proofs.Common.{ℕ, ap}
use native.Mathlib.Omega.{arith}
use Rattle.model.specs.Trickle.{Trickle as ModelTrickle, hear}
use Rattle.trickle.proofs.Trickle.hear.Goals as goal

pub returns : goal.returns
unfolding hear
returns c =
    let t = c.args.self in
    let counted : ℕ → ModelTrickle =
    λ n. record { start = t.start; point = t.point; interval = t.interval; count = n; spent = t.spent } in
    ap counted (omega arith)
