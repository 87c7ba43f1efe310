-- What the invariant gives the code. Assumes nothing.
use mathlib.Core.Logic.{inl, inr}
use Prim.Native.Nat.{ℕ, ◌/◌, ◌≤◌, ◌<◌}
use native.Mathlib.Omega.{arith}
use Rattle.base.specs.Lists.{In}
use Rattle.model.specs.Figures.{last_reading, least_interval, greatest_interval}
use Rattle.model.specs.Invariant.{TrickleFits, intervals}
use Rattle.trickle.specs.declared.Trickle.{Trickle}
use Rattle.trickle.specs.View.{trickle_of, Small}

-- half an interval is some time
pub half-some : (i : ℕ) → least_interval ≤ i → 0 < i / 2
half-some i h = omega arith

-- an interval of the invariant is small
interval-small : (i : ℕ) → In i intervals → (least_interval ≤ i) × (i ≤ greatest_interval)
interval-small i (inl e) = omega arith
interval-small i (inr (inl e)) = omega arith
interval-small i (inr (inr (inl e))) = omega arith
interval-small i (inr (inr (inr (inl e)))) = omega arith
interval-small i (inr (inr (inr (inr (inl e))))) = omega arith
interval-small i (inr (inr (inr (inr (inr (inl e)))))) = omega arith
interval-small i (inr (inr (inr (inr (inr (inr (inl e))))))) = omega arith
interval-small i (inr (inr (inr (inr (inr (inr (inr (inl e)))))))) = omega arith
interval-small i (inr (inr (inr (inr (inr (inr (inr (inr x)))))))) = elim x [ ]

-- what the invariant says of a Trickle state is all that its methods ask
pub fits-small : (last : ℕ) (t : Trickle) → last ≤ last_reading → TrickleFits last (trickle_of t) → Small t
fits-small last t l h =
    let k = interval-small t.interval h.interval in
    record { start = omega (arith, h.start); point = omega (arith, h.high, k.1); low = k.0; high = k.1 }
