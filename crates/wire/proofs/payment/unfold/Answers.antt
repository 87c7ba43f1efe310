use native.Mathlib.Omega.{arith}
use mathlib.Core.Path.{◌≡◌, ◌∙◌}
use Prim.Native.Nat.{◌/◌}
use lib.IntN.{pos, negsuc, ◌-ℤ◌}
use mir.Syntax.{w32}
use mir.Val.{to_z, of_z}
use Rattle.std.proofs.lemmas.Int.{ints}
use Rattle.wire.proofs.Folding.{unfold_even, unfold_odd}
use Rattle.wire.proofs.payment.unfold.Goals as goal

pub returns-then-u-eq0 : goal.returns-then-u-eq0
returns-then-u-eq0 c =
    let e : to_z w32 (c.args.u / 2) ≡ pos (c.args.u / 2) = omega (arith, ints) in
    e ∙ unfold_even c.args.u c.if-u-eq0.true

pub returns-else-u-eq0 : goal.returns-else-u-eq0
returns-else-u-eq0 c =
    let e : to_z w32 (of_z w32 (negsuc 0 -ℤ to_z w32 (c.args.u / 2))) ≡ negsuc (c.args.u / 2) = omega (arith, ints) in
    e ∙ unfold_odd c.args.u c.if-u-eq0.false
