use native.Mathlib.Omega.{arith}
use Prim.Native.Nat.{◌+◌, ◌/◌, ◌%◌}
use mathlib.Core.Path.{sym, ◌∙◌}
use lib.ListN.{length-set}
use Rattle.wire.specs.Groups.{groups}
use Rattle.base.proofs.Written.{written_on, written_last}
use Rattle.wire.proofs.Varints.{groups-small, groups_large, groups-some, large_length, small-length}
use Rattle.wire.proofs.groups.put_groups.Goals as goal

pub bounds-d-i : goal.bounds-d-i
bounds-d-i c = omega (arith, groups-some c.loop-v.v)

pub loop-v-preserved : goal.loop-v-preserved
loop-v-preserved c = (
  simp length-set c.loop-v.invariant.0,
  omega (arith, large_length c.loop-v.v (omega arith)),
  c.loop-v.invariant.2 ∙ rw (groups_large c.loop-v.v (omega arith)) (written_on c.loop-v.d c.loop-v.i (c.loop-v.v % 128 + 128) (groups (c.loop-v.v / 128)) (omega (arith, groups-some c.loop-v.v))),
)

pub bounds-d-i-2 : goal.bounds-d-i-2
bounds-d-i-2 c = omega (arith, groups-some c.loop-v.v)

pub returns : goal.returns
returns c =
    (sym (c.loop-v.invariant.2 ∙ rw (groups-small c.loop-v.v (omega arith)) (written_last c.loop-v.d c.loop-v.i c.loop-v.v (omega (arith, groups-some c.loop-v.v)))), omega (arith, small-length c.loop-v.v (omega arith)))
