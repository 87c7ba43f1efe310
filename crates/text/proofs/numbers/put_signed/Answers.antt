use mathlib.Core.Path.{refl}
use native.Mathlib.Omega.{arith}
use lib.ListN.{length-set}
use Rattle.text.specs.Decimal.{decimal}
use Rattle.text.proofs.Digits.{below_zero, not_below}
use Rattle.text.proofs.Puts.{put_front}
use Rattle.text.proofs.numbers.put_signed.Goals as goal

pub bounds-room-at : goal.bounds-room-at
bounds-room-at c =
    let e = below_zero c.args.v c.ranges.v c.if-v-lt0.true _ refl in
    omega (arith, rw e at c.requires)

pub put_decimal-requires : goal.put_decimal-requires
put_decimal-requires c =
    let e = below_zero c.args.v c.ranges.v c.if-v-lt0.true c.unsigned_abs.result c.unsigned_abs.ensures.value in
    simp length-set (omega (arith, rw e at c.requires))

pub returns-then-v-lt0 : goal.returns-then-v-lt0
returns-then-v-lt0 c =
    let e = below_zero c.args.v c.ranges.v c.if-v-lt0.true c.unsigned_abs.result c.unsigned_abs.ensures.value in
    rw e (put_front 45 (decimal c.unsigned_abs.result) c.args.room.now c.args.at c.put_decimal.new.room c.put_decimal.result c.put_decimal.ensures (rw e at c.requires))

pub put_decimal-requires-2 : goal.put_decimal-requires-2
put_decimal-requires-2 c =
    let e = not_below c.args.v c.ranges.v c.if-v-lt0.false c.unsigned_abs-2.result c.unsigned_abs-2.ensures.value in
    rw e at c.requires

pub returns : goal.returns
returns c =
    let e = not_below c.args.v c.ranges.v c.if-v-lt0.false c.unsigned_abs-2.result c.unsigned_abs-2.ensures.value in
    rw e c.put_decimal-2.ensures
