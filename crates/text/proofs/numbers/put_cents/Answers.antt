use native.Mathlib.Omega.{arith}
use lib.ListN.{length-set}
use mir.Syntax.{w64}
use Rattle.base.proofs.Signed.{narrow_back}
use Rattle.text.proofs.Puts.{cents_fits, cents_end, cents_put}
use Rattle.text.proofs.numbers.put_cents.Goals as goal

pub put_signed-e-requires : goal.put_signed-e-requires
put_signed-e-requires c =
    rw (narrow_back w64 c.args.v c.ranges.v) (cents_fits c.args.room.now c.args.at c.args.v c.requires)

pub bounds-room-e : goal.bounds-room-e
bounds-room-e c =
    cents_end c.args.room.now c.args.at c.args.v c.requires c.put_signed-e.new.room c.put_signed-e.result (rw (narrow_back w64 c.args.v c.ranges.v) at c.put_signed-e.ensures) c.put_signed-e.auto.room

pub overflow_add-result : goal.overflow_add-result
overflow_add-result c =
    omega (arith, cents_end c.args.room.now c.args.at c.args.v c.requires c.put_signed-e.new.room c.put_signed-e.result (rw (narrow_back w64 c.args.v c.ranges.v) at c.put_signed-e.ensures) c.put_signed-e.auto.room, c.put_signed-e.auto.room, length-set c.args.room.now c.args.at 32, c.well_formed.0.0)

pub returns : goal.returns
returns c =
    cents_put c.args.room.now c.args.at c.args.v c.requires c.put_signed-e.new.room c.put_signed-e.result (rw (narrow_back w64 c.args.v c.ranges.v) at c.put_signed-e.ensures) c.put_signed-e.auto.room
