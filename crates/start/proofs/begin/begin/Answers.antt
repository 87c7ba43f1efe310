-- `well_formed` holds the length of the random numbers' array.
use native.Mathlib.Omega.{arith}
use Rattle.start.proofs.Starting.{begun-readable, begun-moved}
use Rattle.start.proofs.begin.begin.Goals as goal

pub with_digest-requires : goal.with_digest-requires
with_digest-requires c =
    rw c.milliseconds-now.ensures.same
    (begun-readable c.args.own c.args.clock c.args.randoms (omega (arith, c.ranges.own)) (rw c.milliseconds-now.ensures.same at c.milliseconds-now.ensures.within) c.well_formed.1.1.0.1.0.1
    c.begin-t.result c.args.mem.now (rw c.milliseconds-now.ensures.same at c.begin-t.ensures.1) c.undigested-s.result (c.undigested-s.ensures.0 c.args.mem.now c.begin-t.ensures.0))

pub returns : goal.returns
returns c =
    begun-moved c.args.own c.args.clock c.args.randoms (omega (arith, c.ranges.own)) (rw c.milliseconds-now.ensures.same at c.milliseconds-now.ensures.within) c.well_formed.1.1.0.1.0.1
    c.begin-t.result c.args.mem.now (rw c.milliseconds-now.ensures.same at c.begin-t.ensures.1) c.undigested-s.result (c.undigested-s.ensures.0 c.args.mem.now c.begin-t.ensures.0) c.with_digest.result (rw c.milliseconds-now.ensures.same at c.with_digest.ensures.0)
