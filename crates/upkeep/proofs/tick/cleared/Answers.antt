use Rattle.upkeep.proofs.Events.{dropped-readable, dropped_cleared}
use Rattle.upkeep.proofs.tick.cleared.Goals as goal

pub reach-found-requires : goal.reach-found-requires
reach-found-requires c =
    let e = c.milliseconds-now.ensures.same in
    rw e (dropped-readable c.args.clock c.args.endpoint c.args.s c.args.mem.now c.requires.1 c.drop_silent-a.result c.drop_silent-a.new.mem c.drop_silent-a.ensures (rw e at c.milliseconds-now.ensures.within))

pub returns : goal.returns
returns c =
    let e = c.milliseconds-now.ensures.same in
    dropped_cleared c.args.clock c.args.endpoint c.args.s c.args.mem.now c.requires.1 c.drop_silent-a.result c.drop_silent-a.new.mem c.drop_silent-a.ensures c.args.randoms c.reach-found.result.digest c.settle.result (rw e at c.reach-found.ensures.digest) (rw e at c.settle.ensures)
