use Rattle.upkeep.proofs.Leaving.{midway-readable}
use Rattle.upkeep.proofs.Purging.{purged-readable, purged_settled}
use Rattle.upkeep.proofs.purge.purge.Goals as goal

pub reach-found-requires : goal.reach-found-requires
reach-found-requires c =
    let e = c.milliseconds-now.ensures.same in
    rw e (midway-readable c.args.clock c.args.s c.args.mem.now c.requires.1 c.requires.0 (rw e at c.milliseconds-now.ensures.within))

pub reach-again-requires : goal.reach-again-requires
reach-again-requires c =
    let e = c.milliseconds-now.ensures.same in
    rw e (purged-readable c.args.clock c.args.s c.args.mem.now c.requires.0 c.reach-found.result (rw e at c.reach-found.ensures) c.purge.result c.purge.ensures c.requires.1 (rw e at c.milliseconds-now.ensures.within))

pub returns : goal.returns
returns c =
    let e = c.milliseconds-now.ensures.same in
    purged_settled c.args.clock c.args.s c.args.mem.now c.requires.0 c.reach-found.result (rw e at c.reach-found.ensures) c.purge.result c.purge.ensures c.args.randoms c.reach-again.result c.settle.result (rw e at c.reach-again.ensures) (rw e at c.settle.ensures)
