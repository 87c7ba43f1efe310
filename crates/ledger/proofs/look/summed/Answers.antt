use borrow.Author.Rules.{rules}
use Rattle.upkeep.proofs.Leaving.{midway-readable}
use Rattle.ledger.proofs.Sums.{midway-good, summing}
use Rattle.ledger.proofs.look.summed.Goals as goal

pub reach-found-requires : goal.reach-found-requires
reach-found-requires c =
    let e = c.milliseconds-now.ensures.same in
    rw e (midway-readable c.args.clock c.args.state c.args.memory.now c.requires.1 c.requires.0 (rw e at c.milliseconds-now.ensures.within))

pub tally-t-requires : goal.tally-t-requires
tally-t-requires c =
    (c.requires.0.table, midway-good c.args.clock c.args.state c.args.memory.now c.requires.1)

pub returns : goal.returns
returns c =
    summing c.args.clock c.args.state c.args.memory.now c.args.whose c.reach-found.result (rw c.milliseconds-now.ensures.same at c.reach-found.ensures) c.tally-t.result c.tally-t.ensures (search rules)
