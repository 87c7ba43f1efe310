use Rattle.reach.proofs.Reaching.{found_own}
use Rattle.node.proofs.publish.own_place.Goals as goal

pub unwrap-requires : goal.unwrap-requires
unwrap-requires c = found_own c.args.t c.args.mem.now c.requires.0.arranged c.args.own c.find.result c.find.ensures c.requires.1

pub returns : goal.returns
returns c = rw c.unwrap.ensures at c.find.ensures
