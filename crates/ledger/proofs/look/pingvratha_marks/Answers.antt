use mathlib.Core.List.{[]}
use lib.ListN.{length}
use Rattle.upkeep.proofs.Leaving.{midway-readable}
use Rattle.ledger.proofs.Answering.{table_ready}
use Rattle.ledger.proofs.Listing.{marks-refused, marks-accepted}
use Rattle.ledger.proofs.look.pingvratha_marks.Goals as goal

pub returns-in-Err : goal.returns-in-Err
returns-in-Err c = rw c.refused.ensures (marks-refused c.args.clock (length c.args.memory.now) c.args.state c.args.memory.now c.in-Err.refusal c.in-Err.ensures.number)

pub reach-found-requires : goal.reach-found-requires
reach-found-requires c =
    let p = table_ready c.requires c.args.clock [] tt c.in_default.ensures.number in
    midway-readable c.args.clock c.args.state c.args.memory.now p.1.0 p.0 p.1.1

pub returns : goal.returns
returns c =
    marks-accepted c.args.clock (length c.args.memory.now) c.args.state c.args.memory.now c.reach-found.result c.reach-found.ensures c.marked_nodes-n.result c.marked_nodes-n.ensures c.in_default.ensures.number
