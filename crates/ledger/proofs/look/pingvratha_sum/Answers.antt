use mathlib.Core.List.{[]}
use lib.ListN.{length}
use Rattle.ledger.proofs.Answering.{table_ready}
use Rattle.ledger.proofs.Sums.{sum-refused, sum-accepted}
use Rattle.ledger.proofs.look.pingvratha_sum.Goals as goal

pub returns-in-Err : goal.returns-in-Err
returns-in-Err c = rw c.refused.ensures (sum-refused c.args.clock (length c.args.memory.now) c.args.state c.args.memory.now c.in-Err.refusal c.in-Err.ensures.number)

pub summed-requires : goal.summed-requires
summed-requires c =
    let r = table_ready c.requires c.args.clock [] tt c.in-Ok.ensures.number in
    rw c.in-Ok.ensures.held (r.0, r.1.0)

pub returns-in-Ok : goal.returns-in-Ok
returns-in-Ok c = sum-accepted c.args.clock (length c.args.memory.now) c.args.state c.args.memory.now c.summed.result c.in-Ok.ensures.number (rw c.in-Ok.ensures.held at c.summed.ensures)
