use native.Mathlib.Omega.{arith}
use mathlib.Core.List.{[], ◌∷◌}
use lib.ListN.{length}
use Rattle.model.specs.Refusals.{no_household}
use Rattle.ledger.proofs.Answering.{table_ready}
use Rattle.ledger.proofs.Sums.{total-refused, total-accepted}
use Rattle.ledger.proofs.look.pingvratha_total.Goals as goal

pub returns-in-Err : goal.returns-in-Err
returns-in-Err c =
    rw c.refused.ensures (total-refused c.args.clock (length c.args.memory.now) c.args.state c.args.memory.now c.args.household c.in-Err.refusal c.in-Err.ensures.number)

pub summed-requires : goal.summed-requires
summed-requires c =
    let r = table_ready c.requires c.args.clock (no_household c.args.household ∷ []) (omega arith) c.in-Ok.ensures.number in
    rw c.in-Ok.ensures.held (r.0, r.1.0)

pub returns-in-Ok : goal.returns-in-Ok
returns-in-Ok c =
    total-accepted c.args.clock (length c.args.memory.now) c.args.state c.args.memory.now c.args.household c.summed.result c.in-Ok.ensures.number (rw c.in-Ok.ensures.held at c.summed.ensures)
