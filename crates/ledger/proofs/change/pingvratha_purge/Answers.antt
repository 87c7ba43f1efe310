use mathlib.Core.List.{[]}
use Rattle.ledger.proofs.Answering.{table_ready}
use Rattle.ledger.proofs.Changing.{purge_no, purge_yes}
use Rattle.ledger.proofs.change.pingvratha_purge.Goals as goal

pub returns-in-Err : goal.returns-in-Err
returns-in-Err c = rw c.refused.ensures (purge_no c.requires c.args.clock c.args.randoms.now c.in-Err.refusal c.in-Err.ensures.number)

pub purge-requires : goal.purge-requires
purge-requires c =
    let r = table_ready c.requires c.args.clock [] tt c.in-Ok.ensures.number in
    rw c.in-Ok.ensures.held (r.0, r.1.0)

pub returns-in-Ok : goal.returns-in-Ok
returns-in-Ok c = purge_yes c.requires c.args.clock c.args.randoms.now c.purge.result c.in-Ok.ensures.number (rw c.in-Ok.ensures.held at c.purge.ensures)
