use Rattle.ledger.proofs.Changing.{choice_ready, choice_no, choice_yes}
use Rattle.ledger.proofs.change.pingvratha_keep_alive.Goals as goal

pub returns-in-Err : goal.returns-in-Err
returns-in-Err c =
    rw c.refused.ensures (choice_no c.requires c.args.clock c.args.randoms.now c.args.endpoint c.args.interval c.in-Err.refusal c.in-Err.ensures.number)

pub choose-requires : goal.choose-requires
choose-requires c = rw (c.in-Ok.ensures.held.0, c.in-Ok.ensures.held.1) (choice_ready c.requires c.args.clock c.args.randoms.now c.args.endpoint c.args.interval c.in-Ok.ensures.number)

pub returns-in-Ok : goal.returns-in-Ok
returns-in-Ok c =
    choice_yes c.requires c.args.clock c.args.randoms.now c.args.endpoint c.args.interval c.choose.result c.choose.new.mem c.in-Ok.ensures.number (rw (c.in-Ok.ensures.held.0, c.in-Ok.ensures.held.1) at c.choose.ensures)
