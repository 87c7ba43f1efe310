use Rattle.ledger.proofs.Shown.{shows_nothing, shows-found}
use Rattle.ledger.proofs.look.pingvratha_show.Goals as goal

pub returns-in-Err : goal.returns-in-Err
returns-in-Err c = shows_nothing c.args.node c.args.state c.args.memory.now _ c.in-Err.ensures

pub meta_at-e-requires : goal.meta_at-e-requires
meta_at-e-requires c = (c.requires.arranged, c.in-Ok.ensures.0.at)

pub returns-in-Ok : goal.returns-in-Ok
returns-in-Ok c =
    shows-found c.args.node c.args.state c.args.memory.now c.requires c.in-Ok.i c.in-Ok.ensures c.meta_at-e.result c.meta_at-e.ensures c.start_of.result c.start_of.ensures
