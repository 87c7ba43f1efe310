use Rattle.decide.proofs.Cases.{decided}
use Rattle.decide.proofs.decide.Goals as goal

pub decide_held-requires : goal.decide_held-requires
decide_held-requires c = (c.requires.0.arranged, c.in-Ok.ensures)

pub decide_new-requires : goal.decide_new-requires
decide_new-requires c = (c.requires.0.arranged, c.in-Err.ensures)

pub returns-in-Ok : goal.returns-in-Ok
returns-in-Ok c =
    decided c.args.t c.args.value.now _ c.read_u32.ensures c.read_u32-2.ensures c.read_u32-3.ensures c.decide_held.result c.decide_held.ensures c.args.mem.now c.requires.0

pub returns-in-Err : goal.returns-in-Err
returns-in-Err c =
    decided c.args.t c.args.value.now _ c.read_u32.ensures c.read_u32-2.ensures c.read_u32-3.ensures c.decide_new.result c.decide_new.ensures c.args.mem.now c.requires.0
