use Rattle.decide.proofs.Cases.{no_room, asks_new, inserts, bad_new}
use mathlib.Core.Bool.{not}
use mathlib.Core.Path.{ap}
use Rattle.decide.proofs.decide_new.Goals as goal

pub returns-then-t-ge-MOST_NODES : goal.returns-then-t-ge-MOST_NODES
returns-then-t-ge-MOST_NODES c v x =
    no_room c.args.t c.args.place c.args.version c.args.hash.now c.args.bytes.now v c.requires.0 x c.requires.1 c.if-t-ge-MOST_NODES.true

pub returns-then-not-is_carrying : goal.returns-then-not-is_carrying
returns-then-not-is_carrying c v x =
    asks_new c.args.t c.args.place c.args.version c.args.hash.now c.args.bytes.now v c.requires.0 x c.requires.1 c.if-t-ge-MOST_NODES.false c.is_carrying.result c.is_carrying.ensures (ap not c.if-not-is_carrying.true)

pub returns-then-is_fine : goal.returns-then-is_fine
returns-then-is_fine c v x =
    inserts c.args.t c.args.place c.args.version c.args.hash.now c.args.bytes.now v c.requires.0 x c.requires.1 c.if-t-ge-MOST_NODES.false c.is_carrying.result c.is_carrying.ensures
    (ap not c.if-not-is_carrying.false) c.is_fine.result c.is_fine.ensures c.if-is_fine.true

pub returns : goal.returns
returns c v x =
    bad_new c.args.t c.args.place c.args.version c.args.hash.now c.args.bytes.now v c.requires.0 x c.requires.1 c.if-t-ge-MOST_NODES.false c.is_carrying.result c.is_carrying.ensures
    (ap not c.if-not-is_carrying.false) c.is_fine.result c.is_fine.ensures c.if-is_fine.false
