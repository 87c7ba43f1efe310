use Rattle.decide.proofs.Cases.{unwanted, replaces, bad_held, renumbers, asks_held, compared}
use mathlib.Core.Bool.{not}
use mathlib.Core.Path.{ap, refl}
use Rattle.decide.proofs.decide_held.Goals as goal

pub returns-then-not-is_different : goal.returns-then-not-is_different
returns-then-not-is_different c v x =
    unwanted c.args.t c.args.place c.args.version c.args.hash.now c.args.bytes.now v c.requires.0 x c.meta_at-e.result c.requires.1 c.meta_at-e.ensures
    c.is_different.result c.is_different.ensures (ap not c.if-not-is_different.true)

pub returns-then-is_fine : goal.returns-then-is_fine
returns-then-is_fine c v x =
    replaces c.args.t c.args.place c.args.version c.args.hash.now c.args.bytes.now v c.requires.0 x c.meta_at-e.result c.requires.1 c.meta_at-e.ensures
    c.is_different.result c.is_different.ensures (ap not c.if-not-is_different.false)
    c.is_carrying.result c.is_carrying.ensures c.if-is_carrying.true c.is_fine.result c.is_fine.ensures c.if-is_fine.true

pub returns-then-is_carrying : goal.returns-then-is_carrying
returns-then-is_carrying c v x =
    bad_held c.args.t c.args.place c.args.version c.args.hash.now c.args.bytes.now v c.requires.0 x c.meta_at-e.result c.requires.1 c.meta_at-e.ensures
    c.is_different.result c.is_different.ensures (ap not c.if-not-is_different.false)
    c.is_carrying.result c.is_carrying.ensures c.if-is_carrying.true c.is_fine.result c.is_fine.ensures c.if-is_fine.false

pub returns-then-eq : goal.returns-then-eq
returns-then-eq c v x =
    renumbers c.args.t c.args.place c.args.version c.args.hash.now c.args.bytes.now v c.requires.0 x c.meta_at-e.result c.requires.1 c.meta_at-e.ensures
    c.is_different.result c.is_different.ensures (ap not c.if-not-is_different.false)
    c.is_carrying.result c.is_carrying.ensures c.if-is_carrying.false c.eq.result (compared c.eq.ensures c.as_slice.ensures refl) c.if-eq.true

pub returns : goal.returns
returns c v x =
    asks_held c.args.t c.args.place c.args.version c.args.hash.now c.args.bytes.now v c.requires.0 x c.meta_at-e.result c.requires.1 c.meta_at-e.ensures
    c.is_different.result c.is_different.ensures (ap not c.if-not-is_different.false)
    c.is_carrying.result c.is_carrying.ensures c.if-is_carrying.false c.eq.result (compared c.eq.ensures c.as_slice.ensures refl) c.if-eq.false
