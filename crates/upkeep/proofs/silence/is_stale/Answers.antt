use mathlib.Core.Path.{ap, ◌∙◌}
use lib.Dec.{leb}
use Rattle.model.specs.Figures.{refresh_age}
use Rattle.upkeep.proofs.Leaving.{held-midway, meta_since, meta_age}
use Rattle.upkeep.proofs.silence.is_stale.Goals as goal

pub own_place-i-requires : goal.own_place-i-requires
own_place-i-requires c =
    (c.requires.0.table, held-midway c.args.clock c.args.s c.args.mem.now c.requires.1)

pub age_at-requires : goal.age_at-requires
age_at-requires c =
    (rw c.milliseconds.ensures.same (meta_since c.args.clock c.args.s c.args.mem.now c.own_place-i.result c.requires.0 c.own_place-i.ensures c.meta_at-e.result c.meta_at-e.ensures c.requires.1), c.milliseconds.ensures.within)

pub returns : goal.returns
returns c =
    ap (leb refresh_age) ((rw c.milliseconds.ensures.same at c.age_at.ensures) ∙ meta_age c.args.clock c.args.s c.args.mem.now c.own_place-i.result c.requires.0 c.own_place-i.ensures c.meta_at-e.result c.meta_at-e.ensures)
