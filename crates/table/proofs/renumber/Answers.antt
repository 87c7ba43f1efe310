use Rattle.table.proofs.Tables.{renumbered_by}
use Rattle.table.proofs.renumber.Goals as goal

pub returns : goal.returns
returns c =
    renumbered_by c.args.t c.with_meta.result c.args.i c.args.v.id c.args.v.seq c.args.v.age c.args.v.since c.meta_at-old.result c.requires.0 c.requires.1 c.meta_at-old.ensures c.with_meta.ensures
