use mathlib.Core.Path.{refl}
use Rattle.table.proofs.Tables.{replaced}
use Rattle.table.proofs.replace.Goals as goal

pub returns : goal.returns
returns c =
    replaced c.args.t c.with_meta.result c.args.mem.now c.store.new.mem c.args.bytes.now c.args.i c.args.v c.entry-e.result c.meta_at-old.result.slot c.start_of.result c.args.hash c.requires.0 c.requires.1.1.0 c.requires.1.1.1
    c.entry-e.ensures c.start_of.ensures c.store.ensures c.meta_at-old.result c.meta_at-old.ensures refl c.requires.1.0 c.with_meta.ensures
