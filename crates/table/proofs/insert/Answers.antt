use Rattle.table.proofs.Tables.{added}
use Rattle.table.proofs.insert.Goals as goal

pub returns : goal.returns
returns c =
    added c.args.t c.insert_meta.result c.args.mem.now c.store.new.mem c.args.bytes.now c.args.i c.args.v c.entry-e.result c.free_slot.result c.start_of.result c.args.hash c.requires.0 c.requires.1.1.1.0 c.requires.1.1.1.1
    c.entry-e.ensures c.start_of.ensures c.store.ensures c.requires.1.0 c.requires.1.1.0 c.free_slot.ensures.0 c.free_slot.ensures.1 c.insert_meta.ensures
