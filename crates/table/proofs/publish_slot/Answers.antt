use Rattle.table.proofs.Tables.{edited}
use Rattle.table.proofs.publish_slot.Goals as goal

pub returns : goal.returns
returns c =
    λ m d k n w.
    edited c.args.t c.with_meta.result m c.args.mem.now c.args.i c.args.v c.entry.result c.args.len c.start_of-at.result c.hash16-hash.result c.meta_at-old.result k c.requires.1.0 c.meta_at-old.ensures
    c.start_of-at.ensures c.hash16-hash.ensures c.entry.ensures c.with_meta.ensures d n c.requires.1.1.0 w
