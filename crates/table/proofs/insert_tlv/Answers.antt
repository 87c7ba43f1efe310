use Rattle.table.proofs.Tables.{spliced_in}
use Rattle.table.proofs.insert_tlv.Goals as goal

pub returns : goal.returns
returns c =
    spliced_in c.args.t c.publish_slot.result c.args.mem.now c.insert_bytes.new.mem c.args.i c.args.v c.args.p c.start_of.result c.from-len.result c.meta_at-old.result c.requires.0 c.meta_at-old.ensures c.start_of.ensures c.from-len.ensures
    c.args.bytes.now c.requires.1.1.0 c.insert_bytes.ensures c.publish_slot.ensures
