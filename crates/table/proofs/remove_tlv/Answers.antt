use Rattle.table.proofs.Tables.{cut_out}
use Rattle.table.proofs.remove_tlv.Goals as goal

pub returns : goal.returns
returns c =
    cut_out c.args.t c.publish_slot.result c.args.mem.now c.remove_bytes.new.mem c.args.i c.args.v c.args.p c.start_of.result c.from-len.result c.meta_at-old.result c.requires.0 c.meta_at-old.ensures c.start_of.ensures c.from-len.ensures
    c.args.n c.requires.1.1 c.remove_bytes.ensures c.publish_slot.ensures
