use mathlib.Core.Path.{refl, ◌∙◌}
use Prim.Native.Nat.{◌+◌, ◌-◌}
use Rattle.base.proofs.Lists.{part-is}
use Rattle.node.proofs.Editing.{left_there, swapped}
use Rattle.node.proofs.publish.swap_bytes.Goals as goal

pub place_of-q-requires : goal.place_of-q-requires
place_of-q-requires c =
    rw (part-is c.remove_bytes.new.mem c.args.at _ (c.args.len - c.args.n) refl ∙ left_there c.args.mem.now c.args.at c.args.len c.args.p c.args.n c.args.tlv.now c.requires.0 c.requires.1.0 c.remove_bytes.new.mem (c.args.len - c.args.n) c.remove_bytes.ensures refl)
    c.requires.1.1.1

pub returns : goal.returns
returns c =
    swapped c.args.mem.now c.args.at c.args.len c.args.p c.args.n c.args.tlv.now c.requires.0 c.requires.1.0 c.requires.1.1.0 c.requires.1.1.1 c.remove_bytes.new.mem c.insert_bytes.new.mem (c.args.len - c.args.n) (c.args.at + (c.args.len - c.args.n)) c.place_of-q.result
    c.remove_bytes.ensures refl refl c.place_of-q.ensures.1 c.insert_bytes.ensures
