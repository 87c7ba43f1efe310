use native.Mathlib.Omega.{arith}
use Prim.Native.Nat.{ℕ, ◌+◌, ◌-◌}
use mathlib.Core.Path.{◌≡◌, ◌∙◌}
use lib.ListN.{length-replicate}
use borrow.Rule.Slice.PartMut.{put_mid}
use Rattle.base.specs.Bytes.{noughts}
use Rattle.base.specs.Memory.{written}
use Rattle.base.proofs.Written.{put_written, part_length}
use Rattle.wire.proofs.Encoded.{closed}
use Rattle.wire.proofs.row.close_tlv.Goals as goal

pub returns : goal.returns
returns c =
    let d = c.args.d.now in
    let at = c.args.at in
    let n = c.args.n in
    let k = c.pad-k.result in
    let a = c.args.at + 4 + c.args.n in
    let q : a + k - a ≡ k = omega arith in
    let l = part_length d a k (omega arith) in
    let f : c.fill.new.self ≡ noughts k = rw (q, l) at (c.fill.ensures.after (λ y e. e)) in
    let w : put_mid a (a + k - a) d c.fill.new.self ≡ written d a (noughts k) = put_written d (noughts k) c.fill.new.self a (a + k - a) f (omega (arith, length-replicate {A = ℕ} k 0)) in
    (c.put_u16-2.ensures ∙ rw (c.put_u16.ensures, w) (closed d at c.args.kind n k c.pad-k.ensures.0 c.requires.1), omega arith)
