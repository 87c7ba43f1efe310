use native.Mathlib.Omega.{arith}
use mathlib.Core.Path.{ap, ◌∙◌}
use Prim.Native.Nat.{ℕ}
use Rattle.base.specs.Bytes.{big16}
use Rattle.base.specs.Memory.{written}
use Rattle.message.proofs.Filled.{numbered-none, numbered_on, numbered_all, tlv-filled}
use Rattle.message.proofs.put_tlv.Goals as goal

pub loop-i-init : goal.loop-i-init
loop-i-init c = numbered-none _ _ _

pub loop-i-preserved : goal.loop-i-preserved
loop-i-preserved c =
    numbered_on _ _ _ _ _ c.loop-i.i c.loop-i.invariant c.loop-i-test.true (omega arith) c.put_u32.ensures

pub returns : goal.returns
returns c =
    tlv-filled c.args.d.now _ _ _ c.args.at _ c.args.size c.args.values.now c.requires.0
    (c.put_u16.ensures ∙ ap (λ (n : ℕ). written c.args.d.now c.args.at (big16 n)) c.from.ensures) c.put_u16-2.ensures
    (numbered_all _ _ _ _ c.loop-i.i c.loop-i.invariant c.loop-i-test.false)
