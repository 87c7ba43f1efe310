use native.Mathlib.Omega.{arith}
use Prim.Native.Nat.{◌+◌, ◌-◌, ◌≤◌}
use mathlib.Core.Path.{◌≡◌, sym, ◌∙◌}
use lib.ListN.{length}
use Rattle.base.specs.Memory.{written}
use Rattle.wire.specs.Row.{padding}
use Rattle.wire.specs.Payment.{Payment, payment_value, payment_tlv}
use Rattle.wire.proofs.Encoded.{put-closed, encode-length}
use Rattle.wire.specs.Answers.{told}
use Rattle.wire.proofs.payment.put_payment.Goals as goal

pub returns : goal.returns
unfolding payment_tlv
returns c =
    let p : Payment = told c.args.payment in
    let w : c.put_value-e.new.d ≡ written c.args.d.now 4 (payment_value p) = c.put_value-e.ensures.0 in
    let r : c.put_value-e.result ≡ 4 + length (payment_value p) = c.put_value-e.ensures.1 in
    let b : c.put_value-e.result ≤ 19 = c.put_value-e.ensures.2 in
    let n : c.put_value-e.result - 4 ≡ length (payment_value p) = omega arith in
    let g : 4 + (length (payment_value p) + padding (length (payment_value p))) ≤ 20 = omega arith in
    let e : c.close_tlv.result ≡ 4 + (length (payment_value p) + padding (length (payment_value p))) = c.close_tlv.ensures.1 ∙ rw n (omega arith) in
    (put-closed c.args.d.now c.put_value-e.new.d c.close_tlv.new.d 0 40 (c.put_value-e.result - 4) (payment_value p) w n c.close_tlv.ensures.0 (omega arith), e ∙ sym (encode-length 40 (payment_value p)), omega arith)
