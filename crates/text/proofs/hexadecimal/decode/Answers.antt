use mathlib.Core.Path.{◌≡◌}
use Prim.Native.Nat.{◌+◌, ◌*◌, ◌/◌, ◌<◌}
use native.Mathlib.Omega.{arith}
use lib.ListN.{length, get_or}
use Rattle.text.specs.Hexadecimal.{byte}
use Rattle.text.proofs.Pairs.{bytes_left, bytes_more, bytes-read}
use Rattle.text.proofs.hexadecimal.decode.Goals as goal

pub loop-i-preserved : goal.loop-i-preserved
loop-i-preserved c =
    let s = c.args.word.now in
    let w = c.loop-i.word in
    let i = c.loop-i.i in
    let is : c.unwrap_or-high.result * 16 + c.unwrap_or-low.result ≡ byte (get_or w (2 * i) 0) (get_or w (2 * i + 1) 0) =
    rw (c.unwrap_or-high.ensures, c.unwrap_or-low.ensures, c.digit.ensures.0, c.digit-in-loop-i.ensures.0) in
    let f : 2 * i + 1 < length s = omega arith in
    (bytes_left s w i c.loop-i.auto.word c.loop-i.invariant.0 c.loop-i.invariant.1 f _ is, bytes_more s w i c.loop-i.auto.word c.loop-i.invariant.0 c.loop-i.invariant.1 f _ is)

pub returns : goal.returns
returns c =
    let e : c.loop-i.i ≡ length c.args.word.now / 2 = omega arith in
    (rw (← e) (bytes-read c.args.word.now c.loop-i.word c.loop-i.i c.loop-i.auto.word c.loop-i.invariant.0 c.loop-i.invariant.1 (omega arith)), omega arith, c.loop-i.auto.word)
