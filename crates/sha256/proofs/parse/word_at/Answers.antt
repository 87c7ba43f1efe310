use mathlib.Core.Path.{◌≡◌, sym, ap, ◌∙◌}
use Prim.Native.Nat.{◌+◌, ◌<◌}
use native.Mathlib.Omega.{arith}
use lib.ListN.{length}
use Rattle.sha256.specs.Sha256.{end_of, pad, word_at}
use Rattle.sha256.proofs.Padding.{pad_data, pad-front, word_by, word-high, word_low, end_aligned}
use Rattle.sha256.proofs.parse.word_at.Goals as goal

pub returns-then-i-m : goal.returns-then-i-m
returns-then-i-m c =
    c.from_be_bytes.ensures ∙ word_by (pad c.args.m.now) c.args.i (pad_data c.args.m.now c.args.i (omega arith)) (pad_data c.args.m.now (c.args.i + 1) (omega arith)) (pad_data c.args.m.now (c.args.i + 2) (omega arith)) (pad_data c.args.m.now (c.args.i + 3) (omega arith))

pub returns-then-i-end : goal.returns-then-i-end
returns-then-i-end c =
    let in-front : c.args.i + 3 < end_of (length c.args.m.now) = omega (arith, end_aligned (length c.args.m.now), c.requires) in
    c.from_be_bytes-then-i-end.ensures
    ∙ word_by (pad c.args.m.now) c.args.i (pad-front c.args.m.now c.args.i (omega arith) ∙ sym c.byte_at.ensures)
    (pad-front c.args.m.now (c.args.i + 1) (omega arith) ∙ sym c.byte_at-then-i-end.ensures)
    (pad-front c.args.m.now (c.args.i + 2) (omega arith) ∙ sym c.byte_at-then-i-end-2.ensures)
    (pad-front c.args.m.now (c.args.i + 3) in-front ∙ sym c.byte_at-then-i-end-3.ensures)

pub returns-then-i-end-2 : goal.returns-then-i-end-2
returns-then-i-end-2 c =
    let e : end_of (length c.args.m.now) ≡ c.args.i = omega arith in
    word-high c.args.m.now ∙ ap (word_at (pad c.args.m.now)) e

pub returns-else-i-end-2 : goal.returns-else-i-end-2
returns-else-i-end-2 c =
    let e : end_of (length c.args.m.now) + 4 ≡ c.args.i = omega (arith, end_aligned (length c.args.m.now)) in
    word_low c.args.m.now ∙ ap (word_at (pad c.args.m.now)) e
