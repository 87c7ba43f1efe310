use mathlib.Core.Path.{◌≡◌, sym, ◌∙◌}
use Prim.Native.Nat.{◌+◌, ◌*◌}
use lib.ListN.{length-set}
use native.Mathlib.Omega.{arith}
use Rattle.text.proofs.Pairs.{pairs_length, pairs-written, pairs-done}
use Rattle.text.proofs.hexadecimal.put_pairs.Goals as goal

pub bounds-room-at-in-loop-i : goal.bounds-room-at-in-loop-i
bounds-room-at-in-loop-i c = simp length-set (omega (arith, pairs_length c.args.d.now))

pub loop-i-preserved : goal.loop-i-preserved
loop-i-preserved c =
    let e : c.args.at + 2 * c.loop-i.i + 2 ≡ c.args.at + 2 * (c.loop-i.i + 1) = omega arith in
    (simp length-set (omega arith), rw (← e) (c.loop-i.invariant.1 ∙ pairs-written c.args.d.now c.loop-i.room c.loop-i.i (c.args.at + 2 * c.loop-i.i) c.glyph.result c.glyph-in-loop-i.result c.glyph.ensures c.glyph-in-loop-i.ensures (omega arith) (omega (arith, pairs_length c.args.d.now))))

pub returns : goal.returns
returns c =
    record { there = sym (c.loop-i.invariant.1 ∙ pairs-done c.args.d.now c.loop-i.room c.loop-i.i (c.args.at + 2 * c.loop-i.i) (omega arith)); next = omega (arith, pairs_length c.args.d.now) }
