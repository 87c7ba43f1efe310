use mathlib.Core.Path.{◌≡◌, refl, sym, ap, ◌∙◌}
use mathlib.Core.List.{List}
use Prim.Native.Nat.{ℕ, ◌+◌, ◌-◌, ◌*◌, ◌/◌}
use native.Mathlib.Nat.{sub-zero}
use lib.ListN.{length}
use Rattle.sha256.specs.Sha256.{end_of, pad, hash, initial, hash_value, compress}
use Rattle.sha256.proofs.Padding.{pad-length, hash-step, hash-done}
use Rattle.sha256.proofs.hash_value.Goals as goal

pub loop-block-init : goal.loop-block-init
unfolding end_of initial
loop-block-init c =
    let e : (end_of (length c.args.m.now) + 8) / 64 - 0 ≡ length (pad c.args.m.now) / 64 = sub-zero _ ∙ ap (λ (k : ℕ). k / 64) (sym (pad-length c.args.m.now)) in
    (refl, ap (λ (k : ℕ). hash k 0 (pad c.args.m.now) initial) e)

pub loop-block-preserved : goal.loop-block-preserved
loop-block-preserved c = (
  c.loop-block.invariant.0,
  ap (hash _ (64 * (c.loop-block.block + 1)) (pad c.args.m.now)) (c.absorb-s.ensures ∙ ap (λ (w : List ℕ). compress w c.loop-block.s) c.load.ensures)
      ∙ sym (hash-step _ c.loop-block.block (pad c.args.m.now) c.loop-block.s c.loop-block-test.true) ∙ c.loop-block.invariant.1,
)

pub returns : goal.returns
unfolding hash_value
returns c =
    sym (hash-done _ c.loop-block.block (64 * c.loop-block.block) (pad c.args.m.now) c.loop-block.s c.loop-block-test.false) ∙ c.loop-block.invariant.1
