-- Sequence numbers of one stretch: their order round the circle is that of their offsets from its start. Assumes nothing.
use Rattle.std.proofs.Common.{◌≡◌, ℕ, ◌<◌, ◌≤◌, ltb, sym, ◌∙◌, arith, ltb-false, ltb-true, le-leb}
use borrow.Author.Tests.{lt-leb}
use Rattle.base.proofs.Tests.{by_test}
use Rattle.model.specs.Sequence.{circle, half, offset, older, Stretch}

module _ (s a b : ℕ) (small : s < circle) (ha : Stretch s a) (hb : Stretch s b) where
  pub older-offset : older a b ≡ ltb (offset s a) (offset s b)
  unfolding older offset
  older-offset =
      by_test (ltb (offset s a) (offset s b))
      (λ e. let l : offset s a < offset s b = ltb-true (offset s a) (offset s b) e in le-leb half (offset b a) (omega arith) ∙ sym e)
      (λ e. let l : offset s b ≤ offset s a = ltb-false (offset s a) (offset s b) e in lt-leb half (offset b a) (omega arith) ∙ sym e)

  pub offset-same : offset s a ≡ offset s b → a ≡ b
  unfolding offset
  offset-same e = omega arith
