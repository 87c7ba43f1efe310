use mathlib.Core.List.{◌∷◌, []}
use Rattle.sha256.specs.Sha256.{block_at}
use Rattle.sha256.proofs.parse.load.Goals as goal

pub returns : goal.returns
unfolding block_at
returns c = λ i. c.word_at.ensures i ∷ c.word_at-2.ensures i ∷ c.word_at-3.ensures i ∷ c.word_at-4.ensures i ∷ c.word_at-5.ensures i ∷ c.word_at-6.ensures i ∷ c.word_at-7.ensures i ∷ c.word_at-8.ensures i ∷ c.word_at-9.ensures i ∷ c.word_at-10.ensures i ∷ c.word_at-11.ensures i ∷ c.word_at-12.ensures i ∷ c.word_at-13.ensures i ∷ c.word_at-14.ensures i ∷ c.word_at-15.ensures i ∷ c.word_at-16.ensures i ∷ []
