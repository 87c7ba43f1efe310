use mathlib.Core.Path.{ap, ◌∙◌}
use lib.ListN.{take}
use Rattle.sha256.specs.Sha256.{hash16}
use Rattle.sha256.proofs.hash16.Goals as goal

pub returns : goal.returns
unfolding hash16
returns c =
    let front = rw c.unwrap.ensures at c.first_chunk.ensures.cases in
    front.same ∙ ap (take 16) c.digest.ensures
