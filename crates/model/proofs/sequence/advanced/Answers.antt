use Rattle.std.proofs.Common.{refl}
use Rattle.model.specs.Sequence.{advance}
use Rattle.model.proofs.sequence.advanced.Goals as goal

pub returns : goal.returns
unfolding advance
returns c = refl
