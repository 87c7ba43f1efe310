use mathlib.Core.Path.{refl}
use Rattle.sha256.specs.Sha256.{k_table}
use Rattle.sha256.proofs.constants.constant.Goals as goal

pub returns : goal.returns
unfolding k_table
returns c = refl
