use mathlib.Core.Path.{refl}
use Rattle.start.proofs.Starting.{none-known}
use Rattle.start.proofs.begin.no_peers.Goals as goal

pub returns : goal.returns
returns c = none-known _ refl
