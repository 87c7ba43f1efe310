use Rattle.sha256.specs.Sha256.{round_of}
use Rattle.sha256.proofs.compress.round.Goals as goal

pub returns : goal.returns
unfolding round_of
returns c = cc
