use mathlib.Core.Path.{◌∙◌, ap}
use Rattle.sha256.specs.Sha256.{bytes_of, sha256}
use Rattle.sha256.proofs.digest.Goals as goal

pub returns : goal.returns
unfolding sha256
returns c = c.output.ensures ∙ ap bytes_of c.hash_value.ensures
