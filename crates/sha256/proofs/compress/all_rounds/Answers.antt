use native.Mathlib.Omega.{arith}
use Rattle.sha256.proofs.Rounds.{more_rounds}
use Rattle.sha256.proofs.compress.all_rounds.Goals as goal

pub returns : goal.returns
returns c =
    more_rounds (omega arith) c.sixteen_rounds-x.ensures
    (more_rounds (omega arith) c.sixteen_rounds-x-2.ensures (more_rounds (omega arith) c.sixteen_rounds-x-3.ensures c.sixteen_rounds.ensures))
