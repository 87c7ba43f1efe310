use Rattle.std.proofs.Common.{◌%◌, leb, ap, arith}
use Rattle.model.specs.Sequence.{circle, half, offset, older}
use Rattle.model.proofs.sequence.is_older.Goals as goal

pub returns : goal.returns
unfolding older offset
returns c = ap (λ v. leb half (v % circle)) (omega arith)
