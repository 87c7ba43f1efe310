use mathlib.Core.Path.{refl}
use Rattle.table.proofs.Tables.{none-held}
use Rattle.table.proofs.empty.Goals as goal

pub returns : goal.returns
returns c m h = none-held m _ h refl
