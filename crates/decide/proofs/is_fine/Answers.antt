use Rattle.std.proofs.Common.{◌∙◌, sym, refl}
use Rattle.decide.proofs.Cases.{compared}
use Rattle.decide.proofs.is_fine.Goals as goal

pub returns-then-is_good : goal.returns-then-is_good
returns-then-is_good c =
    rw (sym c.is_good.ensures ∙ c.if-is_good.true) (compared c.eq.ensures (c.as_slice.ensures ∙ c.hash16.ensures) refl)
