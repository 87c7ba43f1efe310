use Rattle.std.proofs.Common.{◌∙◌, sym, refl, eqb-true, length, arith}
use Rattle.decide.proofs.Cases.{compared, carries_none}
use Rattle.decide.proofs.is_carrying.Goals as goal

pub returns-else-not-is_empty : goal.returns-else-not-is_empty
returns-else-not-is_empty c =
    compared c.eq.ensures refl (c.as_slice.ensures ∙ c.hash16.ensures)
    ∙ carries_none c.args.hash.now c.args.bytes.now (omega (arith, eqb-true (length c.args.bytes.now) 0 (sym c.is_empty.ensures ∙ c.if-not-is_empty.false)))
