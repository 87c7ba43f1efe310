use mathlib.Core.List.{[], ◌∷◌, ◌++◌}
use mir.Syntax.{w64}
use Rattle.base.proofs.Signed.{narrow_back}
use Rattle.text.specs.Decimal.{decimal, signed}
use Rattle.text.proofs.Puts.{first_fits, second_fits, put_then}
use Rattle.report.proofs.put_household.Goals as goal

pub put_decimal-e-requires : goal.put_decimal-e-requires
put_decimal-e-requires c =
    first_fits (decimal c.args.household) (32 ∷ (signed c.args.v ++ (10 ∷ []))) c.args.room.now c.args.at c.requires

pub put_cents-requires : goal.put_cents-requires
put_cents-requires c =
    rw (narrow_back w64 c.args.v c.ranges.v)
    (second_fits (decimal c.args.household) (32 ∷ (signed c.args.v ++ (10 ∷ []))) c.args.room.now c.args.at c.requires c.put_decimal-e.new.room c.put_decimal-e.result c.put_decimal-e.ensures c.put_decimal-e.auto.room)

pub returns : goal.returns
returns c =
    put_then (decimal c.args.household) (32 ∷ (signed c.args.v ++ (10 ∷ []))) c.args.room.now c.args.at c.put_decimal-e.new.room c.put_decimal-e.result c.put_cents.new.room c.put_cents.result
    c.put_decimal-e.ensures (rw (narrow_back w64 c.args.v c.ranges.v) at c.put_cents.ensures) c.requires
