use mathlib.Core.Path.{refl}
use mathlib.Core.List.{[], ◌∷◌, ◌++◌}
use Prim.Native.Nat.{◌+◌}
use lib.ListN.{length}
use mir.Syntax.{w64}
use Rattle.base.proofs.Signed.{narrow_back}
use Rattle.text.specs.Decimal.{signed}
use Rattle.text.proofs.Puts.{first_fits, second_fits, put_then}
use Rattle.text.proofs.numbers.put_line.Goals as goal

pub store-requires : goal.store-requires
store-requires c =
    first_fits c.args.name.now (32 ∷ (signed c.args.v ++ (10 ∷ []))) c.args.room.now c.args.at c.requires

pub put_cents-requires : goal.put_cents-requires
put_cents-requires c =
    rw (narrow_back w64 c.args.v c.ranges.v)
    (second_fits c.args.name.now (32 ∷ (signed c.args.v ++ (10 ∷ []))) c.args.room.now c.args.at c.requires c.store.new.mem (c.args.at + length c.args.name.now) (record { there = c.store.ensures; next = refl }) c.store.auto.mem)

pub returns : goal.returns
returns c =
    put_then c.args.name.now (32 ∷ (signed c.args.v ++ (10 ∷ []))) c.args.room.now c.args.at c.store.new.mem (c.args.at + length c.args.name.now) c.put_cents.new.room c.put_cents.result
    (record { there = c.store.ensures; next = refl }) (rw (narrow_back w64 c.args.v c.ranges.v) at c.put_cents.ensures) c.requires
