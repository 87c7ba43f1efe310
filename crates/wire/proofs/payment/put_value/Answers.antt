use Rattle.std.proofs.Common.{rules}
use Rattle.wire.proofs.Payments.{value-written}
use Rattle.wire.specs.Payment.{folded}
use Rattle.wire.specs.Answers.{told}
use Rattle.base.proofs.Signed.{narrow_back}
use Rattle.wire.proofs.Varints.{groups-length}
use native.Mathlib.Omega.{arith}
use mathlib.Core.Path.{◌≡◌, ◌∙◌, ap}
use mir.Syntax.{w32}
use mir.Val.{SFits}
use Rattle.wire.proofs.payment.put_value.Goals as goal

pub put_groups-a-requires : goal.put_groups-a-requires
put_groups-a-requires c =
    omega (arith, groups-length 4 c.from.result (omega (arith, c.well_formed.1.1.0)))

pub put_groups-b-requires : goal.put_groups-b-requires
put_groups-b-requires c =
    omega (arith, groups-length 4 c.from.result (omega (arith, c.well_formed.1.1.0)), groups-length 4 c.from-2.result (omega (arith, c.well_formed.1.1.0)))

pub put_groups-requires : goal.put_groups-requires
put_groups-requires c =
    omega (arith, groups-length 4 c.from.result (omega (arith, c.well_formed.1.1.0)), groups-length 4 c.from-2.result (omega (arith, c.well_formed.1.1.0)), groups-length 4 c.from-3.result (omega arith))

pub returns : goal.returns
returns c =
    let p = told c.args.payment in
    let fx : SFits w32 c.args.payment.amount = search rules in
    let ef : c.from-3.result ≡ folded c.args.payment.amount = c.from-3.ensures ∙ c.fold.ensures ∙ ap folded (narrow_back w32 c.args.payment.amount fx) in
    let b1 = groups-length 4 c.from.result (omega (arith, c.well_formed.1.1.0)) in
    let b2 = groups-length 4 c.from-2.result (omega (arith, c.well_formed.1.1.0)) in
    let b3 = groups-length 4 c.from-3.result (omega arith) in
    let w = value-written c.args.d.now c.args.at p c.put_groups-a.new.d c.put_groups-b.new.d c.put_groups.new.d c.put_groups-a.result c.put_groups-b.result c.put_groups.result c.from-3.result (c.put_groups-a.ensures.0 ∙ rw c.from.ensures) (c.put_groups-a.ensures.1 ∙ rw c.from.ensures) (c.put_groups-b.ensures.0 ∙ rw c.from-2.ensures) (c.put_groups-b.ensures.1 ∙ rw c.from-2.ensures) c.put_groups.ensures.0 c.put_groups.ensures.1 ef (omega arith) in
    (w.0, w.1, omega arith)
