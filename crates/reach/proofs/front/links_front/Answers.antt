-- Types are compared by their bytes, so that the data must be bytes: what is known of a slice of them says so.
use native.Mathlib.Omega.{arith}
use mathlib.Core.Path.{◌≡◌}
use Prim.Native.Nat.{◌-◌}
use Rattle.base.proofs.Bytes.{bytes-known}
use Rattle.wire.proofs.Good.{good-row}
use Rattle.model.specs.Figures.{data_limit}
use Rattle.reach.proofs.Fronts.{front-is}
use Rattle.reach.proofs.front.links_front.Goals as goal

pub place_from-end-requires : goal.place_from-end-requires
place_from-end-requires c = (omega arith, good-row data_limit c.args.d.now c.requires)

pub slice_bounds-result-end : goal.slice_bounds-result-end
slice_bounds-result-end c = omega (arith, c.place_from-end.ensures.passed.within)

pub returns : goal.returns
returns c =
    let b = bytes-known c.args.d.now (λ i. omega (arith, c.type_inv.d i)) in
    let e : c.place_from-end.result - 0 ≡ c.place_from-end.result = omega arith in
    rw e (front-is data_limit c.args.d.now c.requires b c.place_from-end.result c.place_from-end.ensures)
