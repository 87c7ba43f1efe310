-- Types are compared by their bytes, so that the data must be bytes: what is known of a slice of them says so.
use native.Mathlib.Omega.{arith}
use Rattle.base.proofs.Bytes.{bytes-known}
use Rattle.wire.proofs.Good.{good-row}
use Rattle.model.specs.Figures.{data_limit}
use Rattle.start.proofs.Parting.{links-within, links-cut}
use Rattle.start.proofs.links.links_in.Goals as goal

pub place_from-start-requires : goal.place_from-start-requires
place_from-start-requires c = (omega arith, good-row data_limit c.args.d.now c.requires)

pub returns : goal.returns
returns c =
    let b = bytes-known c.args.d.now (λ i. omega (arith, c.type_inv.d i)) in
    (links-within c.args.d.now c.requires b c.place_from-start.result c.place_from-end.result c.place_from-start.ensures c.place_from-end.ensures, links-cut c.args.d.now c.requires b c.place_from-start.result c.place_from-end.result c.place_from-start.ensures c.place_from-end.ensures)
