use mathlib.Core.Path.{sym}
use native.Mathlib.Omega.{arith}
use Rattle.node.proofs.Parts.{state-endpoint}
use Rattle.node.proofs.endpoints.endpoint_at.Goals as goal

pub returns : goal.returns
returns c m =
    sym (state-endpoint c.args.s m c.args.i c.place.result _ c.requires (omega (arith, c.place.ensures.place)) (omega (arith, c.place.ensures.place, c.place.ensures.within)))
