use native.Mathlib.Omega.{arith}
use mathlib.Core.Path.{refl}
use Rattle.node.proofs.Parts.{endpoint-put, endpoint-rep}
use Rattle.node.proofs.endpoints.with_endpoint.Goals as goal

pub returns : goal.returns
returns c =
    ((λ m k. endpoint-rep c.args.s m c.place.result c.args.e k), (λ m. endpoint-put c.args.s m c.args.i c.place.result c.args.e (omega (arith, c.place.ensures.place))), refl)
