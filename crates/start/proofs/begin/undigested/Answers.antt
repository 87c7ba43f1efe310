use mathlib.Core.Path.{refl}
use Rattle.start.proofs.Starting.{with_parts}
use Rattle.start.proofs.begin.undigested.Goals as goal

pub returns : goal.returns
returns c =
    (rw c.milliseconds.ensures.same (with_parts c.args.own c.args.clock c.args.randoms c.args.t c.no_peers.result c.fresh_endpoints.result c.no_peers.ensures c.fresh_endpoints.ensures), refl)
