use mathlib.Core.Path.{refl}
use Rattle.ledger.proofs.First.{blank-left}
use Rattle.ledger.proofs.blank.pingvratha_blank.Goals as goal

pub returns : goal.returns
returns c m = blank-left _ _ _ m c.no_peers.ensures.1 (rw c.zero.ensures at c.fresh_endpoints.ensures.1) refl c.no_peers.ensures.0 c.fresh_endpoints.ensures.0
