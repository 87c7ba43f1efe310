use borrow.Author.Rules.{rules}
use mathlib.Core.Path.{◌≡◌}
use lib.ListN.{length}
use Rattle.node.proofs.Settling.{settles}
use Rattle.node.proofs.settle.settled.Goals as goal

pub returns : goal.returns
returns c last =
    let n : length c.args.found.digest ≡ 16 = search rules in
    settles c.args.clock c.args.randoms c.args.found.digest _ c.renewed-endpoints.result n c.renewed-endpoints.ensures.0 c.renewed-endpoints.ensures.1
