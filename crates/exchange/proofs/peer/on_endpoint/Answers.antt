use Rattle.exchange.proofs.Peers.{told-ours, told-peer, told_greeted, told-asked}
use Rattle.exchange.proofs.peer.on_endpoint.Goals as goal

pub returns-then-node-c : goal.returns-then-node-c
returns-then-node-c c v = rw c.still.ensures (told-ours v c.args.node c.args.endpoint c.if-node-c.true)

pub returns-then-is_known : goal.returns-then-is_known
returns-then-is_known c v = rw c.still-then-is_known.ensures (told-peer v c.args.node c.args.endpoint c.if-node-c.false c.is_known.result c.is_known.ensures c.if-is_known.true)

pub returns-then-c : goal.returns-then-c
returns-then-c c v = told_greeted v c.args.node c.args.endpoint c.if-node-c.false c.is_known.result c.is_known.ensures c.if-is_known.false c.if-c.true (c.greet.ensures v)

pub returns : goal.returns
returns c v = told-asked v c.args.node c.args.endpoint c.if-node-c.false c.is_known.result c.is_known.ensures c.if-is_known.false c.if-c.false
