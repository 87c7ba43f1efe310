use native.Mathlib.Omega.{arith}
use Rattle.node.proofs.Contacts.{peers_add, peers_set_rep}
use Rattle.node.proofs.peers.add.Goals as goal

pub returns : goal.returns
returns c =
    (peers_set_rep c.args.p c.args.p.count _ c.args.e c.requires.0 (omega arith), peers_add c.args.p c.args.e c.requires.0 c.requires.1)
