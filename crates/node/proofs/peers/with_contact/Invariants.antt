use mathlib.Core.Path.{◌≡◌}
use Rattle.model.specs.State.{contacted}
use Rattle.node.specs.View.{peers_of, PeersRep}
use Rattle.node.proofs.Contacts.{done_to}
use Rattle.node.proofs.peers.with_contact.Given as goal

abbrev pub invariant-loop-i : goal.invariant-loop-i
invariant-loop-i l =
    (l.p.count ≡ l.initial.p.count) × PeersRep l.p × (peers_of l.p ≡ done_to (contacted l.node l.theirs l.ours l.clock) (peers_of l.initial.p) l.i)
