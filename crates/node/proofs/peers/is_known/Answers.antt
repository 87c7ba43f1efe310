use Rattle.std.proofs.Common.{rules, tests, ◌∙◌, take}
use Rattle.std.proofs.lemmas.Iterator.{YieldsList-from_slice}
use Rattle.std.proofs.lemmas.Iterator.Search.{any_from_yields_List}
use Rattle.base.proofs.Library.{listed_any_map}
use Rattle.model.specs.State.{is_peer}
use Rattle.node.specs.View.{peer_of, peers_of}
use Rattle.node.specs.declared.peers.Peer.{Peer}
use Rattle.node.proofs.peers.is_known.Goals as goal

pub returns : goal.returns
unfolding peers_of
returns c =
    any_from_yields_List (λ (e : Peer). is_peer c.args.node c.args.theirs c.args.ours (peer_of e)) _ _ _ c.any.ensures.ran
    (YieldsList-from_slice (take c.args.p.count c.args.p.list) cc) (λ x b q k. search (rules, tests))
    ∙ listed_any_map (is_peer c.args.node c.args.theirs c.args.ours) peer_of (take c.args.p.count c.args.p.list)
