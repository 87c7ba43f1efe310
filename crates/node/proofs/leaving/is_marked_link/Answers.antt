use Rattle.std.proofs.Common.{rules, tests, ◌∙◌, take, Bool, ◌&&◌}
use Rattle.std.proofs.lemmas.Iterator.{YieldsList-from_slice, YieldsList-from_zip}
use Rattle.std.proofs.lemmas.Iterator.Search.{any_from_yields_List}
use Rattle.base.specs.Bytes.{same}
use Rattle.base.proofs.Library.{listed_any_marked}
use Rattle.model.specs.State.{peer_tlv}
use Rattle.node.specs.View.{peer_of, peers_of}
use Rattle.node.specs.declared.peers.Peer.{Peer}
use Rattle.node.proofs.leaving.is_marked_link.Goals as goal

pub returns : goal.returns
unfolding peers_of
returns c =
    any_from_yields_List (λ (x : Bool × Peer). x.0 && same (peer_tlv (peer_of x.1)) c.args.tlv.now) c.any.new.self _ _ c.any.ensures.ran
    (YieldsList-from_zip (YieldsList-from_slice c.args.marks cc) (YieldsList-from_slice (take c.args.p.count c.args.p.list) cc)) (λ x b q k. search (rules, tests))
    ∙ listed_any_marked (λ q. same (peer_tlv q) c.args.tlv.now) peer_of c.args.marks (take c.args.p.count c.args.p.list)
