-- Peers that come and are in contact, and an endpoint that changes: from what the parts ensure to the state of the model. Assumes nothing.
use mathlib.Core.Path.{◌≡◌, refl, sym, ap, ◌∙◌, subst}
use mathlib.Core.List.{List, [], ◌∷◌, ◌++◌, map}
use Prim.Native.Nat.{ℕ}
use Rattle.model.specs.Sequence.{advance}
use Rattle.model.specs.State.{State as ModelState, Peer as ModelPeer, own_seq, own_data, publish_as, publish, peer_tlv, with_tlv, with_peers}
use Rattle.model.specs.Handle.{add_peer}
use Rattle.node.specs.View.{peer_of, peers_of, state_of, PeersRep, Rep, Moved, Published}
use Rattle.node.specs.declared.State.{State}
use Rattle.node.specs.declared.peers.Peer.{Peer}
use Rattle.node.specs.declared.peers.Peers.{Peers}
use Rattle.node.proofs.Parts.{state-peers, put_peers}
use Rattle.node.proofs.Moves.{published_then, peers_moved}

-- ---- a peer more

-- a publishing leaves the peers as they were
published-peers : (clock seq : ℕ) (d : List ℕ) (s : ModelState) → (publish_as clock seq d s).peers ≡ s.peers
unfolding publish_as
published-peers clock seq d s = refl

-- the Peer TLV says nothing of the last contact
peer_any_contact : (p : ModelPeer) (contact : ℕ) → peer_tlv (record { node = p.node; theirs = p.theirs; ours = p.ours; contact = contact }) ≡ peer_tlv p
unfolding peer_tlv
peer_any_contact p contact = refl

module _ (s : State) (m : List ℕ) (k : Rep s m) (clock seq : ℕ) (d : List ℕ) (r : State) (m' : List ℕ) (h : Published (publish_as clock seq d (state_of s m)) s m r m') where
  same-peers : peers_of r.peers ≡ (state_of s m).peers
  same-peers = sym (state-peers r m') ∙ ap (λ (z : ModelState). z.peers) h.moved.is ∙ published-peers clock seq d (state_of s m)

  -- the peer is the last of those that there were, and its Peer TLV published under the next number
  pub added_published : (p : Peer) (x : Peers) (n : ℕ) (t : List ℕ) → n ≡ own_seq (state_of s m) → seq ≡ advance n 1
      → t ≡ peer_tlv (record { node = p.node; theirs = p.theirs; ours = p.ours; contact = 0 }) → d ≡ with_tlv t (own_data (state_of s m))
      → PeersRep x → peers_of x ≡ peers_of r.peers ++ (peer_of p ∷ []) → Published (add_peer clock (peer_of p) (state_of s m)) s m (put_peers x r) m'
  unfolding add_peer
  added_published p x n t en es et ed g v =
      let after : ModelState = publish clock (with_tlv (peer_tlv (peer_of p)) (own_data (state_of s m))) (state_of s m) in
      let e : publish_as clock seq d (state_of s m) ≡ after = rw (es, en, ed, et, peer_any_contact (peer_of p) 0) in
      published_then (with_peers ((state_of s m).peers ++ (peer_of p ∷ []))) (subst (λ (z : ModelState). Published z s m r m') e h) refl
      (peers_moved r m' h.moved.rep x ((state_of s m).peers ++ (peer_of p ∷ [])) g (v ∙ ap (λ (z : List ModelPeer). z ++ (peer_of p ∷ [])) same-peers))

-- ---- contact

pub touched-moved : (f : ModelPeer → ModelPeer) (s : State) (x : Peers) → PeersRep x → peers_of x ≡ map f (peers_of s.peers)
    → (m : List ℕ) → Rep s m → Moved (with_peers (map f (state_of s m).peers) (state_of s m)) m (put_peers x s) m
touched-moved f s x g v m k = peers_moved s m k x (map f (state_of s m).peers) g (v ∙ ap (map f) (sym (state-peers s m)))
