-- The peers of the code as those of the model: heard, one more. Assumes nothing.
use mathlib.Core.Path.{◌≡◌, sym, ap, ◌∙◌}
use mathlib.Core.List.{List, [], ◌∷◌, ◌++◌, map, map-append}
use Prim.Native.Nat.{ℕ, suc, ◌+◌, ◌≤◌, ◌<◌}
use native.Mathlib.Omega.{arith}
use native.Mathlib.Numerals.{add-one}
use lib.ListN.{length, get_or, take, drop, set, length-set, length-map, get_or-map}
use lib.Seq.{get_or-take, get_or_at, drop-cons, length-take-le, take-suc-set, take-set-lt}
use Rattle.base.proofs.Lists.{fill_step, fill_all}
use Rattle.model.specs.Figures.{most_peers}
use Rattle.model.specs.State.{Peer as ModelPeer}
use Rattle.node.specs.View.{peer_of, peers_of, PeersRep}
use Rattle.node.specs.declared.peers.Peer.{Peer}
use Rattle.base.proofs.Places.{map-set, get_d_any}
use Rattle.node.specs.declared.peers.Peers.{Peers}

first_count : (p : Peers) → PeersRep p → length (take p.count p.list) ≡ p.count
first_count p k = length-take-le p.count p.list (omega (arith, k.few, k.list))

pub peers-length : (p : Peers) → PeersRep p → length (peers_of p) ≡ p.count
unfolding peers_of
peers-length p k = length-map (take p.count p.list) peer_of ∙ first_count p k

-- ---- heard: the peers before place i done, the rest to do

-- one peer stored over another
pub peers-set : (p : Peers) (i : ℕ) (e : Peer) → i < p.count → peers_of (record { count = p.count; list = set p.list i e }) ≡ set (peers_of p) i (peer_of e)
unfolding peers_of
peers-set p i e h = ap (map peer_of) (take-set-lt p.count p.list i e h) ∙ map-set peer_of (take p.count p.list) i e

pub peers-at : (p : Peers) (i : ℕ) (d : Peer) → i < p.count → get_or (peers_of p) i (peer_of d) ≡ peer_of (get_or p.list i d)
unfolding peers_of
peers-at p i d h = get_or-map peer_of (take p.count p.list) i d ∙ ap peer_of (get_or-take p.count p.list i d h)

abbrev pub no_peer : ModelPeer
no_peer = record { node = 0; theirs = 0; ours = 0; contact = 0 }

-- the peer that the code reads at a place
pub peer-at : (p : Peers) (i : ℕ) (d : Peer) → PeersRep p → i < p.count → peer_of (get_or p.list i d) ≡ get_or (peers_of p) i no_peer
peer-at p i d k h = sym (peers-at p i d h) ∙ get_d_any (peers_of p) i (peer_of d) no_peer (rw (peers-length p k) h)

-- l with f applied to the elements before place i
abbrev pub done_to : (ModelPeer → ModelPeer) → List ModelPeer → ℕ → List ModelPeer
done_to f l i = take i (map f l) ++ drop i l

module _ (f : ModelPeer → ModelPeer) (l : List ModelPeer) (i : ℕ) where
  pub done_end : length l ≤ i → done_to f l i ≡ map f l
  done_end h = fill_all (map f l) l i (rw (length-map l f) h) h

  module _ (d : ModelPeer) (h : i < length l) where
    done-read : get_or (done_to f l i) i d ≡ get_or l i d
    done-read =
        rw (drop-cons l i d h)
        (get_or_at (take i (map f l)) (get_or l i d) (drop (suc i) l) d i (length-take-le i (map f l) (rw (length-map l f) (omega arith))))

    done-step : set (done_to f l i) i (f (get_or (done_to f l i) i d)) ≡ done_to f l (i + 1)
    done-step =
        ap (λ (x : ModelPeer). set (done_to f l i) i (f x)) done-read
        ∙ ap (set (done_to f l i) i) (sym (get_or-map f l i d))
        ∙ fill_step (map f l) l i (f d) (rw (length-map l f) h) h

-- the peer at place i done too
pub done_next : (f : ModelPeer → ModelPeer) (p r : Peers) (i : ℕ) (e d : Peer) → PeersRep p → r.count ≡ p.count → i < p.count
    → peers_of r ≡ done_to f (peers_of p) i → peer_of e ≡ f (peer_of (get_or r.list i d))
    → peers_of (record { count = r.count; list = set r.list i e }) ≡ done_to f (peers_of p) (i + 1)
done_next f p r i e d k c h q w =
    peers-set r i e (omega arith)
    ∙ ap (set (peers_of r) i) (w ∙ ap f (sym (peers-at r i d (omega arith))))
    ∙ ap (λ (z : List ModelPeer). set z i (f (get_or z i (peer_of d)))) q
    ∙ done-step f (peers_of p) i (peer_of d) (rw (peers-length p k) h)

-- ---- one more

pub peers_set_rep : (p : Peers) (i n : ℕ) (e : Peer) → PeersRep p → n ≤ most_peers → PeersRep (record { count = n; list = set p.list i e })
peers_set_rep p i n e k h = record { few = h; list = length-set p.list i e ∙ k.list }

pub peers_add : (p : Peers) (e : Peer) → PeersRep p → p.count < most_peers
    → peers_of (record { count = p.count + 1; list = set p.list p.count e }) ≡ peers_of p ++ (peer_of e ∷ [])
unfolding peers_of
peers_add p e k h =
    rw (add-one p.count, take-suc-set p.list p.count e (omega (arith, k.list))) (map-append peer_of (take p.count p.list) (e ∷ []))
