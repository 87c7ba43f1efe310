-- The peers that go and those that stay, by their marks; our own age. Assumes nothing.
use mathlib.Core.Path.{◌≡◌, refl, sym, ap, ◌∙◌, subst}
use mathlib.Core.Bool.{Bool, true, false, not}
use mathlib.Core.List.{List, [], ◌∷◌, map}
use Prim.Native.Nat.{ℕ, ◌+◌, ◌-◌, ◌≤◌, ◌<◌}
use native.Mathlib.Omega.{arith}
use lib.ListN.{length, get_or, take}
use lib.Seq.{get_or-take, length-take-le}
use Rattle.base.specs.Lists.{any, keep, keep_by}
use Rattle.base.proofs.Tests.{by_test}
use Rattle.base.proofs.Lists.{all_more}
use Rattle.base.proofs.Places.{get_d_any, all-at}
use Rattle.wire.specs.Order.{good}
use Rattle.model.specs.Figures.{most_peers, data_limit, last_reading}
use Rattle.model.specs.Table.{Entry, age_at}
use Rattle.model.specs.State.{State as ModelState, Peer as ModelPeer, own_entry}
use Rattle.model.specs.Tick.{goes, some_of}
use Rattle.model.specs.Invariant.{EntryFits, PeerFits, Midway}
use Rattle.model.proofs.Cases.{gone, stay}
use Rattle.model.proofs.KeptParts.{midway-own}
use Rattle.table.specs.View.{seen, view, Read, Stands, AllGood}
use Rattle.table.specs.declared.Entry.{Entry as Meta}
use Rattle.reach.specs.Marks.{Readable}
use Rattle.reach.proofs.Nodes.{fits-readable}
use Rattle.base.proofs.Marks.{not_at, keep_by_places, any_places, Filled}
use Rattle.node.specs.View.{peer_of, peers_of, state_of, PeersRep, Rep, Held}
use Rattle.node.specs.declared.State.{State}
use Rattle.node.specs.declared.peers.Peer.{Peer}
use Rattle.node.proofs.Contacts.{no_peer, peer-at, peers-length}
use Rattle.node.proofs.Parts.{state-held}
use Rattle.node.proofs.Own.{own-entry}
use Rattle.upkeep.specs.Ticked.{Lent, Scanned, Going}

-- ---- what the code asks, from the invariant

module _ (clock : ℕ) (s : State) (m : List ℕ) (mid : Midway clock (state_of s m)) where
  pub held-midway : Held s m
  held-midway = state-held s m mid.table.held

  -- the marking may read the table, and our own node stands there
  pub midway-readable : Rep s m → clock ≤ last_reading → Readable clock s.table m × Held s m
  unfolding state_of
  midway-readable k l = (fits-readable s.own clock s.table m k.table mid.table l, held-midway)

  pub good-midway : AllGood (view s.table m)
  unfolding state_of
  good-midway = all_more (EntryFits clock) (λ e. good data_limit e.says.node_data ≡ true) (λ e f. f.fine) (view s.table m) mid.table.entries

  pub contact-midway : (i : ℕ) (d : Peer) → PeersRep s.peers → i < s.peers.count → (get_or s.peers.list i d).contact ≤ clock
  unfolding state_of
  contact-midway i d k h =
      subst (λ (p : ModelPeer). p.contact ≤ clock) (sym (peer-at s.peers i d k h))
      (all-at (PeerFits s.own clock) no_peer (peers_of s.peers) i mid.peers.all (rw (peers-length s.peers k) h)).contact

-- ---- our own age

module _ (clock : ℕ) (s : State) (m : List ℕ) (i : ℕ) (k : Rep s m) (h : Stands s.table s.own i) (e : Meta) (r : Read s.table i e) where
  row_is : own_entry (state_of s m) ≡ seen m e
  row_is = own-entry s m i k h ∙ ap (seen m) (sym r.same)

  pub meta_since : Midway clock (state_of s m) → e.since ≤ clock
  meta_since mid = (subst (EntryFits clock) row_is (midway-own (state_of s m) mid)).since

  pub meta_age : e.age + (clock - e.since) ≡ age_at clock (own_entry (state_of s m))
  meta_age = ap (age_at clock) (sym row_is)

-- ---- a mark for each peer that goes

abbrev pub nobody : Peer
nobody = record { node = 0; theirs = 0; ours = 0; contact = 0 }

-- the marks of the peers before place i are theirs by now, and no other is set
abbrev pub Marked : ℕ → ℕ → List Entry → List Peer → ℕ → List Bool → Type 0
Marked clock endpoint t l i marks = (length marks ≡ most_peers) × Filled (λ k. goes clock endpoint t (peer_of (get_or l k nobody))) (λ k. false) i marks

module _ (clock endpoint : ℕ) (t : List Entry) (l : List Peer) where
  pub mark_all : (i : ℕ) (marks : List Bool) → i ≤ length l → Marked clock endpoint t l i marks → Scanned clock endpoint i t l marks
  mark_all i marks h k =
      record {
        wide = k.0;
        each = λ j g p. k.1.done j g ∙ ap (λ (q : Peer). goes clock endpoint t (peer_of q)) (get_d_any l j nobody p (omega arith));
        none = λ j g. k.1.left j g;
      }

-- the peers of the state: what the scan asks of them, and what its marks say
module _ (clock : ℕ) (s : State) (m : List ℕ) (k : Rep s m) where
  abbrev lent : List Peer
  lent = take s.peers.count s.peers.list

  lent-length : length lent ≡ s.peers.count
  lent-length = length-take-le s.peers.count s.peers.list (rw k.peers.list k.peers.few)

  lent_at : (j : ℕ) (p : Peer) → j < s.peers.count → get_or lent j p ≡ get_or s.peers.list j p
  lent_at j p h = get_or-take s.peers.count s.peers.list j p h

  pub lent_midway : Midway clock (state_of s m) → Lent clock (length lent) s.table m lent
  lent_midway mid =
      record {
        table = k.table;
        fine = good-midway clock s m mid;
        few = rw lent-length k.peers.few;
        here = omega arith;
        heard = λ i h p. let l : i < s.peers.count = rw lent-length at h in rw (lent_at i p l) (contact-midway clock s m mid i p k.peers l);
      }

  pub scanned_going : (endpoint : ℕ) (marks : List Bool) → Scanned clock endpoint (length lent) (view s.table m) lent marks → Going clock endpoint (state_of s m) marks
  unfolding state_of
  scanned_going endpoint marks f =
      let l : length (peers_of s.peers) ≡ s.peers.count = peers-length s.peers k.peers in
      let n : length lent ≡ s.peers.count = lent-length in
      let at : (j : ℕ) → j < s.peers.count → (p : ModelPeer) → peer_of (get_or lent j nobody) ≡ get_or (peers_of s.peers) j p =
      λ j h p. ap peer_of (lent_at j nobody h) ∙ peer-at s.peers j nobody k.peers h ∙ get_d_any (peers_of s.peers) j no_peer p (rw l h) in
      record {
        wide = f.wide;
        each = λ j h p. f.each j (omega arith) nobody ∙ ap (goes clock endpoint (view s.table m)) (at j (omega arith) p);
        none = λ j h. f.none j (omega arith);
      }

-- some peer goes
some-keep : (f : ModelPeer → Bool) (ps : List ModelPeer) → any f ps ≡ some_of (keep f ps)
some-keep f [] = refl
some-keep f (p ∷ ps) = by_test (f p) (λ b. rw b) (λ b. rw b (some-keep f ps))

module _ (clock endpoint : ℕ) (s : ModelState) (marks : List Bool) (g : Going clock endpoint s marks) where
  pub gone_by : keep_by marks s.peers ≡ gone clock endpoint s
  gone_by = keep_by_places no_peer (goes clock endpoint s.table) marks s.peers (λ i h. g.each i h no_peer)

  pub stay_by : length s.peers ≤ most_peers → keep_by (map not marks) s.peers ≡ stay clock endpoint s
  stay_by l =
      let w : length marks ≡ most_peers = g.wide in
      keep_by_places no_peer (λ p. not (goes clock endpoint s.table p)) (map not marks) s.peers
      (λ i h. not_at marks i (omega arith) ∙ ap not (g.each i h no_peer))

  pub some_by : any (λ b. b) marks ≡ some_of (gone clock endpoint s)
  some_by =
      any_places no_peer (goes clock endpoint s.table) marks s.peers (λ i h. g.each i h no_peer) g.none
      ∙ some-keep (goes clock endpoint s.table) s.peers
