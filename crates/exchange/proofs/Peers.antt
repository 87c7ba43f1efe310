-- Node Endpoint TLVs: a sender that becomes a peer, and what a Node Endpoint TLV does. Assumes nothing.
use mathlib.Core.Path.{◌≡◌, refl, sym, ap, ◌∙◌}
use mathlib.Core.Bool.{Bool, true, false, ◌&&◌}
use mathlib.Core.List.{List, [], ◌∷◌, ◌++◌}
use mathlib.Core.Option.{Option}
use Prim.Native.Nat.{ℕ, ◌+◌, ◌≤◌, ◌<◌}
use native.Mathlib.Omega.{arith}
use lib.ListN.{length}
use lib.Dec.{ltb, leb}
use borrow.Author.Tests.{le-leb, lt-ltb, ltb-true, leb-true}
use Rattle.base.specs.Lists.{any, or_else}
use Rattle.base.proofs.Tests.{and_left, and_right, and_both, no_way}
use Rattle.model.specs.Figures.{most_peers, publish_limit, peer_bytes}
use Rattle.model.specs.Sequence.{advance}
use Rattle.model.specs.Table.{Entry}
use Rattle.model.specs.State.{State as ModelState, own_data, publish_as, peer_tlv, with_tlv, is_peer}
use Rattle.model.specs.Handle.{Sender as ModelSender, with_state, with_sender, ask_network, new_peer, room_for_peer, add_peer, greet, knows, on_endpoint}
use Rattle.model.proofs.Cases.{greet-room, greet-full, stranger_unicast, stranger_multicast, endpoint-own, endpoint-known, endpoint_stranger}
use Rattle.std.specs.Prelude.{None}
use Rattle.table.specs.declared.Table.{Table}
use Rattle.table.specs.View.{data_of, meta_at, Kept, Stands}
use Rattle.table.proofs.Tables.{look-stands, data_length}
use Rattle.node.specs.declared.State.{State}
use Rattle.node.specs.declared.peers.Peer.{Peer}
use Rattle.node.specs.declared.peers.Peers.{Peers}
use Rattle.node.specs.View.{peer_of, peers_of, state_of, PeersRep, Rep, Published}
use Rattle.node.proofs.Parts.{state-peers}
use Rattle.node.proofs.Own.{own-seq, own_data_lem, own-length}
use Rattle.node.proofs.Moves.{stored-published}
use Rattle.node.proofs.Contacts.{peers-length}
use Rattle.node.proofs.Peerings.{added_published}
use Rattle.decide.specs.declared.Decision.TheVariants.{Dropped}
use Rattle.reply.specs.declared.Context.{Context}
use Rattle.reply.specs.declared.Sender.{Sender}
use Rattle.reply.specs.declared.Progress.{Progress}
use Rattle.reply.specs.Updates.{with_sender as senderAt}
use Rattle.reply.specs.View.{context_of, Work, gather, work_of, Sound, Stepped, Markable, Open}
use Rattle.reply.proofs.Steps.{work_state, work_own, put_state, put_sender, put_dropped, gathered, stepped_none, stepped_to, stepped_more, stepped_then, stepped-anew, stepped_sender, stepped_dropped}
use Rattle.exchange.specs.declared.Step.{Step}
use Rattle.exchange.specs.declared.Act.TheVariants.{AskNetwork, Greet, Decided}
use Rattle.exchange.specs.Told.{still_at, Links, Told}
use Rattle.exchange.proofs.Telling.{passes_of, told_still, told_to, told_then}

-- ---- an unknown sender over unicast

-- room for a peer, as the code asks
module _ (count n : ℕ) where
  -- and what it says
  module _ (b : Bool) (e : b ≡ ltb count most_peers && leb (n + peer_bytes) publish_limit) (t : b ≡ true) where
    pub room-count : count < most_peers
    room-count = ltb-true count most_peers (and_left (ltb count most_peers) (leb (n + peer_bytes) publish_limit) (sym e ∙ t))

    pub room_data : (z : ℕ) → n ≡ z → z + peer_bytes ≤ publish_limit
    room_data z q = rw (sym q) (leb-true (n + peer_bytes) publish_limit (and_right (ltb count most_peers) (leb (n + peer_bytes) publish_limit) (sym e ∙ t)))

module _ (c : Context) (w : Work) (m r : List ℕ) (h : Sound c.clock w m r) (f : ModelSender) where
  -- room for a peer, by the numbers that the code has
  room-is : room_for_peer (work_of w m r).state ≡ ltb w.state.peers.count most_peers && leb (length (own_data (state_of w.state m)) + peer_bytes) publish_limit
  room-is = rw (work_state w m r, state-peers w.state m, peers-length w.state.peers h.rep.peers)

  no_room : room_for_peer (work_of w m r).state ≡ false → Stepped c 1 (greet (context_of c) f) w m r (put_dropped (w.dropped + 1) w) m r
  no_room e = stepped_dropped h (greet (context_of c) f) (greet-full (context_of c) (work_of w m r) f e)

  -- none: as many peers as there can be, or our data has no room for a Peer TLV
  pub greeted_none : (b : Bool) (n : ℕ) → b ≡ ltb w.state.peers.count most_peers && leb (n + peer_bytes) publish_limit → n ≡ length (own_data (state_of w.state m)) → b ≡ false
      → Stepped c 1 (greet (context_of c) f) w m r (put_dropped (w.dropped + 1) w) m r
  greeted_none b n e q t = no_room (room-is ∙ rw (sym q) (sym e ∙ t))

  -- a new peer
  pub greeted : w.state.peers.count < most_peers → length (own_data (state_of w.state m)) + peer_bytes ≤ publish_limit → (s : State) (m' : List ℕ)
      → Published (add_peer c.clock (new_peer (context_of c) f) (state_of w.state m)) w.state m s m' → Stepped c 1 (greet (context_of c) f) w m r (put_state s None w) m' r
  greeted p q s m' k =
      stepped_more
      (stepped-anew h (greet (context_of c) f) (add_peer c.clock (new_peer (context_of c) f) (state_of w.state m)) s m' k
      (greet-room (context_of c) (work_of w m r) f
      (room-is
      ∙ and_both (ltb w.state.peers.count most_peers) (leb (length (own_data (state_of w.state m)) + peer_bytes) publish_limit)
      (lt-ltb w.state.peers.count most_peers p) (le-leb (length (own_data (state_of w.state m)) + peer_bytes) publish_limit q))
      ∙ ap (λ (x : ModelState). with_state (add_peer c.clock (new_peer (context_of c) f) x) (work_of w m r)) (work_state w m r)))
      1 (omega arith)

-- a node has one length of data
same_size : (t : Table) (m : List ℕ) (own : ℕ) → Kept t m → (i j : ℕ) → Stands t own i → Stands t own j → (meta_at t i).len ≡ (meta_at t j).len
same_size t m own k i j p q =
    sym (data_length t m i k p.at).0
    ∙ ap (λ (o : Option Entry). length (or_else o [] (λ e. e.says.node_data))) (sym (look-stands t k.arranged own i m p) ∙ look-stands t k.arranged own j m q)
    ∙ (data_length t m j k q.at).0

-- the peer and its Peer TLV in their places
module _ (c : Context) (b : State) (t : Table) (p : Peers) (d : Progress) (m : List ℕ) (k : Rep (gathered c b t p d) m) (f : Sender) {t' : Table} {m' : List ℕ} (l : Links c f t m t' m') where
  abbrev tlv_in : List ℕ
  tlv_in = peer_tlv (record { node = f.node; theirs = f.endpoint; ours = c.endpoint; contact = 0 })

  -- our data with it are published under the next number
  linked_published : Published (publish_as c.clock (advance (meta_at t l.place).seq 1) (with_tlv tlv_in (own_data (state_of (gathered c b t p d) m))) (state_of (gathered c b t p d) m)) (gathered c b t p d) m (gathered c b t' p d) m'
  linked_published =
      stored-published (gathered c b t p d) m l.place k l.stands c.clock (advance (meta_at t l.place).seq 1) t'
      (with_tlv tlv_in (data_of m (meta_at t l.place))) (with_tlv tlv_in (own_data (state_of (gathered c b t p d) m))) m'
      (ap (with_tlv tlv_in) (sym (own_data_lem (gathered c b t p d) m l.place k l.stands))) l.stored

  pub joined-published : (q : Peers) (e : Peer) → PeersRep q → peers_of q ≡ peers_of p ++ (peer_of e ∷ [])
      → e.node ≡ f.node → e.theirs ≡ f.endpoint → e.ours ≡ c.endpoint
      → Published (add_peer c.clock (peer_of e) (state_of (gathered c b t p d) m)) (gathered c b t p d) m (gathered c b t' q d) m'
  joined-published q e g v e1 e2 e3 =
      added_published (gathered c b t p d) m k c.clock (advance (meta_at t l.place).seq 1) (with_tlv tlv_in (own_data (state_of (gathered c b t p d) m))) (gathered c b t' p d) m' linked_published
      e q (meta_at t l.place).seq tlv_in (sym (own-seq (gathered c b t p d) m l.place k l.stands)) refl (rw (e1, e2, e3)) refl g v

-- ---- as a step: room for a peer by the count of peers and the length of our data

abbrev peer_at : Context → Sender → Peer
peer_at c f = record { node = f.node; theirs = f.endpoint; ours = c.endpoint; contact = c.clock }

abbrev sender_in : Sender → ModelSender
sender_in f = record { node = f.node; endpoint = f.endpoint }

module _ (v : List ℕ) {c : Context} {t : Table} {p : Peers} {d : Progress} {m : List ℕ} (f : Sender) (o : Markable c t d m) (i : ℕ) (s : Stands t c.own i) (n : ℕ) (l : n ≡ (meta_at t i).len)
    (x : Bool) (e : x ≡ ltb p.count most_peers && leb (n + peer_bytes) publish_limit) where
  own-size : (b : State) (r : List ℕ) → Sound c.clock (gather c b t p d) m r → n ≡ length (own_data (state_of (gathered c b t p d) m))
  own-size b r h = l ∙ sym (own-length (gathered c b t p d) m i h.rep s)

  -- none
  pub told-dropped : x ≡ false → Told c 1 (greet (context_of c) (sender_in f)) v t p d m (record { progress = d; act = Decided Dropped })
  told-dropped q =
      record {
        opens = λ r h. h;
        answers = tt;
        alters = (tt, tt);
        few = λ z. no_way false z refl;
        is = λ j b t' y u m' r r' h a z k. rw (a.0, a.1, z.0, z.1, k) (passes_of (greeted_none c (gather c b t p d) m r h (sender_in f) x n e (own-size b r h) q));
      }

  -- some
  pub told_greets : x ≡ true → Told c 1 (greet (context_of c) (sender_in f)) v t p d m (record { progress = d; act = Greet f })
  told_greets q =
      record {
        opens = λ r h. h;
        answers = tt;
        alters = record { kept = o.kept; fits = o.fits; short = λ j y. rw (same_size t m c.own o.kept j i y s) (room_data p.count n x e q (meta_at t i).len l) };
        few = λ z. room-count p.count n x e q;
        is = λ j b t' y u m' r r' h a z k. rw (a.0, a.1) (passes_of
            (greeted c (gather c b t p d) m r h (sender_in f) (room-count p.count n x e q) (room_data p.count n x e q (length (own_data (state_of (gathered c b t p d) m))) (own-size b r h))
            (gathered c b t' y d) m' (joined-published c b t p d m h.rep f z y (peer_at c f) k.0 k.1 refl refl refl)));
      }

-- ---- a Node Endpoint TLV

abbrev sender_from : ℕ → ℕ → ModelSender
sender_from node endpoint = record { node = node; endpoint = endpoint }

abbrev noted : ℕ → ℕ → Sender
noted node endpoint = record { node = node; endpoint = endpoint }

module _ (c : Context) (w : Work) (m r : List ℕ) (node endpoint : ℕ) where
  -- our own identifier
  pub endpoint-ours : Sound c.clock w m r → node ≡ w.state.own → Stepped c 1 (on_endpoint (context_of c) (sender_from node endpoint)) w m r w m r
  endpoint-ours h e =
      stepped_more
      (stepped_to (stepped_none h) (on_endpoint (context_of c) (sender_from node endpoint))
      (sym (endpoint-own (context_of c) (work_of w m r) (sender_from node endpoint) (e ∙ sym (work_own w m r)))))
      1 (omega arith)

  -- the sender is noted, whoever it is
  sender_noted : Sound c.clock w m r → Stepped c 0 (with_sender (sender_from node endpoint)) w m r (put_sender (noted node endpoint) w) m r
  sender_noted h = stepped_sender h (with_sender (sender_from node endpoint)) (noted node endpoint) refl

  module _ (h : Sound c.clock w m r) (n : ¬ (node ≡ w.state.own)) (b : Bool) (e : b ≡ any (is_peer node endpoint c.endpoint) (peers_of w.state.peers)) where
    not_own : ¬ (node ≡ (work_of w m r).state.own)
    not_own q = n (q ∙ work_own w m r)

    known_is : {x : Bool} → b ≡ x → knows (context_of c) (sender_from node endpoint) (work_of w m r).state ≡ x
    known_is q = rw (work_state w m r, state-peers w.state m) (sym e ∙ q)

    -- a peer
    pub endpoint-peer : b ≡ true → Stepped c 1 (on_endpoint (context_of c) (sender_from node endpoint)) w m r (put_sender (noted node endpoint) w) m r
    endpoint-peer q =
        stepped_more
        (stepped_to (sender_noted h) (on_endpoint (context_of c) (sender_from node endpoint))
        (sym (endpoint-known (context_of c) (work_of w m r) (sender_from node endpoint) not_own (known_is q))))
        1 (omega arith)

    -- a stranger: over unicast it is greeted
    pub stranger_greeted : b ≡ false → c.unicast ≡ true
        → greet (context_of c) (sender_from node endpoint) (with_sender (sender_from node endpoint) (work_of w m r)) ≡ on_endpoint (context_of c) (sender_from node endpoint) (work_of w m r)
    stranger_greeted q u =
        sym
        (endpoint_stranger (context_of c) (work_of w m r) (sender_from node endpoint) not_own (known_is q)
        ∙ stranger_unicast (context_of c) (with_sender (sender_from node endpoint) (work_of w m r)) (sender_from node endpoint) u)

    -- over multicast it is asked
    stranger_asked : b ≡ false → c.unicast ≡ false
        → ask_network (context_of c) (with_sender (sender_from node endpoint) (work_of w m r)) ≡ on_endpoint (context_of c) (sender_from node endpoint) (work_of w m r)
    stranger_asked q u =
        sym
        (endpoint_stranger (context_of c) (work_of w m r) (sender_from node endpoint) not_own (known_is q)
        ∙ stranger_multicast (context_of c) (with_sender (sender_from node endpoint) (work_of w m r)) (sender_from node endpoint) u)

-- the sender is part of no premise
pub noted_marks : {c : Context} {t : Table} {d : Progress} {m : List ℕ} (f : Sender) → Markable c t d m → Markable c t (senderAt f d) m
noted_marks f o = record { kept = o.kept; fits = o.fits; clock = o.clock; cached = o.cached }

noted_open : {c : Context} {t : Table} {d : Progress} {m : List ℕ} (f : Sender) (r : List ℕ) → Open c t d m r → Open c t (senderAt f d) m r
noted_open f r o =
    record {
      marks = noted_marks f o.marks;
      writable = record { used = o.writable.used; room = o.writable.room };
      omitted = o.omitted;
      dropped = o.dropped;
      first = o.first;
      fourth = o.fourth;
    }

-- as steps that are told
module _ (v : List ℕ) {c : Context} {t : Table} {p : Peers} {d : Progress} {m : List ℕ} (node endpoint : ℕ) where
  pub told-ours : node ≡ c.own → Told c 1 (on_endpoint (context_of c) (sender_from node endpoint)) v t p d m (still_at d)
  told-ours e = told_still v (λ r o. o) (λ b r h. endpoint-ours c (gather c b t p d) m r node endpoint h e)

  module _ (n : ¬ (node ≡ c.own)) (x : Bool) (e : x ≡ any (is_peer node endpoint c.endpoint) (peers_of p)) where
    pub told-peer : x ≡ true → Told c 1 (on_endpoint (context_of c) (sender_from node endpoint)) v t p d m (still_at (senderAt (noted node endpoint) d))
    told-peer q = told_still v (noted_open (noted node endpoint)) (λ b r h. endpoint-peer c (gather c b t p d) m r node endpoint h n x e q)

    pub told_greeted : x ≡ false → c.unicast ≡ true → {y : Step}
        → Told c 1 (greet (context_of c) (sender_from node endpoint)) v t p (senderAt (noted node endpoint) d) m y
        → Told c 1 (on_endpoint (context_of c) (sender_from node endpoint)) v t p d m y
    told_greeted q u k =
        told_to v (told_then v k (noted_open (noted node endpoint)) (λ b r h. sender_noted c (gather c b t p d) m r node endpoint h)) 1 (on_endpoint (context_of c) (sender_from node endpoint)) (omega arith)
        (λ b r h. stranger_greeted c (gather c b t p d) m r node endpoint h n x e q u)

    pub told-asked : x ≡ false → c.unicast ≡ false
        → Told c 1 (on_endpoint (context_of c) (sender_from node endpoint)) v t p d m (record { progress = senderAt (noted node endpoint) d; act = AskNetwork })
    told-asked q u =
        record {
          opens = noted_open (noted node endpoint);
          answers = tt;
          alters = tt;
          few = λ z. no_way false z refl;
          is = λ j b t' y w m' r r' h a z k. rw (z.0, z.1, k)
              (let s = sender_noted c (gather c b t p d) m r node endpoint h in
              passes_of (stepped_to (stepped_then s (a.is b t p m s.sound)) (on_endpoint (context_of c) (sender_from node endpoint))
              (stranger_asked c (gather c b t p d) m r node endpoint h n x e q u)));
        }
