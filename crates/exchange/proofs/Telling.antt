-- Steps that are told and carried out: one that leaves table and peers alone, one after another, and the whole with the last contact. Assumes nothing.
use mathlib.Core.Path.{◌≡◌, refl, sym, ap, ◌∙◌}
use mathlib.Core.Bool.{Bool, true, false, cond, ◌||◌}
use mathlib.Core.List.{List, [], ◌∷◌, ◌++◌, map}
use Prim.Native.Nat.{ℕ, ◌+◌, ◌≤◌, ◌<◌}
use native.Mathlib.Omega.{arith}
use lib.ListN.{set}
use Rattle.base.proofs.Tests.{no_way}
use Rattle.wire.specs.Row.{type_of, value_of}
use Rattle.model.specs.Figures.{most_peers}
use Rattle.model.specs.State.{State as ModelState, contacted, with_peers}
use Rattle.model.specs.Handle.{Context as ModelContext, Sender as ModelSender, Work as ModelWork, with_state, touch_by, touch, on_tlv, one_tlv}
use Rattle.model.proofs.Cases.{touch-none, touch-some, one_tlv_unicast, one_tlv_multicast}
use Rattle.std.specs.Prelude.{Option, Some, None}
use Rattle.table.specs.declared.Table.{Table}
use Rattle.table.specs.View.{view}
use Rattle.reach.specs.declared.Reached.{Reached}
use Rattle.reach.specs.Marks.{Reaching}
use Rattle.node.specs.declared.State.{State}
use Rattle.node.specs.declared.peers.Peer.{Peer}
use Rattle.node.specs.declared.peers.Peers.{Peers}
use Rattle.node.specs.View.{peers_of, state_of, PeersRep, Moved}
use Rattle.node.proofs.Parts.{state-peers}
use Rattle.node.proofs.Moves.{moved_to, peers_moved}
use Rattle.node.proofs.Peerings.{touched-moved}
use Rattle.node.proofs.Contacts.{peers_add, peers_set_rep}
use Rattle.reply.specs.declared.Context.{Context}
use Rattle.reply.specs.declared.Sender.{Sender}
use Rattle.reply.specs.declared.Progress.{Progress}
use Rattle.reply.specs.Updates.{with_reached}
use Rattle.reply.specs.View.{context_of, Work, gather, work_of, Sound, Stepped, Open}
use Rattle.reply.proofs.Steps.{work_state, work_known, work_unknown, put_state, gathered, stepped_to, stepped_more, stepped_then, stepped_last, stepped_kept, refreshed_stepped, refreshed_open}
use Rattle.exchange.specs.declared.Step.{Step}
use Rattle.exchange.specs.declared.Act.{Act}
use Rattle.exchange.specs.declared.Act.TheVariants.{TellNetwork, TellNode, AskNetwork, Greet, Equal, Decided}
use Rattle.exchange.specs.Told.{still_at, Answered, TableAfter, greets, agrees, newcomer, greeted_in, contact_set, touched_in, Greeted, Passes, Told}
use Rattle.exchange.proofs.Touching.{touch-twice}
use Rattle.exchange.proofs.Carrying.{answered-sender}

-- ---- a step without the last contact

module _ {c : Context} {k : ℕ} {f : ModelWork → ModelWork} {w : Work} {m r : List ℕ} {w' : Work} {m' r' : List ℕ} where
  pub passes_of : Stepped c k f w m r w' m' r' → Passes c k f false w m r w' m' r'
  passes_of s = record { stepped = stepped_to s (λ y. work_of w' m' r') (sym s.is); is = sym s.is }

-- ---- told

module _ {c : Context} {k : ℕ} {f : ModelWork → ModelWork} (v : List ℕ) {t : Table} {p : Peers} {d : Progress} {m : List ℕ} where
  -- nothing is left to be carried out
  pub told_still : {u : Progress} → ((r : List ℕ) → Open c t d m r → Open c t u m r)
      → ((b : State) (r : List ℕ) → Sound c.clock (gather c b t p d) m r → Stepped c k f (gather c b t p d) m r (gather c b t p u) m r)
      → Told c k f v t p d m (still_at u)
  told_still {u} o s =
      record {
        opens = o;
        answers = tt;
        alters = (tt, tt);
        few = λ e. no_way false e refl;
        is = λ i b t' q w m' r r' h a e z. rw (a.0, a.1, e.0, e.1, z) (passes_of (s b r h));
      }

  module _ {x : Step} (s : Told c k f v t p d m x) where
    -- the model's step is another's, and the bound larger
    pub told_to : (n : ℕ) (g : ModelWork → ModelWork) → k ≤ n
        → ((b : State) (r : List ℕ) → Sound c.clock (gather c b t p d) m r → f (work_of (gather c b t p d) m r) ≡ g (work_of (gather c b t p d) m r))
        → Told c n g v t p d m x
    told_to n g l e =
        record {
          opens = s.opens;
          answers = s.answers;
          alters = s.alters;
          few = s.few;
          is = λ i b t' q u m' r r' h o a z.
              let y : Passes c k f (agrees x.act) (gather c b t p d) m r (gather c b t' q u) m' r' = s.is i b t' q u m' r r' h o a z in
              record { stepped = stepped_more y.stepped n l; is = sym (e b r h) ∙ y.is };
        }

    -- after a step on the progress
    pub told_then : {g : ModelWork → ModelWork} {u : Progress} → ((r : List ℕ) → Open c t u m r → Open c t d m r)
        → ((b : State) (r : List ℕ) → Sound c.clock (gather c b t p u) m r → Stepped c 0 g (gather c b t p u) m r (gather c b t p d) m r)
        → Told c k (λ y. f (g y)) v t p u m x
    told_then {g} {u} o n =
        record {
          opens = λ r h. s.opens r (o r h);
          answers = s.answers;
          alters = s.alters;
          few = s.few;
          is = λ i b t' q w m' r r' h l a z.
              let o : Stepped c 0 g (gather c b t p u) m r (gather c b t p d) m r = n b r h in
              let y : Passes c k f (agrees x.act) (gather c b t p d) m r (gather c b t' q w) m' r' = s.is i b t' q w m' r r' o.sound l a z in
              record { stepped = stepped_more (stepped_then o y.stepped) k (omega arith); is = ap f (sym o.is) ∙ y.is };
        }

-- after marks and digest were worked out
pub told_refreshed : {c : Context} {k : ℕ} {f : ModelWork → ModelWork} (v : List ℕ) {t : Table} {p : Peers} (d : Progress) {m : List ℕ} (g : Reached) → Reaching c.own c.clock (view t m) g
    → {x : Step} → Told c k f v t p (with_reached g d) m x → Told c k f v t p d m x
told_refreshed v {p = p} d g h s = told_then v s (refreshed_open g h) (λ b r k. refreshed_stepped d g h b p r k)

-- ---- the last contact, after the step

touched-some : (c : Context) (w : Work) (m r : List ℕ) → Sound c.clock w m r → (x : Sender) → w.sender ≡ Some x → (s : State)
    → Moved (with_peers (map (contacted x.node x.endpoint c.endpoint c.clock) (state_of w.state m).peers) (state_of w.state m)) m s m
    → s.own ≡ w.state.own → s.table ≡ w.state.table → Stepped c 0 (touch (context_of c)) w m r (put_state s w.reached w) m r
touched-some c w m r h x e s k o t =
    let f : ModelSender = record { node = x.node; endpoint = x.endpoint } in
    stepped_kept h (touch (context_of c)) (touch_by (context_of c) f (state_of w.state m)) s k o t
    (touch-some (context_of c) (work_of w m r) f (work_known w m r x e)
    ∙ ap (λ (x : ModelState). with_state (touch_by (context_of c) f x) (work_of w m r)) (work_state w m r))

module _ (c : Context) (b : State) (t : Table) (q : Peers) (d : Progress) (m r : List ℕ) (h : Sound c.clock (gather c b t q d) m r) (p : Peers) (k : PeersRep p) where
  -- the same peers
  same-peers : peers_of p ≡ peers_of q → Stepped c 0 (λ y. y) (gather c b t q d) m r (gather c b t p d) m r
  same-peers e =
      stepped_kept h (λ y. y) (state_of (gathered c b t q d) m) (gathered c b t p d)
      (moved_to (peers_moved (gathered c b t q d) m h.rep p (state_of (gathered c b t q d) m).peers k (e ∙ sym (state-peers (gathered c b t q d) m))) refl)
      refl refl (ap (λ (s : ModelState). with_state s (work_of (gather c b t q d) m r)) (work_state (gather c b t q d) m r))

  -- the sender among them heard now
  met-peers : (f : Sender) → d.sender ≡ Some f → peers_of p ≡ map (contacted f.node f.endpoint c.endpoint c.clock) (peers_of q)
      → Stepped c 0 (touch (context_of c)) (gather c b t q d) m r (gather c b t p d) m r
  met-peers f e v =
      touched-some c (gather c b t q d) m r h f e (gathered c b t p d)
      (touched-moved (contacted f.node f.endpoint c.endpoint c.clock) (gathered c b t q d) p k v m h.rep) refl refl

  -- both: a last contact to set, and a sender that is known
  pub last-contact : (f : Option Sender) (flag : Bool) → d.sender ≡ f → peers_of p ≡ contact_set c f flag (peers_of q)
      → Stepped c 0 (λ y. cond flag (touch (context_of c) y) y) (gather c b t q d) m r (gather c b t p d) m r
  last-contact (Some f) true e v = met-peers f e v
  last-contact (Some f) false e v = same-peers v
  last-contact None true e v =
      stepped_to (same-peers v) (touch (context_of c)) (sym (touch-none (context_of c) (work_of (gather c b t q d) m r) (work_unknown (gather c b t q d) m r e)))
  last-contact None false e v = same-peers v

-- once is as often as it takes
one-touch : (c : ModelContext) (w : ModelWork) (touches unicast : Bool)
    → cond (unicast || touches) (touch c w) w ≡ cond unicast (touch c (cond touches (touch c w) w)) (cond touches (touch c w) w)
one-touch c w true true = sym (touch-twice c w)
one-touch c w true false = refl
one-touch c w false true = refl
one-touch c w false false = refl

-- ---- the peers that there are before the last contact

greeted_list : (c : Context) (x : Act) (p : Peers) → PeersRep p → (greets x ≡ true → p.count < most_peers)
    → (q : Peers) × (Greeted c x p q × (PeersRep q × (peers_of q ≡ greeted_in c x (peers_of p))))
greeted_list c (Greet f) p k l =
    let new : Peer = record { node = f.node; theirs = f.endpoint; ours = c.endpoint; contact = c.clock } in
    let q : Peers = record { count = p.count + 1; list = set p.list p.count new } in
    let g : PeersRep q = peers_set_rep p p.count (p.count + 1) new k (omega (arith, l refl)) in
    let v : peers_of q ≡ peers_of p ++ (newcomer c f ∷ []) = peers_add p new k (l refl) in
    (q, ((g, v), (g, v)))
greeted_list c TellNetwork p k l = (p, (refl, (k, refl)))
greeted_list c (TellNode place) p k l = (p, (refl, (k, refl)))
greeted_list c AskNetwork p k l = (p, (refl, (k, refl)))
greeted_list c Equal p k l = (p, (refl, (k, refl)))
greeted_list c (Decided x) p k l = (p, (refl, (k, refl)))

-- ---- one TLV as a whole

module _ {c : Context} {kind : ℕ} {v : List ℕ} {t : Table} {p : Peers} {d : Progress} {m : List ℕ} {x : Step}
    (s : Told c 33 (on_tlv (context_of c) kind v) v t p d m x) (i : (1 ≤ c.endpoint) × (c.endpoint ≤ 4)) (b : State) (r : List ℕ) (h : Sound c.clock (gather c b t p d) m r)
    (tlv : List ℕ) (e : type_of tlv ≡ kind) (z : value_of tlv ≡ v) (u : Progress) (r' : List ℕ) (l : Answered c x.act t x.progress m r u r')
    (t' : Table) (m' : List ℕ) (a : TableAfter c v x.act t m t' m')
    (p' : Peers) (k : PeersRep p') (y : peers_of p' ≡ touched_in c x.progress.sender x.act (greeted_in c x.act (peers_of p))) where
  one-is : one_tlv (context_of c) tlv (work_of (gather c b t p d) m r)
      ≡ cond c.unicast (touch (context_of c) (on_tlv (context_of c) kind v (work_of (gather c b t p d) m r))) (on_tlv (context_of c) kind v (work_of (gather c b t p d) m r))
  one-is = by c.unicast refl
    where
      same-tlv : on_tlv (context_of c) (type_of tlv) (value_of tlv) (work_of (gather c b t p d) m r) ≡ on_tlv (context_of c) kind v (work_of (gather c b t p d) m r)
      same-tlv = rw (e, z)

      by : (u : Bool) → c.unicast ≡ u → one_tlv (context_of c) tlv (work_of (gather c b t p d) m r)
          ≡ cond u (touch (context_of c) (on_tlv (context_of c) kind v (work_of (gather c b t p d) m r))) (on_tlv (context_of c) kind v (work_of (gather c b t p d) m r))
      by true u = one_tlv_unicast (context_of c) (work_of (gather c b t p d) m r) tlv u ∙ ap (touch (context_of c)) same-tlv
      by false u = one_tlv_multicast (context_of c) (work_of (gather c b t p d) m r) tlv u ∙ same-tlv

  pub one-carried : Stepped c 33 (one_tlv (context_of c) tlv) (gather c b t p d) m r (gather c b t' p' u) m' r'
  one-carried =
      let w : u.sender ≡ x.progress.sender = answered-sender c x.act t x.progress m r u r' l in
      let g = greeted_list c x.act p h.rep.peers s.few in
      let q : Peers = g.0 in
      let n : Passes c 33 (on_tlv (context_of c) kind v) (agrees x.act) (gather c b t p d) m r (gather c b t' q u) m' r' = s.is i b t' q u m' r r' h l a g.1.0 in
      let o : Stepped c 0 (λ j. cond (c.unicast || agrees x.act) (touch (context_of c) j) j) (gather c b t' q u) m' r' (gather c b t' p' u) m' r' =
      last-contact c b t' q u m' r' n.stepped.sound p' k u.sender (c.unicast || agrees x.act) refl
      (rw w (y ∙ ap (touched_in c x.progress.sender x.act) (sym g.1.1.1))) in
      stepped_to (stepped_more (stepped_last n.stepped o refl) 33 (omega arith)) (one_tlv (context_of c) tlv)
      (one-touch (context_of c) (work_of (gather c b t' q u) m' r') (agrees x.act) c.unicast
      ∙ ap (λ (j : ModelWork). cond c.unicast (touch (context_of c) j) j) (sym n.is) ∙ sym one-is)
