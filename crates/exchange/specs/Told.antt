-- What a TLV asks for, carried out on the progress, the table and the peers, and what the step promises of the model's. Assumes nothing.
use Rattle.std.specs.Prelude.{◌≡◌, Option, Some, None, IsSome, Bool, true, false, cond, ◌||◌, List, [], ◌∷◌, ◌++◌, map, Result, Ok, Err, ℕ, ◌+◌, ◌≤◌, ◌<◌, drop}
use Rattle.model.specs.Figures.{most_endpoints, most_peers, publish_limit, peer_bytes}
use Rattle.model.specs.Sequence.{advance}
use Rattle.model.specs.Trickle.{hear}
use Rattle.model.specs.Table.{entry_of, anew}
use Rattle.model.specs.State.{Peer as ModelPeer, peer_tlv, with_tlv, contacted}
use Rattle.model.specs.Messages.{request_node_tlv, whole_state}
use Rattle.model.specs.Handle.{Work as ModelWork, reply, ask_network, touch, new_peer, on_request_network}
use Rattle.model.specs.Invariant.{TableFits}
use Rattle.trickle.specs.declared.Trickle.{Trickle}
use Rattle.trickle.specs.View.{trickle_of}
use Rattle.table.specs.declared.Table.{Table}
use Rattle.table.specs.View.{view, seen, version_of, data_of, meta_at, Kept, Stands, Stored, Renumbered}
use Rattle.node.specs.declared.State.{State}
use Rattle.node.specs.declared.peers.Peers.{Peers}
use Rattle.node.specs.View.{peers_of, PeersRep}
use Rattle.decide.specs.declared.Decision.{Decision}
use Rattle.decide.specs.declared.Decision.TheVariants.{Ignored, Ask, TakeNumber, TakeAll, Dropped}
use Rattle.decide.specs.Decided.{Acts, Taken}
use Rattle.reply.specs.declared.Context.{Context}
use Rattle.reply.specs.declared.Sender.{Sender}
use Rattle.reply.specs.declared.Progress.{Progress}
use Rattle.reply.specs.Updates.{local_trickle, one_dropped, stale}
use Rattle.reply.specs.View.{context_of, Work, gather, work_of, Sound, Stepped, Open, Writes, Answers}
use Rattle.exchange.specs.declared.Step.{Step}
use Rattle.exchange.specs.declared.Act.{Act}
use Rattle.exchange.specs.declared.Act.TheVariants.{TellNetwork, TellNode, AskNetwork, Greet, Equal, Decided}

-- nothing is to be carried out
abbrev pub still_at : Progress → Step
still_at d = record { progress = d; act = Decided Ignored }

-- ---- the progress

-- an equal digest on the progress: over multicast it counts
pub record Counts (c : Context) (d v : Progress) : Type 0 where
  pub unicast : c.unicast ≡ true → v ≡ d
  pub multicast : c.unicast ≡ false
      → (h : Trickle) × ((trickle_of h ≡ hear (trickle_of d.local.trickle)) × (v ≡ local_trickle h d))

-- a decision on the progress
abbrev pub Notes : Context → Decision → Progress → List ℕ → Progress → List ℕ → Type 0
Notes c Ignored d r v r' = (v ≡ d) × (r' ≡ r)
Notes c (Ask node) d r v r' = Writes c 1 (reply (context_of c) (request_node_tlv node)) d r v r'
Notes c (TakeNumber place version) d r v r' = (v ≡ stale d) × (r' ≡ r)
Notes c (TakeAll place version) d r v r' = (v ≡ stale d) × (r' ≡ r)
Notes c Dropped d r v r' = (v ≡ one_dropped d) × (r' ≡ r)

-- what is asked for on the progress and in the room
abbrev pub Answered : Context → Act → Table → Progress → List ℕ → List ℕ → Progress → List ℕ → Type 0
Answered c TellNetwork t d m r v r' = Answers c 33 (on_request_network (context_of c)) t d m r v r'
Answered c (TellNode place) t d m r v r' = Writes c 1 (reply (context_of c) (whole_state c.clock (seen m (meta_at t place)))) d r v r'
Answered c AskNetwork t d m r v r' = Writes c 1 (ask_network (context_of c)) d r v r'
Answered c (Greet f) t d m r v r' = (v ≡ stale d) × (r' ≡ r)
Answered c Equal t d m r v r' = Counts c d v × (r' ≡ r)
Answered c (Decided x) t d m r v r' = Notes c x d r v r'

-- what that asks
abbrev pub Answerable : Table → Progress → Act → Type 0
Answerable t d TellNetwork = IsSome d.reached
Answerable t d (TellNode place) = place < t.count
Answerable t d AskNetwork = Unit {0}
Answerable t d (Greet f) = Unit {0}
Answerable t d Equal = Unit {0}
Answerable t d (Decided x) = Unit {0}

-- ---- the table

abbrev pub takes : Decision → Bool
takes Ignored = false
takes (Ask node) = false
takes (TakeNumber place version) = true
takes (TakeAll place version) = true
takes Dropped = false

abbrev pub alters : Act → Bool
alters TellNetwork = false
alters (TellNode place) = false
alters AskNetwork = false
alters (Greet f) = true
alters Equal = false
alters (Decided x) = takes x

-- the place where a node stands or would stand
abbrev pub place_in : Result ℕ ℕ → ℕ
place_in (Ok place) = place
place_in (Err place) = place

-- a decision on the value v carried out
abbrev pub TakenBy : List ℕ → Decision → Table → List ℕ → Table → List ℕ → Type 0
TakenBy v Ignored t m t' m' = (t' ≡ t) × (m' ≡ m)
TakenBy v (Ask node) t m t' m' = (t' ≡ t) × (m' ≡ m)
TakenBy v (TakeNumber place version) t m t' m' = Renumbered version.id version.seq version.age version.since t place t' × (m' ≡ m)
TakenBy v (TakeAll place version) t m t' m' = Stored (version_of version (drop 28 v)) t m (place_in place) t' m'
TakenBy v Dropped t m t' m' = (t' ≡ t) × (m' ≡ m)

-- our own data can take a Peer TLV more
pub record Joinable (c : Context) (t : Table) (m : List ℕ) : Type 0 where
  pub kept : Kept t m
  pub fits : TableFits c.own c.clock (view t m)
  pub short : (i : ℕ) → Stands t c.own i → (meta_at t i).len + peer_bytes ≤ publish_limit

-- they have the sender's, under the next number
pub record Links (c : Context) (f : Sender) (t : Table) (m : List ℕ) (t' : Table) (m' : List ℕ) : Type 0 where
  pub place : ℕ
  pub stands : Stands t c.own place
  pub stored :
      Stored
      (entry_of c.own (advance (meta_at t place).seq 1)
      (with_tlv (peer_tlv (record { node = f.node; theirs = f.endpoint; ours = c.endpoint; contact = 0 })) (data_of m (meta_at t place))) (anew c.clock))
      t m place t' m'

-- the table after what is asked for on the value v
abbrev pub TableAfter : Context → List ℕ → Act → Table → List ℕ → Table → List ℕ → Type 0
TableAfter c v TellNetwork t m t' m' = (t' ≡ t) × (m' ≡ m)
TableAfter c v (TellNode place) t m t' m' = (t' ≡ t) × (m' ≡ m)
TableAfter c v AskNetwork t m t' m' = (t' ≡ t) × (m' ≡ m)
TableAfter c v (Greet f) t m t' m' = Links c f t m t' m'
TableAfter c v Equal t m t' m' = (t' ≡ t) × (m' ≡ m)
TableAfter c v (Decided x) t m t' m' = TakenBy v x t m t' m'

-- what that asks
abbrev pub Alterable : Context → List ℕ → Act → Table → List ℕ → Type 0
Alterable c v TellNetwork t m = Unit {0}
Alterable c v (TellNode place) t m = Unit {0}
Alterable c v AskNetwork t m = Unit {0}
Alterable c v (Greet f) t m = Joinable c t m
Alterable c v Equal t m = Unit {0}
Alterable c v (Decided x) t m = Acts t x × Taken t v x

-- ---- the peers

abbrev pub greets : Act → Bool
greets TellNetwork = false
greets (TellNode place) = false
greets AskNetwork = false
greets (Greet f) = true
greets Equal = false
greets (Decided x) = false

-- the digest received is ours: the sender is in contact
abbrev pub agrees : Act → Bool
agrees TellNetwork = false
agrees (TellNode place) = false
agrees AskNetwork = false
agrees (Greet f) = false
agrees Equal = true
agrees (Decided x) = false

-- as it is by any TLV over unicast, where the sender is known
abbrev pub touching : Bool → Option Sender → Act → Bool
touching unicast None x = false
touching unicast (Some f) x = unicast || agrees x

abbrev pub meets : Bool → Option Sender → Act → Bool
meets unicast f x = greets x || touching unicast f x

abbrev pub newcomer : Context → Sender → ModelPeer
newcomer c f = new_peer (context_of c) (record { node = f.node; endpoint = f.endpoint })

abbrev pub greeted_in : Context → Act → List ModelPeer → List ModelPeer
greeted_in c TellNetwork ps = ps
greeted_in c (TellNode place) ps = ps
greeted_in c AskNetwork ps = ps
greeted_in c (Greet f) ps = ps ++ (newcomer c f ∷ [])
greeted_in c Equal ps = ps
greeted_in c (Decided x) ps = ps

-- the last contact with the sender set, if there is one
abbrev pub contact_set : Context → Option Sender → Bool → List ModelPeer → List ModelPeer
contact_set c None b ps = ps
contact_set c (Some f) b ps = cond b (map (contacted f.node f.endpoint c.endpoint c.clock) ps) ps

abbrev pub touched_in : Context → Option Sender → Act → List ModelPeer → List ModelPeer
touched_in c f x ps = contact_set c f (c.unicast || agrees x) ps

-- the peers, the sender among them if it becomes one
abbrev pub Greeted : Context → Act → Peers → Peers → Type 0
Greeted c TellNetwork p q = q ≡ p
Greeted c (TellNode place) p q = q ≡ p
Greeted c AskNetwork p q = q ≡ p
Greeted c (Greet f) p q = PeersRep q × (peers_of q ≡ peers_of p ++ (newcomer c f ∷ []))
Greeted c Equal p q = q ≡ p
Greeted c (Decided x) p q = q ≡ p

-- ---- the step

-- from w to w' it is the model's step f but for the last contact, which follows
pub record Passes (c : Context) (k : ℕ) (f : ModelWork → ModelWork) (touches : Bool) (w : Work) (m r : List ℕ) (w' : Work) (m' r' : List ℕ) : Type 0 where
  pub stepped : Stepped c k (λ y. work_of w' m' r') w m r w' m' r'
  pub is : f (work_of w m r) ≡ cond touches (touch (context_of c) (work_of w' m' r')) (work_of w' m' r')

-- what a TLV with the value v asks for: it can be carried out, and then it is the model's step f, whatever else the state and the room hold
pub record Told (c : Context) (k : ℕ) (f : ModelWork → ModelWork) (v : List ℕ) (t : Table) (p : Peers) (d : Progress) (m : List ℕ) (x : Step) : Type 0 where
  pub opens : (r : List ℕ) → Open c t d m r → Open c t x.progress m r
  pub answers : Answerable t x.progress x.act
  pub alters : Alterable c v x.act t m
  pub few : greets x.act ≡ true → p.count < most_peers
  pub is : (1 ≤ c.endpoint) × (c.endpoint ≤ most_endpoints) → (b : State) (t' : Table) (q : Peers) (u : Progress) (m' r r' : List ℕ) → Sound c.clock (gather c b t p d) m r → Answered c x.act t x.progress m r u r'
      → TableAfter c v x.act t m t' m' → Greeted c x.act p q
      → Passes c k f (agrees x.act) (gather c b t p d) m r (gather c b t' q u) m' r'
