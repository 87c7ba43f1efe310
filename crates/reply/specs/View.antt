-- The parts of a call between two TLVs as the model's work, and what a step on them promises. Assumes nothing.
use Rattle.std.specs.Prelude.{◌≡◌, Some, None, List, map, ℕ, ◌+◌, ◌-◌, ◌≤◌, length, take, drop, set}
use Rattle.std.specs.Prelude.{Option as Answer}
use Rattle.std.proofs.Math.Option.{Option, none, some}
use Rattle.model.specs.Figures.{most_endpoints, most_bytes, table_bytes, last_reading}
use Rattle.model.specs.Messages.{short_state}
use Rattle.model.specs.Handle.{Context as ModelContext, Sender as ModelSender, Work as ModelWork, replies, reached_now}
use Rattle.model.specs.Invariant.{TableFits, Midway}
use Rattle.table.specs.declared.Table.{Table}
use Rattle.table.specs.View.{view, Kept, Wrote}
use Rattle.reach.specs.declared.Reached.{Reached}
use Rattle.reach.specs.Marks.{Reaching}
use Rattle.node.specs.declared.State.{State}
use Rattle.node.specs.declared.peers.Peers.{Peers}
use Rattle.node.specs.View.{state_of, Rep}
use Rattle.reply.specs.declared.Context.{Context}
use Rattle.reply.specs.declared.Sender.{Sender}
use Rattle.reply.specs.declared.Progress.{Progress}

abbrev pub context_of : Context → ModelContext
context_of c = record { clock = c.clock; endpoint = c.endpoint; unicast = c.unicast; random = c.random; others = c.others }

abbrev pub sender_of : Answer Sender → Option ModelSender
sender_of (Some f) = some (record { node = f.node; endpoint = f.endpoint })
sender_of None = none

-- ---- the parts as one

-- a state, and what a call keeps beside it
pub record Work : Type 0 where
  pub state : State
  pub sender : Answer Sender
  pub used : ℕ
  pub omitted : ℕ
  pub dropped : ℕ
  pub reached : Answer Reached

-- table t, peers p and progress d of a call that began with the state b: what no TLV touches is b's
abbrev pub gather : Context → State → Table → Peers → Progress → Work
gather c b t p d =
    record {
      state = record { own = c.own; last = b.last; table = t; peers = p; endpoints = set b.endpoints (c.endpoint - 1) d.local; digest = b.digest };
      sender = d.sender;
      used = d.used;
      omitted = d.omitted;
      dropped = d.dropped;
      reached = d.reached;
    }

-- the work w with the table memory m and the room r for replies
unfoldable pub work_of : Work → List ℕ → List ℕ → ModelWork
work_of w m r =
    record { state = state_of w.state m; sender = sender_of w.sender; out = take w.used r; omitted = w.omitted; dropped = w.dropped }

-- the representation: the state's, the room, and the marks kept from before are those of the table now
pub record Sound (clock : ℕ) (w : Work) (m r : List ℕ) : Type 0 where
  pub rep : Rep w.state m
  pub used : w.used ≤ most_bytes
  pub room : most_bytes ≤ length r
  pub cached : (g : Reached) → w.reached ≡ Some g → Reaching w.state.own clock (view w.state.table m) g

-- a datagram has at most 1,024 TLVs, each with at most 33 replies: a count stays far below the end of its type
abbrev pub most_counted : ℕ
most_counted = 1000000

-- what a step asks: a sound work that keeps the invariant, a reading and an endpoint in range, counts far from the end of their type
pub record Ready (c : Context) (w : Work) (m r : List ℕ) : Type 0 where
  pub sound : Sound c.clock w m r
  pub midway : Midway c.clock (state_of w.state m)
  pub clock : c.clock ≤ last_reading
  pub first : 1 ≤ c.endpoint
  pub fourth : c.endpoint ≤ most_endpoints
  pub omitted : w.omitted ≤ most_counted
  pub dropped : w.dropped ≤ most_counted

-- what a step promises: the model's step f, the representation kept, and the bytes past what is written as they were; at most k replies left out, and k TLVs dropped
pub record Stepped (c : Context) (k : ℕ) (f : ModelWork → ModelWork) (w : Work) (m r : List ℕ) (w' : Work) (m' r' : List ℕ) : Type 0 where
  pub is : work_of w' m' r' ≡ f (work_of w m r)
  pub sound : Sound c.clock w' m' r'
  pub omitted : w'.omitted ≤ w.omitted + k
  pub dropped : w'.dropped ≤ w.dropped + k
  pub wrote : Wrote w.state.table m (view w'.state.table m') w'.state.table m'
  pub size : length m' ≡ length m
  pub beyond : drop table_bytes m' ≡ drop table_bytes m
  pub room : length r' ≡ length r
  pub onward : w.used ≤ w'.used
  pub rest : drop w'.used r' ≡ drop w'.used r

-- ---- what the code's parts promise

-- what the marking asks: nothing of peers and room
pub record Markable (c : Context) (t : Table) (d : Progress) (m : List ℕ) : Type 0 where
  pub kept : Kept t m
  pub fits : TableFits c.own c.clock (view t m)
  pub clock : c.clock ≤ last_reading
  pub cached : (g : Reached) → d.reached ≡ Some g → Reaching c.own c.clock (view t m) g

-- what a reply asks: the room
pub record Writable (d : Progress) (r : List ℕ) : Type 0 where
  pub used : d.used ≤ most_bytes
  pub room : most_bytes ≤ length r

-- what a TLV asks: nothing of the peers
pub record Open (c : Context) (t : Table) (d : Progress) (m r : List ℕ) : Type 0 where
  pub marks : Markable c t d m
  pub writable : Writable d r
  pub omitted : d.omitted ≤ most_counted
  pub dropped : d.dropped ≤ most_counted
  pub first : 1 ≤ c.endpoint
  pub fourth : c.endpoint ≤ most_endpoints

-- a step on progress and room alone: the model's step f, whatever state and table there are
pub record Writes (c : Context) (k : ℕ) (f : ModelWork → ModelWork) (d : Progress) (r : List ℕ) (v : Progress) (r' : List ℕ) : Type 0 where
  pub sender : v.sender ≡ d.sender
  pub used : v.used ≤ most_bytes
  pub omitted : v.omitted ≤ d.omitted + k
  pub room : length r' ≡ length r
  pub is : (b : State) (t : Table) (p : Peers) (m : List ℕ) → Sound c.clock (gather c b t p d) m r
      → Stepped c k f (gather c b t p d) m r (gather c b t p v) m r'

-- a step on progress and room that reads the table
pub record Answers (c : Context) (k : ℕ) (f : ModelWork → ModelWork) (t : Table) (d : Progress) (m r : List ℕ) (v : Progress) (r' : List ℕ) : Type 0 where
  pub sender : v.sender ≡ d.sender
  pub is : (b : State) (p : Peers) → Sound c.clock (gather c b t p d) m r → Stepped c k f (gather c b t p d) m r (gather c b t p v) m r'

-- the states of all that are reachable
pub record Lists (c : Context) (t : Table) (d : Progress) (m r : List ℕ) (v : Progress) (r' : List ℕ) : Type 0 where
  pub sender : v.sender ≡ d.sender
  pub is : (b : State) (p : Peers) → Sound c.clock (gather c b t p d) m r
      → Stepped c 32 (replies (context_of c) (map (short_state c.clock) (reached_now (context_of c) (work_of (gather c b t p d) m r))))
      (gather c b t p d) m r (gather c b t p v) m r'
