-- The three demands, over the promises of the public calls. Assumes nothing.
use Rattle.std.specs.Prelude.{◌≡◌, Bool, false, List, [], ◌∷◌, ◌++◌, map, ◌⊎◌, ◌↔◌, ℕ, ◌+◌, ◌-◌, ◌*◌, ◌≤◌, length, take, drop}
use Rattle.std.proofs.Math.Option.{some}
use Rattle.base.specs.Bytes.{big32}
use Rattle.base.specs.Lists.{In, join_all}
use Rattle.base.specs.Memory.{part}
use Rattle.base.specs.Signed.{sumℤ}
use Rattle.base.specs.Sorted.{Ascending}
use Rattle.sha256.specs.Sha256.{hash16}
use Rattle.wire.specs.Row.{row, type_of, tlvs}
use Rattle.wire.specs.Payment.{most_household}
use Rattle.model.specs.Figures.{data_limit, table_bytes}
use Rattle.model.specs.Table.{Entry, Statement, id_of, statements}
use Rattle.model.specs.Messages.{endpoint_tlv, network_tlv, short_state, whole_state}
use Rattle.model.specs.Totals.{total_of, sum_of, unreadable, payments_in}
use Rattle.model.specs.Handle.{Work as ModelWork, all_tlvs}
use Rattle.model.specs.Receive.{Call, context_of, start_of}
use Rattle.model.specs.Delivery.{held_or_heard, Lone, Close, distinct, Holds, SameHeard, Under}
use Rattle.model.specs.Theorems.{Chained, OneAtMost, up_from, Form, Exact}
use Rattle.model.specs.Reach.{in_reach}
use Rattle.model.specs.Digest.{network_digest}
use Rattle.table.specs.declared.Entry.{Entry as Meta}
use Rattle.table.specs.View.{live, view, data_of, Free, meta_of, Lays}
use Rattle.node.specs.View.{state_of}
use Rattle.node.specs.declared.State.{State}
use Rattle.exchange.specs.Datagram.{call_of}
use Rattle.node.specs.declared.answers.Done.{Done}
use Rattle.node.specs.declared.answers.Sent.{Sent}
use Rattle.node.specs.declared.answers.Answer.{Answer}
use Rattle.ledger.specs.declared.answers.Summed.{Summed}
use Rattle.ledger.specs.declared.answers.Marked.{Marked}
use Rattle.ledger.specs.Promises.{AsLeft, Blank, listed, Receives, Ticks, Purges, Totals, SumsUp, Marks}
use Rattle.ledger.specs.Calls.{PublicCall, Promised, state_after, memory_after, number_of, refusals_of, Bare, starts_anew, written_by, Trace, state_at_end, memory_at_end}

-- ---- demand 1: "The caller hands back state and table as the last call left them and need check nothing"

-- The one premise holds of the first state with whatever table memory, after every call, accepted or refused, and so after any list of calls.
pub record PremiseHolds : Type 0 where
  pub first : (s : State) → Blank s → (m : List ℕ) → AsLeft s m
  pub next : (x : PublicCall) (s : State) (m : List ℕ) → AsLeft s m → Promised x s m → AsLeft (state_after x s) (memory_after x m)
  pub always : (s : State) → Blank s → (m : List ℕ) (xs : List PublicCall) → Trace s m xs → AsLeft (state_at_end s xs) (memory_at_end m xs)

-- "the first in the order that applies is given, and it is given otherwise never": of the rows of the documents' numbers that the call's arguments and the
-- state call for
pub record NumbersExact : Type 0 where
  pub number : (x : PublicCall) (s : State) (m : List ℕ) → Promised x s m → Exact (number_of x s m) (refusals_of x s m)

-- "A refusal gives its number .., writes nothing in lent memory, changes no state": state, table memory and room are identical, and all else of the answer is 0
pub record RefusalsLeaveAll : Type 0 where
  pub refused : (x : PublicCall) (s : State) (m : List ℕ) → Promised x s m → ¬ (number_of x s m ≡ 0) → (state_after x s ≡ s) × ((memory_after x m ≡ m) × Bare x)

-- "Bytes of a buffer beyond what is written stay", of the table memory: accepted, the data of these entries were written, each in its node's slot, and no
-- other byte. So there stay its length and the bytes past the table; every slot that no node has afterwards; of a node's slot what lies behind all data
-- that the call wrote there; and all of it where its data are as before and none longer came between. A node that is held before and after has one slot.
pub record MemoryKept : Type 0 where
  pub exactly : (x : PublicCall) (s : State) (m : List ℕ) → Promised x s m → number_of x s m ≡ 0 → Lays m (written_by x s m) (state_after x s).table (memory_after x m)
  pub size : (x : PublicCall) (s : State) (m : List ℕ) → Promised x s m → length (memory_after x m) ≡ length m
  pub beyond : (x : PublicCall) (s : State) (m : List ℕ) → Promised x s m → drop table_bytes (memory_after x m) ≡ drop table_bytes m
  pub free : (x : PublicCall) (s : State) (m : List ℕ) → Promised x s m → (j : ℕ) → Free j (live (state_after x s).table)
      → part (memory_after x m) (j * data_limit) data_limit ≡ part m (j * data_limit) data_limit
  pub behind : (x : PublicCall) (s : State) (m : List ℕ) → Promised x s m → (n k : ℕ) (y : Meta) → meta_of (state_after x s).table n ≡ some y
      → ((e : Entry) → In e (written_by x s m) → id_of e ≡ n → length e.says.node_data ≤ k) → k ≤ data_limit
      → part (memory_after x m) (y.slot * data_limit + k) (data_limit - k) ≡ part m (y.slot * data_limit + k) (data_limit - k)
  pub same : (x : PublicCall) (s : State) (m : List ℕ) → Promised x s m → (n : ℕ) (y : Meta) → meta_of (state_after x s).table n ≡ some y
      → data_of (memory_after x m) y ≡ data_of m y → ((e : Entry) → In e (written_by x s m) → id_of e ≡ n → length e.says.node_data ≤ y.len)
      → part (memory_after x m) (y.slot * data_limit) data_limit ≡ part m (y.slot * data_limit) data_limit
  pub slots : (x : PublicCall) (s : State) (m : List ℕ) → Promised x s m → starts_anew x ≡ false
      → (n : ℕ) (y z : Meta) → meta_of s.table n ≡ some y → meta_of (state_after x s).table n ≡ some z → z.slot ≡ y.slot

-- ---- demand 2: "Only such boxes enter the network digest, a total or a Node State we send"

-- exactly the entries of the table to which a chain leads, each once, ascending
pub record Reachable (own clock : ℕ) (t es : List Entry) : Type 0 where
  pub exactly : (e : Entry) → In e es ↔ (In e t × Chained own clock t (id_of e))
  pub ascending : Ascending id_of es

-- "H over, .. by ascending identifier, number (4 bytes) and H(data)"
abbrev pub digest_over : List Entry → List ℕ
digest_over es = hash16 (join_all (map (λ (e : Entry). big32 e.says.seq ++ hash16 e.says.node_data) es))

-- the work on a datagram after its first TLVs
abbrev pub work_after : State → List ℕ → Call → List (List ℕ) → ModelWork
work_after s m c ts = all_tlvs (context_of (state_of s m) c) ts (start_of (state_of s m))

-- from the work w to the work v whole TLVs were written: each Node State of a node to which a chain leads at w, each Network State with the digest over
-- exactly these nodes
pub record Serves (clock : ℕ) (w v : ModelWork) : Type 0 where
  pub wrote : List (List ℕ)
  pub out : v.out ≡ w.out ++ join_all wrote
  pub whole : row (join_all wrote) ≡ some wrote
  pub states : (u : List ℕ) → In u wrote → type_of u ≡ 5
      → (e : Entry) × (In e w.state.table × Chained w.state.own clock w.state.table (id_of e)) × ((u ≡ short_state clock e) ⊎ (u ≡ whole_state clock e))
  pub digests : (u : List ℕ) → In u wrote → type_of u ≡ 4 → (es : List Entry) × Reachable w.state.own clock w.state.table es × (u ≡ network_tlv (digest_over es))

pub record OnlyReachable : Type 0 where
  pub marked : (clock : ℕ) (s : State) (m : List ℕ) (r : Marked) → AsLeft s m → Marks clock s m r → r.number ≡ 0
      → (es : List Entry) × Reachable s.own clock (view s.table m) es × (listed r ≡ map id_of es) × (r.digest ≡ digest_over es)
  pub summed : (clock : ℕ) (s : State) (m : List ℕ) (r : Summed) → AsLeft s m → SumsUp clock s m r → r.number ≡ 0
      → (es : List Entry) × Reachable s.own clock (view s.table m) es × (r.value ≡ sum_of (statements es)) × (r.unread ≡ unreadable (payments_in (statements es)))
  pub totalled : (clock household : ℕ) (s : State) (m : List ℕ) (r : Summed) → AsLeft s m → Totals clock household s m r → r.number ≡ 0
      → (es : List Entry) × Reachable s.own clock (view s.table m) es × (r.value ≡ total_of household (statements es))
      × (r.unread ≡ unreadable (payments_in (statements es)))
  -- what a datagram is answered with: all that its TLVs wrote, and each of them by what was reachable at its turn, whatever came before it
  pub replied : (datagram : List ℕ) (clock endpoint : ℕ) (unicast : Bool) (randoms : List ℕ) (s : State) (m q : List ℕ) (r : Answer) (m' q' : List ℕ) → AsLeft s m
      → Receives datagram clock endpoint unicast randoms s m q r m' q' → r.number ≡ 0 →
      let c : Call = call_of datagram clock endpoint unicast randoms (length m) (length q) in
      (take r.length q' ≡ (work_after s m c (tlvs datagram)).out)
      × ((before : List (List ℕ)) (t : List ℕ) → Serves clock (work_after s m c before) (work_after s m c (before ++ (t ∷ []))))
  -- what a tick sends: nothing, or our Node Endpoint TLV and the digest of the table that it leaves; never a Node State
  pub ticked : (clock endpoint : ℕ) (randoms : List ℕ) (s : State) (m q : List ℕ) (r : Sent) (m' q' : List ℕ) → Ticks clock endpoint randoms s m q r m' q' → r.number ≡ 0
      → (es : List Entry) × Reachable r.state.own clock (view r.state.table m') es
      × ((take r.length q' ≡ []) ⊎ (take r.length q' ≡ endpoint_tlv r.state.own endpoint ++ network_tlv (digest_over es)))
  pub stateless : (clock endpoint : ℕ) (randoms : List ℕ) (s : State) (m q : List ℕ) (r : Sent) (m' q' : List ℕ) → Ticks clock endpoint randoms s m q r m' q' → r.number ≡ 0
      → (u : List ℕ) → In u (tlvs (take r.length q')) → ¬ (type_of u ≡ 5)
  -- what a purge leaves
  pub purged : (clock : ℕ) (randoms : List ℕ) (s : State) (m : List ℕ) (r : Done) → AsLeft s m → Purges clock randoms s m r → r.number ≡ 0
      → Reachable s.own clock (view s.table m) (view r.state.table m)
  -- the digest that a state has, whatever call left it
  pub stored : (s : State) (m : List ℕ) → AsLeft s m → table_bytes ≤ length m
      → (es : List Entry) × Reachable s.own s.last (view s.table m) es × (s.digest ≡ digest_over es)

-- ---- demand 3: "The order of delivery can't lose a payment"

-- one datagram call as it was made
pub record Delivery : Type 0 where
  pub datagram : List ℕ
  pub clock : ℕ
  pub endpoint : ℕ
  pub unicast : Bool
  pub randoms : List ℕ
  pub room : List ℕ
  pub answer : Answer
  pub memory : List ℕ
  pub written : List ℕ

abbrev pub received : Delivery → PublicCall
received x = PublicCall.receives x.datagram x.clock x.endpoint x.unicast x.randoms x.room x.answer x.memory x.written

-- "Each call gets what the last one left"
abbrev pub Joined : State → List ℕ → List Delivery → Type 0
Joined s m xs = Trace s m (map received xs)

-- the model's calls, where the table memory has n bytes
abbrev pub call_in : ℕ → Delivery → Call
call_in n x = call_of x.datagram x.clock x.endpoint x.unicast x.randoms n (length x.room)

abbrev pub calls_of : ℕ → List Delivery → List Call
calls_of n xs = map (call_in n) xs

-- state, table memory and table after the last of them
abbrev pub state_then : State → List Delivery → State
state_then s xs = state_at_end s (map received xs)

abbrev pub memory_then : List ℕ → List Delivery → List ℕ
memory_then m xs = memory_at_end m (map received xs)

abbrev pub table_then : State → List ℕ → List Delivery → List Entry
table_then s m xs = view (state_then s xs).table (memory_then m xs)

-- statements held at the start or heard in an accepted call
abbrev pub known : State → List ℕ → List Delivery → List Statement
known s m xs = held_or_heard (state_of s m) (calls_of (length m) xs)

-- any start that keeps the invariant, calls that join, and the demand's own words
pub record Delivered (s : State) (m : List ℕ) (xs : List Delivery) : Type 0 where
  pub left : AsLeft s m
  pub joined : Joined s m xs
  pub lone : Lone (state_of s m) (calls_of (length m) xs)
  pub few : length (distinct (map (λ (x : Statement). x.node) (known s m xs))) ≤ 32
  pub close : (n : ℕ) → Close (known s m xs) n
  pub single : (x y : Statement) → In x (known s m xs) → In y (known s m xs) → x.node ≡ y.node → x.seq ≡ y.seq → x.node_data ≡ y.node_data

pub record DeliveryLosesNothing : Type 0 where
  -- "the table afterwards holds exactly the boxes held or heard, each with its newest statement"
  pub kept : (s : State) (m : List ℕ) (xs : List Delivery) → Delivered s m xs → Holds (λ (x : Statement). In x (known s m xs)) (table_then s m xs)
  -- "two such lists .. leave the same table apart from ages", and marks and network digest with it
  pub alike : (s : State) (m : List ℕ) (xs ys : List Delivery) → Delivered s m xs → Delivered s m ys
      → SameHeard (state_of s m) (calls_of (length m) xs) (calls_of (length m) ys) → statements (table_then s m xs) ≡ statements (table_then s m ys)
  pub marks : (s : State) (m : List ℕ) (xs ys : List Delivery) → Delivered s m xs → Delivered s m ys
      → SameHeard (state_of s m) (calls_of (length m) xs) (calls_of (length m) ys)
      → (clock : ℕ) → Under clock (table_then s m xs) → Under clock (table_then s m ys)
      → ((n : ℕ) → in_reach s.own clock (table_then s m xs) n ≡ in_reach s.own clock (table_then s m ys) n)
      × (network_digest s.own clock (table_then s m xs) ≡ network_digest s.own clock (table_then s m ys))
  -- over the calls that show them: where `marks` is accepted after both lists, both answers are the same
  pub answers : (s : State) (m : List ℕ) (xs ys : List Delivery) → Delivered s m xs → Delivered s m ys
      → SameHeard (state_of s m) (calls_of (length m) xs) (calls_of (length m) ys)
      → (clock : ℕ) → Under clock (table_then s m xs) → Under clock (table_then s m ys)
      → (a b : Marked) → Marks clock (state_then s xs) (memory_then m xs) a → Marks clock (state_then s ys) (memory_then m ys) b → a.number ≡ 0 → b.number ≡ 0 → a ≡ b

-- ---- what the model's theorems say, over the promises

-- one tick as it was made, at a reading and on an endpoint
pub record Ticking : Type 0 where
  pub randoms : List ℕ
  pub room : List ℕ
  pub answer : Sent
  pub memory : List ℕ
  pub written : List ℕ

abbrev pub tick_at : ℕ → ℕ → Ticking → PublicCall
tick_at clock endpoint x = PublicCall.ticks clock endpoint x.randoms x.room x.answer x.memory x.written

abbrev pub sent_by : Ticking → List ℕ
sent_by x = take x.answer.length x.written

pub record OverPromises : Type 0 where
  -- after three ticks at one reading nothing is due on that endpoint: a fourth, accepted or not, sends nothing and changes nothing
  pub ticks : (clock endpoint : ℕ) (s : State) (m : List ℕ) (a b c d : Ticking) → AsLeft s m → Trace s m (map (tick_at clock endpoint) (a ∷ b ∷ c ∷ d ∷ []))
      → a.answer.number ≡ 0 → b.answer.number ≡ 0 → c.answer.number ≡ 0
      → (d.answer.length ≡ 0) × (d.written ≡ d.room) × (d.memory ≡ c.memory) × (state_of d.answer.state d.memory ≡ state_of c.answer.state c.memory)
  -- at most one of the three sends
  pub once : (clock endpoint : ℕ) (s : State) (m : List ℕ) (a b c : Ticking) → AsLeft s m → Trace s m (map (tick_at clock endpoint) (a ∷ b ∷ c ∷ []))
      → a.answer.number ≡ 0 → b.answer.number ≡ 0 → c.answer.number ≡ 0 → OneAtMost (sent_by a) (sent_by b) (sent_by c)
  -- the totals of all households add up to the sum, and with each comes the same count
  pub households : (clock : ℕ) (s : State) (m : List ℕ) (r : Summed) → SumsUp clock s m r → r.number ≡ 0
      → (t : ℕ → Summed) → ((h : ℕ) → 1 ≤ h → h ≤ most_household → Totals clock h s m (t h))
      → (sumℤ (map (λ (h : ℕ). (t h).value) (up_from most_household 1)) ≡ r.value) × ((h : ℕ) → 1 ≤ h → h ≤ most_household → (t h).unread ≡ r.unread)
  -- all that is sent is a row of whole TLVs, our Node Endpoint TLV first and nowhere else, within 4,096 bytes
  pub answered : (datagram : List ℕ) (clock endpoint : ℕ) (unicast : Bool) (randoms : List ℕ) (s : State) (m q : List ℕ) (r : Answer) (m' q' : List ℕ)
      → Receives datagram clock endpoint unicast randoms s m q r m' q' → Form s.own endpoint (take r.length q')
  pub announced : (clock endpoint : ℕ) (randoms : List ℕ) (s : State) (m q : List ℕ) (r : Sent) (m' q' : List ℕ)
      → Ticks clock endpoint randoms s m q r m' q' → Form s.own endpoint (take r.length q')
