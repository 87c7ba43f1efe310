-- What is proved of the definitions, one statement each; the proofs are in proofs/. First the theorems 1 to 8, of which 3 stands in Delivery, then what
-- is proved of single rules. Assumes nothing.
use Rattle.std.specs.Prelude.{◌≡◌, ℕ, zero, suc, ◌+◌, ◌^◌, ◌<◌, ◌≤◌, min, true, false, cond, not, ◌⊎◌, ◌↔◌, List, [], ◌∷◌, ◌++◌, map, length, take, drop, replicate, ℤ, pos, ◌+ℤ◌, ◌==◌}
use Rattle.std.proofs.Math.Option.{none, some}
use Rattle.std.specs.Int.Signed.{mag}
use Rattle.base.specs.Lists.{all, keep, join_all, or_else, In, All}
use Rattle.base.specs.Bytes.{Bytes, u32_at, big32, same}
use Rattle.base.specs.Signed.{sumℤ}
use Rattle.base.specs.Sorted.{Ascending}
use Rattle.wire.specs.Row.{row, type_of, value_of, tlvs}
use Rattle.wire.specs.Payment.{Payment, Payable, most_household, payment_tlv, read_payment}
use Rattle.sha256.specs.Sha256.{hash16}
use Rattle.model.specs.Figures.{most_nodes, most_endpoints, most_bytes, snapshot_bytes, most_age}
use Rattle.model.specs.Sequence.{circle}
use Rattle.model.specs.Table.{Entry, Statement, id_of, entry_of, age_at, look, put, stamp}
use Rattle.model.specs.Reach.{Vertex, vertices, last_level, in_reach, reached}
use Rattle.model.specs.Chain.{Chain}
use Rattle.model.specs.Digest.{network_digest}
use Rattle.model.specs.Trickle.{Trickle}
use Rattle.model.specs.State.{State, Peer, Endpoint, endpoint_at, own_data, settle}
use Rattle.model.specs.Messages.{endpoint_tlv, network_tlv, short_state, whole_state}
use Rattle.model.specs.Decide.{Received, Decision, received_of, decide}
use Rattle.model.specs.Handle.{Context, Sender, Work, piece, reply, ask_network, room_for_peer, greet, carry_out, one_tlv, all_tlvs, on_network, digest_now}
use Rattle.model.specs.Refusals.{Row, first_of, late, back, no_such_endpoint, small_table, small_room, long, no_row, no_household, paid_already, full, no_interval, no_such_node}
use Rattle.model.specs.Begin.{begun, begin, blank}
use Rattle.model.specs.Receive.{Call, context_of, start_of, receive}
use Rattle.model.specs.Tick.{Sent, interval_of, goes, tick, ticked}
use Rattle.model.specs.KeepAlive.{no_room, keep_alive}
use Rattle.model.specs.Pay.{pay, purge}
use Rattle.model.specs.Totals.{is_payment, payments_of, total_of, sum_of, payments_in, readable, unreadable, reachable, refusal_total, total, refusal_sum, sum}
use Rattle.model.specs.Show.{marks, refusal_show, shown}
use Rattle.model.specs.Snapshot.{Snapshot, saved, save, load, no_snapshot, resumed, resume}
use Rattle.model.specs.Invariant.{Valid, SnapshotFits}
use Rattle.model.specs.Examples.{examples}

-- 1. The marked examples of document 01 hold, all 13.
pub record MarkedExamples : Type 0 where
  pub hold : all (λ b. b) examples ≡ true
  pub number : length examples ≡ 13

-- 2. Reachable by levels, as document 01 has it, exactly when there is a chain as demand 2 has it: mutual Peer TLVs, joined endpoint to endpoint, from
-- our own node, every node on it but the last under the age limit. The reachable entries are those of the table whose nodes are reachable, in the
-- table's order. Fewer levels come after our own node than there are reachable nodes.

-- k steps of a chain lead to node n
abbrev pub StepsTo : ℕ → ℕ → List Entry → ℕ → ℕ → Type 0
StepsTo own clock t k n = (v : Vertex) × Chain own (vertices clock t) k v × (v.says.node ≡ n)

abbrev pub Chained : ℕ → ℕ → List Entry → ℕ → Type 0
Chained own clock t n = (k : ℕ) × StepsTo own clock t k n

pub record LevelsAreChains : Type 0 where
  pub same : (own clock : ℕ) (t : List Entry) (n : ℕ) → (in_reach own clock t n ≡ true) ↔ Chained own clock t n
  pub entries : (own clock : ℕ) (t : List Entry) (e : Entry) → In e (reached own clock t) ↔ (In e t × (in_reach own clock t (id_of e) ≡ true))
  pub sorted : (own clock : ℕ) (t : List Entry) → Ascending id_of t → Ascending id_of (reached own clock t)
  pub few : (s : State) (clock : ℕ) → Valid s → last_level s.own clock s.table + 1 ≤ length (reached s.own clock s.table)

-- Node n stands in level k by the shortest way: so many steps lead to it, and no fewer.
pub record StandsIn (own clock : ℕ) (t : List Entry) (k n : ℕ) : Type 0 where
  pub steps : StepsTo own clock t k n
  pub fewest : (j : ℕ) → StepsTo own clock t j n → k ≤ j

-- 3. The order of delivery loses nothing (demand 3): OrderLosesNothing, in Delivery.

-- 4. The invariant holds at first, and every call keeps it, refused or not. That the bytes of a datagram are bytes, that there are four random numbers
-- and that an identifier has 32 bits is what the types of the calls' arguments give.
pub record InvariantKept : Type 0 where
  pub first : Valid blank
  pub begins : (own clock : ℕ) (rs : List ℕ) (table : ℕ) (s : State) → own < circle → length rs ≡ most_endpoints → Valid s → Valid (begin own clock rs table s).state
  pub resumes : (clock : ℕ) (bytes rs : List ℕ) (table : ℕ) (s : State) → length rs ≡ most_endpoints → Valid s → Valid (resume clock bytes rs table s).state
  pub receives : (c : Call) (s : State) → Bytes c.datagram → Valid s → Valid (receive c s).state
  pub ticks : (clock i : ℕ) (rs : List ℕ) (table room : ℕ) (s : State) → Valid s → Valid (tick clock i rs table room s).state
  pub chooses : (clock i n : ℕ) (rs : List ℕ) (table : ℕ) (s : State) → Valid s → Valid (keep_alive clock i n rs table s).state
  pub pays : (clock : ℕ) (p : Payment) (rs : List ℕ) (table : ℕ) (s : State) → Valid s → Valid (pay clock p rs table s).state
  pub purges : (clock : ℕ) (rs : List ℕ) (table : ℕ) (s : State) → Valid s → Valid (purge clock rs table s).state

-- 5. Saving at one reading and loading at another gives back what was saved, ages capped and counted on from the second; a snapshot fits its
-- room; whatever loads is what saving its content writes, and holds our own node, identifiers strictly ascending and good data.
abbrev pub capped : ℕ → ℕ → Entry → Entry
capped clock later e = entry_of (id_of e) e.says.seq e.says.node_data (stamp (min (age_at clock e) most_age) later)

pub record Snapshots : Type 0 where
  pub back : (s : State) (clock later : ℕ) → Valid s
      → load later (saved s.own clock s.table) ≡ some (record { own = s.own; entries = map (capped clock later) s.table })
  pub room : (s : State) (clock : ℕ) → Valid s → length (saved s.own clock s.table) ≤ snapshot_bytes
  pub once : (clock : ℕ) (bytes : List ℕ) (b : Snapshot) → Bytes bytes → load clock bytes ≡ some b → bytes ≡ saved b.own clock b.entries
  pub fits : (clock : ℕ) (bytes : List ℕ) (b : Snapshot) → load clock bytes ≡ some b → SnapshotFits clock b

-- 6. After three ticks at one reading nothing further is due on that endpoint: a fourth sends nothing and changes nothing. At most one of the three
-- sends.
abbrev pub OneAtMost : List ℕ → List ℕ → List ℕ → Type 0
OneAtMost a b c = ((a ≡ []) × (b ≡ [])) ⊎ (((a ≡ []) × (c ≡ [])) ⊎ ((b ≡ []) × (c ≡ [])))

pub record ThreeTicks : Type 0 where
  pub rest : (s : State) (clock i : ℕ) (p q r o : List ℕ) → Valid s → 1 ≤ i → i ≤ most_endpoints →
      let c : State = (ticked clock i r (ticked clock i q (ticked clock i p s).state).state).state in
      ticked clock i o c ≡ record { number = 0; state = c; bytes = [] }
  pub once : (s : State) (clock i : ℕ) (p q r : List ℕ) → Valid s → 1 ≤ i → i ≤ most_endpoints →
      let a : Sent = ticked clock i p s in
      let b : Sent = ticked clock i q a.state in
      OneAtMost a.bytes b.bytes (ticked clock i r b.state).bytes

-- 7. An accepted call answers with the total, or the sum, and the count of the reachable nodes. A total is the sum over all their TLVs of what each
-- has for the household: the amount of a readable payment, else nothing. The count is of the unreadable payments among these TLVs. The sum over all
-- households is the sum of every readable payment; a payment counts for its household with its amount; each payment is readable or counted as
-- unreadable; sums lie within 64 signed bits and the count is small, from the room there is.
unfoldable pub up_from : ℕ → ℕ → List ℕ
up_from zero n = []
up_from (suc k) n = n ∷ up_from k (n + 1)

abbrev pub amount_for : ℕ → List ℕ → ℤ
amount_for h t = cond (is_payment t) (or_else (read_payment (value_of t)) (pos 0) (λ p. cond (p.household == h) p.amount (pos 0))) (pos 0)

abbrev pub unreadable_one : List ℕ → ℕ
unreadable_one t = cond (is_payment t) (or_else (read_payment (value_of t)) 1 (λ p. 0)) 0

abbrev pub sumℕ : List ℕ → ℕ
sumℕ [] = 0
sumℕ (n ∷ ns) = n + sumℕ ns

pub record TotalsAddUp : Type 0 where
  pub totals : (clock h table : ℕ) (s : State) → refusal_total clock h table s ≡ 0
      → total clock h table s ≡ record { number = 0; value = total_of h (reachable clock s); unread = unreadable (payments_in (reachable clock s)) }
  pub sums : (clock table : ℕ) (s : State) → refusal_sum clock table s ≡ 0
      → sum clock table s ≡ record { number = 0; value = sum_of (reachable clock s); unread = unreadable (payments_in (reachable clock s)) }
  pub node : (h : ℕ) (s : Statement) → total_of h (s ∷ []) ≡ sumℤ (map (amount_for h) (tlvs s.node_data))
  pub nodes : (h : ℕ) (s : Statement) (ss : List Statement) → total_of h (s ∷ ss) ≡ total_of h (s ∷ []) +ℤ total_of h ss
  pub all : (ss : List Statement) → sumℤ (map (λ h. total_of h ss) (up_from most_household 1)) ≡ sum_of ss
  pub total : (s : State) (clock h : ℕ) → Valid s → mag (total_of h (reachable clock s)) < 2 ^ 63
  pub sum : (s : State) (clock : ℕ) → Valid s → mag (sum_of (reachable clock s)) < 2 ^ 63
  pub single : (h node seq : ℕ) (p : Payment) → Payable p → total_of h (record { node = node; seq = seq; node_data = payment_tlv p } ∷ []) ≡ cond (p.household == h) p.amount (pos 0)
  pub unread : (s : Statement) → unreadable (payments_in (s ∷ [])) ≡ sumℕ (map unreadable_one (tlvs s.node_data))
  pub unreads : (s : Statement) (ss : List Statement) → unreadable (payments_in (s ∷ ss)) ≡ unreadable (payments_in (s ∷ [])) + unreadable (payments_in ss)
  pub counted : (ts : List (List ℕ)) → length (readable ts) + unreadable ts ≡ length ts
  pub count : (s : State) (clock : ℕ) → Valid s → unreadable (payments_in (reachable clock s)) ≤ 8192

-- 8. Everything sent is a row of whole TLVs, within 4,096 bytes: our Node Endpoint TLV first, then at least one TLV, and no further Node Endpoint TLV.
pub record Form (own endpoint : ℕ) (bytes : List ℕ) : Type 0 where
  pub sent : (bytes ≡ [])
      ⊎ ((t : List ℕ) × (ts : List (List ℕ)) × (row bytes ≡ some (endpoint_tlv own endpoint ∷ t ∷ ts)) × All (λ u. ¬ (type_of u ≡ 3)) (t ∷ ts))
  pub fits : length bytes ≤ most_bytes

pub record SentForm : Type 0 where
  pub receives : (c : Call) (s : State) → Form s.own c.endpoint (receive c s).bytes
  pub ticks : (clock i : ℕ) (rs : List ℕ) (table room : ℕ) (s : State) → Form s.own i (tick clock i rs table room s).bytes

-- ---- single rules

-- A refusal changes no state, and its answer has the number alone: all else is 0 or empty.
pub record RefusalsChangeNothing : Type 0 where
  pub begins : (own clock : ℕ) (rs : List ℕ) (table : ℕ) (s : State) → ¬ ((begin own clock rs table s).number ≡ 0) → (begin own clock rs table s).state ≡ s
  pub resumes : (clock : ℕ) (bytes rs : List ℕ) (table : ℕ) (s : State) → ¬ ((resume clock bytes rs table s).number ≡ 0) → (resume clock bytes rs table s).state ≡ s
  pub receives : (c : Call) (s : State) → ¬ ((receive c s).number ≡ 0)
      → receive c s ≡ record { number = (receive c s).number; state = s; bytes = []; omitted = 0; dropped = 0 }
  pub ticks : (clock i : ℕ) (rs : List ℕ) (table room : ℕ) (s : State) → ¬ ((tick clock i rs table room s).number ≡ 0)
      → tick clock i rs table room s ≡ record { number = (tick clock i rs table room s).number; state = s; bytes = [] }
  pub chooses : (clock i n : ℕ) (rs : List ℕ) (table : ℕ) (s : State) → ¬ ((keep_alive clock i n rs table s).number ≡ 0) → (keep_alive clock i n rs table s).state ≡ s
  pub pays : (clock : ℕ) (p : Payment) (rs : List ℕ) (table : ℕ) (s : State) → ¬ ((pay clock p rs table s).number ≡ 0) → (pay clock p rs table s).state ≡ s
  pub purges : (clock : ℕ) (rs : List ℕ) (table : ℕ) (s : State) → ¬ ((purge clock rs table s).number ≡ 0) → (purge clock rs table s).state ≡ s
  pub totals : (clock h table : ℕ) (s : State) → ¬ ((total clock h table s).number ≡ 0)
      → total clock h table s ≡ record { number = (total clock h table s).number; value = pos 0; unread = 0 }
  pub sums : (clock table : ℕ) (s : State) → ¬ ((sum clock table s).number ≡ 0) → sum clock table s ≡ record { number = (sum clock table s).number; value = pos 0; unread = 0 }
  pub marking : (clock table : ℕ) (s : State) → ¬ ((marks clock table s).number ≡ 0)
      → marks clock table s ≡ record { number = (marks clock table s).number; nodes = []; last_level = 0; digest = replicate 16 0 }
  pub saves : (clock table room : ℕ) (s : State) → ¬ ((save clock table room s).number ≡ 0) → save clock table room s ≡ record { number = (save clock table room s).number; bytes = [] }
  pub shows : (n table : ℕ) (s : State) → ¬ (refusal_show n table s ≡ 0) → shown n table s ≡ []

-- The refusal table is exact (demand 2): a call answers 0 exactly if no row of its table applies, and a row's number exactly if that row applies and
-- none before it does. A node's data is shown without a number, which a second call gives.
pub record Exact (n : ℕ) (rows : List Row) : Type 0 where
  pub answered : n ≡ first_of rows
  pub none : (n ≡ 0) ↔ All (λ r. r.applies ≡ false) rows
  pub first : (earlier : List Row) (r : Row) (later : List Row) → rows ≡ earlier ++ (r ∷ later)
      → (n ≡ r.number) ↔ (All (λ q. q.applies ≡ false) earlier × (r.applies ≡ true))

pub record RefusalsExact : Type 0 where
  pub begins : (own clock : ℕ) (rs : List ℕ) (table : ℕ) (s : State) → Exact (begin own clock rs table s).number (late clock ∷ small_table table ∷ [])
  pub resumes : (clock : ℕ) (bytes rs : List ℕ) (table : ℕ) (s : State)
      → Exact (resume clock bytes rs table s).number (late clock ∷ small_table table ∷ no_snapshot clock bytes ∷ [])
  pub receives : (c : Call) (s : State)
      → Exact (receive c s).number
      (late c.clock ∷ back c.clock s ∷ no_such_endpoint c.endpoint ∷ small_room c.table c.room most_bytes ∷ long c.datagram ∷ no_row c.datagram ∷ [])
  pub ticks : (clock i : ℕ) (rs : List ℕ) (table room : ℕ) (s : State)
      → Exact (tick clock i rs table room s).number (late clock ∷ back clock s ∷ no_such_endpoint i ∷ small_room table room most_bytes ∷ [])
  pub chooses : (clock i n : ℕ) (rs : List ℕ) (table : ℕ) (s : State)
      → Exact (keep_alive clock i n rs table s).number (late clock ∷ back clock s ∷ no_such_endpoint i ∷ no_interval n ∷ small_table table ∷ no_room i n s ∷ [])
  pub pays : (clock : ℕ) (p : Payment) (rs : List ℕ) (table : ℕ) (s : State)
      → Exact (pay clock p rs table s).number (late clock ∷ back clock s ∷ small_table table ∷ no_household p.household ∷ paid_already p s ∷ full p s ∷ [])
  pub purges : (clock : ℕ) (rs : List ℕ) (table : ℕ) (s : State) → Exact (purge clock rs table s).number (late clock ∷ back clock s ∷ small_table table ∷ [])
  pub totals : (clock h table : ℕ) (s : State) → Exact (total clock h table s).number (late clock ∷ back clock s ∷ small_table table ∷ no_household h ∷ [])
  pub sums : (clock table : ℕ) (s : State) → Exact (sum clock table s).number (late clock ∷ back clock s ∷ small_table table ∷ [])
  pub marking : (clock table : ℕ) (s : State) → Exact (marks clock table s).number (late clock ∷ back clock s ∷ small_table table ∷ [])
  pub saves : (clock table room : ℕ) (s : State) → Exact (save clock table room s).number (late clock ∷ back clock s ∷ small_room table room snapshot_bytes ∷ [])
  pub shows : (n table : ℕ) (s : State) → Exact (refusal_show n table s) (small_table table ∷ no_such_node n s ∷ [])

-- Each TLV at its turn (demand 2): an accepted datagram is handled TLV by TLV, all of its row, each from what the one before left.
pub record EachAtItsTurn : Type 0 where
  pub one : (c : Context) (t : List ℕ) (w : Work) → all_tlvs c (t ∷ []) w ≡ one_tlv c t w
  pub both : (c : Context) (ts us : List (List ℕ)) (w : Work) → all_tlvs c (ts ++ us) w ≡ all_tlvs c us (all_tlvs c ts w)
  pub call : (c : Call) (s : State) → (receive c s).number ≡ 0 →
      let w : Work = all_tlvs (context_of s c) (tlvs c.datagram) (start_of s) in
      receive c s ≡ record { number = 0; state = settle c.clock c.randoms w.state; bytes = w.out; omitted = w.omitted; dropped = w.dropped }

-- The counts are those of the rules (demand 2): a reply is written, or does not fit and is counted as left out, and a request that is held back is
-- neither; a new peer without room is counted as dropped, and so is a Node State of a new node where 32 are held, and no other.
pub record CountsExact : Type 0 where
  pub written : (c : Context) (t : List ℕ) (w : Work) → length w.out + length (piece c t w) ≤ most_bytes
      → reply c t w ≡ record { state = w.state; sender = w.sender; out = w.out ++ piece c t w; omitted = w.omitted; dropped = w.dropped }
  pub omitted : (c : Context) (t : List ℕ) (w : Work) → most_bytes < length w.out + length (piece c t w)
      → reply c t w ≡ record { state = w.state; sender = w.sender; out = w.out; omitted = w.omitted + 1; dropped = w.dropped }
  pub held : (c : Context) (w : Work) → c.clock < (endpoint_at c.endpoint w.state).next → ask_network c w ≡ w
  pub peers : (c : Context) (f : Sender) (w : Work) → room_for_peer w.state ≡ false
      → greet c f w ≡ record { state = w.state; sender = w.sender; out = w.out; omitted = w.omitted; dropped = w.dropped + 1 }
  pub nodes : (c : Context) (w : Work)
      → carry_out c Decision.dropped w ≡ record { state = w.state; sender = w.sender; out = w.out; omitted = w.omitted; dropped = w.dropped + 1 }
  pub full : (clock : ℕ) (t : List Entry) (r : Received) → (decide clock t r ≡ Decision.dropped) ↔ ((look r.node t ≡ none) × (most_nodes ≤ length t))

-- Our own payments stay: no datagram, tick, choice or purge takes one away or brings one, and no refused payment; an accepted one joins them. A node that begins
-- has none, and one that resumes has those of its snapshot.
abbrev pub own_payments : State → List (List ℕ)
own_payments s = payments_of (own_data s)

pub record OwnPaymentsStay : Type 0 where
  pub receives : (c : Call) (s : State) → own_payments (receive c s).state ≡ own_payments s
  pub ticks : (clock i : ℕ) (rs : List ℕ) (table room : ℕ) (s : State) → own_payments (tick clock i rs table room s).state ≡ own_payments s
  pub chooses : (clock i n : ℕ) (rs : List ℕ) (table : ℕ) (s : State) → own_payments (keep_alive clock i n rs table s).state ≡ own_payments s
  pub purges : (clock : ℕ) (rs : List ℕ) (table : ℕ) (s : State) → Valid s → own_payments (purge clock rs table s).state ≡ own_payments s
  pub pays : (clock : ℕ) (p : Payment) (rs : List ℕ) (table : ℕ) (s : State) → (pay clock p rs table s).number ≡ 0
      → (t : List ℕ) → In t (own_payments (pay clock p rs table s).state) ↔ (In t (own_payments s) ⊎ (t ≡ payment_tlv p))
  pub begins : (own clock : ℕ) (rs : List ℕ) → own_payments (begun own clock rs) ≡ []
  pub resumes : (clock : ℕ) (rs : List ℕ) (b : Snapshot) (e : Entry) → look b.own b.entries ≡ some e → own_payments (resumed clock rs b) ≡ payments_of e.says.node_data

-- Only reachable nodes are served: what a TLV's handling writes is a row, every Node State of it is about a node reachable at that moment, and every
-- Network State of it has the network digest at that moment.
pub record Served : Type 0 where
  pub only : (c : Context) (t : List ℕ) (w : Work)
      → (us : List (List ℕ)) × ((one_tlv c t w).out ≡ w.out ++ join_all us) × (row (join_all us) ≡ some us)
      × ((u : List ℕ) → In u us → type_of u ≡ 5
      → (e : Entry) × In e (reached w.state.own c.clock w.state.table) × ((u ≡ short_state c.clock e) ⊎ (u ≡ whole_state c.clock e)))
      × ((u : List ℕ) → In u us → type_of u ≡ 4 → u ≡ network_tlv (network_digest w.state.own c.clock w.state.table))

-- What we send of a node reads back: its identifier, its sequence number, its age, at most 2^32 - 1, the digest of its data, and the data itself; sent
-- without data, a node that publishes nothing still says so. The network digest is H over the numbers and digests of the reachable nodes; of our node
-- alone it is H over its own.
pub record StatesReadBack : Type 0 where
  pub whole : (clock : ℕ) (e : Entry)
      → received_of (value_of (whole_state clock e))
      ≡ record { node = id_of e; seq = e.says.seq; age = min (age_at clock e) most_age; hash = hash16 e.says.node_data; carried = some e.says.node_data }
  pub short : (clock : ℕ) (e : Entry)
      → received_of (value_of (short_state clock e))
      ≡ record {
        node = id_of e;
        seq = e.says.seq;
        age = min (age_at clock e) most_age;
        hash = hash16 e.says.node_data;
        carried = cond (same (hash16 e.says.node_data) (hash16 [])) (some []) none;
      }
  pub digest : (own clock : ℕ) (t : List Entry)
      → network_digest own clock t ≡ hash16 (join_all (map (λ e. big32 e.says.seq ++ hash16 e.says.node_data) (reached own clock t)))
  pub alone : (own clock : ℕ) (e : Entry) → id_of e ≡ own → network_digest own clock (e ∷ []) ≡ hash16 (big32 e.says.seq ++ hash16 e.says.node_data)

-- A tick removes exactly the peers of its endpoint that have been silent too long; one with interval 0 stays through every tick, at any reading.
pub record SilentPeersGo : Type 0 where
  pub exactly : (clock i : ℕ) (randoms : List ℕ) (s : State) → (ticked clock i randoms s).state.peers ≡ keep (λ p. not (goes clock i s.table p)) s.peers
  pub never : (clock i : ℕ) (randoms : List ℕ) (table room : ℕ) (s : State) (p : Peer) → In p s.peers → interval_of s.table p ≡ 0
      → In p (tick clock i randoms table room s).state.peers

-- A new node that publishes nothing is taken at once from a Node State of 28 bytes, and not asked for again: once taken, the same Node State is ignored.
pub record EmptyTaken : Type 0 where
  pub taken : (clock : ℕ) (t : List Entry) (v : List ℕ) → length v ≡ 28 → take 16 (drop 12 v) ≡ hash16 [] → look (u32_at v 0) t ≡ none → length t < most_nodes
      → decide clock t (received_of v) ≡ Decision.take_all (entry_of (u32_at v 0) (u32_at v 4) [] (stamp (u32_at v 8) clock))
  pub again : (clock later : ℕ) (t : List Entry) (v : List ℕ) → length v ≡ 28 → take 16 (drop 12 v) ≡ hash16 []
      → decide later (put (entry_of (u32_at v 0) (u32_at v 4) [] (stamp (u32_at v 8) clock)) t) (received_of v) ≡ Decision.ignored

-- A foreign digest restarts no Trickle interval.
abbrev pub trickles : State → List Trickle
trickles s = map (λ (e : Endpoint). e.trickle) s.endpoints

pub record ForeignDigestResetsNothing : Type 0 where
  pub kept : (c : Context) (d : List ℕ) (w : Work) → same (digest_now c w) d ≡ false → trickles (on_network c d w).state ≡ trickles w.state
  pub tlv : (c : Context) (t : List ℕ) (w : Work) → type_of t ≡ 4 → same (digest_now c w) (take 16 (value_of t)) ≡ false
      → trickles (one_tlv c t w).state ≡ trickles w.state
