-- What document 01 gives by example: the 13 marked examples as one table of tests, and a session that the definitions compute. Assumes nothing.
use Rattle.std.specs.Prelude.{◌≡◌, ℕ, ◌+◌, Bool, true, false, not, ◌&&◌, List, [], ◌∷◌, ◌++◌, map, length, drop, replicate, pos, negsuc, ◌==◌}
use Rattle.base.specs.Lists.{all, is_some, join_all, or_else}
use Rattle.base.specs.Bytes.{big32, same, most_u32}
use Rattle.wire.specs.Row.{value_of, encode}
use Rattle.wire.specs.Groups.{groups, read_groups}
use Rattle.wire.specs.Payment.{Payment, folded, payment_tlv}
use Rattle.model.specs.Figures.{usual_interval, table_bytes, most_bytes, snapshot_bytes}
use Rattle.model.specs.Sequence.{older}
use Rattle.model.specs.Table.{Entry, entry_of, statements, stamp, anew}
use Rattle.model.specs.Reach.{last_level, in_reach}
use Rattle.model.specs.State.{State, Peer, Endpoint, peer_tlv}
use Rattle.model.specs.Messages.{request_network_tlv, request_node_tlv, endpoint_tlv, network_tlv}
use Rattle.model.specs.Decide.{Decision, received_of, decide}
use Rattle.model.specs.Refusals.{Row, late, no_such_endpoint, small_table, small_room, long, no_household, no_interval}
use Rattle.model.specs.Begin.{fresh_endpoints, begun}
use Rattle.model.specs.Receive.{Call, receive}
use Rattle.model.specs.Tick.{silent_for, interval_in, endpoint_event, tick}
use Rattle.model.specs.KeepAlive.{keep_alive_tlv, keep_alive}
use Rattle.model.specs.Pay.{pay}
use Rattle.model.specs.Totals.{sum_of, total}
use Rattle.model.specs.Show.{refusal_show, shown}
use Rattle.model.specs.Snapshot.{saved, load, resume}

-- the snapshot of document 01, and its payment
abbrev pub sample : List ℕ
sample = 1 ∷ 1 ∷ 1 ∷ 1 ∷ 1 ∷ 0 ∷ 12 ∷ 0 ∷ 0x28 ∷ 0 ∷ 5 ∷ 0x11 ∷ 0xAC ∷ 2 ∷ 0xC4 ∷ 0x13 ∷ 0 ∷ 0 ∷ 0 ∷ []

abbrev pub sample_payment : Payment
sample_payment = record { household = 17; receipt = 300; amount = pos 1250 }

-- a Peer TLV, and a node of an age that publishes these TLVs
abbrev pub names : ℕ → ℕ → ℕ → List ℕ
names n theirs ours = peer_tlv (record { node = n; theirs = theirs; ours = ours; contact = 0 })

abbrev pub aged : ℕ → ℕ → List (List ℕ) → Entry
aged n age ts = entry_of n 0 (join_all ts) (stamp age 0)

-- whether B is out of A's reach, where each publishes one TLV
abbrev pub out : List ℕ → List ℕ → Bool
out a b = not (in_reach 1 0 (aged 1 0 (a ∷ []) ∷ aged 2 0 (b ∷ []) ∷ []) 2)

-- A - B - C, where B has the age given
abbrev pub line : ℕ → List Entry
line age = aged 1 0 (names 2 1 1 ∷ []) ∷ aged 2 age (names 1 1 1 ∷ names 3 1 2 ∷ []) ∷ aged 3 0 (names 2 2 1 ∷ []) ∷ []

-- a node that names two others
abbrev pub between : ℕ → ℕ → ℕ → Entry
between n a b = aged n 0 (names a 1 1 ∷ names b 1 1 ∷ [])

-- A - B - C - D - E, and E is joined to A as well
abbrev pub closed : List Entry
closed = between 1 2 5 ∷ between 2 1 3 ∷ between 3 2 4 ∷ between 4 3 5 ∷ between 5 1 4 ∷ []

-- a row for each example: in 10 B, and then A, names a third node instead; in 11 one endpoint differs, and then the other
unfoldable pub examples : List Bool
examples =
    older 0 1 ∷
    older 4294967295 0 ∷
    (older 0 2147483648 && older 2147483648 0) ∷
    not (older 2147483647 0) ∷
    (same (groups 300) (0xAC ∷ 2 ∷ []) && same (groups 128) (0x80 ∷ 1 ∷ [])) ∷
    not (is_some (read_groups most_u32 (0xAC ∷ 0x82 ∷ 0 ∷ []))) ∷
    (folded (negsuc 2147483647) == 4294967295) ∷
    same (encode 123 (0x78 ∷ [])) (0 ∷ 0x7B ∷ 0 ∷ 1 ∷ 0x78 ∷ 0 ∷ 0 ∷ 0 ∷ []) ∷
    same (payment_tlv sample_payment) (drop 7 sample) ∷
    (out (names 2 1 1) (names 3 1 1) && out (names 3 1 1) (names 1 1 1)) ∷
    (out (names 2 1 1) (names 1 2 1) && out (names 2 1 1) (names 1 1 2)) ∷
    ((in_reach 1 0 (line 4294934528) 2 && not (in_reach 1 0 (line 4294934528) 3)) && in_reach 1 0 (line 4294934527) 3) ∷
    (not (silent_for usual_interval 41999) && silent_for usual_interval 42000) ∷
    []

-- ---- where each refusal begins to apply

abbrev pub starts : Row → Row → Bool
starts last next = not last.applies && next.applies

unfoldable pub edges : List Bool
edges =
    starts (late 4611686018427387903) (late 4611686018427387904) ∷
    starts (no_such_endpoint 4) (no_such_endpoint 5) ∷
    starts (no_such_endpoint 1) (no_such_endpoint 0) ∷
    starts (small_table 32768) (small_table 32767) ∷
    starts (small_room 32768 4096 most_bytes) (small_room 32767 4096 most_bytes) ∷
    starts (small_room 32768 4096 most_bytes) (small_room 32768 4095 most_bytes) ∷
    starts (small_room 32768 33319 snapshot_bytes) (small_room 32768 33318 snapshot_bytes) ∷
    starts (long (replicate 4096 0)) (long (replicate 4097 0)) ∷
    starts (no_household 1) (no_household 0) ∷
    starts (no_household 9999) (no_household 10000) ∷
    starts (no_interval 1) (no_interval 0) ∷
    starts (no_interval 600000) (no_interval 600001) ∷
    []

-- ---- a session in miniature: we are node 1, and node 2 sends from its endpoint 7 to our endpoint 1. The digests written here are
-- those of an independent SHA-256

-- a random number for each endpoint
abbrev pub noughts4 : List ℕ
noughts4 = replicate 4 0

abbrev pub at : ℕ → Bool → List ℕ → Call
at clock unicast d = record { clock = clock; endpoint = 1; unicast = unicast; datagram = d; randoms = noughts4; table = table_bytes; room = most_bytes }

-- a Node Endpoint and a Network State
abbrev pub greeting : List ℕ → List ℕ
greeting digest = endpoint_tlv 2 7 ++ network_tlv digest

-- the network digest of any node that begins, one that no node has, the digest of nothing, and those of two sets of node 2's data
abbrev pub begun16 : List ℕ
begun16 = 0x14 ∷ 0xda ∷ 0xbc ∷ 0x3b ∷ 0xb9 ∷ 0x47 ∷ 0x30 ∷ 0xad ∷ 0x66 ∷ 0xef ∷ 0x3e ∷ 0xec ∷ 0x7e ∷ 0xe3 ∷ 0xce ∷ 0xfb ∷ []

abbrev pub foreign16 : List ℕ
foreign16 = replicate 16 0

abbrev pub empty16 : List ℕ
empty16 = 0xe3 ∷ 0xb0 ∷ 0xc4 ∷ 0x42 ∷ 0x98 ∷ 0xfc ∷ 0x1c ∷ 0x14 ∷ 0x9a ∷ 0xfb ∷ 0xf4 ∷ 0xc8 ∷ 0x99 ∷ 0x6f ∷ 0xb9 ∷ 0x24 ∷ []

abbrev pub theirs16 : List ℕ
theirs16 = 0x9e ∷ 0xdd ∷ 0xa4 ∷ 0xab ∷ 0x90 ∷ 0x70 ∷ 0x19 ∷ 0x78 ∷ 0xe6 ∷ 0xa7 ∷ 0xf9 ∷ 0x5f ∷ 0x53 ∷ 0xb9 ∷ 0xd5 ∷ 0x6f ∷ []

abbrev pub mute16 : List ℕ
mute16 = 0x92 ∷ 0xae ∷ 0x51 ∷ 0x94 ∷ 0x8c ∷ 0xb5 ∷ 0x4c ∷ 0x84 ∷ 0xbc ∷ 0x44 ∷ 0x33 ∷ 0xca ∷ 0xa0 ∷ 0x74 ∷ 0x4c ∷ 0x53 ∷ []

-- a Node State: the node, its number, the digest of its data, its data
abbrev pub statement : ℕ → ℕ → List ℕ → List ℕ → List ℕ
statement node n h d = encode 5 (big32 node ++ (big32 n ++ (big32 0 ++ (h ++ d))))

-- our state at first; after node 2's greeting at reading 0, and then its statement that we are its peer, or that it sends no keep-alives on any endpoint
abbrev pub first : State
first = begun 1 0 noughts4

abbrev pub second : State
second = (receive (at 0 true (greeting foreign16)) first).state

abbrev pub third : State
third = (receive (at 2 true (statement 2 5 theirs16 (names 1 1 7))) second).state

abbrev pub mute : State
mute = (receive (at 2 true (statement 2 5 mute16 (keep_alive_tlv 0 0))) second).state

-- or from the first: after node 2's Node Endpoint by multicast, its statement that it publishes nothing, or the payment of the sample
abbrev pub asker : State
asker = (receive (at 0 false (endpoint_tlv 2 7)) first).state

abbrev pub other : State
other = (receive (at 1 true (statement 2 0 empty16 [])) first).state

abbrev pub payer : State
payer = (pay 1 sample_payment noughts4 table_bytes first).state

-- after a tick of an endpoint, and after resuming at reading 9 what the third state saves at 4
abbrev pub ticked_at : ℕ → ℕ → State → State
ticked_at clock i s = (tick clock i noughts4 table_bytes most_bytes s).state

abbrev pub again : State
again = (resume 9 (saved 1 4 third.table) noughts4 table_bytes first).state

abbrev pub kept : State → List Peer × List Entry
kept s = (s.peers, s.table)

abbrev pub neighbour : Peer
neighbour = record { node = 2; theirs = 7; ours = 1; contact = 0 }

abbrev pub asked : List ℕ
asked = endpoint_tlv 1 1 ++ request_network_tlv

-- an endpoint that last sent at 0, with a delay of 57, and whose Trickle state has nothing due for a while
abbrev pub waiting : Endpoint
waiting = record { trickle = record { start = 20000; point = 6400; interval = 12800; count = 1; spent = false }; next = 0; keep = usual_interval; quiet = 57 }

-- after the choice of an interval for endpoint 2
abbrev pub chooser : State
chooser = (keep_alive 1 2 5000 noughts4 table_bytes first).state

pub record Session : Type 0 where
  -- every refusal begins at its figure
  pub figures : all (λ b. b) edges ≡ true
  -- a stranger over multicast is asked for the network state, although the digests of two that begin are equal
  pub multicast : (receive (at 1 false (greeting begun16)) first).bytes ≡ asked
  -- a second request is held back before 200 ms have passed, and written then
  pub held : (receive (at 199 false (endpoint_tlv 2 7)) asker).bytes ≡ []
  pub written : (receive (at 200 false (endpoint_tlv 2 7)) asker).bytes ≡ asked
  -- over unicast a stranger becomes a peer, whose Peer TLV we publish, and where its digest differs it is asked too
  pub peers : kept second ≡ (neighbour ∷ [], entry_of 1 1 (names 2 7 1) (anew 0) ∷ [])
  pub unicast : (receive (at 0 true (greeting foreign16)) first).bytes ≡ asked
  -- its statement is taken
  pub taken : kept third ≡ (neighbour ∷ [], entry_of 1 1 (names 2 7 1) (anew 0) ∷ entry_of 2 5 (names 1 1 7) (anew 2) ∷ [])
  -- a request for the network state is answered by Node Endpoint, Network State and two Node States
  pub served : length (receive (at 3 true request_network_tlv) third).bytes ≡ 12 + 20 + 32 + 32
  -- a node that publishes nothing is taken at once; not reachable, it is not served
  pub empty : other.table ≡ entry_of 1 0 [] (anew 0) ∷ entry_of 2 0 [] (anew 1) ∷ []
  pub unserved : (receive (at 2 true (request_node_tlv 2)) other).bytes ≡ []
  -- a new node's Node State without data has it asked for, and one whose digest is not that of its data is ignored
  pub requested : (receive (at 1 true (statement 2 5 theirs16 [])) first).bytes ≡ endpoint_tlv 1 1 ++ request_node_tlv 2
  pub mismatched : (receive (at 1 true (statement 2 5 foreign16 (names 1 1 7))) first).state.table ≡ entry_of 1 0 [] (anew 0) ∷ []
  -- another digest under a number that we hold is wanted
  pub differing : decide 3 (entry_of 2 5 (names 1 1 7) (anew 2) ∷ []) (received_of (value_of (statement 2 5 empty16 []))) ≡ Decision.take_all (entry_of 2 5 [] (anew 3))
  -- a newer number of our own node is passed by 1,000
  pub reclaimed : (receive (at 1 true (statement 1 5 empty16 [])) first).state.table ≡ entry_of 1 1005 [] (anew 1) ∷ []
  -- what is no row of TLVs is refused with 6, and changes nothing
  pub refused : receive (at 1 true (0 ∷ [])) first ≡ record { number = 6; state = first; bytes = []; omitted = 0; dropped = 0 }
  -- a peer silent for 41,999 ms stays; at 42,000 a tick of its endpoint, and of no other, removes it, and we publish once without its Peer TLV
  pub silent : kept (ticked_at 41999 1 second) ≡ (neighbour ∷ [], entry_of 1 1 (names 2 7 1) (anew 0) ∷ [])
  pub elsewhere : kept (ticked_at 42000 2 second) ≡ (neighbour ∷ [], entry_of 1 1 (names 2 7 1) (anew 0) ∷ [])
  pub gone : kept (ticked_at 42000 1 second) ≡ ([], entry_of 1 2 [] (anew 42000) ∷ [])
  -- a peer's interval is that of the first Keep-Alive TLV for its endpoint, wherever it stands, else of the first for endpoint 0, else the usual
  pub interval : interval_in (keep_alive_tlv 6 1000 ++ (keep_alive_tlv 7 3000 ++ keep_alive_tlv 7 5000)) 7 ≡ 3000
  pub usual : interval_in (keep_alive_tlv 6 1000) 7 ≡ 20000
  pub own : interval_in (keep_alive_tlv 0 7 ++ keep_alive_tlv 3 9) 3 ≡ 9
  pub all : interval_in (keep_alive_tlv 0 7 ++ keep_alive_tlv 3 9) 4 ≡ 7
  -- the TLV found decides, with 0 too; then the peer stays where it would have gone
  pub own_zero : interval_in (keep_alive_tlv 0 7 ++ keep_alive_tlv 3 0) 3 ≡ 0
  pub all_zero : interval_in (keep_alive_tlv 0 0) 3 ≡ 0
  pub stays : (ticked_at 42000 1 mute).peers ≡ neighbour ∷ []
  -- a sending fixes the delay, the random number modulo 101; the keep-alive comes 20,000 ms after both, not before, and starts an interval as long as it was
  pub delays : map (λ e. e.quiet) (fresh_endpoints 0 (57 ∷ 150 ∷ 100 ∷ 101 ∷ [])) ≡ 57 ∷ 49 ∷ 100 ∷ 0 ∷ []
  pub early : endpoint_event 20056 9000 waiting ≡ record { sends = false; next = waiting.trickle }
  pub alive : endpoint_event 20057 9000 waiting ≡ record { sends = true; next = record { start = 20057; point = 9000; interval = 12800; count = 0; spent = false } }
  -- a chosen interval is published once, as a TLV that goes with the usual one
  pub chosen : chooser.table ≡ entry_of 1 1 (keep_alive_tlv 2 5000) (anew 1) ∷ []
  pub unchanged : (keep_alive 2 2 5000 noughts4 table_bytes chooser).state.table ≡ chooser.table
  pub unchosen : (keep_alive 2 2 20000 noughts4 table_bytes chooser).state.table ≡ entry_of 1 2 [] (anew 2) ∷ []
  -- at an age of 4,294,901,760 we publish again, and not before
  pub old : (ticked_at 4294901759 1 first).table ≡ entry_of 1 0 [] (anew 0) ∷ []
  pub renewed : (ticked_at 4294901760 1 first).table ≡ entry_of 1 1 [] (anew 4294901760) ∷ []
  -- a payment is published once, and its household's total rises by its amount
  pub paid : payer.table ≡ entry_of 1 1 (drop 7 sample) (anew 1) ∷ []
  pub before : total 1 17 table_bytes first ≡ record { number = 0; value = pos 0; unread = 0 }
  pub after : total 1 17 table_bytes payer ≡ record { number = 0; value = pos 1250; unread = 0 }
  -- the same payment again is 8; our data is shown, and a node that is not held is 10
  pub twice : (pay 2 sample_payment noughts4 table_bytes payer).number ≡ 8
  pub seen : shown 1 table_bytes payer ≡ drop 7 sample
  pub unknown : refusal_show 2 table_bytes payer ≡ 10
  -- resuming drops our peers and their TLVs, publishes once and has asked nothing yet; what was saved of node 2 stays, as old as it was
  pub resumed : kept again ≡ ([], entry_of 1 2 [] (anew 9) ∷ entry_of 2 5 (names 1 1 7) (stamp 2 9) ∷ [])
  pub unasked : map (λ e. e.next) again.endpoints ≡ noughts4
  -- the last level: of a node alone; from an end of A - B - C, and from its middle; the same where B is at the age limit; and where E, last of five, is
  -- joined to A, and so stands in level 1 and D in level 2
  pub lonely : last_level 1 0 (aged 1 0 [] ∷ []) ≡ 0
  pub from_end : last_level 1 0 (line 0) ≡ 2
  pub from_middle : last_level 2 0 (line 0) ≡ 1
  pub cut_off : last_level 1 0 (line 4294934528) ≡ 1
  pub too_old : last_level 2 0 (line 4294934528) ≡ 0
  pub shortcut : last_level 1 0 closed ≡ 2
  -- the sample snapshot loads, and sums to 1,250 cents
  pub sampled : or_else (load 0 sample) (pos 0) (λ b. sum_of (statements b.entries)) ≡ pos 1250
