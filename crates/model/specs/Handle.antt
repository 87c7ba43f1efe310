-- One TLV's handling, with no knowledge of the datagram around it (document 01, A datagram; RFC 7787, 4.4 and 4.5). Assumes nothing.
use Rattle.std.specs.Prelude.{ℕ, ◌+◌, Bool, cond, ◌&&◌, List, [], ◌∷◌, ◌++◌, map, length, take, ◌==◌, nat_le, nat_lt}
use Rattle.std.proofs.Math.Option.{Option, some}
use Rattle.base.specs.Lists.{any, or_else}
use Rattle.base.specs.Bytes.{u32_at, same}
use Rattle.wire.specs.Row.{type_of, value_of}
use Rattle.model.specs.Figures.{most_bytes, most_peers, publish_limit, peer_bytes, request_gap, reclaim_step}
use Rattle.model.specs.Sequence.{advance}
use Rattle.model.specs.Table.{Entry, look}
use Rattle.model.specs.Reach.{in_reach, reached}
use Rattle.model.specs.Digest.{network_digest}
use Rattle.model.specs.Trickle.{hear}
use Rattle.model.specs.State.{State, Peer, with_table, with_peers, endpoint_at, with_endpoint, with_trickle, with_next, own_entry, own_data, publish_as, publish, peer_tlv, with_tlv, is_peer, contacted}
use Rattle.model.specs.Messages.{request_network_tlv, request_node_tlv, endpoint_tlv, network_tlv, short_state, whole_state}
use Rattle.model.specs.Decide.{Received, Decision, received_of, differs, decide, after}

-- what holds for every TLV of a call; `random`: the call's random number for this endpoint, for rules that start its Trickle afresh at a TLV (document 01 has
-- none); `others`: "a Node State of length 28 or more about another box is in this datagram"
pub record Context : Type 0 where
  pub clock : ℕ
  pub endpoint : ℕ
  pub unicast : Bool
  pub random : ℕ
  pub others : Bool

pub record Sender : Type 0 where
  pub node : ℕ
  pub endpoint : ℕ

-- between two TLVs: the state, "the last Node Endpoint TLV met so far", the bytes written, replies left out, TLVs dropped for room
pub record Work : Type 0 where
  pub state : State
  pub sender : Option Sender
  pub out : List ℕ
  pub omitted : ℕ
  pub dropped : ℕ

abbrev pub with_state : State → Work → Work
with_state s w = record { state = s; sender = w.sender; out = w.out; omitted = w.omitted; dropped = w.dropped }

abbrev pub with_sender : Sender → Work → Work
with_sender f w = record { state = w.state; sender = some f; out = w.out; omitted = w.omitted; dropped = w.dropped }

abbrev pub with_out : List ℕ → Work → Work
with_out o w = record { state = w.state; sender = w.sender; out = o; omitted = w.omitted; dropped = w.dropped }

abbrev pub omit_one : Work → Work
omit_one w = record { state = w.state; sender = w.sender; out = w.out; omitted = w.omitted + 1; dropped = w.dropped }

abbrev pub drop_one : Work → Work
drop_one w = record { state = w.state; sender = w.sender; out = w.out; omitted = w.omitted; dropped = w.dropped + 1 }

-- ---- replies

-- "the first is preceded by our Node Endpoint TLV"
unfoldable pub piece : Context → List ℕ → Work → List ℕ
piece c t w = cond (length w.out == 0) (endpoint_tlv w.state.own c.endpoint ++ t) t

abbrev pub fits : Context → List ℕ → Work → Bool
fits c t w = nat_le (length w.out + length (piece c t w)) most_bytes

-- "A reply TLV that doesn't fit whole is left out and the next is tried"
unfoldable pub reply : Context → List ℕ → Work → Work
reply c t w = cond (fits c t w) (with_out (w.out ++ piece c t w) w) (omit_one w)

unfoldable pub replies : Context → List (List ℕ) → Work → Work
replies c [] w = w
replies c (t ∷ ts) w = replies c ts (reply c t w)

-- ---- asking: "at most once per endpoint in 200 ms (at 200 again), counted from one that was written"

abbrev pub may_ask : Context → Work → Bool
may_ask c w = nat_le (endpoint_at c.endpoint w.state).next c.clock

abbrev pub has_asked : Context → State → State
has_asked c s = with_endpoint c.endpoint (with_next (c.clock + request_gap) (endpoint_at c.endpoint s)) s

-- one that is held back is not counted as left out; one that does not fit is, and does not count as written
unfoldable pub ask_network : Context → Work → Work
ask_network c w =
    let r : Work = reply c request_network_tlv w in
    cond (may_ask c w) (cond (fits c request_network_tlv w) (with_state (has_asked c w.state) r) r) w

-- ---- the sender's last contact, if it is a peer, becomes now

abbrev pub touch_by : Context → Sender → State → State
touch_by c f s = with_peers (map (contacted f.node f.endpoint c.endpoint c.clock) s.peers) s

unfoldable pub touch : Context → Work → Work
touch c w = or_else w.sender w (λ f. with_state (touch_by c f w.state) w)

-- ---- "Marks and digest are always those of the definitions at the call's reading, also between two TLVs"

abbrev pub digest_now : Context → Work → List ℕ
digest_now c w = network_digest w.state.own c.clock w.state.table

abbrev pub reached_now : Context → Work → List Entry
reached_now c w = reached w.state.own c.clock w.state.table

-- ---- type 1: "reply Network State, then a Node State without data for each box in reach, ascending"

unfoldable pub on_request_network : Context → Work → Work
on_request_network c w = replies c (network_tlv (digest_now c w) ∷ map (short_state c.clock) (reached_now c w)) w

-- ---- type 2: "if that box is in reach, reply its Node State with data; else nothing"

unfoldable pub on_request_node : Context → ℕ → Work → Work
on_request_node c n w =
    cond (in_reach w.state.own c.clock w.state.table n)
    (or_else (look n w.state.table) w (λ e. reply c (whole_state c.clock e) w)) w

-- ---- type 3

abbrev pub new_peer : Context → Sender → Peer
new_peer c f = record { node = f.node; theirs = f.endpoint; ours = c.endpoint; contact = c.clock }

-- "if fewer than 16 stand and our data has 16 bytes left"
abbrev pub room_for_peer : State → Bool
room_for_peer s = nat_lt (length s.peers) most_peers && nat_le (length (own_data s) + peer_bytes) publish_limit

-- "it becomes a peer .., with last contact now, and we publish the Peer TLV"
unfoldable pub add_peer : ℕ → Peer → State → State
add_peer clock p s = with_peers (s.peers ++ (p ∷ [])) (publish clock (with_tlv (peer_tlv p) (own_data s)) s)

unfoldable pub greet : Context → Sender → Work → Work
greet c f w = cond (room_for_peer w.state) (with_state (add_peer c.clock (new_peer c f) w.state) w) (drop_one w)

abbrev pub knows : Context → Sender → State → Bool
knows c f s = any (is_peer f.node f.endpoint c.endpoint) s.peers

-- unknown: "over unicast it becomes a peer ..; Over multicast, ask for the network state"
unfoldable pub on_stranger : Context → Sender → Work → Work
on_stranger c f w = cond c.unicast (greet c f w) (ask_network c w)

-- "our own identifier is passed over; the sender stays as it was"
unfoldable pub on_endpoint : Context → Sender → Work → Work
on_endpoint c f w =
    cond (f.node == w.state.own) w
    (cond (knows c f w.state) (with_sender f w) (on_stranger c f (with_sender f w)))

-- ---- type 4

-- "over multicast c goes up by one"
abbrev pub count_equal : Context → State → State
count_equal c s = with_endpoint c.endpoint (with_trickle (hear (endpoint_at c.endpoint s).trickle) (endpoint_at c.endpoint s)) s

unfoldable pub on_equal : Context → Work → Work
on_equal c w = let v : Work = touch c w in cond c.unicast v (with_state (count_equal c v.state) v)

-- "if the digest differs and no Node State .. about another box is in this datagram, ask for the network state"
unfoldable pub on_network : Context → List ℕ → Work → Work
on_network c d w = cond (same (digest_now c w) d) (on_equal c w) (cond c.others w (ask_network c w))

-- ---- type 5

-- our own: "our number is older than the received one, or equal with another digest: republish with the received number plus 1,000"
unfoldable pub on_own_state : Context → Received → Work → Work
on_own_state c r w =
    cond (differs (own_entry w.state) r)
    (with_state (publish_as c.clock (advance r.seq reclaim_step) (own_data w.state) w.state) w) w

unfoldable pub carry_out : Context → Decision → Work → Work
carry_out c Decision.ignored w = w
carry_out c (Decision.ask n) w = reply c (request_node_tlv n) w
carry_out c (Decision.take_number e) w = with_state (with_table (after (Decision.take_number e) w.state.table) w.state) w
carry_out c (Decision.take_all e) w = with_state (with_table (after (Decision.take_all e) w.state.table) w.state) w
carry_out c Decision.dropped w = drop_one w

unfoldable pub on_state : Context → Received → Work → Work
on_state c r w =
    cond (r.node == w.state.own) (on_own_state c r w) (carry_out c (decide c.clock w.state.table r) w)

-- ---- "The type decides"; "passed over, as are TLVs that are too short"

abbrev pub at_least : ℕ → List ℕ → Work → Work → Work
at_least n v w done = cond (nat_le n (length v)) done w

unfoldable pub on_tlv : Context → ℕ → List ℕ → Work → Work
on_tlv c type v w =
    cond (type == 1) (on_request_network c w)
    (cond (type == 2) (at_least 4 v w (on_request_node c (u32_at v 0) w))
    (cond (type == 3) (at_least 8 v w (on_endpoint c (record { node = u32_at v 0; endpoint = u32_at v 4 }) w))
    (cond (type == 4) (at_least 16 v w (on_network c (take 16 v) w))
    (cond (type == 5) (at_least 28 v w (on_state c (received_of v) w)) w))))

-- "Any TLV over unicast sets a known sender's last contact"
unfoldable pub one_tlv : Context → List ℕ → Work → Work
one_tlv c t w = let v : Work = on_tlv c (type_of t) (value_of t) w in cond c.unicast (touch c v) v

unfoldable pub all_tlvs : Context → List (List ℕ) → Work → Work
all_tlvs c [] w = w
all_tlvs c (t ∷ ts) w = all_tlvs c ts (one_tlv c t w)

-- the entries of the table after each TLV, one table after the other
unfoldable pub each_table : Context → List (List ℕ) → Work → List Entry
each_table c [] w = []
each_table c (t ∷ ts) w = (one_tlv c t w).state.table ++ each_table c ts (one_tlv c t w)
