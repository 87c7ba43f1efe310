-- The state that a call gets and leaves, and publishing (document 01, Numbers a call may answer; Ticks; document 02, Keep quiet links alive). Assumes
-- nothing.
use Rattle.std.specs.Prelude.{ℕ, pred, ◌+◌, ◌%◌, Bool, true, cond, ◌&&◌, List, [], ◌∷◌, ◌++◌, ◌==◌, slice_index, slice_index_or, slice_set}
use Rattle.base.specs.Lists.{join_all, or_else}
use Rattle.base.specs.Bytes.{big32, same}
use Rattle.wire.specs.Row.{encode, tlvs}
use Rattle.wire.specs.Order.{place}
use Rattle.model.specs.Figures.{usual_interval, most_delay}
use Rattle.model.specs.Sequence.{advance}
use Rattle.model.specs.Table.{Entry, entry_of, look, put, anew}
use Rattle.model.specs.Digest.{network_digest}
use Rattle.model.specs.Trickle.{Trickle, reset}

-- a peer: its node, its endpoint, ours, and the reading of the last contact
pub record Peer : Type 0 where
  pub node : ℕ
  pub theirs : ℕ
  pub ours : ℕ
  pub contact : ℕ

-- one of our endpoints: its Trickle state, the reading from which the next request for network state may go out, its keep-alive interval, and the
-- reading of its last sending with the delay fixed then
pub record Endpoint : Type 0 where
  pub trickle : Trickle
  pub next : ℕ
  pub keep : ℕ
  pub quiet : ℕ

-- `last` is the last accepted reading; `digest` the network digest at the end of the last state-changing call
pub record State : Type 0 where
  pub own : ℕ
  pub last : ℕ
  pub table : List Entry
  pub peers : List Peer
  pub endpoints : List Endpoint
  pub digest : List ℕ

abbrev pub with_table : List Entry → State → State
with_table t s = record { own = s.own; last = s.last; table = t; peers = s.peers; endpoints = s.endpoints; digest = s.digest }

abbrev pub with_peers : List Peer → State → State
with_peers p s = record { own = s.own; last = s.last; table = s.table; peers = p; endpoints = s.endpoints; digest = s.digest }

abbrev pub with_endpoints : List Endpoint → State → State
with_endpoints e s = record { own = s.own; last = s.last; table = s.table; peers = s.peers; endpoints = e; digest = s.digest }

abbrev pub with_trickle : Trickle → Endpoint → Endpoint
with_trickle t e = record { trickle = t; next = e.next; keep = e.keep; quiet = e.quiet }

abbrev pub with_next : ℕ → Endpoint → Endpoint
with_next n e = record { trickle = e.trickle; next = n; keep = e.keep; quiet = e.quiet }

abbrev pub with_keep : ℕ → Endpoint → Endpoint
with_keep n e = record { trickle = e.trickle; next = e.next; keep = n; quiet = e.quiet }

abbrev pub with_quiet : ℕ → Endpoint → Endpoint
with_quiet n e = record { trickle = e.trickle; next = e.next; keep = e.keep; quiet = n }

-- "a random delay of 0 to Imin/2 (random mod 101, fixed at the last sending ..)"
abbrev pub quiet_from : ℕ → ℕ → ℕ
quiet_from clock random = clock + random % (most_delay + 1)

-- endpoint i, 1 to 4, of the state; none stands elsewhere
abbrev pub no_endpoint : Endpoint
no_endpoint =
    record { trickle = record { start = 0; point = 0; interval = 0; count = 0; spent = true }; next = 0; keep = usual_interval; quiet = 0 }

abbrev pub endpoint_at : ℕ → State → Endpoint
endpoint_at i s = slice_index_or s.endpoints (pred i) no_endpoint

-- the random number for endpoint i among those of a call
abbrev pub random_at : ℕ → List ℕ → ℕ
random_at i randoms = slice_index randoms (pred i)

abbrev pub with_endpoint : ℕ → Endpoint → State → State
with_endpoint i e s = with_endpoints (slice_set s.endpoints (pred i) e) s

-- where there is no entry: the state's own node always has one
abbrev pub no_entry : Entry
no_entry = entry_of 0 0 [] (anew 0)

unfoldable pub own_entry : State → Entry
own_entry s = or_else (look s.own s.table) no_entry (λ e. e)

abbrev pub own_seq : State → ℕ
own_seq s = (own_entry s).says.seq

abbrev pub own_data : State → List ℕ
own_data s = (own_entry s).says.node_data

-- our node has the sequence number n and the data d: "sets age 0"
unfoldable pub publish_as : ℕ → ℕ → List ℕ → State → State
publish_as clock n d s = with_table (put (entry_of s.own n d (anew clock)) s.table) s

-- "Publishing adds 1 modulo 2^32"
abbrev pub publish : ℕ → List ℕ → State → State
publish clock d s = publish_as clock (advance (own_seq s) 1) d s

-- "8 Peer: peer box, peer endpoint, own endpoint"
unfoldable pub peer_tlv : Peer → List ℕ
peer_tlv p = encode 8 (big32 p.node ++ (big32 p.theirs ++ big32 p.ours))

-- node data with a TLV in its place
unfoldable pub with_tlv : List ℕ → List ℕ → List ℕ
with_tlv t d = join_all (place t (tlvs d))

-- "(box, its endpoint, our endpoint)"
abbrev pub is_peer : ℕ → ℕ → ℕ → Peer → Bool
is_peer n theirs ours p = (p.node == n && p.theirs == theirs) && p.ours == ours

abbrev pub contacted : ℕ → ℕ → ℕ → ℕ → Peer → Peer
contacted n theirs ours clock p =
    cond (is_peer n theirs ours p) (record { node = p.node; theirs = p.theirs; ours = p.ours; contact = clock }) p

-- every endpoint reset, each with its random number
unfoldable pub reset_all : ℕ → List ℕ → List Endpoint → List Endpoint
reset_all clock rs [] = []
reset_all clock [] (e ∷ es) = e ∷ es
reset_all clock (r ∷ rs) (e ∷ es) = with_trickle (reset clock r e.trickle) e ∷ reset_all clock rs es

-- "If the digest differs from the one at the end of the last state-changing call": the reading is taken, and Trickle reset
unfoldable pub settle : ℕ → List ℕ → State → State
settle clock randoms s =
    let d : List ℕ = network_digest s.own clock s.table in
    record {
      own = s.own;
      last = clock;
      table = s.table;
      peers = s.peers;
      endpoints = cond (same s.digest d) s.endpoints (reset_all clock randoms s.endpoints);
      digest = d;
    }
