-- A tick of one endpoint: silent peers go, then at most one event (document 01, Ticks; document 02, Keep quiet links alive, The interval for all endpoints;
-- RFC 7787, 6.1.2, 6.1.5 and 7.3.2).
-- Assumes nothing.
use Rattle.std.specs.Prelude.{ℕ, ◌+◌, ◌-◌, ◌*◌, Bool, true, false, cond, not, ◌&&◌, ◌||◌, List, [], ◌∷◌, ◌++◌, length, ◌==◌, nat_le}
use Rattle.base.specs.Lists.{any, keep, first, join_all, or_else}
use Rattle.base.specs.Bytes.{u32_at, same}
use Rattle.wire.specs.Row.{type_of, value_of, tlvs}
use Rattle.model.specs.Figures.{usual_interval, refresh_age, most_bytes}
use Rattle.model.specs.Table.{Entry, age_at, look}
use Rattle.model.specs.Trickle.{Event, fresh, is_idle, event}
use Rattle.model.specs.State.{State, Peer, Endpoint, with_peers, endpoint_at, random_at, with_endpoint, with_trickle, with_quiet, quiet_from, own_entry, own_data, publish, peer_tlv, settle}
use Rattle.model.specs.Messages.{endpoint_tlv, network_tlv}
use Rattle.model.specs.Refusals.{first_of, late, back, no_such_endpoint, small_room}

-- ---- "first the TLV for the peer's endpoint, then the one for 0, then 20,000", of several "(the first)"

abbrev pub is_keep_alive : ℕ → List ℕ → Bool
is_keep_alive endpoint t = (type_of t == 9 && nat_le 8 (length (value_of t))) && u32_at (value_of t) 0 == endpoint

-- what the first of these TLVs for the endpoint says, wherever it stands; `other` where there is none
abbrev pub interval_for : ℕ → ℕ → List (List ℕ) → ℕ
interval_for endpoint other ts = or_else (first (is_keep_alive endpoint) ts) other (λ t. u32_at (value_of t) 4)

-- "0 stands for all endpoints without a TLV of their own"
abbrev pub all_endpoints : ℕ
all_endpoints = 0

unfoldable pub interval_in : List ℕ → ℕ → ℕ
interval_in d endpoint = interval_for endpoint (interval_for all_endpoints usual_interval (tlvs d)) (tlvs d)

unfoldable pub interval_of : List Entry → Peer → ℕ
interval_of t p = or_else (look p.node t) usual_interval (λ e. interval_in e.says.node_data p.theirs)

-- ---- "remove every peer of the endpoint with 10 x silence at least 21 x interval, and its Peer TLV"; "with interval 0 the peer is never removed for silence"

abbrev pub silent_for : ℕ → ℕ → Bool
silent_for interval silence = not (interval == 0) && nat_le (21 * interval) (10 * silence)

unfoldable pub goes : ℕ → ℕ → List Entry → Peer → Bool
goes clock endpoint t p = p.ours == endpoint && silent_for (interval_of t p) (clock - p.contact)

-- node data without the Peer TLVs of these peers
unfoldable pub without_peers : List Peer → List ℕ → List ℕ
without_peers ps d = join_all (keep (λ t. not (any (λ p. same (peer_tlv p) t) ps)) (tlvs d))

abbrev pub some_of : List Peer → Bool
some_of [] = false
some_of (p ∷ ps) = true

-- "Republish once if any went, or if our age is at least 4,294,901,760"
unfoldable pub drop_silent : ℕ → ℕ → State → State
drop_silent clock endpoint s =
    let gone : List Peer = keep (goes clock endpoint s.table) s.peers in
    cond (some_of gone || nat_le refresh_age (age_at clock (own_entry s)))
    (with_peers (keep (λ p. not (goes clock endpoint s.table p)) s.peers) (publish clock (without_peers gone (own_data s)) s)) s

-- ---- "Then at most one event"

pub record Sent : Type 0 where
  pub number : ℕ
  pub state : State
  pub bytes : List ℕ

-- "send Node Endpoint and Network State"
abbrev pub announcement : ℕ → State → List ℕ
announcement endpoint s = endpoint_tlv s.own endpoint ++ network_tlv s.digest

-- "when an endpoint has multicast no Network State TLV for its interval, it sends one after a random delay"
abbrev pub keep_alive_due : ℕ → Endpoint → Bool
keep_alive_due clock e = nat_le (e.quiet + e.keep) clock

-- the "third kind of event after the two", so only where neither is due; "and starts a new Trickle interval": I stays
unfoldable pub endpoint_event : ℕ → ℕ → Endpoint → Event
endpoint_event clock random e =
    cond (is_idle clock e.trickle && keep_alive_due clock e) (record { sends = true; next = fresh clock e.trickle.interval random }) (event clock random e.trickle)

-- the endpoint after it: what is sent fixes the next delay
abbrev pub after_event : ℕ → ℕ → Event → Endpoint → Endpoint
after_event clock random v e = with_quiet (cond v.sends (quiet_from clock random) e.quiet) (with_trickle v.next e)

abbrev pub with_event : ℕ → ℕ → ℕ → State → Event → Sent
with_event clock random i s v =
    record { number = 0; state = with_endpoint i (after_event clock random v (endpoint_at i s)) s; bytes = cond v.sends (announcement i s) [] }

unfoldable pub ticked : ℕ → ℕ → List ℕ → State → Sent
ticked clock i randoms s =
    let r : State = settle clock randoms (drop_silent clock i s) in
    with_event clock (random_at i randoms) i r (endpoint_event clock (random_at i randoms) (endpoint_at i r))

-- `table` and `room` are the lengths of the lent table memory and of the room for what is sent
abbrev pub refusal_tick : ℕ → ℕ → ℕ → ℕ → State → ℕ
refusal_tick clock i table room s = first_of (late clock ∷ back clock s ∷ no_such_endpoint i ∷ small_room table room most_bytes ∷ [])

unfoldable pub tick : ℕ → ℕ → List ℕ → ℕ → ℕ → State → Sent
tick clock i randoms table room s =
    let n : ℕ = refusal_tick clock i table room s in
    cond (n == 0) (ticked clock i randoms s) (record { number = n; state = s; bytes = [] })
