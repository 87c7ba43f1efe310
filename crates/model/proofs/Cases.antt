-- The definitions of a datagram's handling and of ticks, one law a case: the layers above cite these laws and open no definition.
-- Assumes nothing.
use Rattle.std.proofs.Common.{◌≡◌, ℕ, pred, ◌+◌, ◌*◌, ◌<◌, ◌≤◌, min, Bool, true, false, cond, not, ◌||◌, ltb, leb, List, [], ◌∷◌, ◌++◌, map, length, get_or, take, drop, refl, le-ltb, lt-ltb, eq-eqb, ne_eqb, le-leb, leb-false}
use mathlib.Core.Option.{none, some}
use borrow.Author.Tests.{lt-leb}
use Rattle.base.specs.Lists.{keep}
use Rattle.base.specs.Bytes.{u32_at, big32, same}
use Rattle.base.proofs.Tests.{by_test, and_left, and_right, no_not}
use Rattle.wire.specs.Row.{type_of, value_of, tlvs}
use Rattle.wire.proofs.Encoded.{encode-length}
use Rattle.model.specs.Figures.{least_interval, greatest_interval, redundancy, refresh_age, reclaim_step}
use Rattle.model.specs.Sequence.{advance}
use Rattle.model.specs.Table.{Entry, look, put, age_at}
use Rattle.model.specs.Reach.{in_reach}
use Rattle.model.specs.Digest.{network_digest}
use Rattle.model.specs.Trickle.{Trickle, fresh, spend, reset, point_due, interval_over, is_idle, event}
use Rattle.model.specs.State.{State, Peer, Endpoint, with_table, with_peers, with_trickle, endpoint_at, own_entry, own_data, publish_as, publish, reset_all, settle}
use Rattle.model.specs.Messages.{request_network_tlv, request_node_tlv, endpoint_tlv, network_tlv, short_state, whole_state}
use Rattle.model.specs.Decide.{Received, Decision, received_of, differs, decide, after}
use Rattle.model.specs.Handle.{Context, Sender, Work, with_state, with_sender, with_out, omit_one, drop_one, piece, fits, reply, replies, may_ask, has_asked, ask_network, touch_by, touch, digest_now, reached_now, on_request_network, on_request_node, new_peer, room_for_peer, add_peer, greet, knows, on_stranger, on_endpoint, count_equal, on_equal, on_network, on_own_state, carry_out, on_state, on_tlv, one_tlv, all_tlvs, each_table}
use Rattle.model.specs.Receive.{Call, context_of, start_of, handled, refusal_receive, answered, receive}
use Rattle.model.specs.Tick.{goes, without_peers, some_of, drop_silent, endpoint_event, with_event, ticked, refusal_tick, tick}

cond_same : {A : Type 0} (b : Bool) (x : A) → cond b x x ≡ x
cond_same true x = refl
cond_same false x = refl

-- ---- replies: the first goes behind our Node Endpoint TLV; one that does not fit is left out

pub endpoint-length : (own endpoint : ℕ) → length (endpoint_tlv own endpoint) ≡ 12
endpoint-length own endpoint = encode-length 3 (big32 own ++ big32 endpoint)

module _ (c : Context) (t : List ℕ) (w : Work) where
  pub reply-fits : fits c t w ≡ true → reply c t w ≡ with_out (w.out ++ piece c t w) w
  unfolding reply
  reply-fits e = rw e

  pub reply-full : fits c t w ≡ false → reply c t w ≡ omit_one w
  unfolding reply
  reply-full e = rw e

  -- the first
  module _ (e : length w.out ≡ 0) where
    pub piece-first : piece c t w ≡ endpoint_tlv w.state.own c.endpoint ++ t
    unfolding piece
    piece-first = rw (eq-eqb (length w.out) 0 e)

  -- the later ones
  module _ (n : ¬ (length w.out ≡ 0)) where
    pub piece_later : piece c t w ≡ t
    unfolding piece
    piece_later = rw (ne_eqb (length w.out) 0 n)

module _ (c : Context) (w : Work) where
  pub replies-none : replies c [] w ≡ w
  unfolding replies
  replies-none = refl

  pub replies-next : (t : List ℕ) (ts : List (List ℕ)) → replies c (t ∷ ts) w ≡ replies c ts (reply c t w)
  unfolding replies
  replies-next t ts = refl

  -- asking: held back, written and noted, or left out
  pub ask_held : may_ask c w ≡ false → ask_network c w ≡ w
  unfolding ask_network
  ask_held e = rw e

  pub ask_written : may_ask c w ≡ true → fits c request_network_tlv w ≡ true → ask_network c w ≡ with_state (has_asked c w.state) (reply c request_network_tlv w)
  unfolding ask_network
  ask_written e f = rw (e, f)

  pub ask_full : may_ask c w ≡ true → fits c request_network_tlv w ≡ false → ask_network c w ≡ reply c request_network_tlv w
  unfolding ask_network
  ask_full e f = rw (e, f)

  -- the sender's last contact
  pub touch-none : w.sender ≡ none → touch c w ≡ w
  unfolding touch
  touch-none e = rw e

  pub touch-some : (f : Sender) → w.sender ≡ some f → touch c w ≡ with_state (touch_by c f w.state) w
  unfolding touch
  touch-some f e = rw e

  -- ---- type 1 and type 2

  pub request_network : on_request_network c w ≡ replies c (network_tlv (digest_now c w) ∷ map (short_state c.clock) (reached_now c w)) w
  unfolding on_request_network
  request_network = refl

  module _ (n : ℕ) where
    pub request_node_unreachable : in_reach w.state.own c.clock w.state.table n ≡ false → on_request_node c n w ≡ w
    unfolding on_request_node
    request_node_unreachable e = rw e

    pub request_node_unknown : look n w.state.table ≡ none → on_request_node c n w ≡ w
    unfolding on_request_node
    request_node_unknown e = rw e (cond_same (in_reach w.state.own c.clock w.state.table n) w)

    pub request_node_reached : in_reach w.state.own c.clock w.state.table n ≡ true → (e : Entry) → look n w.state.table ≡ some e → on_request_node c n w ≡ reply c (whole_state c.clock e) w
    unfolding on_request_node
    request_node_reached i e l = rw (i, l)

  -- ---- type 3

  module _ (f : Sender) where
    pub greet-room : room_for_peer w.state ≡ true → greet c f w ≡ with_state (add_peer c.clock (new_peer c f) w.state) w
    unfolding greet
    greet-room e = rw e

    pub greet-full : room_for_peer w.state ≡ false → greet c f w ≡ drop_one w
    unfolding greet
    greet-full e = rw e

    pub stranger_unicast : c.unicast ≡ true → on_stranger c f w ≡ greet c f w
    unfolding on_stranger
    stranger_unicast e = rw e

    pub stranger_multicast : c.unicast ≡ false → on_stranger c f w ≡ ask_network c w
    unfolding on_stranger
    stranger_multicast e = rw e

    pub endpoint-own : f.node ≡ w.state.own → on_endpoint c f w ≡ w
    unfolding on_endpoint
    endpoint-own e = rw (eq-eqb f.node w.state.own e)

    pub endpoint-known : ¬ (f.node ≡ w.state.own) → knows c f w.state ≡ true → on_endpoint c f w ≡ with_sender f w
    unfolding on_endpoint
    endpoint-known n e = rw (ne_eqb f.node w.state.own n, e)

    pub endpoint_stranger : ¬ (f.node ≡ w.state.own) → knows c f w.state ≡ false → on_endpoint c f w ≡ on_stranger c f (with_sender f w)
    unfolding on_endpoint
    endpoint_stranger n e = rw (ne_eqb f.node w.state.own n, e)

  -- ---- type 4

  pub equal_unicast : c.unicast ≡ true → on_equal c w ≡ touch c w
  unfolding on_equal
  equal_unicast e = rw e

  pub equal_multicast : c.unicast ≡ false → on_equal c w ≡ with_state (count_equal c (touch c w).state) (touch c w)
  unfolding on_equal
  equal_multicast e = rw e

  module _ (d : List ℕ) where
    pub network_equal : same (digest_now c w) d ≡ true → on_network c d w ≡ on_equal c w
    unfolding on_network
    network_equal e = rw e

    pub network_others : same (digest_now c w) d ≡ false → c.others ≡ true → on_network c d w ≡ w
    unfolding on_network
    network_others e o = rw (e, o)

    pub network_ask : same (digest_now c w) d ≡ false → c.others ≡ false → on_network c d w ≡ ask_network c w
    unfolding on_network
    network_ask e o = rw (e, o)

  -- ---- type 5

  module _ (r : Received) where
    pub own-reclaimed : differs (own_entry w.state) r ≡ true → on_own_state c r w ≡ with_state (publish_as c.clock (advance r.seq reclaim_step) (own_data w.state) w.state) w
    unfolding on_own_state
    own-reclaimed e = rw e

    pub own-agrees : differs (own_entry w.state) r ≡ false → on_own_state c r w ≡ w
    unfolding on_own_state
    own-agrees e = rw e

    pub state-own : r.node ≡ w.state.own → on_state c r w ≡ on_own_state c r w
    unfolding on_state
    state-own e = rw (eq-eqb r.node w.state.own e)

    pub state-other : ¬ (r.node ≡ w.state.own) → on_state c r w ≡ carry_out c (decide c.clock w.state.table r) w
    unfolding on_state
    state-other n = rw (ne_eqb r.node w.state.own n)

  pub carry_ignored : carry_out c Decision.ignored w ≡ w
  unfolding carry_out
  carry_ignored = refl

  pub carry_ask : (n : ℕ) → carry_out c (Decision.ask n) w ≡ reply c (request_node_tlv n) w
  unfolding carry_out
  carry_ask n = refl

  pub carry_number : (e : Entry) → carry_out c (Decision.take_number e) w ≡ with_state (with_table (put e w.state.table) w.state) w
  unfolding carry_out after
  carry_number e = refl

  pub carry_all : (e : Entry) → carry_out c (Decision.take_all e) w ≡ with_state (with_table (put e w.state.table) w.state) w
  unfolding carry_out after
  carry_all e = refl

  pub carry_dropped : carry_out c Decision.dropped w ≡ drop_one w
  unfolding carry_out
  carry_dropped = refl

  -- ---- one TLV, by its type

  module _ (type : ℕ) (v : List ℕ) where
    pub on_request_network_lem : type ≡ 1 → on_tlv c type v w ≡ on_request_network c w
    unfolding on_tlv
    on_request_network_lem e = rw e

    pub on_request_node_lem : type ≡ 2 → 4 ≤ length v → on_tlv c type v w ≡ on_request_node c (u32_at v 0) w
    unfolding on_tlv
    on_request_node_lem e h = rw (e, le-leb 4 (length v) h)

    pub on_request_node_short : type ≡ 2 → length v < 4 → on_tlv c type v w ≡ w
    unfolding on_tlv
    on_request_node_short e h = rw (e, lt-leb 4 (length v) h)

    pub on_endpoint_lem : type ≡ 3 → 8 ≤ length v → on_tlv c type v w ≡ on_endpoint c (record { node = u32_at v 0; endpoint = u32_at v 4 }) w
    unfolding on_tlv
    on_endpoint_lem e h = rw (e, le-leb 8 (length v) h)

    pub on_endpoint_short : type ≡ 3 → length v < 8 → on_tlv c type v w ≡ w
    unfolding on_tlv
    on_endpoint_short e h = rw (e, lt-leb 8 (length v) h)

    pub on_network_lem : type ≡ 4 → 16 ≤ length v → on_tlv c type v w ≡ on_network c (take 16 v) w
    unfolding on_tlv
    on_network_lem e h = rw (e, le-leb 16 (length v) h)

    pub on_network_short : type ≡ 4 → length v < 16 → on_tlv c type v w ≡ w
    unfolding on_tlv
    on_network_short e h = rw (e, lt-leb 16 (length v) h)

    pub on_state_lem : type ≡ 5 → 28 ≤ length v → on_tlv c type v w ≡ on_state c (received_of v) w
    unfolding on_tlv
    on_state_lem e h = rw (e, le-leb 28 (length v) h)

    pub on_state_short : type ≡ 5 → length v < 28 → on_tlv c type v w ≡ w
    unfolding on_tlv
    on_state_short e h = rw (e, lt-leb 28 (length v) h)

    pub on_other : ¬ (type ≡ 1) → ¬ (type ≡ 2) → ¬ (type ≡ 3) → ¬ (type ≡ 4) → ¬ (type ≡ 5) → on_tlv c type v w ≡ w
    unfolding on_tlv
    on_other a b d e f = rw (ne_eqb type 1 a, ne_eqb type 2 b, ne_eqb type 3 d, ne_eqb type 4 e, ne_eqb type 5 f)

  -- ---- each TLV at its turn

  pub one_tlv_unicast : (t : List ℕ) → c.unicast ≡ true → one_tlv c t w ≡ touch c (on_tlv c (type_of t) (value_of t) w)
  unfolding one_tlv
  one_tlv_unicast t e = rw e

  pub one_tlv_multicast : (t : List ℕ) → c.unicast ≡ false → one_tlv c t w ≡ on_tlv c (type_of t) (value_of t) w
  unfolding one_tlv
  one_tlv_multicast t e = rw e

  pub all_tlvs_none : all_tlvs c [] w ≡ w
  unfolding all_tlvs
  all_tlvs_none = refl

  pub each_table_none : each_table c [] w ≡ []
  unfolding each_table
  each_table_none = refl

  pub each_table_next : (t : List ℕ) (ts : List (List ℕ)) → each_table c (t ∷ ts) w ≡ (one_tlv c t w).state.table ++ each_table c ts (one_tlv c t w)
  unfolding each_table
  each_table_next t ts = refl

  pub all_tlvs_next : (t : List ℕ) (ts : List (List ℕ)) → all_tlvs c (t ∷ ts) w ≡ all_tlvs c ts (one_tlv c t w)
  unfolding all_tlvs
  all_tlvs_next t ts = refl

-- ---- a datagram: accepted, or refused

module _ (c : Call) (s : State) where
  pub receive-accepted : refusal_receive c s ≡ 0 → receive c s ≡ answered c (all_tlvs (context_of s c) (tlvs c.datagram) (start_of s))
  unfolding receive handled
  receive-accepted e = rw e

  pub receive-refused : ¬ (refusal_receive c s ≡ 0) → receive c s ≡ record { number = refusal_receive c s; state = s; bytes = []; omitted = 0; dropped = 0 }
  unfolding receive
  receive-refused n = rw (ne_eqb (refusal_receive c s) 0 n)

-- ---- a received Node State: node, number and digest stand at bytes 0, 4 and 12

module _ (v : List ℕ) where
  pub received-node : (received_of v).node ≡ u32_at v 0
  unfolding received_of
  received-node = refl

  pub received-seq : (received_of v).seq ≡ u32_at v 4
  unfolding received_of
  received-seq = refl

  pub received-hash : (received_of v).hash ≡ take 16 (drop 12 v)
  unfolding received_of
  received-hash = refl

-- ---- Trickle: the send point is due, the interval is over, or nothing is due

module _ (clock random : ℕ) (t : Trickle) where
  pub event-point : point_due clock t ≡ true → event clock random t ≡ record { sends = ltb t.count redundancy; next = spend t }
  unfolding event
  event-point e = rw e

  pub event-over : point_due clock t ≡ false → t.start + t.interval ≤ clock → event clock random t ≡ record { sends = false; next = fresh clock (min (t.interval * 2) greatest_interval) random }
  unfolding event
  event-over e h = rw (e, le-leb (t.start + t.interval) clock h)

  pub event-none : point_due clock t ≡ false → clock < t.start + t.interval → event clock random t ≡ record { sends = false; next = t }
  unfolding event
  event-none e h = rw (e, lt-leb (t.start + t.interval) clock h)

  pub reset_longer : least_interval < t.interval → reset clock random t ≡ fresh clock least_interval random
  unfolding reset
  reset_longer h = rw (lt-ltb least_interval t.interval h)

  pub reset-least : t.interval ≤ least_interval → reset clock random t ≡ t
  unfolding reset
  reset-least h = rw (le-ltb least_interval t.interval h)

-- ---- an endpoint's event: Trickle's, a keep-alive, or none

module _ (clock random : ℕ) (e : Endpoint) where
  pub event_busy : is_idle clock e.trickle ≡ false → endpoint_event clock random e ≡ event clock random e.trickle
  unfolding endpoint_event
  event_busy h = rw h

  pub event-alive : is_idle clock e.trickle ≡ true → e.quiet + e.keep ≤ clock
      → endpoint_event clock random e ≡ record { sends = true; next = fresh clock e.trickle.interval random }
  unfolding endpoint_event
  event-alive h l = rw (h, le-leb (e.quiet + e.keep) clock l)

  pub event_rests : is_idle clock e.trickle ≡ true → clock < e.quiet + e.keep → endpoint_event clock random e ≡ record { sends = false; next = e.trickle }
  unfolding endpoint_event
  event_rests h l =
      rw (h, lt-leb (e.quiet + e.keep) clock l)
      (event-none clock random e.trickle (no_not (point_due clock e.trickle) (and_left _ _ h))
      (leb-false (e.trickle.start + e.trickle.interval) clock (no_not (interval_over clock e.trickle) (and_right (not (point_due clock e.trickle)) _ h))))

-- ---- settling: the digest is as before, or every endpoint is reset with its random number

pub reset_all_next : (clock r : ℕ) (rs : List ℕ) (e : Endpoint) (es : List Endpoint)
    → reset_all clock (r ∷ rs) (e ∷ es) ≡ with_trickle (reset clock r e.trickle) e ∷ reset_all clock rs es
unfolding reset_all
reset_all_next clock r rs e es = refl

module _ (clock : ℕ) (rs : List ℕ) (s : State) where
  pub settle-same : same s.digest (network_digest s.own clock s.table) ≡ true
      → settle clock rs s ≡ record { own = s.own; last = clock; table = s.table; peers = s.peers; endpoints = s.endpoints; digest = network_digest s.own clock s.table }
  unfolding settle
  settle-same e = rw e

  pub settle-reset : same s.digest (network_digest s.own clock s.table) ≡ false
      → settle clock rs s ≡ record { own = s.own; last = clock; table = s.table; peers = s.peers; endpoints = reset_all clock rs s.endpoints; digest = network_digest s.own clock s.table }
  unfolding settle
  settle-reset e = rw e

-- ---- ticks

-- the peers of an endpoint that go, and those that stay
abbrev pub gone : ℕ → ℕ → State → List Peer
gone clock i s = keep (goes clock i s.table) s.peers

abbrev pub stay : ℕ → ℕ → State → List Peer
stay clock i s = keep (λ p. not (goes clock i s.table p)) s.peers

module _ (clock i : ℕ) (s : State) where
  pub silent-none : some_of (gone clock i s) ≡ false → age_at clock (own_entry s) < refresh_age → drop_silent clock i s ≡ s
  unfolding drop_silent
  silent-none e h = rw (e, lt-leb refresh_age (age_at clock (own_entry s)) h)

  pub silent-some : some_of (gone clock i s) || leb refresh_age (age_at clock (own_entry s)) ≡ true
      → drop_silent clock i s ≡ with_peers (stay clock i s) (publish clock (without_peers (gone clock i s) (own_data s)) s)
  unfolding drop_silent
  silent-some e = rw e

  -- our identifier and our endpoints stay
  pub silent-own : (drop_silent clock i s).own ≡ s.own
  unfolding drop_silent publish_as
  silent-own = by_test (some_of (gone clock i s) || leb refresh_age (age_at clock (own_entry s))) (λ e. rw e) (λ e. rw e)

  pub silent-endpoints : (drop_silent clock i s).endpoints ≡ s.endpoints
  unfolding drop_silent publish_as
  silent-endpoints = by_test (some_of (gone clock i s) || leb refresh_age (age_at clock (own_entry s))) (λ e. rw e) (λ e. rw e)

  -- a tick: silent peers go, the digest is compared, then at most one event
  pub ticked-is : (rs : List ℕ) → ticked clock i rs s
      ≡ with_event clock (get_or rs (pred i) 0) i (settle clock rs (drop_silent clock i s)) (endpoint_event clock (get_or rs (pred i) 0) (endpoint_at i (settle clock rs (drop_silent clock i s))))
  unfolding ticked
  ticked-is rs = refl

  module _ (rs : List ℕ) (table room : ℕ) where
    pub tick-accepted : refusal_tick clock i table room s ≡ 0 → tick clock i rs table room s ≡ ticked clock i rs s
    unfolding tick
    tick-accepted e = rw e

    pub tick-refused : ¬ (refusal_tick clock i table room s ≡ 0) → tick clock i rs table room s ≡ record { number = refusal_tick clock i table room s; state = s; bytes = [] }
    unfolding tick
    tick-refused n = rw (ne_eqb (refusal_tick clock i table room s) 0 n)
