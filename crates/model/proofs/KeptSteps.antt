-- What one TLV does to the state: at most a few of six steps. A property that each step keeps is kept by the handling. Assumes nothing.
use Rattle.std.proofs.Common.{◌≡◌, ℕ, true, false, eqb, leb, List, [], ◌∷◌, ◌++◌, map, length, take, refl, ◌∙◌}
use borrow.Author.Tests.{eqb-false}
use Rattle.base.specs.Lists.{In, All}
use Rattle.base.specs.Bytes.{u32_at, same}
use Rattle.wire.specs.Row.{type_of, value_of, tlvs}
use Rattle.model.specs.Figures.{reclaim_step}
use Rattle.model.specs.Sequence.{advance}
use Rattle.model.specs.Table.{look}
use Rattle.model.specs.Reach.{in_reach}
use Rattle.model.specs.State.{State, with_table, own_entry, own_data, publish_as, settle}
use Rattle.model.specs.Messages.{request_network_tlv, request_node_tlv, network_tlv, short_state, whole_state}
use Rattle.model.specs.Decide.{Decision, received_of, differs, decide, after}
use Rattle.base.proofs.Lists.{in_all}
use Rattle.base.proofs.Options.{by_cond, by_or_else}
use Rattle.model.specs.Handle.{Context, Sender, Work, with_state, with_sender, with_out, omit_one, drop_one, fits, piece, reply, replies, may_ask, has_asked, ask_network, touch_by, touch, digest_now, reached_now, on_request_network, on_request_node, new_peer, room_for_peer, add_peer, greet, knows, on_stranger, on_endpoint, count_equal, on_equal, on_network, on_own_state, carry_out, on_state, at_least, on_tlv, one_tlv, all_tlvs}
use Rattle.model.specs.Receive.{Call, Answer, context_of, start_of, handled, refusal_receive, answered, receive}

-- ---- a reply leaves the state alone

pub reply-state : (c : Context) (t : List ℕ) (w : Work) → (reply c t w).state ≡ w.state
unfolding reply
reply-state c t w = by_cond (λ (v : Work). v.state ≡ w.state) (fits c t w) (with_out (w.out ++ piece c t w) w) (omit_one w) (λ b. refl) (λ b. refl)

pub replies-state : (c : Context) (ts : List (List ℕ)) (w : Work) → (replies c ts w).state ≡ w.state
unfolding replies
replies-state c [] w = refl
replies-state c (t ∷ ts) w = replies-state c ts (reply c t w) ∙ reply-state c t w

-- a decision changes the table alone
pub carry_state : (c : Context) (d : Decision) (w : Work) → (carry_out c d w).state ≡ with_table (after d w.state.table) w.state
unfolding carry_out after
carry_state c Decision.ignored w = refl
carry_state c (Decision.ask n) w = reply-state c (request_node_tlv n) w
carry_state c (Decision.take_number e) w = refl
carry_state c (Decision.take_all e) w = refl
carry_state c Decision.dropped w = refl

-- ---- the steps of a TLV whose value is v

abbrev pub sender_in : List ℕ → Sender
sender_in v = record { node = u32_at v 0; endpoint = u32_at v 4 }

pub record Steps (c : Context) (P : State → Type 0) (v : List ℕ) : Type 0 where
  pub asks : (s : State) → P s → P (has_asked c s)
  pub touches : (f : Sender) (s : State) → P s → P (touch_by c f s)
  pub hears : (s : State) → P s → P (count_equal c s)
  pub greets : (s : State) → ¬ (u32_at v 0 ≡ s.own) → knows c (sender_in v) s ≡ false → room_for_peer s ≡ true → P s → P (add_peer c.clock (new_peer c (sender_in v)) s)
  pub reclaims : (s : State) → P s → P (publish_as c.clock (advance (received_of v).seq reclaim_step) (own_data s) s)
  pub takes : (s : State) → ¬ ((received_of v).node ≡ s.own) → P s → P (with_table (after (decide c.clock s.table (received_of v)) s.table) s)

abbrev Holds : (State → Type 0) → Work → Type 0
Holds P w = P w.state

module _ (c : Context) (P : State → Type 0) (v : List ℕ) (k : Steps c P v) where
  reply-holds : (t : List ℕ) (w : Work) → Holds P w → Holds P (reply c t w)
  reply-holds t w h = rw (reply-state c t w) h

  ask_holds : (w : Work) → Holds P w → Holds P (ask_network c w)
  unfolding ask_network
  ask_holds w h =
      by_cond (Holds P) (may_ask c w) _ w
      (λ b. by_cond (Holds P) (fits c request_network_tlv w) (with_state (has_asked c w.state) (reply c request_network_tlv w)) (reply c request_network_tlv w) (λ q. k.asks w.state h) (λ q. reply-holds request_network_tlv w h))
      (λ b. h)

  touch-holds : (w : Work) → Holds P w → Holds P (touch c w)
  unfolding touch
  touch-holds w h = by_or_else (Holds P) w.sender w (λ f. with_state (touch_by c f w.state) w) (λ e. h) (λ f e. k.touches f w.state h)

  request_holds : (w : Work) → Holds P w → Holds P (on_request_network c w)
  unfolding on_request_network
  request_holds w h = rw (replies-state c (network_tlv (digest_now c w) ∷ map (short_state c.clock) (reached_now c w)) w) h

  node-holds : (n : ℕ) (w : Work) → Holds P w → Holds P (on_request_node c n w)
  unfolding on_request_node
  node-holds n w h =
      by_cond (Holds P) (in_reach w.state.own c.clock w.state.table n) _ w
      (λ b. by_or_else (Holds P) (look n w.state.table) w (λ e. reply c (whole_state c.clock e) w) (λ e. h) (λ e q. reply-holds (whole_state c.clock e) w h))
      (λ b. h)

  greet-holds : (w : Work) → ¬ (u32_at v 0 ≡ w.state.own) → knows c (sender_in v) w.state ≡ false → Holds P w → Holds P (greet c (sender_in v) w)
  unfolding greet
  greet-holds w ne u h =
      by_cond (Holds P) (room_for_peer w.state) (with_state (add_peer c.clock (new_peer c (sender_in v)) w.state) w) (drop_one w) (λ b. k.greets w.state ne u b h) (λ b. h)

  endpoint-holds : (w : Work) → Holds P w → Holds P (on_endpoint c (sender_in v) w)
  unfolding on_endpoint on_stranger
  endpoint-holds w h =
      by_cond (Holds P) (eqb (u32_at v 0) w.state.own) w _ (λ b. h)
      (λ b. by_cond (Holds P) (knows c (sender_in v) w.state) (with_sender (sender_in v) w) _ (λ q. h)
      (λ q. by_cond (Holds P) c.unicast _ _ (λ z. greet-holds (with_sender (sender_in v) w) (eqb-false (u32_at v 0) w.state.own b) q h) (λ z. ask_holds (with_sender (sender_in v) w) h)))

  network_holds : (d : List ℕ) (w : Work) → Holds P w → Holds P (on_network c d w)
  unfolding on_network on_equal
  network_holds d w h =
      by_cond (Holds P) (same (digest_now c w) d) _ _
      (λ b. by_cond (Holds P) c.unicast (touch c w) (with_state (count_equal c (touch c w).state) (touch c w)) (λ q. touch-holds w h) (λ q. k.hears (touch c w).state (touch-holds w h)))
      (λ b. by_cond (Holds P) c.others w (ask_network c w) (λ q. h) (λ q. ask_holds w h))

  state-holds : (w : Work) → Holds P w → Holds P (on_state c (received_of v) w)
  unfolding on_state on_own_state
  state-holds w h =
      by_cond (Holds P) (eqb (received_of v).node w.state.own) _ _
      (λ b. by_cond (Holds P) (differs (own_entry w.state) (received_of v)) _ w (λ q. k.reclaims w.state h) (λ q. h))
      (λ b. rw (carry_state c (decide c.clock w.state.table (received_of v)) w) (k.takes w.state (eqb-false (received_of v).node w.state.own b) h))

  tlv-holds : (type : ℕ) (w : Work) → Holds P w → Holds P (on_tlv c type v w)
  unfolding on_tlv
  tlv-holds type w h =
      by_cond (Holds P) (eqb type 1) _ _ (λ b. request_holds w h)
      (λ b. by_cond (Holds P) (eqb type 2) _ _ (λ q. least 4 (on_request_node c (u32_at v 0) w) (node-holds (u32_at v 0) w h))
      (λ b. by_cond (Holds P) (eqb type 3) _ _ (λ q. least 8 (on_endpoint c (sender_in v) w) (endpoint-holds w h))
      (λ b. by_cond (Holds P) (eqb type 4) _ _ (λ q. least 16 (on_network c (take 16 v) w) (network_holds (take 16 v) w h))
      (λ b. by_cond (Holds P) (eqb type 5) _ w (λ q. least 28 (on_state c (received_of v) w) (state-holds w h)) (λ q. h)))))
    where
      least : (n : ℕ) (done : Work) → Holds P done → Holds P (at_least n v w done)
      least n done g = by_cond (Holds P) (leb n (length v)) done w (λ b. g) (λ b. h)

module _ (c : Context) (P : State → Type 0) where
  pub one_holds : (t : List ℕ) (w : Work) → Steps c P (value_of t) → P w.state → P (one_tlv c t w).state
  unfolding one_tlv
  one_holds t w k h =
      let r : Holds P (on_tlv c (type_of t) (value_of t) w) = tlv-holds c P (value_of t) k (type_of t) w h in
      by_cond (Holds P) c.unicast (touch c (on_tlv c (type_of t) (value_of t) w)) (on_tlv c (type_of t) (value_of t) w) (λ b. touch-holds c P (value_of t) k (on_tlv c (type_of t) (value_of t) w) r) (λ b. r)

  pub all_hold : (ts : List (List ℕ)) (w : Work) → All (λ t. Steps c P (value_of t)) ts → P w.state → P (all_tlvs c ts w).state
  unfolding all_tlvs
  all_hold [] w k h = h
  all_hold (t ∷ ts) w k h = all_hold ts (one_tlv c t w) k.1 (one_holds t w k.0 h)

-- ---- a whole datagram, and the call

module _ (P : State → Type 0) (c : Call) (s : State) (k : (t : List ℕ) → In t (tlvs c.datagram) → Steps (context_of s c) P (value_of t)) where
  pub handled-holds : P s → P (handled s c).state
  unfolding handled
  handled-holds h =
      all_hold (context_of s c) P (tlvs c.datagram) (start_of s) (in_all (λ t. Steps (context_of s c) P (value_of t)) (tlvs c.datagram) k) h

  -- refused or not, where settling keeps it too
  pub receive-holds : ((u : State) → P u → P (settle c.clock c.randoms u)) → P s → P (receive c s).state
  unfolding receive
  receive-holds f h =
      by_cond (λ (a : Answer). P a.state) (eqb (refusal_receive c s) 0) (answered c (handled s c)) _ (λ b. f (handled s c).state (handled-holds h)) (λ b. h)
