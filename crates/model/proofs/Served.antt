-- What one TLV's handling writes: whole TLVs, our Node Endpoint TLV before the first and nowhere else, within the room, and no Node State but those of
-- entries reachable at that moment. Assumes nothing.
use Rattle.std.proofs.Common.{◌≡◌, ℕ, ◌+◌, ◌≤◌, Bool, true, false, cond, eqb, leb, ◌⊎◌, List, [], ◌∷◌, ◌++◌, map, length, take, sym, refl, ap, ◌∙◌, inl, inr, ⊎_elim, append_assoc, append-nil, arith, length-append, eqb-true, leb-true}
use mathlib.Core.Option.{Option, none, some}
use borrow.Author.Tests.{eqb-false}
use Rattle.base.specs.Lists.{join_all, or_else, In, All}
use Rattle.base.specs.Bytes.{u32_at, big32, same}
use Rattle.base.proofs.Tests.{by_test}
use Rattle.base.proofs.Lists.{all_append, in_append, in_keep, join_append}
use Rattle.base.proofs.Sorted.{find-some}
use Rattle.wire.specs.Row.{type_of, value_of, encode}
use Rattle.wire.proofs.Encoded.{encode_type, encode-whole}
use Rattle.wire.proofs.Good.{Whole, Wholes, row-joined, wholes_append}
use Rattle.model.specs.Figures.{most_bytes}
use Rattle.model.specs.Table.{Entry, id_of, look}
use Rattle.model.specs.Reach.{in_reach, reached}
use Rattle.model.specs.State.{State, own_entry, publish_as}
use Rattle.model.specs.Messages.{endpoint_tlv, request_network_tlv, request_node_tlv, network_tlv, short_state, whole_state, state_head}
use Rattle.model.specs.Decide.{Received, Decision, received_of, differs, decide}
use Rattle.model.specs.Handle.{Context, Sender, Work, with_state, with_sender, with_out, piece, fits, reply, replies, ask_network, may_ask, touch_by, touch, digest_now, reached_now, on_request_network, on_request_node, room_for_peer, add_peer, greet, knows, on_stranger, on_endpoint, on_equal, on_network, on_own_state, carry_out, on_state, on_tlv, one_tlv}
use Rattle.model.specs.Theorems.{Served}
use Rattle.model.proofs.Cases.{endpoint-length, piece-first, piece_later, reply-fits, reply-full, request_node_unreachable, request_node_unknown, request_node_reached}

-- if u is a Node State, it is that of an entry reachable at the moment o, without data or with data; if it is a Network State, it has the digest then
pub record Fair (c : Context) (o : Work) (u : List ℕ) : Type 0 where
  pub node : type_of u ≡ 5 → (e : Entry) × In e (reached_now c o) × ((u ≡ short_state c.clock e) ⊎ (u ≡ whole_state c.clock e))
  pub network : type_of u ≡ 4 → u ≡ network_tlv (digest_now c o)

fair_other : (c : Context) (o : Work) (y : ℕ) (v : List ℕ) → ¬ (y ≡ 5) → ¬ (y ≡ 4) → Fair c o (encode y v)
fair_other c o y v n k =
    record { node = λ e. absurd (n (sym (encode_type y v) ∙ e)); network = λ e. absurd (k (sym (encode_type y v) ∙ e)) }

-- a Node State is no Network State
fair_state : (c : Context) (o : Work) (v : List ℕ) (e : Entry) → In e (reached_now c o) → (encode 5 v ≡ short_state c.clock e) ⊎ (encode 5 v ≡ whole_state c.clock e) → Fair c o (encode 5 v)
fair_state c o v e i s = record { node = λ y. (e, i, s); network = λ y. absurd (let z : 5 ≡ 4 = sym (encode_type 5 v) ∙ y in omega arith) }

-- a reply at the moment o: whole, fair, and no Node Endpoint TLV
record Reply (c : Context) (o : Work) (t : List ℕ) : Type 0 where
  whole : Whole t
  fair : Fair c o t
  behind : ¬ (type_of t ≡ 3)

reply_of : (c : Context) (o : Work) (y : ℕ) (v : List ℕ) → ¬ (y ≡ 3) → Fair c o (encode y v) → Reply c o (encode y v)
reply_of c o y v n f = record { whole = encode-whole y v; fair = f; behind = λ e. n (sym (encode_type y v) ∙ e) }

-- no Node Endpoint TLV among them
abbrev pub Behind : List (List ℕ) → Type 0
Behind us = All (λ u. ¬ (type_of u ≡ 3)) us

-- nothing, or our Node Endpoint TLV first and then at least one reply
abbrev pub Headed : ℕ → ℕ → List (List ℕ) → Type 0
Headed own endpoint [] = Unit {0}
Headed own endpoint (u ∷ []) = ⊥
Headed own endpoint (u ∷ t ∷ ts) = (u ≡ endpoint_tlv own endpoint) × Behind (t ∷ ts)

-- from w to v these TLVs were written at the moment o, in the name of the same node
pub record Writes (o : Work) (c : Context) (w v : Work) : Type 0 where
  pub us : List (List ℕ)
  pub out : v.out ≡ w.out ++ join_all us
  pub whole : Wholes us
  pub fair : (u : List ℕ) → In u us → Fair c o u
  pub first : length w.out ≡ 0 → Headed w.state.own c.endpoint us
  pub later : ¬ (length w.out ≡ 0) → Behind us
  pub room : length w.out ≤ most_bytes → length v.out ≤ most_bytes
  pub own : v.state.own ≡ w.state.own

pub headed_append : (own endpoint : ℕ) (ts us : List (List ℕ)) → Headed own endpoint ts → (length (join_all ts) ≡ 0 → Headed own endpoint us)
    → (¬ (length (join_all ts) ≡ 0) → Behind us) → Headed own endpoint (ts ++ us)
headed_append own endpoint [] us h k l = k refl
headed_append own endpoint (t ∷ []) us h k l = absurd h
headed_append own endpoint (t ∷ u ∷ ts) us h k l = (
  h.0,
  all_append (λ (x : List ℕ). ¬ (type_of x ≡ 3)) (u ∷ ts) us h.1
      (l (λ z. omega (arith, z, ap length h.0, endpoint-length own endpoint, length-append t (u ++ join_all ts)))),
)

module _ {o : Work} {c : Context} where
  -- nothing is written
  still : {w v : Work} → v.out ≡ w.out → v.state.own ≡ w.state.own → Writes o c w v
  still {w} {v} q e =
      record {
        us = [];
        out = q ∙ sym (append-nil w.out);
        whole = tt;
        fair = λ u m. absurd m;
        first = λ z. tt;
        later = λ n. tt;
        room = λ h. rw q h;
        own = e;
      }

  -- one after the other
  after : {w v x : Work} → Writes o c w v → Writes o c v x → Writes o c w x
  after {w} {v} {x} a b =
      record {
        us = a.us ++ b.us;
        out = b.out ∙ rw (a.out, join_append a.us b.us) (append_assoc w.out (join_all a.us) (join_all b.us));
        whole = wholes_append a.us b.us a.whole b.whole;
        fair = λ u m. ⊎_elim (a.fair u) (b.fair u) (in_append u a.us b.us m);
        first = λ z. headed_append w.state.own c.endpoint a.us b.us (a.first z)
            (λ y. rw a.own at (b.first (omega (arith, z, y, ap length a.out, length-append w.out (join_all a.us)))))
            (λ n. b.later (λ y. n (omega (arith, y, ap length a.out, length-append w.out (join_all a.us)))));
        later = λ n. all_append (λ (u : List ℕ). ¬ (type_of u ≡ 3)) a.us b.us (a.later n)
            (b.later (λ y. n (omega (arith, y, ap length a.out, length-append w.out (join_all a.us)))));
        room = λ h. b.room (a.room h);
        own = b.own ∙ a.own;
      }

  -- another state of the same node, nothing more written
  onward : {w v : Work} {s : State} → Writes o c w v → s.own ≡ w.state.own → Writes o c w (with_state s v)
  onward a e = record { us = a.us; out = a.out; whole = a.whole; fair = a.fair; first = a.first; later = a.later; room = a.room; own = e }

  either : (b : Bool) {w v x : Work} → Writes o c w v → Writes o c w x → Writes o c w (cond b v x)
  either true p q = p
  either false p q = q

  -- ---- replies

  first_piece : (t : List ℕ) (w : Work) → Reply c o t → fits c t w ≡ true → length w.out ≡ 0 → Writes o c w (with_out (w.out ++ piece c t w) w)
  first_piece t w k h e =
      record {
        us = endpoint_tlv w.state.own c.endpoint ∷ t ∷ [];
        out = rw (piece-first c t w e, append-nil t);
        whole = (encode-whole 3 (big32 w.state.own ++ big32 c.endpoint), (k.whole, tt));
        fair = λ u m. ⊎_elim (λ q. rw q (fair_other c o 3 (big32 w.state.own ++ big32 c.endpoint) (omega arith) (omega arith))) (⊎_elim (λ q. rw q k.fair) absurd) m;
        first = λ z. (refl, (k.behind, tt));
        later = λ n. absurd (n e);
        room = λ l. omega (arith, leb-true (length w.out + length (piece c t w)) most_bytes h, length-append w.out (piece c t w));
        own = refl;
      }

  later_piece : (t : List ℕ) (w : Work) → Reply c o t → fits c t w ≡ true → ¬ (length w.out ≡ 0) → Writes o c w (with_out (w.out ++ piece c t w) w)
  later_piece t w k h n =
      record {
        us = t ∷ [];
        out = rw (piece_later c t w n, append-nil t);
        whole = (k.whole, tt);
        fair = λ u m. ⊎_elim (λ q. rw q k.fair) absurd m;
        first = λ z. absurd (n z);
        later = λ l. (k.behind, tt);
        room = λ l. omega (arith, leb-true (length w.out + length (piece c t w)) most_bytes h, length-append w.out (piece c t w));
        own = refl;
      }

  reply_writes : (t : List ℕ) (w : Work) → Reply c o t → Writes o c w (reply c t w)
  reply_writes t w k =
      by_test (fits c t w)
      (λ h. rw (reply-fits c t w h)
      (by_test (eqb (length w.out) 0) (λ e. first_piece t w k h (eqb-true (length w.out) 0 e)) (λ e. later_piece t w k h (eqb-false (length w.out) 0 e))))
      (λ h. rw (reply-full c t w h) (still refl refl))

  replies_write : (ts : List (List ℕ)) (w : Work) → All (Reply c o) ts → Writes o c w (replies c ts w)
  unfolding replies
  replies_write [] w k = still refl refl
  replies_write (t ∷ ts) w k = after (reply_writes t w k.0) (replies_write ts (reply c t w) k.1)

  ask_writes : (w : Work) → Writes o c w (ask_network c w)
  unfolding ask_network
  ask_writes w =
      let r : Writes o c w (reply c request_network_tlv w) = reply_writes request_network_tlv w (reply_of c o 1 [] (omega arith) (fair_other c o 1 [] (omega arith) (omega arith))) in
      either (may_ask c w) (either (fits c request_network_tlv w) (onward r refl) r) (still refl refl)

  touch_still : (w : Work) → Writes o c w (touch c w)
  unfolding touch
  touch_still w = go w.sender
    where
      go : (x : Option Sender) → Writes o c w (or_else x w (λ f. with_state (touch_by c f w.state) w))
      go none = still refl refl
      go (some f) = still refl refl

  -- ---- types 3, 4 and 5

  greet_still : (f : Sender) (w : Work) → Writes o c w (greet c f w)
  unfolding greet add_peer publish_as
  greet_still f w = either (room_for_peer w.state) (still refl refl) (still refl refl)

  endpoint_writes : (f : Sender) (w : Work) → Writes o c w (on_endpoint c f w)
  unfolding on_endpoint on_stranger
  endpoint_writes f w =
      let s : Writes o c w (with_sender f w) = still refl refl in
      either (eqb f.node w.state.own) (still refl refl)
      (either (knows c f w.state) s (after s (either c.unicast (greet_still f (with_sender f w)) (ask_writes (with_sender f w)))))

  network_writes : (d : List ℕ) (w : Work) → Writes o c w (on_network c d w)
  unfolding on_network on_equal
  network_writes d w =
      let t : Writes o c w (touch c w) = touch_still w in
      either (same (digest_now c w) d) (either c.unicast t (onward t t.own)) (either c.others (still refl refl) (ask_writes w))

  carry_writes : (d : Decision) (w : Work) → Writes o c w (carry_out c d w)
  unfolding carry_out
  carry_writes Decision.ignored w = still refl refl
  carry_writes (Decision.ask n) w = reply_writes (request_node_tlv n) w (reply_of c o 2 (big32 n) (omega arith) (fair_other c o 2 (big32 n) (omega arith) (omega arith)))
  carry_writes (Decision.take_number e) w = still refl refl
  carry_writes (Decision.take_all e) w = still refl refl
  carry_writes Decision.dropped w = still refl refl

  state_writes : (r : Received) (w : Work) → Writes o c w (on_state c r w)
  unfolding on_state on_own_state publish_as
  state_writes r w =
      either (eqb r.node w.state.own) (either (differs (own_entry w.state) r) (still refl refl) (still refl refl))
      (carry_writes (decide c.clock w.state.table r) w)

-- ---- types 1 and 2: the entries reachable at that moment

short-replies : (c : Context) (o : Work) (es : List Entry) → ((e : Entry) → In e es → In e (reached_now c o)) → All (Reply c o) (map (short_state c.clock) es)
short-replies c o [] h = tt
short-replies c o (e ∷ es) h = (
  reply_of c o 5 (state_head c.clock e) (omega arith) (fair_state c o (state_head c.clock e) e (h e (inl refl)) (inl refl)),
  short-replies c o es (λ f k. h f (inr k)),
)

module _ (c : Context) (w : Work) where
  fair_network : (d : List ℕ) → d ≡ digest_now c w → Fair c w (network_tlv d)
  fair_network d e = record { node = λ y. absurd (let z : 4 ≡ 5 = sym (encode_type 4 d) ∙ y in omega arith); network = λ y. ap network_tlv e }

  request_network_writes : Writes w c w (on_request_network c w)
  unfolding on_request_network
  request_network_writes =
      replies_write (network_tlv (digest_now c w) ∷ map (short_state c.clock) (reached_now c w)) w
      (reply_of c w 4 (digest_now c w) (omega arith) (fair_network (digest_now c w) refl), short-replies c w (reached_now c w) (λ e k. k))

  -- the entry of a reachable node is one of those reached
  reached-look : (n : ℕ) (e : Entry) → in_reach w.state.own c.clock w.state.table n ≡ true → look n w.state.table ≡ some e → In e (reached_now c w)
  unfolding reached look
  reached-look n e i l =
      let f : In e w.state.table × (id_of e ≡ n) = find-some id_of n e w.state.table l in
      in_keep (λ g. in_reach w.state.own c.clock w.state.table (id_of g)) e w.state.table f.0 (rw f.1 i)

  request_node_writes : (n : ℕ) → Writes w c w (on_request_node c n w)
  request_node_writes n =
      by_test (in_reach w.state.own c.clock w.state.table n) (λ i. go i (look n w.state.table) refl) (λ i. rw (request_node_unreachable c w n i) (still refl refl))
    where
      go : in_reach w.state.own c.clock w.state.table n ≡ true → (o : Option Entry) → look n w.state.table ≡ o → Writes w c w (on_request_node c n w)
      go i none l = rw (request_node_unknown c w n l) (still refl refl)
      go i (some e) l =
          rw (request_node_reached c w n i e l)
          (reply_writes (whole_state c.clock e) w
          (reply_of c w 5 (state_head c.clock e ++ e.says.node_data) (omega arith) (fair_state c w (state_head c.clock e ++ e.says.node_data) e (reached-look n e i l) (inr refl))))

  tlv_writes : (type : ℕ) (v : List ℕ) → Writes w c w (on_tlv c type v w)
  unfolding on_tlv
  tlv_writes type v =
      let none_written : Writes w c w w = still refl refl in
      either (eqb type 1) request_network_writes
      (either (eqb type 2) (either (leb 4 (length v)) (request_node_writes (u32_at v 0)) none_written)
      (either (eqb type 3) (either (leb 8 (length v)) (endpoint_writes (record { node = u32_at v 0; endpoint = u32_at v 4 }) w) none_written)
      (either (eqb type 4) (either (leb 16 (length v)) (network_writes (take 16 v) w) none_written)
      (either (eqb type 5) (either (leb 28 (length v)) (state_writes (received_of v) w) none_written) none_written))))

  pub one_writes : (t : List ℕ) → Writes w c w (one_tlv c t w)
  unfolding one_tlv
  one_writes t =
      let a : Writes w c w (on_tlv c (type_of t) (value_of t) w) = tlv_writes (type_of t) (value_of t) in
      either c.unicast (after a (touch_still (on_tlv c (type_of t) (value_of t) w))) a

-- ---- the statement

pub served : Served
served = record { only = λ c t w. let a : Writes w c w (one_tlv c t w) = one_writes c w t in (a.us, a.out, row-joined a.us a.whole, λ u m. (a.fair u m).node, λ u m. (a.fair u m).network) }
