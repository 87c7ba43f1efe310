-- Everything that a datagram's handling or a tick sends is empty, or a row of whole TLVs with our Node Endpoint TLV first, within the room.
-- Assumes nothing.
use Rattle.std.proofs.Common.{◌≡◌, ℕ, ◌≤◌, Bool, true, false, cond, eqb, List, [], ◌∷◌, ◌++◌, length, sym, refl, ap, ◌∙◌, subst, inl, inr, append-nil, arith, length-append, eqb-true}
use borrow.Author.Tests.{eqb-false}
use Rattle.base.specs.Lists.{join_all}
use Rattle.base.specs.Bytes.{big32}
use Rattle.base.proofs.Tests.{by_test}
use Rattle.sha256.proofs.Sizes.{hash16-length}
use Rattle.wire.specs.Row.{row, tlvs}
use Rattle.wire.proofs.Encoded.{encode_type, encode-whole, encode-length}
use Rattle.wire.proofs.Good.{Wholes, row-joined, wholes_append}
use Rattle.model.specs.Figures.{most_bytes}
use Rattle.model.specs.Table.{Entry}
use Rattle.model.specs.Digest.{digest_of, network_digest}
use Rattle.model.specs.State.{State, endpoint_at, random_at, settle}
use Rattle.model.specs.Messages.{endpoint_tlv, network_tlv}
use Rattle.model.specs.Handle.{Context, Work, one_tlv, all_tlvs}
use Rattle.model.specs.Receive.{Call, context_of, start_of, refusal_receive, receive}
use Rattle.model.specs.Tick.{drop_silent, announcement, endpoint_event, ticked, refusal_tick, tick}
use Rattle.model.specs.Theorems.{Form, SentForm}
use Rattle.model.proofs.Cases.{endpoint-length, receive-accepted, receive-refused, silent-own, tick-accepted, tick-refused}
use Rattle.base.proofs.Lists.{join_append}
use Rattle.model.proofs.Served.{Headed, headed_append, Writes, one_writes}

-- between two TLVs: what is written so far, and whose node this is
record Shaped (node endpoint : ℕ) (w : Work) : Type 0 where
  us : List (List ℕ)
  out : w.out ≡ join_all us
  whole : Wholes us
  headed : Headed node endpoint us
  room : length w.out ≤ most_bytes
  own : w.state.own ≡ node

module _ (own : ℕ) (c : Context) where
  shaped_next : {o w v : Work} → Writes o c w v → Shaped own c.endpoint w → Shaped own c.endpoint v
  shaped_next a s =
      record {
        us = s.us ++ a.us;
        out = a.out ∙ rw (s.out, join_append s.us a.us);
        whole = wholes_append s.us a.us s.whole a.whole;
        headed = headed_append own c.endpoint s.us a.us s.headed (λ z. rw s.own at (a.first (ap length s.out ∙ z))) (λ n. a.later (λ z. n (sym (ap length s.out) ∙ z)));
        room = a.room s.room;
        own = a.own ∙ s.own;
      }

  all_shaped : (ts : List (List ℕ)) (w : Work) → Shaped own c.endpoint w → Shaped own c.endpoint (all_tlvs c ts w)
  unfolding all_tlvs
  all_shaped [] w s = s
  all_shaped (t ∷ ts) w s = all_shaped ts (one_tlv c t w) (shaped_next (one_writes c w t) s)

start_shaped : (endpoint : ℕ) (s : State) → Shaped s.own endpoint (start_of s)
start_shaped endpoint s = record { us = []; out = refl; whole = tt; headed = tt; room = omega arith; own = refl }

-- whole TLVs, our Node Endpoint TLV first, are of the form
row_form : (own endpoint : ℕ) (us : List (List ℕ)) (bytes : List ℕ) → bytes ≡ join_all us → Wholes us → Headed own endpoint us → length bytes ≤ most_bytes → Form own endpoint bytes
row_form own endpoint [] bytes e k h l = record { sent = inl e; fits = l }
row_form own endpoint (u ∷ []) bytes e k h l = absurd h
row_form own endpoint (u ∷ t ∷ ts) bytes e k h l = record { sent = inr (t, ts, ap row e ∙ row-joined (u ∷ t ∷ ts) k ∙ rw h.0, h.1); fits = l }

empty_form : (own endpoint : ℕ) → Form own endpoint []
empty_form own endpoint = record { sent = inl refl; fits = omega arith }

receive_form : (c : Call) (s : State) → Form s.own c.endpoint (receive c s).bytes
receive_form c s =
    by_test (eqb (refusal_receive c s) 0)
    (λ e. let a : Shaped s.own c.endpoint (all_tlvs (context_of s c) (tlvs c.datagram) (start_of s))
    = all_shaped s.own (context_of s c) (tlvs c.datagram) (start_of s) (start_shaped c.endpoint s) in
    rw (receive-accepted c s (eqb-true (refusal_receive c s) 0 e)) (row_form s.own c.endpoint a.us _ a.out a.whole a.headed a.room))
    (λ e. rw (receive-refused c s (eqb-false (refusal_receive c s) 0 e)) (empty_form s.own c.endpoint))

-- ---- ticks

pub digest-length : (own clock : ℕ) (t : List Entry) → length (network_digest own clock t) ≡ 16
unfolding network_digest digest_of
digest-length own clock t = hash16-length _

announced : (own endpoint : ℕ) (d : List ℕ) → length d ≡ 16 → Form own endpoint (endpoint_tlv own endpoint ++ network_tlv d)
announced own endpoint d e =
    row_form own endpoint (endpoint_tlv own endpoint ∷ network_tlv d ∷ []) (endpoint_tlv own endpoint ++ network_tlv d) (rw (append-nil (network_tlv d)))
    (encode-whole 3 (big32 own ++ big32 endpoint), (encode-whole 4 d, tt)) (refl, (λ y. omega (arith, y, encode_type 4 d), tt))
    (omega (arith, length-append (endpoint_tlv own endpoint) (network_tlv d), endpoint-length own endpoint, encode-length 4 d))

-- what goes out after settling is announced with the digest just taken
settled_form : (clock i : ℕ) (rs : List ℕ) (s : State) (b : Bool) → Form s.own i (cond b (announcement i (settle clock rs s)) [])
unfolding settle
settled_form clock i rs s true = announced s.own i (network_digest s.own clock s.table) (digest-length s.own clock s.table)
settled_form clock i rs s false = empty_form s.own i

ticked_form : (clock i : ℕ) (rs : List ℕ) (s : State) → Form s.own i (ticked clock i rs s).bytes
unfolding ticked
ticked_form clock i rs s =
    let d : State = drop_silent clock i s in
    subst (λ (n : ℕ). Form n i (ticked clock i rs s).bytes) (silent-own clock i s)
    (settled_form clock i rs d (endpoint_event clock (random_at i rs) (endpoint_at i (settle clock rs d))).sends)

tick_form : (clock i : ℕ) (rs : List ℕ) (table room : ℕ) (s : State) → Form s.own i (tick clock i rs table room s).bytes
tick_form clock i rs table room s =
    by_test (eqb (refusal_tick clock i table room s) 0)
    (λ e. rw (tick-accepted clock i s rs table room (eqb-true (refusal_tick clock i table room s) 0 e)) (ticked_form clock i rs s))
    (λ e. rw (tick-refused clock i s rs table room (eqb-false (refusal_tick clock i table room s) 0 e)) (empty_form s.own i))

-- ---- the statement

pub sent_form : SentForm
sent_form = record { receives = receive_form; ticks = tick_form }
