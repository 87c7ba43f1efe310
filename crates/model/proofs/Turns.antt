-- Each TLV at its turn, what is counted, an empty node taken, and no interval restarted by a foreign digest. Assumes nothing.
use Rattle.std.proofs.Common.{◌≡◌, ℕ, pred, ◌+◌, ◌-◌, ◌%◌, ◌<◌, ◌≤◌, Bool, true, false, ◌&&◌, leb, List, [], ◌∷◌, ◌++◌, length, take, drop, sym, refl, ap, ◌∙◌, arith, drop_of_length-le, eq-eqb, le-leb, leb-false, leb-true}
use mathlib.Core.Option.{none, some}
use lib.Seq.{map-set_same}
use borrow.Author.Tests.{lt-leb}
use Rattle.base.specs.Bytes.{u32_at, same}
use Rattle.base.proofs.Tests.{by_test, no_way}
use Rattle.base.proofs.Options.{by_option, by_or_else}
use Rattle.base.proofs.Sorted.{find-inserted}
use Rattle.sha256.specs.Sha256.{hash16}
use Rattle.wire.specs.Row.{type_of, value_of}
use Rattle.wire.specs.Order.{good}
use Rattle.wire.proofs.Ordering.{same_self}
use Rattle.model.specs.Figures.{most_nodes, data_limit, most_bytes, request_gap}
use Rattle.model.specs.Sequence.{circle, half, offset, older}
use Rattle.model.specs.Table.{Entry, id_of, entry_of, look, put, stamp}
use Rattle.model.specs.State.{State, Endpoint, endpoint_at, with_next, no_endpoint}
use Rattle.model.specs.Messages.{request_network_tlv}
use Rattle.model.specs.Decide.{Received, Decision, carried_in, received_of, with_data, without_data, wanted_new, wanted_held, differs, decide}
use Rattle.model.specs.Handle.{Context, Work, piece, fits, may_ask, has_asked, ask_network, touch, digest_now, on_network, on_tlv, one_tlv, all_tlvs}
use Rattle.model.proofs.KeptCalls.{empty-good}
use Rattle.model.proofs.Cases.{reply-fits, reply-full, ask_held, greet-full, carry_dropped, touch-none, touch-some, network_others, network_ask, on_network_lem, on_network_short, one_tlv_unicast, one_tlv_multicast, receive-accepted}
use Rattle.model.proofs.Refusals.{refusals_exact}
use Rattle.model.proofs.KeptSteps.{reply-state}
use Rattle.model.specs.Theorems.{EachAtItsTurn, CountsExact, EmptyTaken, ForeignDigestResetsNothing, trickles}

-- ---- each TLV at its turn

pub each_at_its_turn : EachAtItsTurn
unfolding all_tlvs
each_at_its_turn = record { one = λ c t w. refl; both = both; call = λ c s e. receive-accepted c s (sym (refusals_exact.receives c s).answered ∙ e) }
  where
    both : (c : Context) (ts us : List (List ℕ)) (w : Work) → all_tlvs c (ts ++ us) w ≡ all_tlvs c us (all_tlvs c ts w)
    both c [] us w = refl
    both c (t ∷ ts) us w = both c ts us (one_tlv c t w)

-- ---- what is counted

abbrev is_dropped : Decision → Bool
is_dropped Decision.dropped = true
is_dropped Decision.ignored = false
is_dropped (Decision.ask n) = false
is_dropped (Decision.take_number e) = false
is_dropped (Decision.take_all e) = false

-- what is wanted is not dropped
module _ (clock : ℕ) (r : Received) where
  data_kept : (d : List ℕ) → is_dropped (with_data clock r d) ≡ false
  unfolding with_data
  data_kept d = by_test (good data_limit d && same (hash16 d) r.hash) (λ b. rw b) (λ b. rw b)

  number-kept : (e : Entry) → is_dropped (without_data clock r e) ≡ false
  unfolding without_data
  number-kept e = by_test (same (hash16 e.says.node_data) r.hash) (λ b. rw b) (λ b. rw b)

  new_kept : is_dropped (wanted_new clock r) ≡ false
  unfolding wanted_new
  new_kept = by_or_else (λ (d : Decision). is_dropped d ≡ false) r.carried (Decision.ask r.node) (with_data clock r) (λ o. refl) (λ d o. data_kept d)

  held_kept : (e : Entry) → is_dropped (wanted_held clock r e) ≡ false
  unfolding wanted_held
  held_kept e = by_or_else (λ (d : Decision). is_dropped d ≡ false) r.carried (without_data clock r e) (with_data clock r) (λ o. number-kept e) (λ d o. data_kept d)

  known_kept : (t : List Entry) (e : Entry) → look r.node t ≡ some e → is_dropped (decide clock t r) ≡ false
  unfolding decide
  known_kept t e l = rw l (by_test (differs e r) (λ b. rw b (held_kept e)) (λ b. rw b))

  room-kept : (t : List Entry) → look r.node t ≡ none → length t < most_nodes → is_dropped (decide clock t r) ≡ false
  unfolding decide
  room-kept t l h = rw (l, lt-leb most_nodes (length t) h) new_kept

  full-dropped : (t : List Entry) → look r.node t ≡ none → most_nodes ≤ length t → decide clock t r ≡ Decision.dropped
  unfolding decide
  full-dropped t l h = rw (l, le-leb most_nodes (length t) h)

  dropped-full : (t : List Entry) → decide clock t r ≡ Decision.dropped → (look r.node t ≡ none) × (most_nodes ≤ length t)
  dropped-full t e =
      let y : is_dropped (decide clock t r) ≡ true = rw e in
      by_option (look r.node t)
      (λ l. by_test (leb most_nodes (length t)) (λ b. (l, leb-true most_nodes (length t) b))
      (λ b. no_way (is_dropped (decide clock t r)) y (room-kept t l (leb-false most_nodes (length t) b))))
      (λ g l. no_way (is_dropped (decide clock t r)) y (known_kept t g l))

pub counts_exact : CountsExact
counts_exact =
    record {
      written = λ c t w h. reply-fits c t w (le-leb (length w.out + length (piece c t w)) most_bytes h);
      omitted = λ c t w h. reply-full c t w (lt-leb (length w.out + length (piece c t w)) most_bytes h);
      held = λ c w h. ask_held c w (lt-leb (endpoint_at c.endpoint w.state).next c.clock h);
      peers = λ c f w e. greet-full c w f e;
      nodes = carry_dropped;
      full = λ clock t r. (dropped-full clock r t, λ h. full-dropped clock r t h.0 h.1);
    }

-- ---- an empty node

new_empty : (clock : ℕ) (t : List Entry) (r : Received) → r.carried ≡ some [] → same (hash16 []) r.hash ≡ true → look r.node t ≡ none → length t < most_nodes
    → decide clock t r ≡ Decision.take_all (entry_of r.node r.seq [] (stamp r.age clock))
unfolding decide wanted_new with_data
new_empty clock t r carried hash new room = rw (new, lt-leb most_nodes (length t) room, carried, empty-good, hash)

carried-empty : (h d : List ℕ) → h ≡ hash16 [] → d ≡ [] → carried_in h d ≡ some []
carried-empty h d p q = rw (q, p, same_self)

-- an entry that says what is received is left as it is
not-older : (n : ℕ) → older n n ≡ false
unfolding older offset
not-older n = lt-leb half ((n + circle - n) % circle) (omega arith)

same_ignored : (clock : ℕ) (t : List Entry) (r : Received) (e : Entry) → look r.node t ≡ some e → e.says.seq ≡ r.seq
    → same (hash16 e.says.node_data) r.hash ≡ true → decide clock t r ≡ Decision.ignored
unfolding decide differs
same_ignored clock t r e l q h = rw (l, q, h, not-older r.seq, eq-eqb r.seq r.seq refl)

pub empty-taken : EmptyTaken
unfolding received_of look put
empty-taken = record { taken = short-taken; again = short-again }
  where
    short-taken : (clock : ℕ) (t : List Entry) (v : List ℕ) → length v ≡ 28 → take 16 (drop 12 v) ≡ hash16 [] → look (u32_at v 0) t ≡ none
        → length t < most_nodes → decide clock t (received_of v) ≡ Decision.take_all (entry_of (u32_at v 0) (u32_at v 4) [] (stamp (u32_at v 8) clock))
    short-taken clock t v l h new room =
        let none_left : drop 28 v ≡ [] = drop_of_length-le v {i = 28} (omega arith) in
        new_empty clock t (received_of v) (carried-empty (take 16 (drop 12 v)) (drop 28 v) h none_left) (rw (h, same_self)) new room

    short-again : (clock later : ℕ) (t : List Entry) (v : List ℕ) → length v ≡ 28 → take 16 (drop 12 v) ≡ hash16 []
        → decide later (put (entry_of (u32_at v 0) (u32_at v 4) [] (stamp (u32_at v 8) clock)) t) (received_of v) ≡ Decision.ignored
    short-again clock later t v l h =
        let e : Entry = entry_of (u32_at v 0) (u32_at v 4) [] (stamp (u32_at v 8) clock) in
        same_ignored later (put e t) (received_of v) e (find-inserted id_of e t) refl (rw (h, same_self))

-- ---- a foreign digest

-- asking leaves every Trickle state: it sets only from when the next request may go out
asked-trickles : (c : Context) (s : State) → trickles (has_asked c s) ≡ trickles s
asked-trickles c s =
    map-set_same (λ (e : Endpoint). e.trickle) s.endpoints (pred c.endpoint) (with_next (c.clock + request_gap) (endpoint_at c.endpoint s)) no_endpoint
    refl

ask_trickles : (c : Context) (w : Work) → trickles (ask_network c w).state ≡ trickles w.state
unfolding ask_network
ask_trickles c w =
    by_test (may_ask c w)
    (λ may. rw may
    (by_test (fits c request_network_tlv w) (λ e. rw e (asked-trickles c w.state)) (λ e. rw e (ap trickles (reply-state c request_network_tlv w)))))
    (λ may. rw may)

network_trickles : (c : Context) (d : List ℕ) (w : Work) → same (digest_now c w) d ≡ false → trickles (on_network c d w).state ≡ trickles w.state
network_trickles c d w e =
    by_test c.others (λ o. rw (network_others c w d e o)) (λ o. rw (network_ask c w d e o) (ask_trickles c w))

-- so does a contact
touch-trickles : (c : Context) (w : Work) → trickles (touch c w).state ≡ trickles w.state
touch-trickles c w = by_option w.sender (λ e. rw (touch-none c w e)) (λ f e. rw (touch-some c w f e))

tlv-trickles : (c : Context) (t : List ℕ) (w : Work) → type_of t ≡ 4 → same (digest_now c w) (take 16 (value_of t)) ≡ false
    → trickles (one_tlv c t w).state ≡ trickles w.state
tlv-trickles c t w y e =
    by_test c.unicast
    (λ u. rw (one_tlv_unicast c w t u) (touch-trickles c (on_tlv c (type_of t) (value_of t) w) ∙ inside))
    (λ u. rw (one_tlv_multicast c w t u) inside)
  where
    inside : trickles (on_tlv c (type_of t) (value_of t) w).state ≡ trickles w.state
    inside =
        by_test (leb 16 (length (value_of t)))
        (λ l. rw (on_network_lem c w (type_of t) (value_of t) y (leb-true 16 (length (value_of t)) l)) (network_trickles c (take 16 (value_of t)) w e))
        (λ l. rw (on_network_short c w (type_of t) (value_of t) y (leb-false 16 (length (value_of t)) l)))

pub foreign_digest_resets_nothing : ForeignDigestResetsNothing
foreign_digest_resets_nothing = record { kept = network_trickles; tlv = tlv-trickles }
