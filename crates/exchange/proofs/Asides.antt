-- Only a Network State TLV asks whether a Node State about another is in the datagram. Assumes nothing.
use mathlib.Core.Path.{◌≡◌, refl, ap, ◌∙◌}
use mathlib.Core.Bool.{Bool, false, cond}
use mathlib.Core.List.{List, [], ◌∷◌}
use Prim.Native.Nat.{ℕ}
use lib.Dec.{eqb}
use borrow.Author.Tests.{eqb-true}
use Rattle.base.proofs.Tests.{by_test}
use Rattle.wire.specs.Row.{type_of, value_of}
use Rattle.model.specs.Decide.{Received, Decision, decide}
use Rattle.model.specs.Handle.{Context as ModelContext, Sender, Work as ModelWork, piece, reply, replies, ask_network, touch, on_request_network, on_request_node, greet, on_stranger, on_endpoint, on_own_state, carry_out, on_state, on_tlv, one_tlv}
use Rattle.reply.specs.declared.Context.{Context}
use Rattle.reply.specs.View.{context_of, Work, work_of, Stepped, Open}
use Rattle.table.specs.declared.Table.{Table}
use Rattle.reply.specs.declared.Progress.{Progress}

-- the same call with another answer to that, in the code and in the model
abbrev pub with_others : Bool → Context → Context
with_others x c = record { own = c.own; clock = c.clock; endpoint = c.endpoint; unicast = c.unicast; random = c.random; others = x }

abbrev asking : ModelContext → Bool → ModelContext
asking c x = record { clock = c.clock; endpoint = c.endpoint; unicast = c.unicast; random = c.random; others = x }

module _ (c : ModelContext) (a b : Bool) where
  reply-same : (t : List ℕ) (w : ModelWork) → reply (asking c a) t w ≡ reply (asking c b) t w
  unfolding reply piece
  reply-same t w = refl

  replies-same : (ts : List (List ℕ)) (w : ModelWork) → replies (asking c a) ts w ≡ replies (asking c b) ts w
  unfolding replies
  replies-same [] w = refl
  replies-same (t ∷ ts) w =
      replies-same ts (reply (asking c a) t w) ∙ ap (replies (asking c b) ts) (reply-same t w)

  network_same : (w : ModelWork) → on_request_network (asking c a) w ≡ on_request_network (asking c b) w
  unfolding on_request_network
  network_same w = replies-same _ w

  node-same : (n : ℕ) (w : ModelWork) → on_request_node (asking c a) n w ≡ on_request_node (asking c b) n w
  unfolding on_request_node reply piece
  node-same n w = refl

  endpoint-same : (f : Sender) (w : ModelWork) → on_endpoint (asking c a) f w ≡ on_endpoint (asking c b) f w
  unfolding on_endpoint on_stranger greet ask_network reply piece
  endpoint-same f w = refl

  carry_same : (d : Decision) (w : ModelWork) → carry_out (asking c a) d w ≡ carry_out (asking c b) d w
  unfolding carry_out
  carry_same Decision.ignored w = refl
  carry_same (Decision.ask n) w = reply-same _ w
  carry_same (Decision.take_number e) w = refl
  carry_same (Decision.take_all e) w = refl
  carry_same Decision.dropped w = refl

  state-same : (r : Received) (w : ModelWork) → on_state (asking c a) r w ≡ on_state (asking c b) r w
  unfolding on_state on_own_state
  state-same r w =
      ap (cond (eqb r.node w.state.own) (on_own_state (asking c b) r w)) (carry_same (decide c.clock w.state.table r) w)

  others_same : (kind : ℕ) (v : List ℕ) (w : ModelWork) → eqb kind 4 ≡ false → on_tlv (asking c a) kind v w ≡ on_tlv (asking c b) kind v w
  unfolding on_tlv
  others_same kind v w z = rw (z, network_same w, node-same _ w, endpoint-same _ w, state-same _ w)

  tlv-same : (kind : ℕ) (v : List ℕ) (w : ModelWork) → (kind ≡ 4 → a ≡ b) → on_tlv (asking c a) kind v w ≡ on_tlv (asking c b) kind v w
  tlv-same kind v w e = by_test (eqb kind 4) (λ z. rw (e (eqb-true kind 4 z))) (others_same kind v w)

  one_same : (t : List ℕ) (w : ModelWork) → (type_of t ≡ 4 → a ≡ b) → one_tlv (asking c a) t w ≡ one_tlv (asking c b) t w
  unfolding one_tlv touch
  one_same t w e = rw (tlv-same (type_of t) (value_of t) w e)

-- so a step with another answer to that is the same step
pub aside : {c : Context} (x : Bool) {k : ℕ} (t : List ℕ) {w : Work} {m r : List ℕ} {w' : Work} {m' r' : List ℕ} → Stepped c k (one_tlv (context_of c) t) w m r w' m' r' → (type_of t ≡ 4 → c.others ≡ x)
    → Stepped (with_others x c) k (one_tlv (context_of (with_others x c)) t) w m r w' m' r'
aside {c} x t {w = w} {m = m} {r = r} s e =
    record {
      is = s.is ∙ one_same (context_of c) c.others x t (work_of w m r) e;
      sound = s.sound;
      omitted = s.omitted;
      dropped = s.dropped;
      wrote = s.wrote;
      size = s.size;
      beyond = s.beyond;
      room = s.room;
      onward = s.onward;
      rest = s.rest;
    }

-- nor do the parts ask
pub open_aside : {c : Context} (x : Bool) {t : Table} {d : Progress} {m r : List ℕ} → Open c t d m r
    → Open (with_others x c) t d m r
open_aside x h =
    record {
      marks = record { kept = h.marks.kept; fits = h.marks.fits; clock = h.marks.clock; cached = h.marks.cached };
      writable = record { used = h.writable.used; room = h.writable.room };
      omitted = h.omitted;
      dropped = h.dropped;
      first = h.first;
      fourth = h.fourth;
    }
