-- The request for network state: held back, left out, or written and noted. Assumes nothing.
use mathlib.Core.Path.{◌≡◌, refl, sym, ap, ◌∙◌}
use mathlib.Core.Bool.{true}
use mathlib.Core.List.{List}
use Prim.Native.Nat.{ℕ, ◌+◌, ◌≤◌, ◌<◌}
use native.Mathlib.Omega.{arith}
use lib.ListN.{length}
use borrow.Author.Tests.{le-leb, lt-leb}
use Rattle.base.proofs.Tests.{by_test}
use Rattle.wire.specs.Row.{encode}
use Rattle.model.specs.Figures.{most_bytes, request_gap}
use Rattle.model.specs.State.{State as ModelState, Endpoint as ModelEndpoint, endpoint_at, with_endpoint, with_next}
use Rattle.model.specs.Messages.{request_network_tlv}
use Rattle.model.specs.Handle.{with_state, fits, reply, may_ask, has_asked, ask_network}
use Rattle.model.proofs.Cases.{ask_held, ask_written, ask_full}
use Rattle.model.proofs.KeptSteps.{reply-state}
use Rattle.table.specs.declared.Table.{Table}
use Rattle.node.specs.declared.State.{State}
use Rattle.node.specs.declared.Endpoint.{Endpoint}
use Rattle.node.specs.declared.peers.Peers.{Peers}
use Rattle.node.specs.View.{endpoint_of, state_of, Rep, Moved}
use Rattle.node.proofs.Moves.{moved_to}
use Rattle.reply.specs.declared.Context.{Context}
use Rattle.reply.specs.declared.Progress.{Progress}
use Rattle.reply.specs.Updates.{local_next}
use Rattle.reply.specs.View.{context_of, Work, gather, work_of, Sound, Stepped, Writes}
use Rattle.reply.proofs.Steps.{work_state, put_state, stepped_none, stepped_to, stepped_more, stepped_then, stepped_kept, gathered, local-is, local-moved}
use Rattle.reply.proofs.Replies.{replied-used, replied-none}

request-length : length request_network_tlv ≡ 4
unfolding encode
request-length = refl

module _ (c : Context) (w : Work) (m r : List ℕ) (h : Sound c.clock w m r) (e : Endpoint) (q : endpoint_of e ≡ endpoint_at c.endpoint (state_of w.state m)) where
  next-is : (endpoint_at c.endpoint (work_of w m r).state).next ≡ e.next
  next-is = rw (work_state w m r, ← q)

  -- too early
  pub ask_early : c.clock < e.next → Stepped c 1 (ask_network (context_of c)) w m r w m r
  ask_early p =
      stepped_more
      (stepped_to (stepped_none h) (ask_network (context_of c))
      (sym (ask_held (context_of c) (work_of w m r) (rw next-is (lt-leb e.next c.clock p)))))
      1 (omega arith)

  module _ (p : e.next ≤ c.clock) (v : Work) (r' : List ℕ) (s : Stepped c 1 (reply (context_of c) request_network_tlv) w m r v m r') where
    may : may_ask (context_of c) (work_of w m r) ≡ true
    may = rw next-is (le-leb e.next c.clock p)

    written-used : fits (context_of c) request_network_tlv (work_of w m r) ≡ true → w.used < v.used
    written-used f = omega (arith, replied-used request_network_tlv s h f, request-length)

    -- left out
    pub ask_omitted : v.used ≡ w.used → Stepped c 1 (ask_network (context_of c)) w m r v m r'
    ask_omitted u =
        stepped_to s (ask_network (context_of c))
        (sym (by_test (fits (context_of c) request_network_tlv (work_of w m r)) (λ f. absurd (omega (arith, written-used f))) (λ f. ask_full (context_of c) (work_of w m r) may f)))

    -- written: the next may go out 200 ms later
    pub ask_noted : ¬ (v.used ≡ w.used) → (x : State)
        → Moved (with_endpoint c.endpoint (with_next (c.clock + request_gap) (endpoint_at c.endpoint (state_of v.state m))) (state_of v.state m)) m x m
        → x.own ≡ v.state.own → x.table ≡ v.state.table
        → Stepped c 1 (ask_network (context_of c)) w m r (put_state x v.reached v) m r'
    ask_noted u x k o t =
        stepped_to (stepped_then s noted) (ask_network (context_of c))
        (sym
        (by_test (fits (context_of c) request_network_tlv (work_of w m r)) (λ f. ask_written (context_of c) (work_of w m r) may f) (λ f. absurd (u (replied-none request_network_tlv s h f)))
        ∙ ap (λ (y : ModelState). with_state (has_asked (context_of c) y) (reply (context_of c) request_network_tlv (work_of w m r))) (sym (reply-state (context_of c) request_network_tlv (work_of w m r)))))
      where
        noted : Stepped c 0 (λ y. with_state (has_asked (context_of c) y.state) y) v m r' (put_state x v.reached v) m r'
        noted =
            stepped_kept s.sound (λ y. with_state (has_asked (context_of c) y.state) y)
            (has_asked (context_of c) (state_of v.state m)) x k o t
            (ap (λ (y : ModelState). with_state (has_asked (context_of c) y) (work_of v m r')) (work_state v m r'))

-- ---- as a step on the progress

module _ (c : Context) (low : 1 ≤ c.endpoint) (high : c.endpoint ≤ 4) where
  next-moved : (n : ℕ) (b : State) (t : Table) (p : Peers) (d : Progress) (m : List ℕ) → Rep (gathered c b t p d) m
      → Moved (with_endpoint c.endpoint (with_next n (endpoint_at c.endpoint (state_of (gathered c b t p d) m))) (state_of (gathered c b t p d) m)) m (gathered c b t p (local_next n d)) m
  next-moved n b t p d m k =
      moved_to (local-moved c b t p d m k low high (local_next n d).local)
      (ap (λ (e : ModelEndpoint). with_endpoint c.endpoint (with_next n e) (state_of (gathered c b t p d) m)) (local-is c b t p d m k low high))

  module _ (d : Progress) (r : List ℕ) where
    pub progress_early : d.used ≤ most_bytes → c.clock < d.local.next → Writes c 1 (ask_network (context_of c)) d r d r
    progress_early u q =
        record {
          sender = refl;
          used = u;
          omitted = omega arith;
          room = refl;
          is = λ b t p m h. ask_early c (gather c b t p d) m r h d.local (local-is c b t p d m h.rep low high) q;
        }

    module _ (q : d.local.next ≤ c.clock) (v : Progress) (r' : List ℕ) (s : Writes c 1 (reply (context_of c) request_network_tlv) d r v r') where
      pub progress_left_out : v.used ≡ d.used → Writes c 1 (ask_network (context_of c)) d r v r'
      progress_left_out z =
          record {
            sender = s.sender;
            used = s.used;
            omitted = s.omitted;
            room = s.room;
            is = λ b t p m h. ask_omitted c (gather c b t p d) m r h d.local (local-is c b t p d m h.rep low high) q (gather c b t p v) r' (s.is b t p m h) z;
          }

      pub progress_asked : ¬ (v.used ≡ d.used) → Writes c 1 (ask_network (context_of c)) d r (local_next (c.clock + request_gap) v) r'
      progress_asked z =
          record {
            sender = s.sender;
            used = s.used;
            omitted = s.omitted;
            room = s.room;
            is = λ b t p m h. ask_noted c (gather c b t p d) m r h d.local (local-is c b t p d m h.rep low high) q (gather c b t p v) r' (s.is b t p m h) z
                (gathered c b t p (local_next (c.clock + request_gap) v)) (next-moved (c.clock + request_gap) b t p v m (s.is b t p m h).sound.rep) refl refl;
          }
