-- A reply as code writes it: our Node Endpoint TLV before the first, then the TLV in two parts. Assumes nothing.
use mathlib.Core.Path.{◌≡◌, refl, sym, ap, ◌∙◌, subst}
use mathlib.Core.Bool.{true, false, cond}
use mathlib.Core.List.{List, [], ◌++◌}
use Prim.Native.Nat.{ℕ, ◌+◌, ◌-◌, ◌≤◌, ◌<◌}
use native.Mathlib.Omega.{arith}
use lib.Dec.{eqb}
use lib.ListN.{length, length-append}
use borrow.Author.Tests.{eqb-true, eqb-false, le-leb, lt-leb}
use Rattle.base.specs.Memory.{written}
use Rattle.base.proofs.Tests.{by_test}
use Rattle.base.proofs.Written.{written_three}
use Rattle.model.specs.Figures.{most_bytes}
use Rattle.model.specs.Messages.{endpoint_tlv}
use Rattle.model.specs.Handle.{Work as ModelWork, with_out, omit_one, piece, fits, reply}
use Rattle.model.proofs.Cases.{endpoint-length, piece-first, piece_later, reply-fits, reply-full}
use Rattle.model.proofs.KeptSteps.{reply-state}
use Rattle.node.specs.View.{state_of}
use Rattle.reply.specs.declared.Context.{Context}
use Rattle.reply.specs.declared.Progress.{Progress}
use Rattle.reply.specs.Updates.{with_used, one_omitted}
use Rattle.reply.specs.View.{context_of, Work, gather, work_of, Sound, Stepped, Writes}
use Rattle.reply.proofs.Steps.{work_state, work_own, work_length, put_used, put_omitted, stepped_state, stepped_more, stepped_omitted, stepped_written}

-- what precedes a reply, and its size
abbrev head_of : ℕ → ℕ → ℕ → List ℕ
head_of used own endpoint = cond (eqb used 0) (endpoint_tlv own endpoint) []

abbrev head_size : ℕ → ℕ
head_size used = cond (eqb used 0) 12 0

head_length : (used own endpoint : ℕ) → length (head_of used own endpoint) ≡ head_size used
head_length used own endpoint = by_test (eqb used 0) (λ e. rw e (endpoint-length own endpoint)) (λ e. rw e)

-- the model's reply, by the bytes used so far
module _ (c : Context) (w : Work) (m r : List ℕ) (h : Sound c.clock w m r) (t : List ℕ) where
  piece_is : piece (context_of c) t (work_of w m r) ≡ head_of w.used w.state.own c.endpoint ++ t
  piece_is =
      by_test (eqb w.used 0)
      (λ e. rw e (piece-first (context_of c) t (work_of w m r) (work_length w m r h ∙ eqb-true w.used 0 e) ∙ rw (work_own w m r)))
      (λ e. rw e (piece_later (context_of c) t (work_of w m r) (λ z. eqb-false w.used 0 e (sym (work_length w m r h) ∙ z))))

  size_is : length (work_of w m r).out + length (piece (context_of c) t (work_of w m r)) ≡ w.used + (head_size w.used + length t)
  size_is =
      rw (work_length w m r h, piece_is, length-append (head_of w.used w.state.own c.endpoint) t, head_length w.used w.state.own c.endpoint)

  pub reply-written : w.used + (head_size w.used + length t) ≤ most_bytes
      → reply (context_of c) t (work_of w m r) ≡ with_out ((work_of w m r).out ++ (head_of w.used w.state.own c.endpoint ++ t)) (work_of w m r)
  reply-written p =
      reply-fits (context_of c) t (work_of w m r) (le-leb (length (work_of w m r).out + length (piece (context_of c) t (work_of w m r))) most_bytes (rw size_is p))
      ∙ rw piece_is

  pub reply-omitted : most_bytes < w.used + (head_size w.used + length t) → reply (context_of c) t (work_of w m r) ≡ omit_one (work_of w m r)
  reply-omitted p =
      reply-full (context_of c) t (work_of w m r) (lt-leb (length (work_of w m r).out + length (piece (context_of c) t (work_of w m r))) most_bytes (rw size_is p))

-- as the code does it
module _ (c : Context) (w : Work) (m r : List ℕ) (h : Sound c.clock w m r) (front back : List ℕ) (size : ℕ) (e : size ≡ head_size w.used) where
  pub replied-full : most_bytes - w.used < size + length front + length back
      → Stepped c 1 (reply (context_of c) (front ++ back)) w m r (put_omitted (w.omitted + 1) w) m r
  replied-full p =
      stepped_omitted h (reply (context_of c) (front ++ back))
      (reply-omitted c w m r h (front ++ back) (rw (length-append front back, ← e) (omega (arith, h.used))))

  pub replied : size + length front + length back ≤ most_bytes - w.used
      → (at : ℕ) → at ≡ w.used + head_size w.used → (r1 r2 r3 : List ℕ)
      → r1 ≡ written r w.used (head_of w.used w.state.own c.endpoint) → r2 ≡ written r1 at front → r3 ≡ written r2 (at + length front) back
      → Stepped c 1 (reply (context_of c) (front ++ back)) w m r (put_used (at + length front + length back) w) m r3
  replied p at q r1 r2 r3 e1 e2 e3 =
      let l : length (head_of w.used w.state.own c.endpoint) ≡ size = head_length w.used w.state.own c.endpoint ∙ sym e in
      let n : length (head_of w.used w.state.own c.endpoint ++ (front ++ back)) ≡ size + (length front + length back) =
      length-append (head_of w.used w.state.own c.endpoint) (front ++ back) ∙ rw (l, length-append front back) in
      stepped_more
      (stepped_written h (reply (context_of c) (front ++ back)) (head_of w.used w.state.own c.endpoint ++ (front ++ back)) r3 (at + length front + length back)
      (written_three r w.used (head_of w.used w.state.own c.endpoint) front back r1 r2 r3 at (at + length front) e1 (omega arith) e2 refl e3
      (omega (arith, h.used, h.room)))
      (omega arith) (omega (arith, h.used))
      (reply-written c w m r h (front ++ back) (rw (length-append front back, ← e) (omega (arith, h.used)))))
      1 (omega arith)

-- and as a step on the progress
module _ (c : Context) (d : Progress) (r : List ℕ) (u : d.used ≤ most_bytes) (g : most_bytes ≤ length r) (front back : List ℕ) (size : ℕ) (e : size ≡ head_size d.used) where
  pub progress_full : most_bytes - d.used < size + length front + length back → Writes c 1 (reply (context_of c) (front ++ back)) d r (one_omitted d) r
  progress_full q =
      record { sender = refl; used = u; omitted = omega arith; room = refl; is = λ b t p m h. replied-full c (gather c b t p d) m r h front back size e q }

  pub progress_written : size + length front + length back ≤ most_bytes - d.used
      → (at : ℕ) → at ≡ d.used + head_size d.used → (r1 r2 r3 : List ℕ)
      → r1 ≡ written r d.used (head_of d.used c.own c.endpoint) → r2 ≡ written r1 at front → r3 ≡ written r2 (at + length front) back
      → length r3 ≡ length r
      → Writes c 1 (reply (context_of c) (front ++ back)) d r (with_used (at + length front + length back) d) r3
  progress_written q at k r1 r2 r3 e1 e2 e3 l =
      record {
        sender = refl;
        used = omega (arith, e);
        omitted = omega arith;
        room = l;
        is = λ b t p m h. replied c (gather c b t p d) m r h front back size e q at k r1 r2 r3 e1 e2 e3;
      }

-- the same reply, its bytes said otherwise
pub replied_as : {c : Context} {d : Progress} {r : List ℕ} {v : Progress} {r' t t' : List ℕ} → Writes c 1 (reply (context_of c) t) d r v r' → t ≡ t'
    → Writes c 1 (reply (context_of c) t') d r v r'
replied_as {c} {d} {r} {v} {r'} h e = subst (λ (x : List ℕ). Writes c 1 (reply (context_of c) x) d r v r') e h

-- a reply leaves the state alone
module _ {c : Context} {k : ℕ} {w : Work} {m r : List ℕ} {v : Work} {m' r' : List ℕ} (t : List ℕ) (h : Stepped c k (reply (context_of c) t) w m r v m' r') where
  pub replied-state : state_of v.state m' ≡ state_of w.state m
  replied-state = stepped_state h ∙ reply-state (context_of c) t (work_of w m r) ∙ work_state w m r

  -- one that fits takes its room, one that does not takes none
  module _ (g : Sound c.clock w m r) where
    pub replied-used : fits (context_of c) t (work_of w m r) ≡ true → v.used ≡ w.used + (head_size w.used + length t)
    replied-used f =
        sym (work_length v m' r' h.sound) ∙ ap (λ (x : ModelWork). length x.out) (h.is ∙ reply-fits (context_of c) t (work_of w m r) f)
        ∙ length-append (work_of w m r).out (piece (context_of c) t (work_of w m r)) ∙ size_is c w m r g t

    pub replied-none : fits (context_of c) t (work_of w m r) ≡ false → v.used ≡ w.used
    replied-none f =
        sym (work_length v m' r' h.sound) ∙ ap (λ (x : ModelWork). length x.out) (h.is ∙ reply-full (context_of c) t (work_of w m r) f) ∙ work_length w m r g
