-- A datagram as a whole: the work before the first TLV, and what is left once all are handled. Assumes nothing.
use mathlib.Core.Path.{◌≡◌, refl, sym, ap, ◌∙◌, subst}
use mathlib.Core.Bool.{Bool}
use mathlib.Core.List.{List}
use Prim.Native.Nat.{ℕ, ◌-◌, ◌≤◌}
use native.Mathlib.Omega.{arith}
use lib.ListN.{length, get_or, set}
use Rattle.base.specs.Bytes.{Bytes}
use Rattle.base.specs.Lists.{any}
use Rattle.wire.specs.Row.{value_of, tlvs}
use Rattle.wire.specs.Answers.{tlv_of, Tells}
use Rattle.wire.specs.declared.row.Header.{Header}
use Rattle.model.specs.Figures.{most_bytes, last_reading}
use Rattle.model.specs.Table.{Entry}
use Rattle.model.specs.Digest.{network_digest}
use Rattle.model.specs.State.{State as ModelState, settle}
use Rattle.model.specs.Handle.{Context as ModelContext, on_tlv, all_tlvs, each_table}
use Rattle.model.specs.Receive.{Answer, about_other, context_of as callContext, start_of, handled, answered}
use Rattle.model.specs.Invariant.{Midway}
use Rattle.table.specs.View.{view, Wrote}
use Rattle.table.specs.declared.Table.{Table}
use Rattle.node.specs.declared.State.{State}
use Rattle.node.specs.declared.Endpoint.{Endpoint}
use Rattle.node.specs.declared.peers.Peers.{Peers}
use Rattle.node.specs.View.{peers_of, state_of, PeersRep, Rep, Settled}
use Rattle.node.proofs.Parts.{state-own, put_endpoints, pred-is}
use Rattle.reply.specs.declared.Context.{Context}
use Rattle.reply.specs.declared.Progress.{Progress}
use Rattle.reply.specs.View.{context_of, Work, gather, work_of, Ready}
use Rattle.reply.proofs.Steps.{work_state, work_out, work_omitted, work_dropped}
use Rattle.exchange.specs.declared.Step.{Step}
use Rattle.exchange.specs.Told.{Answered, TableAfter, greeted_in, touched_in, Told}
use Rattle.exchange.proofs.Asides.{aside}
use Rattle.exchange.proofs.Telling.{one-carried}
use Rattle.exchange.proofs.Tlvs.{Through, through_on}
use Rattle.exchange.specs.Datagram.{at_start, call_of, Ran, tables_of, Handled}

-- the call's, with this answer on others
abbrev pub context_in : State → ℕ → ℕ → Bool → List ℕ → Bool → Context
context_in s clock endpoint unicast randoms others =
    record { own = s.own; clock = clock; endpoint = endpoint; unicast = unicast; random = get_or randoms (endpoint - 1) 0; others = others }

-- with the right one: a Node State about another is in the datagram, or none is
abbrev pub call_in : State → List ℕ → ℕ → ℕ → Bool → List ℕ → Context
call_in s d clock endpoint unicast randoms = context_in s clock endpoint unicast randoms (any (about_other s.own) (tlvs d))

abbrev pub first_work : Context → State → Endpoint → Work
first_work c s e = gather c s s.table s.peers (at_start e)

-- the parts of the state are the state
first-state : (s : State) (clock endpoint : ℕ) (unicast : Bool) (randoms : List ℕ) (others : Bool) (e : Endpoint) → set s.endpoints (endpoint - 1) e ≡ s.endpoints
    → (first_work (context_in s clock endpoint unicast randoms others) s e).state ≡ s
first-state s clock endpoint unicast randoms others e q = ap (λ (es : List Endpoint). put_endpoints es s) q

-- the first TLV can come
pub first_ready : (s : State) (m r : List ℕ) (clock endpoint : ℕ) (unicast : Bool) (randoms : List ℕ) (others : Bool) (e : Endpoint) → set s.endpoints (endpoint - 1) e ≡ s.endpoints
    → Rep s m → Midway clock (state_of s m) → clock ≤ last_reading
    → 1 ≤ endpoint → endpoint ≤ 4 → most_bytes ≤ length r → Ready (context_in s clock endpoint unicast randoms others) (first_work (context_in s clock endpoint unicast randoms others) s e) m r
first_ready s m r clock endpoint unicast randoms others e q k i l low high big =
    let z : (first_work (context_in s clock endpoint unicast randoms others) s e).state ≡ s = first-state s clock endpoint unicast randoms others e q in
    record {
      sound = record { rep = subst (λ (x : State). Rep x m) (sym z) k; used = omega arith; room = big; cached = λ g f. cc };
      midway = subst (λ (x : State). Midway clock (state_of x m)) (sym z) i;
      clock = l;
      first = low;
      fourth = high;
      omitted = omega arith;
      dropped = omega arith;
    }

-- ---- one TLV more, its act carried out

module _ (s : State) (dg : List ℕ) (clock endpoint : ℕ) (unicast : Bool) (randoms : List ℕ) (w : Work) (m r : List ℕ) (at : ℕ) (t : Table) (p : Peers) (d : Progress) (m' r' : List ℕ)
    (l : Through (call_in s dg clock endpoint unicast randoms) dg w m r at (gather (call_in s dg clock endpoint unicast randoms) s t p d) m' r') (h : Header) (k : Tells dg at h)
    (found : Bool) (e : h.kind ≡ 4 → found ≡ any (about_other s.own) (tlvs dg)) where
  pub carried_on : Bytes dg → length dg ≤ most_bytes → w.omitted ≡ 0 → w.dropped ≡ 0 → (v : List ℕ) → value_of (tlv_of dg at h) ≡ v → (x : Step)
      → Told (context_in s clock endpoint unicast randoms found) 33 (on_tlv (context_of (context_in s clock endpoint unicast randoms found)) h.kind v) v t p d m' x
      → (u : Progress) (r'' : List ℕ) → Answered (context_in s clock endpoint unicast randoms found) x.act t x.progress m' r' u r''
      → (t' : Table) (m'' : List ℕ) → TableAfter (context_in s clock endpoint unicast randoms found) v x.act t m' t' m''
      → (q : Peers) → PeersRep q
      → peers_of q ≡ touched_in (context_in s clock endpoint unicast randoms found) x.progress.sender x.act (greeted_in (context_in s clock endpoint unicast randoms found) x.act (peers_of p))
      → Through (call_in s dg clock endpoint unicast randoms) dg w m r h.next (gather (call_in s dg clock endpoint unicast randoms) s t' q u) m'' r''
  carried_on b few o g v z x y u r'' a t' m'' n q f j =
      let c : Context = call_in s dg clock endpoint unicast randoms in
      through_on c dg w m r at (gather c s t p d) m' r' l h k b few o g (gather c s t' q u) m'' r''
      (aside c.others (tlv_of dg at h)
      (one-carried y (l.ready.first, l.ready.fourth) s r' l.ready.sound (tlv_of dg at h) (sym k.kind) z u r'' a t' m'' n q f j)
      (λ i. e (k.kind ∙ i)))

same_answer : {s s' : ModelState} {b b' : List ℕ} {o o' d d' : ℕ} → s ≡ s' → b ≡ b' → o ≡ o' → d ≡ d'
    → ◌≡◌ {A = Answer} (record { number = 0; state = s; bytes = b; omitted = o; dropped = d }) (record { number = 0; state = s'; bytes = b'; omitted = o'; dropped = d' })
same_answer e1 e2 e3 e4 = cc

module _ (s : State) (m r d : List ℕ) (clock endpoint : ℕ) (unicast : Bool) (randoms : List ℕ) (others : Bool) (l : Endpoint) (y : set s.endpoints (endpoint - 1) l ≡ s.endpoints)
    (e : others ≡ any (about_other s.own) (tlvs d)) (v : Work) (m' r' : List ℕ)
    (p : Ran (context_in s clock endpoint unicast randoms others) (tlvs d) (first_work (context_in s clock endpoint unicast randoms others) s l) m r v m' r') where
  first-start : work_of (first_work (context_in s clock endpoint unicast randoms others) s l) m r ≡ start_of (state_of s m)
  unfolding work_of
  first-start = ap (λ (x : State). start_of (state_of x m)) (first-state s clock endpoint unicast randoms others l y)

  same_context : context_of (context_in s clock endpoint unicast randoms others) ≡ callContext (state_of s m) (call_of d clock endpoint unicast randoms (length m) (length r))
  same_context = rw (state-own s m, e, pred-is endpoint)

  -- the work at the end is the model's
  handled-is : work_of v m' r' ≡ handled (state_of s m) (call_of d clock endpoint unicast randoms (length m) (length r))
  unfolding handled
  handled-is =
      p.is ∙ ap (λ (x : ModelContext). all_tlvs x (tlvs d) (work_of (first_work (context_in s clock endpoint unicast randoms others) s l) m r)) same_context
      ∙ ap (all_tlvs (callContext (state_of s m) (call_of d clock endpoint unicast randoms (length m) (length r))) (tlvs d)) first-start

  -- and so are the tables passed through
  passed_is : Wrote s.table m (tables_of (state_of s m) (call_of d clock endpoint unicast randoms (length m) (length r))) v.state.table m'
  passed_is =
      subst (λ (es : List Entry). Wrote s.table m es v.state.table m')
      (ap (λ (x : ModelContext). each_table x (tlvs d) (work_of (first_work (context_in s clock endpoint unicast randoms others) s l) m r)) same_context
      ∙ ap (each_table (callContext (state_of s m) (call_of d clock endpoint unicast randoms (length m) (length r))) (tlvs d)) first-start)
      p.wrote

  -- and what stands last: the state settled with the digest x
  module _ (x : List ℕ) (h : x ≡ network_digest v.state.own clock (view v.state.table m')) (q : State) (k : Settled clock randoms x v.state q) where
    settled_is : state_of q m' ≡ settle clock randoms (work_of v m' r').state
    settled_is = k.is m' h ∙ ap (settle clock randoms) (sym (work_state v m' r'))

    pub received : Handled s m r d clock endpoint unicast randoms (record { number = 0; state = q; length = v.used; omitted = v.omitted; dropped = v.dropped }) m' r'
    received =
        record {
          accepted = refl;
          rep = k.rep m' p.sound.rep;
          is = same_answer settled_is (sym (work_out v m' r')) (sym (work_omitted v m' r')) (sym (work_dropped v m' r'))
              ∙ ap (answered (call_of d clock endpoint unicast randoms (length m) (length r))) handled-is;
          wrote = subst (λ (t : Table). Wrote s.table m (tables_of (state_of s m) (call_of d clock endpoint unicast randoms (length m) (length r))) t m') (sym k.table) passed_is;
          used = p.sound.used;
          size = p.size;
          beyond = p.beyond;
          room = p.room;
          rest = p.rest;
        }
