-- Demand 2 over the calls' promises: only nodes to which a chain leads are marked, summed or sent. Assumes nothing.
use mathlib.Core.Path.{◌≡◌, refl, sym, ap, subst, ◌∙◌}
use mathlib.Core.Bool.{Bool, true, false, cond}
use mathlib.Core.List.{List, [], ◌∷◌, ◌++◌, append-nil}
use mathlib.Core.Logic.{◌⊎◌, inl, inr, ⊎_elim}
use Prim.Native.Nat.{ℕ, ◌≤◌}
use native.Mathlib.Omega.{arith}
use lib.ListN.{length, take}
use Rattle.base.specs.Lists.{In, join_all}
use Rattle.base.specs.Bytes.{big32}
use Rattle.base.specs.Sorted.{Ascending}
use Rattle.base.proofs.Sorted.{same-list}
use Rattle.wire.specs.Row.{type_of, tlvs}
use Rattle.wire.proofs.Encoded.{encode_type, encode-whole}
use Rattle.wire.proofs.Good.{Wholes, tlvs-row}
use Rattle.model.specs.Table.{Entry, id_of, statements}
use Rattle.model.specs.Reach.{in_reach, reached}
use Rattle.model.specs.Messages.{endpoint_tlv, network_tlv}
use Rattle.model.specs.Digest.{network_digest}
use Rattle.model.specs.Show.{Marks as ModelMarks, marked_at, not_marked, refusal_marks, marks}
use Rattle.model.specs.Totals.{Summed as ModelSummed, total_of, sum_of, unreadable, payments_in}
use Rattle.model.specs.Figures.{table_bytes}
use Rattle.model.specs.State.{State as ModelState, endpoint_at, random_at, settle}
use Rattle.model.specs.Begin.{Done as ModelDone}
use Rattle.model.specs.Tick.{Sent as ModelSent, drop_silent, announcement, endpoint_event, ticked, refusal_tick, tick}
use Rattle.model.specs.Pay.{purged, refusal_purge, purge}
use Rattle.model.specs.Handle.{Context, Work, one_tlv}
use Rattle.model.specs.Receive.{Call, Answer as ModelAnswer, context_of, start_of}
use Rattle.model.specs.Theorems.{Chained}
use Rattle.model.proofs.Levels.{levels_are_chains}
use Rattle.model.proofs.Served.{served}
use Rattle.model.proofs.ReadBack.{states_read_back}
use Rattle.model.proofs.Totals.{totals_add_up}
use Rattle.model.proofs.Refusals.{refusals_exact}
use Rattle.model.proofs.Turns.{each_at_its_turn}
use Rattle.model.proofs.Traffic.{all-sorted}
use Rattle.table.specs.View.{view}
use Rattle.table.proofs.Tables.{view-ascending}
use Rattle.node.specs.View.{state_of}
use Rattle.node.specs.declared.State.{State}
use Rattle.exchange.specs.Datagram.{call_of}
use Rattle.node.specs.declared.answers.Done.{Done}
use Rattle.node.specs.declared.answers.Sent.{Sent}
use Rattle.node.specs.declared.answers.Answer.{Answer}
use Rattle.ledger.specs.declared.answers.Summed.{Summed}
use Rattle.ledger.specs.declared.answers.Marked.{Marked}
use Rattle.ledger.specs.Promises.{AsLeft, summed_of, marks_of, Receives, Ticks, Purges, Totals, SumsUp, Marks}
use Rattle.ledger.specs.Demands.{Reachable, digest_over, work_after, Serves, OnlyReachable}
use Rattle.ledger.proofs.Answering.{as_accepted}

-- ---- the entries that count

abbrev Led : ℕ → ℕ → List Entry → Entry → Type 0
Led own clock t e = In e t × Chained own clock t (id_of e)

led : (own clock : ℕ) (t : List Entry) (e : Entry) → In e (reached own clock t) → Led own clock t e
led own clock t e i =
    let r : In e t × (in_reach own clock t (id_of e) ≡ true) = (levels_are_chains.entries own clock t e).0 i in
    (r.0, (levels_are_chains.same own clock t (id_of e)).0 r.1)

reachable : (own clock : ℕ) (t : List Entry) → Ascending id_of t → Reachable own clock t (reached own clock t)
reachable own clock t a =
    record {
      ascending = levels_are_chains.sorted own clock t a;
      exactly = λ e. (led own clock t e, λ l. (levels_are_chains.entries own clock t e).1 (l.0, (levels_are_chains.same own clock t (id_of e)).1 l.1));
    }

-- there is one such list
pub one-reachable : (own clock : ℕ) (t es fs : List Entry) → Reachable own clock t es → Reachable own clock t fs → es ≡ fs
one-reachable own clock t es fs x y =
    same-list id_of es fs x.ascending y.ascending (λ e i. (y.exactly e).1 ((x.exactly e).0 i)) (λ e i. (x.exactly e).1 ((y.exactly e).0 i))

-- ---- the calls

table_ascends : (s : State) (m : List ℕ) → AsLeft s m → Ascending id_of (state_of s m).table
unfolding state_of
table_ascends s m l = view-ascending s.table l.arranged m

stored : (s : State) (m : List ℕ) → AsLeft s m → table_bytes ≤ length m → (es : List Entry) × Reachable s.own s.last (view s.table m) es × (s.digest ≡ digest_over es)
unfolding state_of
stored s m l room = (
  reached s.own s.last (view s.table m),
  reachable s.own s.last (view s.table m) (view-ascending s.table l.arranged m),
  (l.valid room).digest ∙ states_read_back.digest s.own s.last (view s.table m),
)

module _ (clock : ℕ) (s : State) (m : List ℕ) where
  abbrev pub counted : List Entry
  counted = reached s.own clock (view s.table m)

  pub marks-number : (r : Marked) → Marks clock s m r → r.number ≡ refusal_marks clock (length m) (state_of s m)
  marks-number r h = ap (λ (x : ModelMarks). x.number) h.is ∙ (refusals_exact.marking clock (length m) (state_of s m)).answered

  pub marks-counted : (r : Marked) → Marks clock s m r → r.number ≡ 0 → marks_of r ≡ marked_at s.own clock (view s.table m)
  unfolding marks state_of
  marks-counted r h z = h.is ∙ sym (as_accepted r.number (refusal_marks clock (length m) (state_of s m)) (marks-number r h) _ not_marked z)

  pub sum-counted : (r : Summed) → SumsUp clock s m r → r.number ≡ 0
      → summed_of r ≡ record { number = 0; value = sum_of (statements counted); unread = unreadable (payments_in (statements counted)) }
  unfolding state_of
  sum-counted r h z =
      h ∙ totals_add_up.sums clock (length m) (state_of s m) (sym (ap (λ (x : ModelSummed). x.number) h ∙ (refusals_exact.sums clock (length m) (state_of s m)).answered) ∙ z)

  pub total-counted : (household : ℕ) (r : Summed) → Totals clock household s m r → r.number ≡ 0
      → summed_of r ≡ record { number = 0; value = total_of household (statements counted); unread = unreadable (payments_in (statements counted)) }
  unfolding state_of
  total-counted household r h z =
      h ∙ totals_add_up.totals clock household (length m) (state_of s m) (sym (ap (λ (x : ModelSummed). x.number) h ∙ (refusals_exact.totals clock household (length m) (state_of s m)).answered) ∙ z)

-- ---- a datagram

module _ (s : State) (m : List ℕ) (l : AsLeft s m) (c : Call) (before : List (List ℕ)) (t : List ℕ) where
  abbrev context : Context
  context = context_of (state_of s m) c

  abbrev work : Work
  work = work_after s m c before

  one_more : work_after s m c (before ++ (t ∷ [])) ≡ one_tlv context t work
  one_more = each_at_its_turn.both context before (t ∷ []) (start_of (state_of s m)) ∙ each_at_its_turn.one context t work

  serves : Serves c.clock work (work_after s m c (before ++ (t ∷ [])))
  serves =
      let o = served.only context t work in
      subst (Serves c.clock work) (sym one_more)
      (record {
        wrote = o.0;
        out = o.1;
        whole = o.2;
        states = λ u i five. let f = o.3 u i five in (f.0, led work.state.own c.clock work.state.table f.0 f.1, f.2);
        digests = λ u i four. (
          reached work.state.own c.clock work.state.table,
          reachable work.state.own c.clock work.state.table (all-sorted context before (start_of (state_of s m)) (table_ascends s m l)),
          o.4 u i four ∙ ap network_tlv (states_read_back.digest work.state.own c.clock work.state.table),
        );
      })

replied : (datagram : List ℕ) (clock endpoint : ℕ) (unicast : Bool) (randoms : List ℕ) (s : State) (m q : List ℕ) (r : Answer) (m' q' : List ℕ)
    → Receives datagram clock endpoint unicast randoms s m q r m' q' → r.number ≡ 0
    → take r.length q' ≡ (work_after s m (call_of datagram clock endpoint unicast randoms (length m) (length q)) (tlvs datagram)).out
replied datagram clock endpoint unicast randoms s m q r m' q' h z =
    let c : Call = call_of datagram clock endpoint unicast randoms (length m) (length q) in
    ap (λ (a : ModelAnswer). a.bytes) (h.is ∙ each_at_its_turn.call c (state_of s m) (sym (ap (λ (a : ModelAnswer). a.number) h.is) ∙ z))

-- ---- ticks

-- what an accepted tick sends
announces : (clock i : ℕ) (rs : List ℕ) (s : ModelState) → let r : ModelSent = ticked clock i rs s in
    (r.bytes ≡ []) ⊎ (r.bytes ≡ endpoint_tlv r.state.own i ++ network_tlv (network_digest r.state.own clock r.state.table))
unfolding ticked settle
announces clock i rs s =
    go (endpoint_event clock (random_at i rs) (endpoint_at i (settle clock rs (drop_silent clock i s)))).sends
  where
    go : (b : Bool) → (cond b (announcement i (settle clock rs (drop_silent clock i s))) [] ≡ []) ⊎ (cond b (announcement i (settle clock rs (drop_silent clock i s))) [] ≡ announcement i (settle clock rs (drop_silent clock i s)))
    go true = inr refl
    go false = inl refl

no_state : (own endpoint : ℕ) (d bytes : List ℕ) → (bytes ≡ []) ⊎ (bytes ≡ endpoint_tlv own endpoint ++ network_tlv d) → (u : List ℕ) → In u (tlvs bytes) → ¬ (type_of u ≡ 5)
no_state own endpoint d bytes (inl e) u i = absurd (rw (e, tlvs-row [] tt) at i)
no_state own endpoint d bytes (inr e) u i =
    let p : bytes ≡ join_all (endpoint_tlv own endpoint ∷ network_tlv d ∷ []) = e ∙ ap (λ (l : List ℕ). endpoint_tlv own endpoint ++ l) (sym (append-nil (network_tlv d))) in
    let w : Wholes (endpoint_tlv own endpoint ∷ network_tlv d ∷ []) = (encode-whole 3 (big32 own ++ big32 endpoint), (encode-whole 4 d, tt)) in
    let j : In u (endpoint_tlv own endpoint ∷ network_tlv d ∷ []) = subst (λ (us : List (List ℕ)). In u us) (ap tlvs p ∙ tlvs-row (endpoint_tlv own endpoint ∷ network_tlv d ∷ []) w) i in
    λ five. ⊎_elim (λ q. omega (arith, sym (encode_type 3 (big32 own ++ big32 endpoint)) ∙ ap type_of (sym q) ∙ five))
    (⊎_elim (λ q. omega (arith, sym (encode_type 4 d) ∙ ap type_of (sym q) ∙ five)) absurd) j

module _ (clock endpoint : ℕ) (randoms : List ℕ) (s : State) (m q : List ℕ) (r : Sent) (m' q' : List ℕ) (h : Ticks clock endpoint randoms s m q r m' q') (z : r.number ≡ 0) where
  pub ticks_as : record { number = r.number; state = state_of r.state m'; bytes = take r.length q' } ≡ ticked clock endpoint randoms (state_of s m)
  unfolding tick
  ticks_as =
      let n : r.number ≡ refusal_tick clock endpoint (length m) (length q) (state_of s m) =
      ap (λ (x : ModelSent). x.number) h.is ∙ (refusals_exact.ticks clock endpoint randoms (length m) (length q) (state_of s m)).answered in
      h.is ∙ sym (as_accepted r.number (refusal_tick clock endpoint (length m) (length q) (state_of s m)) n _ (λ k. record { number = k; state = state_of s m; bytes = [] }) z)

  tick_tells : (take r.length q' ≡ []) ⊎ (take r.length q' ≡ endpoint_tlv r.state.own endpoint ++ network_tlv (network_digest r.state.own clock (view r.state.table m')))
  unfolding state_of
  tick_tells =
      subst (λ (x : ModelSent). (x.bytes ≡ []) ⊎ (x.bytes ≡ endpoint_tlv x.state.own endpoint ++ network_tlv (network_digest x.state.own clock x.state.table))) (sym ticks_as)
      (announces clock endpoint randoms (state_of s m))

  tick-counted : (es : List Entry) × Reachable r.state.own clock (view r.state.table m') es
      × ((take r.length q' ≡ []) ⊎ (take r.length q' ≡ endpoint_tlv r.state.own endpoint ++ network_tlv (digest_over es)))
  tick-counted = (
    reached r.state.own clock (view r.state.table m'),
    reachable r.state.own clock (view r.state.table m') (view-ascending r.state.table h.left.arranged m'),
    ⊎_elim inl (λ e. inr (e ∙ ap (λ (d : List ℕ). endpoint_tlv r.state.own endpoint ++ network_tlv d) (states_read_back.digest r.state.own clock (view r.state.table m')))) tick_tells,
  )

  tick-stateless : (u : List ℕ) → In u (tlvs (take r.length q')) → ¬ (type_of u ≡ 5)
  tick-stateless = no_state r.state.own endpoint (network_digest r.state.own clock (view r.state.table m')) (take r.length q') tick_tells

-- ---- purging

purge-counted : (clock : ℕ) (randoms : List ℕ) (s : State) (m : List ℕ) (r : Done) → AsLeft s m → Purges clock randoms s m r → r.number ≡ 0
    → Reachable s.own clock (view s.table m) (view r.state.table m)
unfolding purge purged settle state_of
purge-counted clock randoms s m r l h z =
    let n : r.number ≡ refusal_purge clock (length m) (state_of s m) = ap (λ (x : ModelDone). x.number) h.0.is ∙ (refusals_exact.purges clock randoms (length m) (state_of s m)).answered in
    let e : ◌≡◌ {A = ModelDone} (record { number = r.number; state = state_of r.state m }) (record { number = 0; state = purged clock randoms (state_of s m) }) =
    h.0.is ∙ sym (as_accepted r.number (refusal_purge clock (length m) (state_of s m)) n (record { number = 0; state = purged clock randoms (state_of s m) }) (λ k. record { number = k; state = state_of s m }) z) in
    subst (Reachable s.own clock (view s.table m)) (sym (ap (λ (x : ModelDone). x.state.table) e)) (reachable s.own clock (view s.table m) (table_ascends s m l))

pub only-reachable : OnlyReachable
only-reachable =
    record {
      marked = λ clock s m r l h z.
          let e = marks-counted clock s m r h z in (
            counted clock s m,
            reachable s.own clock (view s.table m) (view-ascending s.table l.arranged m),
            ap (λ (x : ModelMarks). x.nodes) e,
            ap (λ (x : ModelMarks). x.digest) e ∙ states_read_back.digest s.own clock (view s.table m),
          );
      summed = λ clock s m r l h z.
          let e = sum-counted clock s m r h z in
          (counted clock s m, reachable s.own clock (view s.table m) (view-ascending s.table l.arranged m), ap (λ (x : ModelSummed). x.value) e, ap (λ (x : ModelSummed). x.unread) e);
      totalled = λ clock household s m r l h z.
          let e = total-counted clock s m household r h z in
          (counted clock s m, reachable s.own clock (view s.table m) (view-ascending s.table l.arranged m), ap (λ (x : ModelSummed). x.value) e, ap (λ (x : ModelSummed). x.unread) e);
      replied = λ datagram clock endpoint unicast randoms s m q r m' q' l h z.
          (replied datagram clock endpoint unicast randoms s m q r m' q' h z, serves s m l (call_of datagram clock endpoint unicast randoms (length m) (length q)));
      ticked = tick-counted;
      stateless = tick-stateless;
      purged = purge-counted;
      stored = stored;
    }
