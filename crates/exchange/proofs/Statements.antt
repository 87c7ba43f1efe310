-- A received Node State: its digest, our own number reclaimed, and the decision on another node's carried out. Assumes nothing.
use mathlib.Core.Path.{◌≡◌, refl, sym, ap, ◌∙◌, subst}
use mathlib.Core.Bool.{Bool, true, false, not}
use mathlib.Core.List.{List}
use Prim.Native.Nat.{ℕ, ◌-◌, ◌≤◌}
use native.Mathlib.Omega.{arith}
use lib.ListN.{length, take, drop, length-take, length-drop}
use borrow.Author.Tests.{not-true, not-false}
use Rattle.base.specs.Bytes.{u32_at}
use Rattle.base.proofs.Lists.{rest-is, part-is}
use Rattle.base.proofs.Tests.{no_way}
use Rattle.sha256.specs.Sha256.{hash16}
use Rattle.sha256.proofs.Sizes.{hash16-length}
use Rattle.model.specs.Figures.{data_limit, reclaim_step}
use Rattle.model.specs.Sequence.{advance}
use Rattle.model.specs.Table.{Entry, put}
use Rattle.model.specs.State.{State as ModelState, with_table, own_entry, own_data, publish_as}
use Rattle.model.specs.Decide.{Decision as ModelDecision, received_of, differs, decide}
use Rattle.model.specs.Handle.{Work as ModelWork, with_state, on_own_state, carry_out, on_state}
use Rattle.model.proofs.Cases.{received-node, received-seq, received-hash, own-reclaimed, own-agrees, state-own, state-other, carry_ignored, carry_ask, carry_number, carry_all, carry_dropped}
use Rattle.std.specs.Prelude.{None}
use Rattle.table.specs.declared.Table.{Table}
use Rattle.table.specs.declared.Entry.{Entry as Meta}
use Rattle.table.specs.declared.Version.{Version}
use Rattle.table.specs.View.{view, seen, version_of, version_anew, data_of, meta_at, Read, Stands, Stored, Renumbered}
use Rattle.table.proofs.Tables.{meta_hashed}
use Rattle.node.specs.declared.State.{State}
use Rattle.node.specs.declared.peers.Peers.{Peers}
use Rattle.node.specs.View.{state_of, Published}
use Rattle.node.proofs.Parts.{put_table as tablePut}
use Rattle.node.proofs.Own.{own-entry}
use Rattle.node.proofs.Moves.{stored-put, renumbered_put, renumber_published}
use Rattle.decide.specs.declared.Decision.{Decision as Answer}
use Rattle.decide.specs.declared.Decision.TheVariants.{Ignored, Ask, TakeNumber, TakeAll, Dropped}
use Rattle.decide.specs.Decided.{decision_of, Acts, Fine, Taken}
use Rattle.reply.specs.declared.Context.{Context}
use Rattle.reply.specs.declared.Progress.{Progress}
use Rattle.reply.specs.View.{context_of, Work, gather, work_of, Sound, Stepped}
use Rattle.reply.proofs.Steps.{work_state, work_own, work_table, put_state, gathered, stepped_none, stepped_to, stepped_more, stepped-anew, stepped_dropped}
use Rattle.exchange.specs.declared.Step.{Step}
use Rattle.exchange.specs.declared.Act.TheVariants.{Decided}
use Rattle.exchange.specs.Told.{still_at, place_in, Notes, TakenBy, Told}
use Rattle.exchange.proofs.Telling.{passes_of, told_still, told_to}

-- ---- the fields of a received value

-- what is taken is short, and its digest the one received: as the table asks of data that are the rest of the value
pub fine-rest : (v : List ℕ) → Fine v → (h : List ℕ) → h ≡ take 16 (drop 12 v)
    → (length (take (length v - 28) (drop 28 v)) ≤ data_limit) × (h ≡ hash16 (take (length v - 28) (drop 28 v)))
fine-rest v f h e = rw rest-is (f.0, e ∙ f.1)

-- what is taken is as long as a Node State
pub fine-long : (v : List ℕ) → Fine v → 28 ≤ length v
fine-long v f =
    let l : length (take 16 (drop 12 v)) ≡ 16 = ap length f.1 ∙ hash16-length (drop 28 v) in
    omega (arith, l, length-take 16 (drop 12 v), length-drop 12 v)

-- ---- another table

module _ (c : Context) (w : Work) (m r : List ℕ) (h : Sound c.clock w m r) where
  -- a step that puts an entry into the table
  entry-stepped : (f : ModelWork → ModelWork) (e : Entry) → f (work_of w m r) ≡ with_state (with_table (put e (work_of w m r).state.table) (work_of w m r).state) (work_of w m r)
      → (t : Table) (m' : List ℕ) → Published (with_table (put e (state_of w.state m).table) (state_of w.state m)) w.state m (tablePut t w.state) m'
      → Stepped c 0 f w m r (put_state (tablePut t w.state) None w) m' r
  entry-stepped f e q t m' k =
      stepped-anew h f (with_table (put e (state_of w.state m).table) (state_of w.state m)) (tablePut t w.state) m' k
      (q ∙ ap (λ (s : ModelState). with_state (with_table (put e s.table) s) (work_of w m r)) (work_state w m r))

  -- number and age for the node at place i, its data as they are
  number-taken : (i : ℕ) (v : Version) (t : Table) → Renumbered v.id v.seq v.age v.since w.state.table i t
      → Stepped c 0 (carry_out (context_of c) (ModelDecision.take_number (version_of v (data_of m (meta_at w.state.table i))))) w m r (put_state (tablePut t w.state) None w) m r
  number-taken i v t o =
      let e : Entry = version_of v (data_of m (meta_at w.state.table i)) in
      entry-stepped (carry_out (context_of c) (ModelDecision.take_number e)) e (carry_number (context_of c) (work_of w m r) e) t m
      (renumbered_put w.state m h.rep t v.id v.seq v.age v.since i o)

  -- number, age and data, which stand at place i by then
  all-taken : (i : ℕ) (v : Version) (b : List ℕ) (t : Table) (m' : List ℕ) → Stored (version_of v b) w.state.table m i t m'
      → Stepped c 0 (carry_out (context_of c) (ModelDecision.take_all (version_of v b))) w m r (put_state (tablePut t w.state) None w) m' r
  all-taken i v b t m' o =
      let e : Entry = version_of v b in
      entry-stepped (carry_out (context_of c) (ModelDecision.take_all e)) e (carry_all (context_of c) (work_of w m r) e) t m'
      (stored-put w.state m h.rep t e m' i o)

-- as `replace` and `insert` promise it, of the rest of the value
pub stored-rest : {w : Version} (v : List ℕ) {t : Table} {m : List ℕ} {i : ℕ} {t' : Table} {m' : List ℕ}
    → Stored (version_of w (take (length v - 28) (drop 28 v))) t m i t' m' → Stored (version_of w (drop 28 v)) t m i t' m'
stored-rest v o = rw rest-is at o

-- a decision as a step
abbrev takes_at : Progress → Answer → Step
takes_at d x = record { progress = d; act = Decided x }

-- ---- our own node

module _ (c : Context) (w : Work) (m r v : List ℕ) (h : Sound c.clock w m r) (i : ℕ) (s : Stands w.state.table w.state.own i) (e : Meta)
    (o : Read w.state.table i e) (seq : ℕ) (q : seq ≡ u32_at v 4) (d : Bool)
    (g : (m' v' : List ℕ) → e.hash ≡ hash16 (seen m' e).says.node_data → seq ≡ (received_of v').seq → take (28 - 12) (drop 12 v) ≡ (received_of v').hash → d ≡ differs (seen m' e) (received_of v')) where
  -- the entry read is our own, its digest that of our data
  own-hashed : e.hash ≡ hash16 (data_of m e)
  own-hashed = subst (λ (x : Meta). x.hash ≡ hash16 (data_of m x)) (sym o.same) (meta_hashed w.state.table m i h.rep.table s.at)

  own-seen : seen m e ≡ own_entry (work_of w m r).state
  own-seen = ap (seen m) o.same ∙ sym (own-entry w.state m i h.rep s) ∙ sym (ap own_entry (work_state w m r))

  -- whether the received one differs from it
  own-differs : d ≡ differs (own_entry (work_of w m r).state) (received_of v)
  own-differs =
      g m v own-hashed (q ∙ sym (received-seq v)) (part-is v 12 28 16 refl ∙ sym (received-hash v))
      ∙ ap (λ (x : Entry). differs x (received_of v)) own-seen

  -- ours is newer, or as new with the same digest: nothing
  pub own-stays : not d ≡ true → Stepped c 0 (on_own_state (context_of c) (received_of v)) w m r w m r
  own-stays n =
      stepped_to (stepped_none h) (on_own_state (context_of c) (received_of v))
      (sym (own-agrees (context_of c) (work_of w m r) (received_of v) (sym own-differs ∙ not-true d n)))

  -- else it is published again, with a number that is newer
  pub own-again : not d ≡ false → (n : ℕ) → n ≡ advance seq 1000 → (s' : State) → Published (publish_as c.clock n (own_data (state_of w.state m)) (state_of w.state m)) w.state m s' m
      → Stepped c 0 (on_own_state (context_of c) (received_of v)) w m r (put_state s' None w) m r
  own-again k n z s' x =
      stepped-anew h (on_own_state (context_of c) (received_of v)) (publish_as c.clock n (own_data (state_of w.state m)) (state_of w.state m)) s' m x
      (own-reclaimed (context_of c) (work_of w m r) (received_of v) (sym own-differs ∙ not-false d k)
      ∙ ap (λ (a : ModelState). with_state (publish_as c.clock (advance (received_of v).seq reclaim_step) (own_data a) a) (work_of w m r)) (work_state w m r)
      ∙ ap (λ (a : ℕ). with_state (publish_as c.clock a (own_data (state_of w.state m)) (state_of w.state m)) (work_of w m r))
      (sym (z ∙ ap (λ (a : ℕ). advance a reclaim_step) (q ∙ sym (received-seq v)))))

-- as a step that is told
module _ {c : Context} {t : Table} {p : Peers} {d : Progress} {m : List ℕ} (v : List ℕ) (i : ℕ) (s : Stands t c.own i) (e : Meta) (z : Read t i e)
    (seq : ℕ) (q : seq ≡ u32_at v 4) (y : Bool)
    (g : (m' v' : List ℕ) → e.hash ≡ hash16 (seen m' e).says.node_data → seq ≡ (received_of v').seq → take (28 - 12) (drop 12 v) ≡ (received_of v').hash → y ≡ differs (seen m' e) (received_of v')) where
  pub told-stays : not y ≡ true → Told c 0 (on_own_state (context_of c) (received_of v)) v t p d m (still_at d)
  told-stays k = told_still v (λ r o. o) (λ b r h. own-stays c (gather c b t p d) m r v h i s e z seq q y g k)

  pub told-again : not y ≡ false → (n : ℕ) → n ≡ advance seq 1000 → Told c 0 (on_own_state (context_of c) (received_of v)) v t p d m (takes_at d (TakeNumber i (version_anew c.own n c.clock)))
  told-again k n w =
      record {
        opens = λ r o. o;
        answers = tt;
        alters = (s, tt);
        few = λ x. no_way false x refl;
        is = λ j b t' x u m' r r' h o a l. rw (o.0, o.1, a.1, l)
            (passes_of
            (own-again c (gather c b t p d) m r v h i s e z seq q y g k n w (gathered c b t' p d)
            (renumber_published (gathered c b t p d) m i h.rep s c.clock n t' a.0)));
      }

-- ---- a decision carried out, by its cases: the progress d becomes u, the table t becomes t'

module _ (c : Context) (b : State) (t : Table) (p : Peers) (d : Progress) (m r v : List ℕ) (h : Sound c.clock (gather c b t p d) m r) (t' : Table) (m' : List ℕ) (u : Progress) (r' : List ℕ) where
  abbrev Carried : Answer → Type 0
  Carried x = Stepped c 1 (carry_out (context_of c) (decision_of t m v x)) (gather c b t p d) m r (gather c b t' p u) m' r'

  pub decision_carried : (x : Answer) → Notes c x d r u r' → TakenBy v x t m t' m' → Carried x
  decision_carried Ignored n a =
      rw (n.0, n.1, a.0, a.1)
      (stepped_more (stepped_to (stepped_none h) (carry_out (context_of c) ModelDecision.ignored) (sym (carry_ignored (context_of c) (work_of (gather c b t p d) m r)))) 1 (omega arith))
  decision_carried (Ask node) n a =
      rw (a.0, a.1)
      (stepped_to (n.is b t p m h) (carry_out (context_of c) (ModelDecision.ask node)) (sym (carry_ask (context_of c) (work_of (gather c b t p d) m r) node)))
  decision_carried (TakeNumber place version) n a =
      rw (n.0, n.1, a.1) (stepped_more (number-taken c (gather c b t p d) m r h place version t' a.0) 1 (omega arith))
  decision_carried (TakeAll place version) n a =
      rw (n.0, n.1) (stepped_more (all-taken c (gather c b t p d) m r h (place_in place) version (drop 28 v) t' m' a) 1 (omega arith))
  decision_carried Dropped n a =
      rw (n.0, n.1, a.0, a.1)
      (stepped_dropped h (carry_out (context_of c) ModelDecision.dropped) (carry_dropped (context_of c) (work_of (gather c b t p d) m r)))

-- ---- a Node State, about our own node or another

module _ {c : Context} {t : Table} {p : Peers} {d : Progress} {m : List ℕ} (v : List ℕ) (n : ℕ) (q : n ≡ u32_at v 0) where
  -- our own identifier
  pub state-ours : n ≡ c.own → {x : Step} → Told c 0 (on_own_state (context_of c) (received_of v)) v t p d m x → Told c 1 (on_state (context_of c) (received_of v)) v t p d m x
  state-ours e k =
      told_to v k 1 (on_state (context_of c) (received_of v)) (omega arith)
      (λ b r h. sym (state-own (context_of c) (work_of (gather c b t p d) m r) (received_of v) (received-node v ∙ sym q ∙ e ∙ sym (work_own (gather c b t p d) m r))))

  -- another's: it is decided
  pub state-theirs : ¬ (n ≡ c.own) → (x : Answer) → Acts t x → Taken t v x
      → decision_of t m v x ≡ decide c.clock (view t m) (received_of v) → Told c 1 (on_state (context_of c) (received_of v)) v t p d m (takes_at d x)
  state-theirs e x a z o =
      record {
        opens = λ r k. k;
        answers = tt;
        alters = (a, z);
        few = λ y. no_way false y refl;
        is = λ j b t' y u m' r r' h k w l. rw l
            (passes_of
            (stepped_to (decision_carried c b t p d m r v h t' m' u r' x k w) (on_state (context_of c) (received_of v))
            (ap (λ (y : ModelDecision). carry_out (context_of c) y (work_of (gather c b t p d) m r))
            (o ∙ ap (λ (y : List Entry). decide c.clock y (received_of v)) (sym (work_table (gather c b t p d) m r)))
            ∙ sym (state-other (context_of c) (work_of (gather c b t p d) m r) (received_of v) (λ y. e (q ∙ sym (received-node v) ∙ y ∙ work_own (gather c b t p d) m r))))));
      }
