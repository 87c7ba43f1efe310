-- What a datagram call does to the table when it brings one statement alone. Assumes nothing.
use Rattle.std.proofs.Common.{◌≡◌, ℕ, ◌<◌, Bool, true, false, cond, ◌&&◌, eqb, leb, List, [], ◌∷◌, length, sym, refl, ap, ◌∙◌, subst, arith, eq-eqb, ne_eqb, eqb-true}
use mathlib.Core.Option.{Option, none, some}
use lib.ListN.{length-map}
use borrow.Author.Tests.{lt-leb}
use Rattle.base.specs.Lists.{or_else}
use Rattle.base.specs.Bytes.{same}
use Rattle.base.specs.Sorted.{find, insert}
use Rattle.base.proofs.Tests.{no_way, and_left, and_right, by_test}
use Rattle.base.proofs.Sorted.{by_find, find-some, find-map, insert-map}
use Rattle.sha256.specs.Sha256.{hash16}
use Rattle.wire.specs.Row.{type_of, value_of, tlvs}
use Rattle.wire.specs.Order.{good}
use Rattle.model.specs.Figures.{most_nodes, data_limit}
use Rattle.model.specs.Sequence.{older}
use Rattle.model.specs.Table.{Statement, Entry, id_of, look, put, statements}
use Rattle.model.specs.State.{State, settle}
use Rattle.model.specs.Decide.{Received, Decision, received_of, taken, with_data, without_data, wanted_new, wanted_held, differs, decide, after}
use Rattle.model.specs.Handle.{Context, Sender, Work, with_state, touch_by, touch, fits, reply, carry_out, on_state, on_tlv, one_tlv, all_tlvs}
use Rattle.model.specs.Receive.{Call, Answer, context_of, start_of, handled, refusal_receive, answered, receive}
use Rattle.model.specs.Messages.{request_node_tlv}
use Rattle.model.specs.Delivery.{saying, statement_of, alone, brought, accepted, next, Brings}
use Rattle.model.proofs.Merge.{node_of, says_of, Welcome, absorb, absorb_new, absorb_newer, absorb-old}

-- ---- the statement that is brought

chosen : {A : Type 0} (b : Bool) (o : Option A) (x : A) → cond b o none ≡ some x → (b ≡ true) × (o ≡ some x)
chosen true o x e = (refl, e)
chosen false o x e = absurd (let z : ◌≡◌ {A = ℕ} 0 1 = cc in omega arith)

-- what a Node State with the data d says
-- a Node State carries the data d, good and with matching H: it is taken whole where it is wanted
pub record Carries (r : Received) (d : List ℕ) : Type 0 where
  pub hashed : same (hash16 d) r.hash ≡ true
  pub takes : (clock : ℕ) (z : Decision) → or_else r.carried z (with_data clock r) ≡ Decision.take_all (taken clock r d)

-- a datagram that is one such Node State
pub record Found (c : Call) (x : Statement) : Type 0 where
  pub tlv : List ℕ
  pub only : tlvs c.datagram ≡ tlv ∷ []
  pub type : type_of tlv ≡ 5
  pub long : leb 28 (length (value_of tlv)) ≡ true
  pub carries : Carries (received_of (value_of tlv)) x.node_data
  pub is : saying (received_of (value_of tlv)) x.node_data ≡ x

carrying : (n q a : ℕ) (h : List ℕ) (o : Option (List ℕ)) (x : Statement) →
    let r : Received = record { node = n; seq = q; age = a; hash = h; carried = o } in
    statement_of r ≡ some x → Carries r x.node_data × (saying r x.node_data ≡ x)
unfolding with_data
carrying n q a h none x e = absurd (let z : ◌≡◌ {A = ℕ} 0 1 = cc in omega arith)
carrying n q a h (some d) x e =
    let r : Received = record { node = n; seq = q; age = a; hash = h; carried = some d } in
    let k = chosen (good data_limit d && same (hash16 d) h) (some (saying r d)) x e in
    let v : saying r d ≡ x = cc in
    subst (λ (x : Statement). Carries r x.node_data × (saying r x.node_data ≡ x)) v
    (record { hashed = and_right (good data_limit d) (same (hash16 d) h) k.0; takes = λ clock z. rw k.0 }, refl)

found_in : (c : Call) (x : Statement) (ts : List (List ℕ)) → tlvs c.datagram ≡ ts → alone ts ≡ some x → Found c x
found_in c x [] p e = absurd (let z : ◌≡◌ {A = ℕ} 0 1 = cc in omega arith)
found_in c x (t ∷ u ∷ ts) p e = absurd (let z : ◌≡◌ {A = ℕ} 0 1 = cc in omega arith)
found_in c x (t ∷ []) p e =
    let r = received_of (value_of t) in
    let k = chosen (eqb (type_of t) 5 && leb 28 (length (value_of t))) (statement_of (received_of (value_of t))) x e in
    let s = carrying r.node r.seq r.age r.hash r.carried x k.1 in
    record {
      tlv = t;
      only = p;
      type = eqb-true (type_of t) 5 (and_left (eqb (type_of t) 5) (leb 28 (length (value_of t))) k.0);
      long = and_right (eqb (type_of t) 5) (leb 28 (length (value_of t))) k.0;
      carries = s.0;
      is = s.1;
    }

pub found : (c : Call) (x : Statement) → brought c ≡ some x → Found c x
unfolding brought
found c x e = found_in c x (tlvs c.datagram) refl e

-- ---- refused or accepted

abbrev refused : ℕ → State → Answer
refused n s = record { number = n; state = s; bytes = []; omitted = 0; dropped = 0 }

no_answer : (n : ℕ) (a : Answer) (s : State) → a.number ≡ 0 → eqb (cond (eqb n 0) a (refused n s)).number 0 ≡ false → (cond (eqb n 0) a (refused n s)).state ≡ s
no_answer n a s z e = by_test (eqb n 0) (λ b. no_way (eqb a.number 0) (eq-eqb a.number 0 z) (rw b at e)) (λ b. rw b)

answer : (n : ℕ) (a : Answer) (s : State) → eqb (cond (eqb n 0) a (refused n s)).number 0 ≡ true → cond (eqb n 0) a (refused n s) ≡ a
answer n a s e = by_test (eqb n 0) (λ b. rw b) (λ b. no_way (eqb n 0) (rw b at e) b)

pub refused-same : (s : State) (c : Call) → accepted s c ≡ false → next s c ≡ s
unfolding receive
refused-same s c e = no_answer (refusal_receive c s) (answered c (handled s c)) s refl e

-- ---- what a call does to our identifier and the table

abbrev pub seen : State → ℕ × List Entry
seen s = (s.own, s.table)

pub accepted-seen : (s : State) (c : Call) → accepted s c ≡ true → seen (next s c) ≡ seen (handled s c).state
unfolding receive settle
accepted-seen s c e = ap (λ (a : Answer). seen a.state) (answer (refusal_receive c s) (answered c (handled s c)) s e)

pub touch-seen : (c : Context) (w : Work) → seen (touch c w).state ≡ seen w.state
unfolding touch
touch-seen c w = go w.sender
  where
    go : (o : Option Sender) → seen (or_else o w (λ f. with_state (touch_by c f w.state) w)).state ≡ seen w.state
    go none = refl
    go (some f) = refl

pub reply-seen : (c : Context) (t : List ℕ) (w : Work) → seen (reply c t w).state ≡ seen w.state
unfolding reply
reply-seen c t w = by_test (fits c t w) (λ b. rw b) (λ b. rw b)

pub carry_seen : (c : Context) (d : Decision) (w : Work) → seen (carry_out c d w).state ≡ (w.state.own, after d w.state.table)
unfolding carry_out after
carry_seen c Decision.ignored w = refl
carry_seen c (Decision.ask n) w = reply-seen c (request_node_tlv n) w
carry_seen c (Decision.take_number e) w = refl
carry_seen c (Decision.take_all e) w = refl
carry_seen c Decision.dropped w = refl

pub on_state_lem : (c : Context) (y : ℕ) (v : List ℕ) (w : Work) → y ≡ 5 → leb 28 (length v) ≡ true → on_tlv c y v w ≡ on_state c (received_of v) w
unfolding on_tlv
on_state_lem c y v w e l = rw (e, l)

pub on_foreign : (c : Context) (r : Received) (w : Work) → ¬ (r.node ≡ w.state.own) → on_state c r w ≡ carry_out c (decide c.clock w.state.table r) w
unfolding on_state
on_foreign c r w ne = rw (ne_eqb r.node w.state.own ne)

either_seen : (b : Bool) (v w : Work) → seen v.state ≡ seen w.state → seen (cond b v w).state ≡ seen w.state
either_seen true v w e = e
either_seen false v w e = refl

pub one_seen : (c : Context) (t : List ℕ) (w : Work) → seen (one_tlv c t w).state ≡ seen (on_tlv c (type_of t) (value_of t) w).state
unfolding one_tlv
one_seen c t w = let v = on_tlv c (type_of t) (value_of t) w in either_seen c.unicast (touch c v) v (touch-seen c v)

handled-one : (s : State) (c : Call) (t : List ℕ) → tlvs c.datagram ≡ t ∷ [] → handled s c ≡ one_tlv (context_of s c) t (start_of s)
unfolding handled all_tlvs
handled-one s c t e = ap (λ (ts : List (List ℕ)). all_tlvs (context_of s c) ts (start_of s)) e

-- ---- the decision is that of the newest

module _ (clock : ℕ) (t : List Entry) (r : Received) (d : List ℕ) (h : Carries r d) where
  decide_new : find id_of r.node t ≡ none → length t < most_nodes → decide clock t r ≡ Decision.take_all (taken clock r d)
  unfolding decide look wanted_new
  decide_new l few = rw (l, lt-leb most_nodes (length t) few) (h.takes clock (Decision.ask r.node))

  decide_newer : (g : Entry) → find id_of r.node t ≡ some g → older g.says.seq r.seq ≡ true → decide clock t r ≡ Decision.take_all (taken clock r d)
  unfolding decide look differs wanted_held
  decide_newer g l o = rw (l, o) (h.takes clock (without_data clock r g))

  decide-older : (g : Entry) → find id_of r.node t ≡ some g → older g.says.seq r.seq ≡ false → (g.says.seq ≡ r.seq → g.says.node_data ≡ d)
      → decide clock t r ≡ Decision.ignored
  unfolding decide look differs
  decide-older g l o single =
      by_test (eqb g.says.seq r.seq)
      (λ b. rw (l, o, b, single (eqb-true g.says.seq r.seq b), h.hashed)) (λ b. rw (l, o, b))

  pub takes_all : statements (after (Decision.take_all (taken clock r d)) t) ≡ insert node_of (saying r d) (statements t)
  unfolding after put
  takes_all = insert-map says_of node_of (taken clock r d) t

  pub decided : Welcome (saying r d) (statements t) → statements (after (decide clock t r) t) ≡ absorb (saying r d) (statements t)
  unfolding after
  decided k =
      by_find id_of r.node t
      (λ n. let q : find node_of r.node (statements t) ≡ none = find-map says_of node_of r.node t ∙ rw n in
      let l : length (statements t) < most_nodes = k.room q in
      rw (decide_new n (omega (arith, length-map t says_of))) (takes_all ∙ sym (absorb_new (saying r d) (statements t) q)))
      (λ g n. let q : find node_of r.node (statements t) ≡ some g.says = find-map says_of node_of r.node t ∙ rw n in
      let m = find-some node_of r.node g.says (statements t) q in
      by_test (older g.says.seq r.seq)
      (λ o. rw (decide_newer g n o) (takes_all ∙ sym (absorb_newer (saying r d) (statements t) g.says q o)))
      (λ o. rw (decide-older g n o (k.single g.says m.0 m.1)) (sym (absorb-old (saying r d) (statements t) g.says q o))))

-- ---- an accepted call that brings a statement: our identifier stays, and the table takes the statement by the newest

module _ (s : State) (c : Call) (acc : accepted s c ≡ true) (b : Brings s.own c) where
  its : Found c b.statement
  its = found c b.statement b.lone

  received : Received
  received = received_of (value_of its.tlv)

  next-seen : seen (next s c) ≡ (s.own, after (decide c.clock s.table received) s.table)
  unfolding received
  next-seen =
      let k = context_of s c in
      let w = start_of s in
      accepted-seen s c acc ∙ ap (λ (v : Work). seen v.state) (handled-one s c its.tlv its.only) ∙ one_seen k its.tlv w
      ∙ ap (λ (v : Work). seen v.state)
      (on_state_lem k (type_of its.tlv) (value_of its.tlv) w its.type its.long ∙ on_foreign k received w (λ q. b.foreign (ap node_of (sym its.is) ∙ q)))
      ∙ carry_seen k (decide c.clock s.table received) w

  pub own_same : (next s c).own ≡ s.own
  own_same = ap (λ (p : ℕ × List Entry). p.0) next-seen

  pub table_absorbs : Welcome b.statement (statements s.table) → statements (next s c).table ≡ absorb b.statement (statements s.table)
  unfolding received
  table_absorbs =
      subst (λ (x : Statement). Welcome x (statements s.table) → statements (next s c).table ≡ absorb x (statements s.table)) its.is
      (λ k. ap (λ (p : ℕ × List Entry). statements p.1) next-seen ∙ decided c.clock s.table received b.statement.node_data its.carries k)
