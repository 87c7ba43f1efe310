-- Demand 3 over the calls' promises: the model's theorem, carried over to states and memories that `receive` joins. Assumes nothing.
use mathlib.Core.Path.{◌≡◌, refl, sym, ap, subst, ◌∙◌}
use mathlib.Core.Bool.{false}
use mathlib.Core.List.{List, [], ◌∷◌, ◌++◌, append-nil, map}
use Prim.Native.Nat.{ℕ, ◌-◌, ◌≤◌, ◌<◌}
use native.Mathlib.Omega.{arith}
use lib.ListN.{length, take, drop, replicate, take-append-drop}
use lib.Seq.{length-take-le}
use lib.Dec.{leb}
use borrow.Author.Tests.{eqb-true, leb-true, leb-false}
use Rattle.base.specs.Lists.{In, keep}
use Rattle.base.specs.Sorted.{Ascending}
use Rattle.base.proofs.Tests.{by_test}
use Rattle.base.proofs.Lists.{in_map, map_in, map-keep, keep_same}
use Rattle.base.proofs.Sorted.{one_each}
use Rattle.model.specs.Figures.{most_nodes, table_bytes, most_bytes}
use Rattle.model.specs.Table.{Entry, Statement, id_of, statements}
use Rattle.model.specs.Reach.{Vertex, levels, in_reach, reached}
use Rattle.model.specs.Digest.{network_digest}
use Rattle.model.specs.State.{State as ModelState}
use Rattle.model.specs.Receive.{Call, Answer as ModelAnswer, receive}
use Rattle.model.specs.Delivery.{accepted, next, run, heard, Holds, SameHeard, Under, Premises, Alike}
use Rattle.model.proofs.Delivery.{same_seen, order_loses_nothing}
use Rattle.model.proofs.KeptReceive.{receive-own}
use Rattle.model.proofs.Refusals.{refusals_change_nothing, refusals_exact}
use Rattle.table.specs.View.{view}
use Rattle.table.proofs.Tables.{view-ascending}
use Rattle.node.specs.View.{state_of}
use Rattle.node.specs.declared.State.{State}
use Rattle.model.specs.Show.{Marks as ModelMarks, marked_at}
use Rattle.ledger.specs.declared.answers.Marked.{Marked}
use Rattle.ledger.specs.Promises.{Lists, marks_of, Marks}
use Rattle.ledger.specs.Demands.{Delivery, Joined, call_in, calls_of, table_then, state_then, memory_then, known, Delivered, DeliveryLosesNothing}
use Rattle.ledger.proofs.Left.{not_small_room}
use Rattle.ledger.proofs.Chains.{marks-counted}

-- ---- the model's state after the calls is that of the code's state and memory

joined-run : (s : State) (m : List ℕ) (xs : List Delivery) → Joined s m xs → (run (state_of s m) (calls_of (length m) xs)).table ≡ table_then s m xs
unfolding run state_of
joined-run s m [] j = refl
joined-run s m (x ∷ xs) j =
    ap (λ (v : ModelState). (run v (calls_of (length m) xs)).table) (sym (ap (λ (a : ModelAnswer). a.state) j.0.is))
    ∙ ap (λ (n : ℕ). (run (state_of x.answer.state x.memory) (calls_of n xs)).table) (sym j.0.size)
    ∙ joined-run x.answer.state x.memory xs j.1

run-own : (v : ModelState) (cs : List Call) → (run v cs).own ≡ v.own
unfolding run
run-own v [] = refl
run-own v (c ∷ cs) = run-own (next v c) cs ∙ receive-own c v

-- ---- a table memory below its figure: every call is refused, so that nothing changes and nothing is heard

module _ (v : ModelState) (c : Call) (short : c.table < table_bytes) where
  never : ¬ ((receive c v).number ≡ 0)
  never z = omega (arith, short, (not_small_room c.table c.room most_bytes ((refusals_exact.receives c v).none.0 z).1.1.1.0).0)

  pub not-accepted : accepted v c ≡ false
  not-accepted = by_test (accepted v c) (λ b. absurd (never (eqb-true (receive c v).number 0 b))) (λ b. b)

  pub not-moved : next v c ≡ v
  not-moved = ap (λ (a : ModelAnswer). a.state) (refusals_change_nothing.receives c v never)

module _ (n : ℕ) (short : n < table_bytes) where
  short-run : (v : ModelState) (xs : List Delivery) → run v (calls_of n xs) ≡ v
  unfolding run
  short-run v [] = refl
  short-run v (x ∷ xs) = ap (λ (u : ModelState). run u (calls_of n xs)) (not-moved v (call_in n x) short) ∙ short-run v xs

  short-heard : (v : ModelState) (xs : List Delivery) → heard v (calls_of n xs) ≡ []
  unfolding heard
  short-heard v [] = refl
  short-heard v (x ∷ xs) = rw (not-accepted v (call_in n x) short, not-moved v (call_in n x) short) (short-heard v xs)

-- a table holds its own statements
pub holds-own : (t : List Entry) → Ascending id_of t → Holds (λ (x : Statement). In x (statements t)) t
holds-own t a =
    record {
      ascending = a;
      from = λ e i. in_map (λ (e : Entry). e.says) e t i;
      newest = λ e x i j same other.
          let f = map_in (λ (e : Entry). e.says) x t j in
          absurd (other (ap (λ (y : Statement). y.seq) (sym f.2) ∙ ap (λ (d : Entry). d.says.seq) (one_each id_of f.0 e t a f.1 i (ap (λ (y : Statement). y.node) f.2 ∙ same))));
      each = λ x j. let f = map_in (λ (e : Entry). e.says) x t j in (f.0, f.1, ap (λ (y : Statement). y.node) f.2);
    }

-- ---- both halves

module _ (s : State) (m : List ℕ) where
  abbrev calls : List Delivery → List Call
  calls xs = calls_of (length m) xs

  premises : (xs : List Delivery) → Delivered s m xs → table_bytes ≤ length m → Premises (state_of s m) (calls xs)
  premises xs d room = record { valid = d.left.valid room; lone = d.lone; few = d.few; close = d.close; single = d.single }

  after : (xs : List Delivery) → Delivered s m xs → (run (state_of s m) (calls xs)).table ≡ table_then s m xs
  after xs d = joined-run s m xs d.joined

  kept : (xs : List Delivery) → Delivered s m xs → Holds (λ (x : Statement). In x (known s m xs)) (table_then s m xs)
  unfolding state_of
  kept xs d =
      by_test (leb table_bytes (length m))
      (λ y. subst (Holds (λ (x : Statement). In x (known s m xs))) (after xs d) (order_loses_nothing.kept (state_of s m) (calls xs) (premises xs d (leb-true table_bytes (length m) y))))
      (λ n. let short : length m < table_bytes = leb-false table_bytes (length m) n in
      let t : view s.table m ≡ table_then s m xs = ap (λ (v : ModelState). v.table) (sym (short-run (length m) short (state_of s m) xs)) ∙ after xs d in
      rw (short-heard (length m) short (state_of s m) xs, append-nil (statements (view s.table m)), sym t) (holds-own (view s.table m) (view-ascending s.table d.left.arranged m)))

  module _ (xs ys : List Delivery) (d : Delivered s m xs) (e : Delivered s m ys) (same : SameHeard (state_of s m) (calls xs) (calls ys)) where
    short-alike : length m < table_bytes → table_then s m xs ≡ table_then s m ys
    short-alike short = sym (after xs d) ∙ ap (λ (v : ModelState). v.table) (short-run (length m) short (state_of s m) xs ∙ sym (short-run (length m) short (state_of s m) ys)) ∙ after ys e

    model_alike : table_bytes ≤ length m → Alike (state_of s m) (calls xs) (calls ys)
    model_alike room = order_loses_nothing.alike (state_of s m) (calls xs) (calls ys) (premises xs d room) (premises ys e room) same

    tables : statements (table_then s m xs) ≡ statements (table_then s m ys)
    tables =
        by_test (leb table_bytes (length m)) (λ y. rw (after xs d, after ys e) at (model_alike (leb-true table_bytes (length m) y)).table)
        (λ n. ap statements (short-alike (leb-false table_bytes (length m) n)))

    alike : (clock : ℕ) → Under clock (table_then s m xs) → Under clock (table_then s m ys)
        → ((n : ℕ) → in_reach s.own clock (table_then s m xs) n ≡ in_reach s.own clock (table_then s m ys) n)
        × (network_digest s.own clock (table_then s m xs) ≡ network_digest s.own clock (table_then s m ys))
    unfolding state_of
    alike clock u v =
        by_test (leb table_bytes (length m))
        (λ y. let a : Alike (state_of s m) (calls xs) (calls ys) = model_alike (leb-true table_bytes (length m) y) in
        let p : Under clock (run (state_of s m) (calls xs)).table = subst (Under clock) (sym (after xs d)) u in
        let q : Under clock (run (state_of s m) (calls ys)).table = subst (Under clock) (sym (after ys e)) v in (
          λ n. rw (run-own (state_of s m) (calls xs), run-own (state_of s m) (calls ys), after xs d, after ys e) at (a.marks clock p q n),
          rw (run-own (state_of s m) (calls xs), run-own (state_of s m) (calls ys), after xs d, after ys e) at (a.digest clock p q),
        ))
        (λ n. let t : table_then s m xs ≡ table_then s m ys = short-alike (leb-false table_bytes (length m) n) in
        (λ k. ap (λ (l : List Entry). in_reach s.own clock l k) t, ap (λ (l : List Entry). network_digest s.own clock l) t))

-- ---- as `marks` answers

-- the answer is all in what the model has of it
same-marked : (d e : ModelMarks) (a b : Marked) → Lists d a → Lists e b → marks_of a ≡ marks_of b → a ≡ b
same-marked d e a b x y p =
    let t : take a.count a.nodes ≡ take b.count b.nodes = ap (λ (k : ModelMarks). k.nodes) p in
    let c : a.count ≡ b.count =
    omega (arith, length-take-le a.count a.nodes (omega (arith, x.few, x.wide)), length-take-le b.count b.nodes (omega (arith, y.few, y.wide)), ap length t) in
    let n : a.nodes ≡ b.nodes =
    sym (take-append-drop a.count a.nodes) ∙ ap (λ (l : List ℕ). l ++ drop a.count a.nodes) t
    ∙ ap (λ (l : List ℕ). take b.count b.nodes ++ l) (x.rest ∙ ap (λ (k : ℕ). replicate (most_nodes - k) 0) c ∙ sym y.rest) ∙ take-append-drop b.count b.nodes in
    λ i. record { number = (p i).number; count = c i; levels = (p i).last_level; nodes = n i; digest = (p i).digest }

own-after : (s : State) (m : List ℕ) (xs : List Delivery) → Joined s m xs → (state_then s xs).own ≡ s.own
unfolding state_of
own-after s m [] j = refl
own-after s m (x ∷ xs) j =
    own-after x.answer.state x.memory xs j.1 ∙ ap (λ (a : ModelAnswer). a.state.own) j.0.is ∙ receive-own (call_in (length m) x) (state_of s m)

ids_reached : (own clock : ℕ) (t : List Entry) → map id_of (reached own clock t) ≡ keep (in_reach own clock t) (map id_of t)
unfolding reached
ids_reached own clock t = map-keep id_of (in_reach own clock t) t

ids_says : (t : List Entry) → map id_of t ≡ map (λ (x : Statement). x.node) (statements t)
ids_says [] = refl
ids_says (e ∷ t) = ap (λ (l : List ℕ). id_of e ∷ l) (ids_says t)

module _ (s : State) (m : List ℕ) (clock : ℕ) where
  marks-after : (xs : List Delivery) → Joined s m xs → (a : Marked) → Marks clock (state_then s xs) (memory_then m xs) a → a.number ≡ 0 → marks_of a ≡ marked_at s.own clock (table_then s m xs)
  marks-after xs j a h z =
      marks-counted clock (state_then s xs) (memory_then m xs) a h z ∙ ap (λ (o : ℕ). marked_at o clock (view (state_then s xs).table (memory_then m xs))) (own-after s m xs j)

  module _ (xs ys : List Delivery) (d : Delivered s m xs) (e : Delivered s m ys) (same : SameHeard (state_of s m) (calls_of (length m) xs) (calls_of (length m) ys))
      (u : Under clock (table_then s m xs)) (v : Under clock (table_then s m ys)) where
    marked-alike : marked_at s.own clock (table_then s m xs) ≡ marked_at s.own clock (table_then s m ys)
    marked-alike =
        let r = alike s m xs ys d e same clock u v in
        let ids : map id_of (table_then s m xs) ≡ map id_of (table_then s m ys) =
        ids_says (table_then s m xs) ∙ ap (map (λ (x : Statement). x.node)) (tables s m xs ys d e same) ∙ sym (ids_says (table_then s m ys)) in
        let n : map id_of (reached s.own clock (table_then s m xs)) ≡ map id_of (reached s.own clock (table_then s m ys)) =
        ids_reached s.own clock (table_then s m xs) ∙ keep_same (in_reach s.own clock (table_then s m xs)) (in_reach s.own clock (table_then s m ys)) (map id_of (table_then s m xs)) (λ n k. r.0 n)
        ∙ ap (keep (in_reach s.own clock (table_then s m ys))) ids ∙ sym (ids_reached s.own clock (table_then s m ys)) in
        let l = ap (λ (vs : List Vertex). length (levels s.own vs)) (same_seen clock (table_then s m xs) (table_then s m ys) (tables s m xs ys d e same) u v) in
        λ i. record { number = 0; nodes = n i; last_level = l i; digest = r.1 i }

    answers : (a b : Marked) → Marks clock (state_then s xs) (memory_then m xs) a → Marks clock (state_then s ys) (memory_then m ys) b → a.number ≡ 0 → b.number ≡ 0 → a ≡ b
    answers a b h k y z =
        same-marked _ _ a b h k (marks-after xs d.joined a h y ∙ marked-alike ∙ sym (marks-after ys e.joined b k z))

pub delivery_loses_nothing : DeliveryLosesNothing
delivery_loses_nothing =
    record { kept = kept; alike = tables; marks = alike; answers = λ s m xs ys d e same clock. answers s m clock xs ys d e same }
