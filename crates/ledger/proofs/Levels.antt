-- The last level that `marks` answers is that of the farthest node, over the promise. Assumes nothing.
use mathlib.Core.Path.{◌≡◌, sym, ap, subst, ◌∙◌}
use mathlib.Core.Bool.{true, false}
use mathlib.Core.List.{List, [], ◌∷◌, map}
use mathlib.Core.Logic.{inl, inr, ◌↔◌}
use Prim.Native.Nat.{ℕ, zero, ◌+◌, ◌≤◌}
use native.Mathlib.Omega.{arith}
use lib.ListN.{length, length-map}
use lib.Seq.{length-take-le}
use Rattle.base.specs.Lists.{In}
use Rattle.base.specs.Sorted.{Ascending}
use Rattle.base.proofs.Lists.{map_in, keep-few}
use Rattle.base.proofs.Sorted.{same-list, keys_in, in_keys, keys_ascending}
use Rattle.model.specs.Table.{Entry, id_of, under_age}
use Rattle.model.specs.Reach.{Vertex, last_level, in_reach, reached}
use Rattle.model.specs.Chain.{Chain, here}
use Rattle.model.specs.Show.{Marks as ModelMarks}
use Rattle.model.specs.Invariant.{Valid}
use Rattle.model.specs.Theorems.{StepsTo, StandsIn}
use Rattle.model.proofs.Levels.{own_vertex, levels_are_chains}
use Rattle.model.proofs.Shortest.{chain_in, no_further, stands-last, stands-within}
use Rattle.table.specs.View.{view}
use Rattle.table.proofs.Tables.{view-length, view-ascending}
use Rattle.node.specs.declared.State.{State}
use Rattle.node.specs.View.{state_of}
use Rattle.ledger.specs.declared.answers.Marked.{Marked}
use Rattle.ledger.specs.Promises.{AsLeft, listed, Marks}
use Rattle.ledger.specs.Levels.{LastLevelGreatest}
use Rattle.ledger.proofs.Left.{table-accepted}
use Rattle.ledger.proofs.Chains.{counted, marks-number, marks-counted}

-- no step leads to our own node alone
no_step : {own : ℕ} {t : List Vertex} {v : Vertex} → Chain own t zero v → v.says.node ≡ own
no_step (here m e) = e

module _ (clock : ℕ) (s : State) (m : List ℕ) (r : Marked) (l : AsLeft s m) (h : Marks clock s m r) (z : r.number ≡ 0) where
  abbrev table : List Entry
  table = view s.table m

  valid : Valid (state_of s m)
  valid = l.valid (table-accepted clock (state_of s m) (length m) [] tt (sym (marks-number clock s m r h) ∙ z)).1.1.0

  ids : listed r ≡ map id_of (counted clock s m)
  ids = ap (λ (x : ModelMarks). x.nodes) (marks-counted clock s m r h z)

  farthest : r.levels ≡ last_level s.own clock table
  farthest = ap (λ (x : ModelMarks). x.last_level) (marks-counted clock s m r h z)

  -- listed: exactly what is reachable
  listed_reach : (n : ℕ) → In n (listed r) → in_reach s.own clock table n ≡ true
  listed_reach n i =
      let e = keys_in id_of n (counted clock s m) (subst (In n) ids i) in
      subst (λ (k : ℕ). in_reach s.own clock table k ≡ true) e.2 ((levels_are_chains.entries s.own clock table e.0).0 e.1).1

  chain_listed : (k n : ℕ) → StepsTo s.own clock table k n → In n (listed r)
  chain_listed k n c =
      let e = map_in _ c.0 table (chain_in c.1) in
      let i : id_of e.0 ≡ n = ap (λ (v : Vertex). v.says.node) e.2 ∙ c.2 in
      subst (λ (j : ℕ). In j (listed r)) i
      (subst (In (id_of e.0)) (sym ids) (in_keys id_of e.0 (counted clock s m)
      ((levels_are_chains.entries s.own clock table e.0).1 (e.1, (levels_are_chains.same s.own clock table (id_of e.0)).1 (k, (c.0, c.1, c.2 ∙ sym i))))))

  stands : (n : ℕ) × In n (listed r) × StandsIn s.own clock table r.levels n
  unfolding state_of
  stands =
      let q = stands-last valid clock in
      (q.0, chain_listed (last_level s.own clock table) q.0 q.1.steps, subst (λ (k : ℕ). StandsIn s.own clock table k q.0) (sym farthest) q.1)

  within : (n : ℕ) → In n (listed r) → (k : ℕ) × (k ≤ r.levels) × StandsIn s.own clock table k n
  within n i =
      let q = stands-within s.own clock table (view-ascending s.table l.arranged m) n (listed_reach n i) in (q.0, omega (arith, q.1, farthest), q.2)

  too_old_lem : (e : Entry) → In e table → id_of e ≡ s.own → under_age clock e ≡ false → r.levels ≡ 0
  too_old_lem e i o y = no_further s.own clock table (view-ascending s.table l.arranged m) e i o y stands.2.steps.1

  how_many : length (listed r) ≡ r.count
  how_many = length-take-le r.count r.nodes (omega (arith, h.few, h.wide))

  fewer : (r.levels + 1 ≤ r.count) × (r.count ≤ s.table.count)
  unfolding state_of reached
  fewer =
      let k : length (listed r) ≡ length (counted clock s m) = ap length ids ∙ length-map (counted clock s m) id_of in (
        omega (arith, farthest, levels_are_chains.few (state_of s m) clock valid, how_many, k),
        omega (arith, keep-few (λ (e : Entry). in_reach s.own clock table (id_of e)) table, view-length s.table l.arranged m, how_many, k),
      )

  -- our own node is reached without a step, and no other
  own-listed : (n : ℕ) → In n (s.own ∷ []) → In n (listed r)
  unfolding state_of
  own-listed n (inl e) =
      let v = own_vertex valid clock in subst (λ (k : ℕ). In k (listed r)) (sym e) (chain_listed 0 s.own (v.0, here v.1 v.2, v.2))
  own-listed n (inr i) = absurd i

  none_else : r.levels ≡ 0 → (n : ℕ) → In n (listed r) → n ≡ s.own
  none_else e n i =
      let q = within n i in
      let k : q.0 ≡ 0 = omega (arith, q.1, e) in
      let c = subst (λ (j : ℕ). StepsTo s.own clock table j n) k q.2.steps in sym c.2 ∙ no_step c.1

  alone : (r.levels ≡ 0) ↔ (listed r ≡ s.own ∷ [])
  alone =
      let a : Ascending (λ (k : ℕ). k) (listed r) =
      subst (Ascending (λ (k : ℕ). k)) (sym ids) (keys_ascending id_of (counted clock s m) (levels_are_chains.sorted s.own clock table (view-ascending s.table l.arranged m))) in (
        λ e. same-list (λ (k : ℕ). k) (listed r) (s.own ∷ []) a (tt, tt) (λ n i. inl (none_else e n i)) own-listed,
        λ e. omega (arith, fewer.0, how_many, ap length e),
      )

pub last_level_greatest : LastLevelGreatest
last_level_greatest = record { stands = stands; within = within; alone = alone; too_old = too_old_lem; fewer = fewer }
