-- The levels are the chains: which nodes are reachable, and at how many steps. Assumes nothing.
use Rattle.std.proofs.Common.{◌≡◌, ℕ, zero, suc, ◌+◌, ◌≤◌, Bool, true, false, not, ◌&&◌, ◌⊎◌, List, [], ◌∷◌, ◌++◌, length, take, sym, refl, ap, ◌∙◌, subst, inl, inr, ⊎_elim, zero-le, le_refl, arith, length-append, eq-eqb, eqb-true}
use lib.ListN.{length-map}
use Rattle.base.specs.Lists.{any, keep, join_all, is_some, In}
use Rattle.base.specs.Sorted.{Ascending}
use Rattle.base.proofs.Tests.{no_way, by_test, and_left, and_right, and_both, not_no}
use Rattle.base.proofs.Lists.{in_append, in_left, in_right, in_keep, keep_in, any_in, in_any, keep-length, keep-both, keep_append, keep-every, map-keep, in_map, in_some}
use Rattle.base.proofs.Sorted.{by_find, find-some, keep-ascending}
use Rattle.model.specs.Table.{Entry, id_of, look}
use Rattle.model.specs.Reach.{Vertex, vertex_of, vertices, joined, touched, is_node, levels_from, level0, others, levels, last_level, met, marked, in_reach, reached}
use Rattle.model.specs.Chain.{Chain, here, step}
use Rattle.model.specs.State.{State}
use Rattle.model.specs.Invariant.{Valid}
use Rattle.model.specs.Theorems.{Chained, LevelsAreChains}

-- ---- one level more

-- those of the rest that a level doesn't touch
abbrev pub untouched : List Vertex → List Vertex → List Vertex
untouched level rest = keep (λ v. not (touched level v)) rest

-- the levels after one that has a next, and after the last
pub levels_more : (f : ℕ) (rest level : List Vertex) (v : Vertex) (vs : List Vertex) → keep (touched level) rest ≡ v ∷ vs
    → levels_from (suc f) rest level ≡ (v ∷ vs) ∷ levels_from f (untouched level rest) (v ∷ vs)
unfolding levels_from
levels_more f rest level v vs e = rw e

pub levels_end : (f : ℕ) (rest level : List Vertex) → keep (touched level) rest ≡ [] → levels_from (suc f) rest level ≡ []
unfolding levels_from
levels_end f rest level e = rw e

pub by_level {ℓ} : {X : Type ℓ} (l : List Vertex) → (l ≡ [] → X) → ((v : Vertex) (vs : List Vertex) → l ≡ v ∷ vs → X) → X
by_level [] f g = f refl
by_level (v ∷ vs) f g = g v vs refl

-- no level after one is empty: they hold as many nodes at least as they are
hold-each : (f : ℕ) (rest level : List Vertex) → length (levels_from f rest level) ≤ length (join_all (levels_from f rest level))
unfolding levels_from
hold-each zero rest level = zero-le
hold-each (suc f) rest level =
    by_level (keep (touched level) rest) (λ e. rw (levels_end f rest level e) zero-le)
    (λ v vs e. let more : List (List Vertex) = levels_from f (untouched level rest) (v ∷ vs) in
    rw (levels_more f rest level v vs e) (omega (arith, hold-each f (untouched level rest) (v ∷ vs), length-append (v ∷ vs) (join_all more))))

-- and of each kind no more than the rest has
levels-among : (p : Vertex → Bool) (f : ℕ) (rest level : List Vertex) → length (keep p (join_all (levels_from f rest level))) ≤ length (keep p rest)
unfolding levels_from
levels-among p zero rest level = zero-le
levels-among p (suc f) rest level =
    by_level (keep (touched level) rest) (λ e. rw (levels_end f rest level e) zero-le)
    (λ v vs e. let more : List (List Vertex) = levels_from f (untouched level rest) (v ∷ vs) in
    rw (levels_more f rest level v vs e, keep_append p (v ∷ vs) (join_all more))
    (omega (arith, length-append (keep p (v ∷ vs)) (keep p (join_all more)), levels-among p f (untouched level rest) (v ∷ vs), keep-both p (touched level) rest, ap (λ (l : List Vertex). length (keep p l)) e)))

-- touched: by a node of the level that is under age and joined
touched_by : (level : List Vertex) (v : Vertex) → touched level v ≡ true
    → (r : Vertex) × In r level × (r.young ≡ true) × (joined r.says v.says ≡ true)
unfolding touched
touched_by level v e =
    let r = in_any (λ (r : Vertex). r.young && joined r.says v.says) level e in
    (r.0, r.1, and_left r.0.young (joined r.0.says v.says) r.2, and_right r.0.young (joined r.0.says v.says) r.2)

touches : (level : List Vertex) (r v : Vertex) → In r level → r.young ≡ true → joined r.says v.says ≡ true → touched level v ≡ true
unfolding touched
touches level r v m y j =
    any_in (λ (r : Vertex). r.young && joined r.says v.says) r level m (and_both r.young (joined r.says v.says) y j)

-- ---- to what stands in level n leads a chain of n steps

-- v stands in level n of a row of levels that begins with level k
abbrev pub AtLevel : ℕ → List (List Vertex) → ℕ → Vertex → Type 0
AtLevel k [] n v = ⊥
AtLevel k (l ∷ ls) n v = ((n ≡ k) × In v l) ⊎ AtLevel (suc k) ls n v

module _ (own : ℕ) (t : List Vertex) where
  from_chain : (f : ℕ) (rest level : List Vertex) (k : ℕ) → ((v : Vertex) → In v rest → In v t) → ((v : Vertex) → In v level → Chain own t k v)
      → (n : ℕ) (v : Vertex) → AtLevel (suc k) (levels_from f rest level) n v → Chain own t n v
  unfolding levels_from
  from_chain zero rest level k sub ch n v m = absurd m
  from_chain (suc f) rest level k sub ch n v m =
      by_level (keep (touched level) rest) (λ e. absurd (subst (λ (l : List (List Vertex)). AtLevel (suc k) l n v) (levels_end f rest level e) m))
      (λ w ws e. go w ws e (subst (λ (l : List (List Vertex)). AtLevel (suc k) l n v) (levels_more f rest level w ws e) m)
      (from_chain f (untouched level rest) (w ∷ ws) (suc k) (λ u m. sub u (keep_in (λ u. not (touched level u)) u rest m).0) (next w ws e) n v))
    where
      next : (w : Vertex) (ws : List Vertex) → keep (touched level) rest ≡ w ∷ ws → (u : Vertex) → In u (w ∷ ws) → Chain own t (suc k) u
      next w ws e u m =
          let q = keep_in (touched level) u rest (subst (λ (l : List Vertex). In u l) (sym e) m) in
          let r = touched_by level u q.1 in
          step (ch r.0 r.1) r.2 r.3 (sub u q.0)

      go : (w : Vertex) (ws : List Vertex) → keep (touched level) rest ≡ w ∷ ws
          → AtLevel (suc k) ((w ∷ ws) ∷ levels_from f (untouched level rest) (w ∷ ws)) n v
          → (AtLevel (suc (suc k)) (levels_from f (untouched level rest) (w ∷ ws)) n v → Chain own t n v) → Chain own t n v
      go w ws e (inl q) later = subst (λ (j : ℕ). Chain own t j v) (sym q.0) (next w ws e v q.1)
      go w ws e (inr q) later = later q

-- ---- a chain of k steps leads into one of the levels up to k

-- what the levels ls after `level` have: what a node up to the k-th of them reaches stands up to the next
abbrev Closed : List Vertex → List Vertex → List (List Vertex) → Type 0
Closed rest level ls =
    (k : ℕ) (r v : Vertex) → In r (level ++ join_all (take k ls)) → r.young ≡ true → joined r.says v.says ≡ true → In v rest
    → In v (join_all (take (suc k) ls))

none-taken : (k : ℕ) (r : Vertex) → In r (join_all (take k [])) → ⊥
none-taken zero r m = m
none-taken (suc k) r m = m

closed_end : (rest level : List Vertex) → keep (touched level) rest ≡ [] → Closed rest level []
closed_end rest level e k r v m y j n =
    ⊎_elim (λ h. subst (λ (l : List Vertex). In v l) e (in_keep (touched level) v rest n (touches level r v h y j))) (λ h. absurd (none-taken k r h))
    (in_append r level (join_all (take k [])) m)

closed_more : (rest level new : List Vertex) (ls : List (List Vertex)) → keep (touched level) rest ≡ new → Closed (untouched level rest) new ls
    → Closed rest level (new ∷ ls)
closed_more rest level new ls e ih k r v m y j n = by_test (touched level v) clock (λ b. later b k m)
  where
    clock : touched level v ≡ true → In v (new ++ join_all (take k ls))
    clock b = in_left v new (join_all (take k ls)) (subst (λ (l : List Vertex). In v l) e (in_keep (touched level) v rest n b))

    later : touched level v ≡ false → (k : ℕ) → In r (level ++ join_all (take k (new ∷ ls))) → In v (new ++ join_all (take k ls))
    later b zero m = ⊎_elim (λ h. no_way (touched level v) (touches level r v h y j) b) (λ h. absurd h) (in_append r level [] m)
    later b (suc k) m =
        ⊎_elim (λ h. no_way (touched level v) (touches level r v h y j) b)
        (λ h. in_right v new (join_all (take (suc k) ls)) (ih k r v h y j (in_keep (λ w. not (touched level w)) v rest n (not_no (touched level v) b))))
        (in_append r level (new ++ join_all (take k ls)) m)

closed : (f : ℕ) (rest level : List Vertex) → length rest ≤ f → Closed rest level (levels_from f rest level)
closed zero [] level l = λ k r v m y j n. absurd n
closed zero (x ∷ rest) level l = absurd (omega arith)
closed (suc f) rest level l =
    by_level (keep (touched level) rest) (λ e. rw (levels_end f rest level e) (closed_end rest level e))
    (λ v vs e. rw (levels_more f rest level v vs e)
    (closed_more rest level (v ∷ vs) (levels_from f (untouched level rest) (v ∷ vs)) e (closed f (untouched level rest) (v ∷ vs) (fewer v vs e))))
  where
    fewer : (v : Vertex) (vs : List Vertex) → keep (touched level) rest ≡ v ∷ vs → length (untouched level rest) ≤ f
    fewer v vs e = omega (arith, keep-length (touched level) rest, ap length e)

-- ---- the levels round a node

module _ (own : ℕ) (t : List Vertex) where
  -- v stands in level n; level 0 is our own node
  abbrev pub InLevel : ℕ → Vertex → Type 0
  InLevel n v = AtLevel 0 (level0 own t ∷ levels own t) n v

  first_chain : (v : Vertex) → In v (level0 own t) → Chain own t zero v
  first_chain v m = let k = keep_in (is_node own) v t m in here k.0 (eqb-true v.says.node own k.1)

  pub level_chain : (n : ℕ) (v : Vertex) → InLevel n v → Chain own t n v
  unfolding levels
  level_chain n v (inl q) = subst (λ (j : ℕ). Chain own t j v) (sym q.0) (first_chain v q.1)
  level_chain n v (inr q) =
      from_chain own t (length (others own t)) (others own t) (level0 own t) 0 (λ u m. (keep_in (λ v. not (is_node own v)) u t m).0) first_chain n v q

  pub chain_early : {k : ℕ} {v : Vertex} → Chain own t k v → In v (level0 own t ++ join_all (take k (levels own t)))
  unfolding levels
  chain_early (here {v = v} m e) = in_left v (level0 own t) [] (in_keep (is_node own) v t m (eq-eqb v.says.node own e))
  chain_early (step {k = k} {r = r} {v = v} c y j m) =
      let ih : In r (level0 own t ++ join_all (take k (levels own t))) = chain_early c in
      by_test (is_node own v) (λ b. in_left v (level0 own t) (join_all (take (suc k) (levels own t))) (in_keep (is_node own) v t m b))
      (λ b. in_right v (level0 own t) (join_all (take (suc k) (levels own t)))
      (closed (length (others own t)) (others own t) (level0 own t) (le_refl (length (others own t))) k r v ih y j
      (in_keep (λ v. not (is_node own v)) v t m (not_no (is_node own v) b))))

  -- met: no node twice, and more nodes than levels after the first, where our own is held
  met-once : (p : Vertex → Bool) → length (keep p (met own t)) ≤ length (keep p t)
  unfolding levels met
  met-once p =
      rw (keep_append p (level0 own t) (join_all (levels own t)))
      (omega (arith, length-append (keep p (level0 own t)) (keep p (join_all (levels own t))), levels-among p (length (others own t)) (others own t) (level0 own t), keep-both p (is_node own) t))

  levels-met : (v : Vertex) → In v t → v.says.node ≡ own → length (levels own t) + 1 ≤ length (met own t)
  unfolding levels met
  levels-met v m e =
      omega (arith, length-append (level0 own t) (join_all (levels own t)), hold-each (length (others own t)) (others own t) (level0 own t), in_some v (level0 own t) (in_keep (is_node own) v t m (eq-eqb v.says.node own e)))

  pub joined-level : (k : ℕ) (ls : List (List Vertex)) (v : Vertex) → In v (join_all ls) → (n : ℕ) × AtLevel k ls n v
  joined-level k [] v m = absurd m
  joined-level k (l ∷ ls) v m =
      ⊎_elim (λ h. (k, inl (refl, h))) (λ h. let q = joined-level (suc k) ls v h in (q.0, inr q.1)) (in_append v l (join_all ls) m)

  take-joined : (k : ℕ) (ls : List (List Vertex)) (v : Vertex) → In v (join_all (take k ls)) → In v (join_all ls)
  take-joined zero ls v m = absurd m
  take-joined (suc k) [] v m = m
  take-joined (suc k) (l ∷ ls) v m =
      ⊎_elim (in_left v l (join_all ls)) (λ h. in_right v l (join_all ls) (take-joined k ls v h)) (in_append v l (join_all (take k ls)) m)

  -- met: exactly where a chain leads
  pub met_chain : (v : Vertex) → In v (met own t) → (k : ℕ) × Chain own t k v
  unfolding met
  met_chain v m = let q = joined-level 0 (level0 own t ∷ levels own t) v m in (q.0, level_chain q.0 v q.1)

  pub chain_met : {k : ℕ} {v : Vertex} → Chain own t k v → In v (met own t)
  unfolding met
  chain_met {k} {v} c =
      ⊎_elim (in_left v (level0 own t) (join_all (levels own t))) (λ h. in_right v (level0 own t) (join_all (levels own t)) (take-joined k (levels own t) v h))
      (in_append v (level0 own t) (join_all (take k (levels own t))) (chain_early c))

-- ---- reachable entries

module _ (own clock : ℕ) (t : List Entry) where
  pub reach_chain : (n : ℕ) → in_reach own clock t n ≡ true → Chained own clock t n
  unfolding in_reach marked
  reach_chain n e =
      let r = in_any (is_node n) (met own (vertices clock t)) e in
      let c = met_chain own (vertices clock t) r.0 r.1 in
      (c.0, (r.0, c.1, eqb-true r.0.says.node n r.2))

  pub chain_reach : (n : ℕ) → Chained own clock t n → in_reach own clock t n ≡ true
  unfolding in_reach marked
  chain_reach n c = any_in (is_node n) c.1.0 (met own (vertices clock t)) (chain_met own (vertices clock t) c.1.1) (eq-eqb c.1.0.says.node n c.1.2)

  pub in_reached : (e : Entry) → In e t → in_reach own clock t (id_of e) ≡ true → In e (reached own clock t)
  unfolding reached
  in_reached e m r = in_keep (λ e. in_reach own clock t (id_of e)) e t m r

  pub reached_in : (e : Entry) → In e (reached own clock t) → In e t × (in_reach own clock t (id_of e) ≡ true)
  unfolding reached
  reached_in e m = keep_in (λ e. in_reach own clock t (id_of e)) e t m

  pub reached-ascending : Ascending id_of t → Ascending id_of (reached own clock t)
  unfolding reached
  reached-ascending a = keep-ascending id_of (λ e. in_reach own clock t (id_of e)) t a

-- ---- our own node

-- a valid state holds it: in the table, and so among the vertices
pub own_held : {s : State} → Valid s → (e : Entry) × In e s.table × (id_of e ≡ s.own)
unfolding look
own_held {s} v =
    by_find id_of s.own s.table (λ q. no_way false (sym (ap is_some q) ∙ v.inside.table.held) refl)
    (λ e q. let r = find-some id_of s.own e s.table q in (e, r.0, r.1))

pub own_vertex : {s : State} → Valid s → (clock : ℕ) → (v : Vertex) × In v (vertices clock s.table) × (v.says.node ≡ s.own)
own_vertex {s} v clock =
    let h = own_held v in (vertex_of clock h.0, in_map _ h.0 s.table h.1, h.2)

-- it is reachable at every reading
pub own-reached : {s : State} → Valid s → (clock : ℕ) → in_reach s.own clock s.table s.own ≡ true
own-reached {s} v clock = let h = own_vertex v clock in chain_reach s.own clock s.table s.own (0, (h.0, here h.1 h.2, h.2))

-- fewer levels come after it than nodes are reachable
levels-few : {s : State} → Valid s → (clock : ℕ) → last_level s.own clock s.table + 1 ≤ length (reached s.own clock s.table)
unfolding reached in_reach marked
levels-few {s} v clock =
    let h = own_vertex v clock in
    let t : List Vertex = vertices clock s.table in
    let p : Vertex → Bool = λ u. any (is_node u.says.node) (met s.own t) in
    let all : keep p (met s.own t) ≡ met s.own t =
    keep-every p (met s.own t) (λ u m. any_in (is_node u.says.node) u (met s.own t) m (eq-eqb u.says.node u.says.node refl)) in
    omega (arith, levels-met s.own t h.0 h.1 h.2, met-once s.own t p, ap length all, ap length (map-keep (vertex_of clock) p s.table), length-map (keep (λ e. p (vertex_of clock e)) s.table) (vertex_of clock))

pub levels_are_chains : LevelsAreChains
levels_are_chains =
    record {
      same = λ own clock t n. (reach_chain own clock t n, chain_reach own clock t n);
      entries = λ own clock t e. (reached_in own clock t e, λ h. in_reached own clock t e h.0 h.1);
      sorted = reached-ascending;
      few = λ s clock v. levels-few v clock;
    }
