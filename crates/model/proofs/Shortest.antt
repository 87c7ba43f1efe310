-- Each reachable node stands in one level, that of its shortest way, and in the last one stands a node. Assumes nothing.
use Rattle.std.proofs.Common.{◌≡◌, ℕ, zero, suc, ◌+◌, ◌<◌, ◌≤◌, true, false, not, List, [], ◌∷◌, length, take, sym, refl, ap, ◌∙◌, subst, inl, inr, ⊎_elim, arith, eq-eqb, eqb-true}
use Rattle.base.specs.Lists.{keep, join_all, In}
use Rattle.base.specs.Sorted.{Ascending}
use Rattle.base.proofs.Tests.{no_way, no_not}
use Rattle.base.proofs.Lists.{in_append, in_left, in_right, keep_in, in_any, in_keep, in_map}
use Rattle.base.proofs.Sorted.{ascending-map, one_each}
use Rattle.model.specs.Table.{Entry, id_of, under_age}
use Rattle.model.specs.Reach.{Vertex, vertex_of, vertices, touched, is_node, levels_from, level0, others, levels, last_level, met, marked, in_reach}
use Rattle.model.specs.Chain.{Chain, here, step}
use Rattle.model.specs.State.{State}
use Rattle.model.specs.Invariant.{Valid}
use Rattle.model.specs.Theorems.{StandsIn}
use Rattle.model.proofs.Levels.{untouched, levels_more, levels_end, by_level, AtLevel, InLevel, level_chain, chain_early, joined-level, own_vertex}

-- ---- a level by its number

-- a node stands in level n of a row of levels that begins with level k
abbrev HasNode : ℕ → List (List Vertex) → ℕ → Type 0
HasNode k ls n = (v : Vertex) × AtLevel k ls n v

level-joined : (k : ℕ) (ls : List (List Vertex)) (n : ℕ) (v : Vertex) → AtLevel k ls n v → In v (join_all ls)
level-joined k [] n v m = absurd m
level-joined k (l ∷ ls) n v (inl q) = in_left v l (join_all ls) q.1
level-joined k (l ∷ ls) n v (inr q) = in_right v l (join_all ls) (level-joined (suc k) ls n v q)

level-below : (k : ℕ) (ls : List (List Vertex)) (n : ℕ) (v : Vertex) → AtLevel k ls n v → n < k + length ls
level-below k [] n v m = absurd m
level-below k (l ∷ ls) n v (inl q) = omega (arith, q.0)
level-below k (l ∷ ls) n v (inr q) = omega (arith, level-below (suc k) ls n v q)

-- the last of the levels that begin with the level l, whose number is k
last_of : (k : ℕ) (l : List Vertex) (ls : List (List Vertex)) (w : Vertex) → In w l → (0 < length ls → HasNode (suc k) ls (k + length ls)) → HasNode k (l ∷ ls) (k + length ls)
last_of k l [] w m h = (w, inl (omega arith, m))
last_of k l (x ∷ ls) w m h = let q = h (omega arith) in (q.0, inr q.1)

-- ---- the levels after one

-- in the last of them stands a node, for none is empty
last-holds : (f : ℕ) (rest level : List Vertex) (k : ℕ) → 0 < length (levels_from f rest level) → HasNode (suc k) (levels_from f rest level) (k + length (levels_from f rest level))
unfolding levels_from
last-holds zero rest level k p = absurd (omega (arith, p))
last-holds (suc f) rest level k p =
    by_level (keep (touched level) rest) (λ e. absurd (omega (arith, p, ap length (levels_end f rest level e))))
    (λ w ws e. let more : List (List Vertex) = levels_from f (untouched level rest) (w ∷ ws) in
    let n : suc k + length more ≡ k + length ((w ∷ ws) ∷ more) = omega arith in
    rw (levels_more f rest level w ws e)
    (subst (HasNode (suc k) ((w ∷ ws) ∷ more)) n (last_of (suc k) (w ∷ ws) more w (inl refl) (last-holds f (untouched level rest) (w ∷ ws) (suc k)))))

-- they hold no node but those of the rest
levels-rest : (f : ℕ) (rest level : List Vertex) (v : Vertex) → In v (join_all (levels_from f rest level)) → In v rest
unfolding levels_from
levels-rest zero rest level v m = absurd m
levels-rest (suc f) rest level v m =
    by_level (keep (touched level) rest) (λ e. absurd (subst (λ (l : List (List Vertex)). In v (join_all l)) (levels_end f rest level e) m))
    (λ w ws e. ⊎_elim (λ h. (keep_in (touched level) v rest (subst (In v) (sym e) h)).0)
    (λ h. (keep_in (λ u. not (touched level u)) v rest (levels-rest f (untouched level rest) (w ∷ ws) v h)).0)
    (in_append v (w ∷ ws) (join_all (levels_from f (untouched level rest) (w ∷ ws))) (subst (λ (l : List (List Vertex)). In v (join_all l)) (levels_more f rest level w ws e) m)))

-- a node of level n stands in none before it; the levels are those after level k
abbrev Apart : List (List Vertex) → Type 0
Apart ls = (k n j : ℕ) (v : Vertex) → AtLevel (suc k) ls n v → In v (join_all (take j ls)) → n ≤ k + j

apart_more : (rest level new : List Vertex) (ls : List (List Vertex)) → keep (touched level) rest ≡ new → ((v : Vertex) → In v (join_all ls) → In v (untouched level rest)) → Apart ls
    → Apart (new ∷ ls)
apart_more rest level new ls e sub ih k n zero v a m = absurd m
apart_more rest level new ls e sub ih k n (suc j) v (inl q) m = omega (arith, q.0)
apart_more rest level new ls e sub ih k n (suc j) v (inr q) m =
    let u : In v (untouched level rest) = sub v (level-joined (suc (suc k)) ls n v q) in
    ⊎_elim (λ h. no_way (touched level v) (keep_in (touched level) v rest (subst (In v) (sym e) h)).1 (no_not (touched level v) (keep_in (λ w. not (touched level w)) v rest u).1))
    (λ h. omega (arith, ih (suc k) n j v q h)) (in_append v new (join_all (take j ls)) m)

apart : (f : ℕ) (rest level : List Vertex) → Apart (levels_from f rest level)
unfolding levels_from
apart zero rest level = λ k n j v a m. absurd a
apart (suc f) rest level =
    by_level (keep (touched level) rest) (λ e. rw (levels_end f rest level e) (λ k n j v a m. absurd a))
    (λ w ws e. rw (levels_more f rest level w ws e)
    (apart_more rest level (w ∷ ws) (levels_from f (untouched level rest) (w ∷ ws)) e (levels-rest f (untouched level rest) (w ∷ ws)) (apart f (untouched level rest) (w ∷ ws))))

-- ---- chains

pub chain_in : {own k : ℕ} {t : List Vertex} {v : Vertex} → Chain own t k v → In v t
chain_in (here m e) = m
chain_in (step c y j m) = m

-- one that goes on begins at a node of ours that is under age
first-young : {own : ℕ} {t : List Vertex} {k : ℕ} {v : Vertex} → Chain own t k v → v.young ≡ true → (w : Vertex) × In w t × (w.says.node ≡ own) × (w.young ≡ true)
first-young (here {v = w} m e) y = (w, m, e, y)
first-young (step c z j m) y = first-young c z

-- ---- the levels round a node

module _ (own : ℕ) (t : List Vertex) where
  -- no shorter chain leads to a node of level n
  shortest : (n j : ℕ) (v : Vertex) → InLevel own t n v → Chain own t j v → n ≤ j
  unfolding levels
  shortest n j v (inl q) c = omega (arith, q.0)
  shortest n j v (inr q) c =
      let o : In v (others own t) = levels-rest (length (others own t)) (others own t) (level0 own t) v (level-joined 1 (levels own t) n v q) in
      ⊎_elim (λ h. no_way (is_node own v) (keep_in (is_node own) v t h).1 (no_not (is_node own v) (keep_in (λ u. not (is_node own u)) v t o).1))
      (λ h. omega (arith, apart (length (others own t)) (others own t) (level0 own t) 0 n j v q h)) (in_append v (level0 own t) (join_all (take j (levels own t))) (chain_early own t c))

  -- where our own node is held, a node stands in the last level
  last-stands : (w : Vertex) → In w t → is_node own w ≡ true → (v : Vertex) × InLevel own t (length (levels own t)) v
  unfolding levels
  last-stands w m e =
      let z : 0 + length (levels own t) ≡ length (levels own t) = omega arith in
      subst (HasNode 0 (level0 own t ∷ levels own t)) z
      (last_of 0 (level0 own t) (levels own t) w (in_keep (is_node own) w t m e) (last-holds (length (others own t)) (others own t) (level0 own t) 0))

-- ---- over a table

abbrev pub node_of : Vertex → ℕ
node_of v = v.says.node

pub nodes_ascend : (clock : ℕ) (t : List Entry) → Ascending id_of t → Ascending node_of (vertices clock t)
nodes_ascend clock t a = rw (ascending-map (vertex_of clock) node_of t) a

module _ (own clock : ℕ) (t : List Entry) (a : Ascending id_of t) where
  -- two vertices of one node are one
  one_vertex : (u v : Vertex) → In u (vertices clock t) → In v (vertices clock t) → node_of u ≡ node_of v → u ≡ v
  one_vertex u v m n e = one_each node_of u v (vertices clock t) (nodes_ascend clock t a) m n e

  -- where our own node is too old, nothing is joined to it
  pub no_further : (e : Entry) → In e t → id_of e ≡ own → under_age clock e ≡ false → {k : ℕ} {v : Vertex} → Chain own (vertices clock t) k v → k ≡ 0
  no_further e m o y (here i p) = refl
  no_further e m o y (step c z j i) =
      let w = first-young c z in
      no_way (under_age clock e) (ap (λ (u : Vertex). u.young) (one_vertex (vertex_of clock e) w.0 (in_map (vertex_of clock) e t m) w.1 (o ∙ sym w.2)) ∙ w.3) y

  stands_in : (k : ℕ) (v : Vertex) → InLevel own (vertices clock t) k v → StandsIn own clock t k (node_of v)
  stands_in k v m =
      let c : Chain own (vertices clock t) k v = level_chain own (vertices clock t) k v m in
      record {
        steps = (v, c, refl);
        fewest = λ j s. shortest own (vertices clock t) k j v m
            (subst (Chain own (vertices clock t) j) (one_vertex s.0 v (chain_in s.1) (chain_in c) s.2) s.1);
      }

-- in the last level stands a node
pub stands-last : {s : State} → Valid s → (clock : ℕ) → (n : ℕ) × StandsIn s.own clock s.table (last_level s.own clock s.table) n
stands-last {s} v clock =
    let h = own_vertex v clock in
    let q = last-stands s.own (vertices clock s.table) h.0 h.1 (eq-eqb (node_of h.0) s.own h.2) in
    (node_of q.0, stands_in s.own clock s.table v.inside.table.ascending (last_level s.own clock s.table) q.0 q.1)

-- and every reachable node in one up to it
pub stands-within : (own clock : ℕ) (t : List Entry) → Ascending id_of t → (n : ℕ) → in_reach own clock t n ≡ true → (k : ℕ) × (k ≤ last_level own clock t) × StandsIn own clock t k n
unfolding in_reach marked met
stands-within own clock t a n e =
    let r = in_any (is_node n) (met own (vertices clock t)) e in
    let q = joined-level own (vertices clock t) 0 (level0 own (vertices clock t) ∷ levels own (vertices clock t)) r.0 r.1 in (
      q.0,
      omega (arith, level-below 0 (level0 own (vertices clock t) ∷ levels own (vertices clock t)) q.0 r.0 q.1),
      subst (StandsIn own clock t q.0) (eqb-true (node_of r.0) n r.2) (stands_in own clock t a q.0 r.0 q.1),
    )
