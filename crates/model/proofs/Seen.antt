-- What the marking sees of a node: its identifier, the links that it publishes, and whether it is under age. Tables that look alike in this, at whatever
-- readings, have the same nodes in reach. Assumes nothing.
use Rattle.std.proofs.Common.{◌≡◌, ℕ, List, [], ◌∷◌, ◌++◌, sym, refl, ◌∙◌, subst, inl, inr}
use Rattle.base.specs.Lists.{any, In}
use Rattle.base.proofs.Tests.{both_ways}
use Rattle.model.specs.Table.{Entry}
use Rattle.model.specs.Reach.{Link, Vertex, vertex_of, vertices, links, matches, joined, in_reach}
use Rattle.model.specs.Chain.{Chain, here, step}
use Rattle.model.specs.Theorems.{Chained}
use Rattle.model.proofs.Levels.{reach_chain, chain_reach}

-- two nodes that the marking can't tell apart
pub record Like (v w : Vertex) : Type 0 where
  pub node : v.says.node ≡ w.says.node
  pub peers : links v.says.node_data ≡ links w.says.node_data
  pub age : v.young ≡ w.young

like_self : (v : Vertex) → Like v v
like_self v = record { node = refl; peers = refl; age = refl }

pub like_back : {v w : Vertex} → Like v w → Like w v
like_back q = record { node = sym q.node; peers = sym q.peers; age = sym q.age }

joined_like : {r s v w : Vertex} → Like r s → Like v w → joined r.says v.says ≡ joined s.says w.says
unfolding joined
joined_like p q = λ i. any (λ (l : Link). any (matches (p.node i) (q.node i) l) (q.peers i)) (p.peers i)

-- each node of t has its like in u
abbrev pub Seen : List Vertex → List Vertex → Type 0
Seen t u = (v : Vertex) → In v t → (w : Vertex) × In w u × Like v w

-- a chain in t is one in u, with as many steps
chain_seen : {own : ℕ} {t u : List Vertex} {k : ℕ} {v : Vertex} → Seen t u → Chain own t k v → (w : Vertex) × Chain own u k w × Like v w
chain_seen h (here {v = v} i e) = let q = h v i in (q.0, here q.1 (sym q.2.node ∙ e), q.2)
chain_seen h (step {v = v} c y j i) =
    let p = chain_seen h c in
    let q = h v i in
    (q.0, step p.1 (sym p.2.age ∙ y) (sym (joined_like p.2 q.2) ∙ j) q.1, q.2)

chained_seen : (own c d : ℕ) (t u : List Entry) → Seen (vertices c t) (vertices d u) → (n : ℕ) → Chained own c t n → Chained own d u n
chained_seen own c d t u h n q = let w = chain_seen h q.1.1 in (q.0, (w.0, w.1, sym w.2.node ∙ q.1.2))

pub reach_seen : (own c d : ℕ) (t u : List Entry) → Seen (vertices c t) (vertices d u) → Seen (vertices d u) (vertices c t) → (n : ℕ) → in_reach own c t n ≡ in_reach own d u n
reach_seen own c d t u h g n =
    both_ways (in_reach own c t n) (in_reach own d u n) (λ e. chain_reach own d u n (chained_seen own c d t u h n (reach_chain own c t n e)))
    (λ e. chain_reach own c t n (chained_seen own d c u t g n (reach_chain own d u n e)))

-- one entry in place of its like
pub swapped : (clock : ℕ) (l r : List Entry) (e f : Entry) → Like (vertex_of clock e) (vertex_of clock f) → Seen (vertices clock (l ++ (e ∷ r))) (vertices clock (l ++ (f ∷ r)))
swapped clock [] r e f q v (inl i) = (vertex_of clock f, inl refl, subst (λ (w : Vertex). Like w (vertex_of clock f)) (sym i) q)
swapped clock [] r e f q v (inr i) = (v, inr i, like_self v)
swapped clock (x ∷ l) r e f q v (inl i) = (v, inl i, like_self v)
swapped clock (x ∷ l) r e f q v (inr i) = let b = swapped clock l r e f q v i in (b.0, inr b.1, b.2)
