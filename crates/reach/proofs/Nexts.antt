-- The next level as it is found, entry of the level by entry, each against every node that is not yet met. Assumes nothing.
use mathlib.Core.Path.{◌≡◌, sym, ap, ◌∙◌}
use mathlib.Core.Bool.{Bool, true, false, not, ◌&&◌, ◌||◌, and-false, or-false, or-true}
use mathlib.Core.List.{List, [], ◌∷◌, ◌++◌}
use Prim.Native.Nat.{ℕ, ◌+◌, ◌≤◌, ◌<◌}
use native.Mathlib.Nat.{not-suc-le-zero}
use native.Mathlib.Omega.{arith}
use lib.ListN.{length, get_or, set, take, replicate, length-set, length-replicate}
use lib.Seq.{take_all, get_or-set_same, get_or-set_other}
use borrow.Author.Count.{below_more}
use Rattle.base.specs.Lists.{keep_by}
use Rattle.base.proofs.Lists.{any-joined}
use Rattle.base.proofs.Marks.{none-set, keep_by_nil, keep_by_out, keep_by_in}
use Rattle.model.specs.Figures.{most_nodes}
use Rattle.model.specs.Table.{Entry}
use Rattle.model.specs.Reach.{Vertex, vertices, joined, touched}
use Rattle.reach.specs.Marks.{Wide, no_vertex, NextLevel}
use Rattle.reach.proofs.Nodes.{vertices-length, leads_at}

-- the nodes of the level below place r lead to the node at place v
abbrev touched_below : ℕ → List Entry → List Bool → ℕ → ℕ → Bool
touched_below clock t level r v = touched (keep_by level (take r (vertices clock t))) (get_or (vertices clock t) v no_vertex)

-- which is not yet met
abbrev next_below : ℕ → List Entry → List Bool → List Bool → ℕ → ℕ → Bool
next_below clock t level met r v = not (get_or met v false) && touched_below clock t level r v

touched-one : (level : List Vertex) (r v : Vertex) → touched (level ++ (r ∷ [])) v ≡ touched level v || (r.young && joined r.says v.says)
unfolding touched
touched-one level r v = any-joined _ level (r ∷ []) ∙ ap (λ (b : Bool). touched level v || b) (or-false (r.young && joined r.says v.says))

module _ (clock : ℕ) (t : List Entry) (level met : List Bool) where
  -- the entries of the level below place r were tried
  pub record Tried (r : ℕ) (next : List Bool) : Type 0 where
    pub wide : Wide next
    pub each : (k : ℕ) → k < length t → get_or next k false ≡ next_below clock t level met r k
    pub beyond : (k : ℕ) → length t ≤ k → get_or next k false ≡ false

  -- and the entry at place r against the nodes below place v
  pub record Trying (r v : ℕ) (next : List Bool) : Type 0 where
    pub wide : Wide next
    pub done : (k : ℕ) → k < v → k < length t → get_or next k false ≡ next_below clock t level met (r + 1) k
    pub left : (k : ℕ) → v ≤ k → k < length t → get_or next k false ≡ next_below clock t level met r k
    pub beyond : (k : ℕ) → length t ≤ k → get_or next k false ≡ false

  none_below : (v : ℕ) → touched_below clock t level 0 v ≡ false
  unfolding touched
  none_below v = rw (keep_by_nil level)

  pub tried_none : Tried 0 (replicate most_nodes false)
  tried_none =
      record {
        wide = length-replicate most_nodes false;
        each = λ k p. none-set most_nodes k ∙ sym (ap (λ (b : Bool). not (get_or met k false) && b) (none_below k) ∙ and-false (not (get_or met k false)));
        beyond = λ k p. none-set most_nodes k;
      }

  pub tried_all : (r : ℕ) (next : List Bool) → Tried r next → length t ≤ r → NextLevel clock t level met next
  tried_all r next g p =
      let e : take r (vertices clock t) ≡ vertices clock t = take_all r (vertices clock t) (rw (vertices-length clock t) p) in
      record { wide = g.wide; each = λ k q. rw e at (g.each k q); beyond = g.beyond }

  module _ (r : ℕ) (p : r < length t) where
    inside : r < length (vertices clock t)
    inside = rw (vertices-length clock t) p

    pub tried_out : (next : List Bool) → Tried r next → get_or level r false ≡ false → Tried (r + 1) next
    tried_out next g l =
        record { wide = g.wide; each = λ k q. rw (keep_by_out no_vertex level (vertices clock t) r inside l) (g.each k q); beyond = g.beyond }

    pub tried_in : (next : List Bool) → Tried r next → Trying r 0 next
    tried_in next g = record { wide = g.wide; done = λ k q z. absurd (not-suc-le-zero q); left = λ k q. g.each k; beyond = g.beyond }

    pub tried_on : (v : ℕ) (next : List Bool) → Trying r v next → length t ≤ v → Tried (r + 1) next
    tried_on v next g q = record { wide = g.wide; each = λ k z. g.done k (omega arith) z; beyond = g.beyond }

    module _ (l : get_or level r false ≡ true) where
      touched_more : (v : ℕ) → touched_below clock t level (r + 1) v ≡ touched_below clock t level r v || leads_at clock t r v
      touched_more v =
          rw (keep_by_in no_vertex level (vertices clock t) r inside l)
          (touched-one (keep_by level (take r (vertices clock t))) (get_or (vertices clock t) r no_vertex) (get_or (vertices clock t) v no_vertex))

      module _ (v : ℕ) (q : v < length t) (next : List Bool) (g : Trying r v next) where
        on : next_below clock t level met r v ≡ next_below clock t level met (r + 1) v → Trying r (v + 1) next
        on e =
            record {
              wide = g.wide;
              done = below_more (λ k. k < length t → get_or next k false ≡ next_below clock t level met (r + 1) k) v g.done (λ z. g.left v (omega arith) z ∙ e);
              left = λ k z. g.left k (omega arith);
              beyond = g.beyond;
            }

        -- the node at place v is met already
        pub trying_met : not (get_or met v false) ≡ false → Trying r (v + 1) next
        trying_met m = on (rw m)

        pub trying_unled : leads_at clock t r v ≡ false → Trying r (v + 1) next
        trying_unled n = on (rw (touched_more v, n, or-false (touched_below clock t level r v)))

        pub trying_led : length t ≤ most_nodes → not (get_or met v false) ≡ true → leads_at clock t r v ≡ true → Trying r (v + 1) (set next v true)
        trying_led s m n =
            let h : next_below clock t level met (r + 1) v ≡ true = rw (m, touched_more v, n, or-true (touched_below clock t level r v)) in
            record {
              wide = length-set next v true ∙ g.wide;
              done = below_more (λ k. k < length t → get_or (set next v true) k false ≡ next_below clock t level met (r + 1) k) v
                  (λ k z y. get_or-set_other next v k true false (λ e. omega arith) ∙ g.done k z y)
                  (λ z. get_or-set_same next v true false (omega (arith, g.wide)) ∙ sym h);
              left = λ k z y. get_or-set_other next v k true false (λ e. omega arith) ∙ g.left k (omega arith) y;
              beyond = λ k z. get_or-set_other next v k true false (λ e. omega arith) ∙ g.beyond k z;
            }
