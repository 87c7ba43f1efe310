-- The levels round our own node, kept as marks of the table's places. Assumes nothing.
use mathlib.Core.Path.{◌≡◌, refl, sym, ap, ◌∙◌}
use mathlib.Core.Bool.{Bool, true, false, not, ◌&&◌, ◌||◌, or-false, or_assoc}
use mathlib.Core.List.{List, [], ◌∷◌, ◌++◌, map}
use Prim.Native.Nat.{ℕ, zero, suc, ◌+◌, ◌-◌, ◌≤◌, ◌<◌}
use native.Mathlib.Nat.{not-suc-le-zero}
use native.Mathlib.Omega.{arith}
use lib.ListN.{length, get_or}
use Rattle.base.specs.Lists.{any, keep, keep_by, join_all}
use Rattle.base.proofs.Tests.{no_way}
use Rattle.base.proofs.Lists.{keep-length, any-joined, keep-never}
use Rattle.model.specs.Figures.{most_nodes}
use Rattle.model.specs.Table.{Entry}
use Rattle.model.specs.Reach.{Vertex, vertices, touched, is_node, non_empty, levels_from}
use Rattle.reach.specs.declared.mark.Wave.{Wave}
use Rattle.reach.specs.Marks.{Wide, marked_of, no_vertex, NextLevel, Onward, levels_after, Spread}
use Rattle.base.proofs.Marks.{not_at, none-at, any_either, keep_by_none, keep_by_some, keep_by_both, keep_by_length}
use Rattle.reach.proofs.Nodes.{vertices-length}

-- ---- levels

-- no node is joined to an empty level
touched_none : (v : Vertex) → touched [] v ≡ false
unfolding touched
touched_none v = refl

-- no node is joined to the level: it is the last
levels_stop : (f : ℕ) (rest level : List Vertex) → keep (touched level) rest ≡ [] → levels_from f rest level ≡ []
unfolding levels_from
levels_stop zero rest level e = refl
levels_stop (suc f) rest level e = rw e

some_more : (l : List Vertex) (m n : List (List Vertex)) → (0 < length l → m ≡ n) → non_empty l m ≡ non_empty l n
some_more [] m n h = refl
some_more (v ∷ l) m n h = ap (λ (k : List (List Vertex)). (v ∷ l) ∷ k) (h (omega arith))

-- more levels than there are nodes left are never needed
pub levels_enough : (f g : ℕ) (rest level : List Vertex) → length rest ≤ f → length rest ≤ g → levels_from f rest level ≡ levels_from g rest level
unfolding levels_from
levels_enough zero zero rest level p q = refl
levels_enough zero (suc g) [] level p q = refl
levels_enough zero (suc g) (v ∷ rest) level p q = absurd (not-suc-le-zero p)
levels_enough (suc f) zero [] level p q = refl
levels_enough (suc f) zero (v ∷ rest) level p q = absurd (not-suc-le-zero q)
levels_enough (suc f) (suc g) rest level p q =
    let l : length (keep (touched level) rest) + length (keep (λ v. not (touched level v)) rest) ≡ length rest = keep-length (touched level) rest in
    some_more (keep (touched level) rest) _ _
    (λ h. levels_enough f g (keep (λ v. not (touched level v)) rest) (keep (touched level) rest) (omega arith) (omega arith))

-- how many levels there are: one more than after the next, which is not empty
levels_on : (f : ℕ) (rest level : List Vertex) → 0 < length (keep (touched level) rest)
    → length (levels_from (suc f) rest level) ≡ suc (length (levels_from f (keep (λ v. not (touched level v)) rest) (keep (touched level) rest)))
unfolding levels_from
levels_on f rest level p = more (keep (touched level) rest) (levels_from f (keep (λ v. not (touched level v)) rest) (keep (touched level) rest)) p
  where
    more : (l : List Vertex) (m : List (List Vertex)) → 0 < length l → length (non_empty l m) ≡ suc (length m)
    more [] m q = absurd (not-suc-le-zero q)
    more (v ∷ l) m q = refl

-- the nodes of the next level, and of those after it
found_more : (n : ℕ) (l : List Vertex) (more : List (List Vertex)) → (l ≡ [] → more ≡ []) → any (is_node n) (join_all (non_empty l more)) ≡ any (is_node n) l || any (is_node n) (join_all more)
found_more n [] more h = rw (h refl)
found_more n (v ∷ l) more h = any-joined (is_node n) (v ∷ l) (join_all more)

found-next : (n f : ℕ) (rest level : List Vertex) → any (is_node n) (join_all (levels_from (suc f) rest level))
    ≡ any (is_node n) (keep (touched level) rest) || any (is_node n) (join_all (levels_from f (keep (λ v. not (touched level v)) rest) (keep (touched level) rest)))
unfolding levels_from
found-next n f rest level =
    found_more n (keep (touched level) rest) (levels_from f (keep (λ v. not (touched level v)) rest) (keep (touched level) rest))
    (λ e. rw e (levels_stop f (keep (λ v. not (touched level v)) rest) [] (keep-never (touched []) (keep (λ v. not (touched level v)) rest) touched_none)))

-- ---- marks

-- n is met, or is in one of the levels after the last, of which there are at most f
abbrev pub found_from : ℕ → List Entry → ℕ → List Bool → List Bool → ℕ → Bool
found_from clock t f met level n =
    any (is_node n) (marked_of clock t met) || any (is_node n) (join_all (levels_from f (keep_by (map not met) (vertices clock t)) (marked_of clock t level)))

-- the levels after the last
abbrev levels_left : ℕ → List Entry → ℕ → List Bool → List Bool → List (List Vertex)
levels_left clock t f met level = levels_from f (keep_by (map not met) (vertices clock t)) (marked_of clock t level)

unmet : (a b : Bool) → not (a || (not a && b)) ≡ not a && not b
unmet true b = refl
unmet false b = refl

module _ (clock : ℕ) (t : List Entry) (s : length t ≤ most_nodes) where
  -- at first
  all_left : (first : List Bool) → levels_after clock t first ≡ levels_left clock t most_nodes first first
  all_left first =
      let l : length (keep_by (map not first) (vertices clock t)) ≤ length t = rw (← vertices-length clock t) (keep_by_length (map not first) (vertices clock t)) in
      levels_enough (length t) most_nodes (keep_by (map not first) (vertices clock t)) (marked_of clock t first) l (omega arith)

  found-start : (first : List Bool) (n : ℕ) → any (is_node n) (marked_of clock t first ++ join_all (levels_after clock t first)) ≡ found_from clock t most_nodes first first n
  found-start first n = any-joined (is_node n) (marked_of clock t first) (join_all (levels_after clock t first)) ∙ rw (all_left first)

  -- no level is left
  found_end : (met level : List Bool) (n : ℕ) → found_from clock t 0 met level n ≡ any (is_node n) (marked_of clock t met)
  unfolding levels_from
  found_end met level n = or-false (any (is_node n) (marked_of clock t met))

  none_left : (met level : List Bool) → length (levels_left clock t 0 met level) ≡ 0
  unfolding levels_from
  none_left met level = refl

  module _ (level met next : List Bool) (w : Wide met) (e : NextLevel clock t level met next) where
    inside : (i : ℕ) → i < length (vertices clock t) → i < most_nodes
    inside i p = omega (arith, vertices-length clock t)

    met_at : (i : ℕ) → i < length (vertices clock t) → get_or (map not met) i false ≡ not (get_or met i false)
    met_at i p = not_at met i (rw w (inside i p))

    next-at : (i : ℕ) → i < length (vertices clock t) → get_or next i false ≡ not (get_or met i false) && touched (marked_of clock t level) (get_or (vertices clock t) i no_vertex)
    next-at i p = e.each i (rw (vertices-length clock t) at p)

    next-kept : marked_of clock t next ≡ keep (touched (marked_of clock t level)) (keep_by (map not met) (vertices clock t))
    next-kept = keep_by_both no_vertex (touched (marked_of clock t level)) (map not met) next (vertices clock t) (λ i p. rw (met_at i p) (next-at i p))

    -- the next level adds nothing
    module _ (h : any (λ b. b) next ≡ false) (f : ℕ) where
      left_stop : levels_left clock t f met level ≡ []
      left_stop = levels_stop f (keep_by (map not met) (vertices clock t)) (marked_of clock t level) (sym next-kept ∙ keep_by_none next (vertices clock t) (λ i p. none-at next h i))

      found_stop : (n : ℕ) → found_from clock t f met level n ≡ any (is_node n) (marked_of clock t met)
      found_stop n = rw left_stop (or-false (any (is_node n) (marked_of clock t met)))

    -- or something
    next-some : any (λ b. b) next ≡ true → 0 < length (keep (touched (marked_of clock t level)) (keep_by (map not met) (vertices clock t)))
    next-some h = rw next-kept at (keep_by_some next (vertices clock t) (λ i p. e.beyond i (rw (vertices-length clock t) at p)) h)

    module _ (all : List Bool) (v : Wide all) (o : (i : ℕ) → i < most_nodes → get_or all i false ≡ get_or met i false || get_or next i false) where
      rest-kept : keep_by (map not all) (vertices clock t) ≡ keep (λ v. not (touched (marked_of clock t level) v)) (keep_by (map not met) (vertices clock t))
      rest-kept =
          keep_by_both no_vertex (λ v. not (touched (marked_of clock t level) v)) (map not met) (map not all) (vertices clock t)
          (λ i p. rw (met_at i p, not_at all i (rw v (inside i p)), o i (inside i p), next-at i p) (unmet (get_or met i false) (touched (marked_of clock t level) (get_or (vertices clock t) i no_vertex))))

      -- the next level is met, and is the last
      found_on : (f n : ℕ) → found_from clock t (suc f) met level n ≡ found_from clock t f all next n
      found_on f n =
          rw (found-next n f (keep_by (map not met) (vertices clock t)) (marked_of clock t level), ← next-kept, ← rest-kept, any_either (is_node n) met next all (vertices clock t) (λ i p. o i (inside i p)))
          (sym (or_assoc (any (is_node n) (marked_of clock t met)) (any (is_node n) (marked_of clock t next)) _))

      left_on : any (λ b. b) next ≡ true → (f : ℕ) → length (levels_left clock t (suc f) met level) ≡ suc (length (levels_left clock t f all next))
      left_on h f = rw (next-kept, rest-kept) (levels_on f (keep_by (map not met) (vertices clock t)) (marked_of clock t level) (next-some h))

-- ---- as the code tests for it

none-set : (b : Bool) {r : Bool} → r ≡ not b → r ≡ true → b ≡ false
none-set true e h = no_way true refl (sym h ∙ e)
none-set false e h = refl

one_set : (b : Bool) {r : Bool} → r ≡ not b → r ≡ false → b ≡ true
one_set true e h = refl
one_set false e h = no_way true refl (sym e ∙ h)

-- ---- the marking so far: k levels are passed, and what is met and what is still to be found are all there is

pub record Waving (clock : ℕ) (t : List Entry) (first : List Bool) (k : ℕ) (met level : List Bool) : Type 0 where
  pub few : k ≤ most_nodes
  pub wide : Wide met
  pub all : (n : ℕ) → any (is_node n) (marked_of clock t first ++ join_all (levels_after clock t first)) ≡ found_from clock t (most_nodes - k) met level n
  pub count : length (levels_after clock t first) ≡ k + length (levels_left clock t (most_nodes - k) met level)

module _ (clock : ℕ) (t : List Entry) (s : length t ≤ most_nodes) (first : List Bool) where
  pub wave_start : Wide first → Waving clock t first 0 first first
  wave_start w = record { few = omega arith; wide = w; all = found-start clock t s first; count = ap length (all_left clock t s first) ∙ omega arith }

  module _ (k : ℕ) (w : Wave) (next : List Bool) (g : Waving clock t first k w.met w.level) (e : NextLevel clock t w.level w.met next) where
    pub wave_on : {r : Bool} → r ≡ not (any (λ b. b) next) → r ≡ false → (v : Wave) → k < most_nodes → Onward w next v → Waving clock t first (k + 1) v.met v.level
    wave_on n z v p o =
        let h : any (λ b. b) next ≡ true = one_set (any (λ b. b) next) n z in
        let q : most_nodes - k ≡ suc (most_nodes - (k + 1)) = omega arith in
        let c : length (levels_left clock t (most_nodes - k) w.met w.level) ≡ suc (length (levels_left clock t (most_nodes - (k + 1)) v.met v.level)) =
        rw (q, o.level) (left_on clock t s w.level w.met next g.wide e v.met o.wide o.met h (most_nodes - (k + 1))) in
        record {
          few = omega arith;
          wide = o.wide;
          all = λ n.
              g.all n ∙ ap (λ (f : ℕ). found_from clock t f w.met w.level n) q
              ∙ found_on clock t s w.level w.met next g.wide e v.met o.wide o.met (most_nodes - (k + 1)) n
              ∙ ap (λ (l : List Bool). found_from clock t (most_nodes - (k + 1)) v.met l n) (sym o.level);
          count = omega (arith, c, g.count);
        }

    pub wave_stop : {r : Bool} → r ≡ not (any (λ b. b) next) → r ≡ true → Spread clock t first (record { marks = w.met; levels = k })
    wave_stop n z =
        let h : any (λ b. b) next ≡ false = none-set (any (λ b. b) next) n z in
        record {
          wide = g.wide;
          each = λ n. sym (g.all n ∙ found_stop clock t s w.level w.met next g.wide e h (most_nodes - k) n);
          count = omega (arith, ap length (left_stop clock t s w.level w.met next g.wide e h (most_nodes - k)), g.count);
        }

  pub wave_end : (k : ℕ) (w : Wave) → Waving clock t first k w.met w.level → most_nodes ≤ k → (n : ℕ) → k ≡ n → Spread clock t first (record { marks = w.met; levels = n })
  wave_end k w g p n e =
      let q : most_nodes - k ≡ 0 = omega arith in
      let c : length (levels_left clock t (most_nodes - k) w.met w.level) ≡ 0 = rw q (none_left clock t s w.met w.level) in
      record {
        wide = g.wide;
        each = λ i. sym (g.all i ∙ ap (λ (f : ℕ). found_from clock t f w.met w.level i) q ∙ found_end clock t s w.met w.level i);
        count = omega (arith, c, g.count);
      }
