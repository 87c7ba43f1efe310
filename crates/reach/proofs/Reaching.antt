-- The marks of the marking are those of the definition. Assumes nothing.
use mathlib.Core.Path.{◌≡◌, refl, sym, ap, ◌∙◌}
use mathlib.Core.Bool.{Bool, true, false, not}
use mathlib.Core.List.{List, ◌++◌, map}
use Prim.Native.Nat.{ℕ, ◌+◌, ◌≤◌, ◌<◌}
use native.Mathlib.Omega.{arith}
use lib.ListN.{length, get_or, set, replicate, length-set, length-replicate}
use Rattle.base.specs.Lists.{any, keep, keep_by, join_all, is_some}
use Rattle.base.specs.Sorted.{Ascending}
use Rattle.base.proofs.Tests.{no_way}
use Rattle.base.proofs.Lists.{keep-length}
use Rattle.base.proofs.Places.{get_d_any}
use Rattle.model.specs.Figures.{most_nodes}
use Rattle.model.specs.Table.{Entry, id_of, look, statements}
use Rattle.model.specs.Digest.{digest_of, network_digest}
use Rattle.model.specs.State.{no_entry}
use Rattle.model.specs.Reach.{vertices, is_node, level0, others, levels, met, marked, in_reach, reached}
use Rattle.model.proofs.Shortest.{node_of, nodes_ascend}
use Rattle.table.specs.declared.Table.{Table}
use Rattle.std.specs.Prelude.{Result, Ok, Err}
use Rattle.std.specs.Result.{IsOk}
use Rattle.table.specs.View.{no_meta, seen, view, Arranged, Stands, Finding}
use Rattle.table.proofs.Tables.{view-length, view-at, view-ascending, look_gap}
use Rattle.reach.specs.declared.mark.Traversed.{Traversed}
use Rattle.reach.specs.Marks.{marked_of, no_vertex, levels_after, Spread, Marking, Levelled}
use Rattle.reach.proofs.Nodes.{vertex_at, vertices-length, few-nodes}
use Rattle.base.proofs.Marks.{not_at, keep_by_places, marked-at, alone_at}
use Rattle.reach.proofs.Waves.{levels_enough}

module _ (own clock : ℕ) (t : List Entry) (a : Ascending id_of t) (few : length t ≤ most_nodes) where
  node_is : (i : ℕ) → i < length t → node_of (get_or (vertices clock t) i no_vertex) ≡ id_of (get_or t i no_entry)
  node_is i p = ap node_of (vertex_at clock t i no_entry p)

  -- our own node alone is marked
  module _ (i : ℕ) (p : i < length t) (e : id_of (get_or t i no_entry) ≡ own) (first : List Bool) (f : first ≡ set (replicate most_nodes false) i true) where
    wide : length first ≡ most_nodes
    wide = ap length f ∙ length-set (replicate most_nodes false) i true ∙ length-replicate most_nodes false

    own_at : (j : ℕ) → j < length (vertices clock t) → get_or first j false ≡ is_node own (get_or (vertices clock t) j no_vertex)
    own_at j q =
        rw f (alone_at node_of no_vertex (vertices clock t) own i most_nodes (nodes_ascend clock t a) (rw (vertices-length clock t) p) (omega arith) (node_is i p ∙ e) j q)

    first-level : marked_of clock t first ≡ level0 own (vertices clock t)
    first-level = keep_by_places no_vertex (is_node own) first (vertices clock t) own_at

    first_rest : keep_by (map not first) (vertices clock t) ≡ others own (vertices clock t)
    first_rest =
        keep_by_places no_vertex (λ v. not (is_node own v)) (map not first) (vertices clock t)
        (λ j q. not_at first j (omega (arith, wide, vertices-length clock t)) ∙ ap not (own_at j q))

    -- what the levels reach is what the definition reaches
    all-levels : levels_after clock t first ≡ levels own (vertices clock t)
    unfolding levels
    all-levels =
        let l : length (keep (is_node own) (vertices clock t)) + length (others own (vertices clock t)) ≡ length (vertices clock t) = keep-length (is_node own) (vertices clock t) in
        rw (first-level, first_rest, levels_enough (length t) (length (others own (vertices clock t))) (others own (vertices clock t)) (level0 own (vertices clock t)) (omega (arith, vertices-length clock t)) (omega arith))

    all_found : (n : ℕ) → any (is_node n) (marked_of clock t first ++ join_all (levels_after clock t first)) ≡ in_reach own clock t n
    unfolding in_reach marked met
    all_found n = rw (all-levels, first-level)

    levelled : (r : Traversed) → Spread clock t first r → Levelled own clock t r
    levelled r s =
        record {
          marks =
              record {
                wide = s.wide;
                each = λ j q.
                    sym (marked-at node_of no_vertex r.marks (vertices clock t) j (nodes_ascend clock t a) (rw (vertices-length clock t) q))
                    ∙ ap (λ (n : ℕ). any (is_node n) (marked_of clock t r.marks)) (node_is j q) ∙ s.each (id_of (get_or t j no_entry)) ∙ all_found (id_of (get_or t j no_entry));
              };
          count = s.count ∙ ap length all-levels;
        }

-- ---- as the code finds our own node

-- it is never missing
pub found_own : (t : Table) (m : List ℕ) → Arranged t → (own : ℕ) (f : Result ℕ ℕ) → Finding t own f → is_some (look own (view t m)) ≡ true → IsOk f
found_own t m k own (Ok i) h s = refl
found_own t m k own (Err i) g s = no_way (is_some (look own (view t m))) s (ap is_some (look_gap t k own i m g))

pub mark_by : (own clock : ℕ) (t : Table) (m : List ℕ) → Arranged t → (i : ℕ) → Stands t own i → (first : List Bool) (r : Traversed) → first ≡ set (replicate most_nodes false) i true
    → Spread clock (view t m) first r → Levelled own clock (view t m) r
mark_by own clock t m k i s first r f g =
    let p : i < length (view t m) = rw (view-length t k m) s.at in
    levelled own clock (view t m) (view-ascending t k m) (few-nodes t m k) i p
    (ap id_of (get_d_any (view t m) i no_entry (seen m no_meta) p ∙ view-at t k m i s.at) ∙ s.named) first f r g

-- ---- the marked entries are those in reach

pub reached_by : (own clock : ℕ) (t : List Entry) (marks : List Bool) → Marking own clock t marks → keep_by marks t ≡ reached own clock t
unfolding reached
reached_by own clock t marks g = keep_by_places no_entry (λ e. in_reach own clock t (id_of e)) marks t g.each

pub digest-reached : (own clock : ℕ) (t : List Entry) (marks : List Bool) → Marking own clock t marks → digest_of (statements (keep_by marks t)) ≡ network_digest own clock t
unfolding network_digest
digest-reached own clock t marks g = ap (λ (l : List Entry). digest_of (statements l)) (reached_by own clock t marks g)
