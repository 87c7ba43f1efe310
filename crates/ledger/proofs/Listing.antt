-- What `marks` answers: the identifiers of the marked nodes, the last level, and the digest. Assumes nothing.
use mathlib.Core.Path.{◌≡◌, refl, sym, ap, ◌∙◌}
use mathlib.Core.Bool.{Bool}
use mathlib.Core.List.{List, map, map-map}
use Prim.Native.Nat.{ℕ}
use native.Mathlib.Omega.{arith}
use lib.ListN.{take, replicate, length-replicate}
use Rattle.base.specs.Lists.{keep_by}
use Rattle.base.proofs.Marks.{keep_by_map}
use Rattle.model.specs.Figures.{most_nodes}
use Rattle.model.specs.Numbers.{number}
use Rattle.model.specs.declared.numbers.Refusal.{Refusal}
use Rattle.model.specs.State.{State as ModelState}
use Rattle.model.specs.Table.{id_of}
use Rattle.model.specs.Show.{Marks as ModelMarks, marked_at, not_marked, refusal_marks, marks}
use Rattle.table.specs.declared.Table.{Table}
use Rattle.table.specs.View.{meta_id, live, seen, view}
use Rattle.reach.specs.declared.Reached.{Reached}
use Rattle.reach.specs.declared.list.Nodes.{Nodes}
use Rattle.reach.specs.Marks.{Reaching, Listed}
use Rattle.reach.proofs.Reaching.{reached_by}
use Rattle.node.specs.declared.State.{State}
use Rattle.node.specs.View.{state_of}
use Rattle.node.proofs.Parts.{state-last}
use Rattle.ledger.specs.Promises.{Lists}
use Rattle.ledger.proofs.Answering.{refused, as_refused, as_accepted}

-- the entries' identifiers are the nodes'
ids_seen : (bs : List Bool) (t : Table) (m : List ℕ) → map meta_id (keep_by bs (live t)) ≡ map id_of (keep_by bs (view t m))
unfolding view
ids_seen bs t m = rw (keep_by_map (seen m) bs (live t)) (sym (map-map id_of (seen m) (keep_by bs (live t))))

module _ (clock table : ℕ) (s : State) (m : List ℕ) where
  abbrev asked : ModelMarks
  asked = marked_at (state_of s m).own clock (state_of s m).table

  pub marks-refused : (n : Refusal) → ((v : ModelState) → v.last ≡ s.last → number n ≡ refusal_marks clock table v)
      → Lists (marks clock table (state_of s m)) (record { number = number n; count = 0; levels = 0; nodes = replicate most_nodes 0; digest = replicate 16 0 })
  unfolding marks
  marks-refused n f =
      record {
        is = as_refused (number n) (refusal_marks clock table (state_of s m)) (f (state_of s m) (state-last s m)) asked not_marked (refused n);
        few = omega arith;
        wide = length-replicate {A = ℕ} most_nodes 0;
        rest = refl;
      }

  module _ (x : Reached) (g : Reaching s.own clock (view s.table m) x) (r : Nodes) (h : Listed x.marks s.table r) where
    found : record { number = 0; nodes = take r.count r.list; last_level = x.levels; digest = x.digest } ≡ asked
    unfolding state_of
    found =
        let n = h.is ∙ ids_seen x.marks s.table m ∙ ap (map id_of) (reached_by s.own clock (view s.table m) x.marks g.marks) in
        λ i. record { number = 0; nodes = n i; last_level = g.count i; digest = g.digest i }

    pub marks-accepted : ((v : ModelState) → v.last ≡ s.last → 0 ≡ refusal_marks clock table v)
        → Lists (marks clock table (state_of s m)) (record { number = 0; count = r.count; levels = x.levels; nodes = r.list; digest = x.digest })
    unfolding marks
    marks-accepted f =
        record {
          is = found ∙ as_accepted 0 (refusal_marks clock table (state_of s m)) (f (state_of s m) (state-last s m)) asked not_marked refl;
          few = h.few;
          wide = h.wide;
          rest = h.rest;
        }
