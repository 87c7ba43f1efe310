-- The sums over the marked nodes of the table, node by node. Assumes nothing.
use mathlib.Core.Path.{◌≡◌, ◌∙◌}
use mathlib.Core.Bool.{Bool, true, false}
use mathlib.Core.List.{List, [], ◌∷◌}
use Prim.Native.Nat.{ℕ, ◌+◌, ◌*◌, ◌/◌, ◌≤◌, ◌<◌}
use native.Mathlib.Omega.{arith}
use lib.ListN.{length, get_or, take, length-take}
use lib.Seq.{take_all}
use lib.IntN.{ℤ}
use Rattle.std.specs.Prelude.{Option}
use Rattle.base.specs.Lists.{keep_by}
use Rattle.base.proofs.Lists.{map_append, all_keep_by, all_take}
use Rattle.base.proofs.Marks.{keep_by_nil, keep_by_length, keep_by_in, keep_by_out}
use Rattle.wire.specs.Order.{good}
use Rattle.model.specs.Figures.{most_nodes, data_limit}
use Rattle.model.specs.Table.{Entry, statements}
use Rattle.model.specs.Totals.{payments_in}
use Rattle.model.proofs.Totals.{payments_good, tally-mag, of_household, total-is}
use Rattle.table.specs.declared.Table.{Table}
use Rattle.table.specs.View.{no_meta, meta_at, data_of, seen, view, Kept, AllGood}
use Rattle.table.proofs.Tables.{view-length}
use Rattle.accounts.specs.Tallied.{publishing, most_payments}
use Rattle.report.specs.Steps.{Small, Cleared, SumsGrow, SumsAre}
use Rattle.report.proofs.Adding.{totals-none, totals_then, summed-says}
use Rattle.accounts.proofs.Sums.{meta_inside, meta_says}

-- the marked nodes below place i are summed
abbrev pub Below : List Bool → List Entry → List (Option ℤ) → ℕ → Type 0
Below marks t s i = SumsAre (statements (keep_by marks (take i t))) s

module _ (marks : List Bool) (t : List Entry) (s : List (Option ℤ)) where
  below-start : Cleared s → Below marks t s 0
  below-start c = rw (keep_by_nil {A = Entry} marks) (totals-none s c)

  module _ (i : ℕ) (d : Below marks t s i) where
    -- there is room for one node's payments more
    below-room : AllGood t → i ≤ most_nodes → Small most_payments s
    below-room g l =
        let es : List Entry = keep_by marks (take i t) in
        let n : length (payments_in (statements es)) ≤ data_limit / 4 * length es =
        payments_good es (all_keep_by (λ e. good data_limit e.says.node_data ≡ true) marks (take i t) (all_take (λ e. good data_limit e.says.node_data ≡ true) i t g)) in
        let f : length es ≤ i = omega (arith, keep_by_length marks (take i t), length-take i t) in
        record { each = λ h p. rw (d.sums h p ∙ total-is h (statements es)) (omega (arith, tally-mag (of_household h) (payments_in (statements es)))) }

    module _ (x : Entry) (p : i < length t) where
      below-stay : get_or marks i false ≡ false → Below marks t s (i + 1)
      below-stay k = rw (keep_by_out x marks t i p k) d

      below_on : (n : List ℕ) (s' : List (Option ℤ)) → get_or marks i false ≡ true → n ≡ (get_or t i x).says.node_data → SumsGrow (publishing n ∷ []) s s'
          → Below marks t s' (i + 1)
      below_on n s' k e u =
          let es : List Entry = keep_by marks (take i t) in
          let y : Entry = get_or t i x in
          rw (keep_by_in x marks t i p k, map_append (λ (z : Entry). z.says) es (y ∷ []))
          (totals_then (statements es) (y.says ∷ []) s s' d (summed-says n y.says s s' e u))

    below_end : length t ≤ i → SumsAre (statements (keep_by marks t)) s
    below_end l = rw (take_all i t l) at d

-- ---- as the code goes over its table: entry by entry, each with its data in the table memory

module _ (t : Table) (m : List ℕ) (k : Kept t m) where
  module _ (marks : List Bool) (s : List (Option ℤ)) where
    pub sums-start : Cleared s → Below marks (view t m) s 0
    sums-start c = below-start marks (view t m) s c

    module _ (i : ℕ) (d : Below marks (view t m) s i) where
      pub sums-room : AllGood (view t m) → i < t.count → Small most_payments s
      sums-room g p = below-room marks (view t m) s i d g (omega (arith, k.arranged.most))

      pub sums-stay : i < t.count → get_or marks i false ≡ false → Below marks (view t m) s (i + 1)
      sums-stay p q = below-stay marks (view t m) s i d (seen m no_meta) (meta_inside t m k i p) q

      pub sums_on : i < t.count → get_or marks i false ≡ true → (n : List ℕ) → n ≡ data_of m (meta_at t i) → (s' : List (Option ℤ))
          → SumsGrow (publishing n ∷ []) s s' → Below marks (view t m) s' (i + 1)
      sums_on p q n e s' u = below_on marks (view t m) s i d (seen m no_meta) (meta_inside t m k i p) n s' q (meta_says t m k i p n e) u

      pub sums_end : t.count ≤ i → SumsAre (statements (keep_by marks (view t m))) s
      sums_end l = below_end marks (view t m) s i d (rw (view-length t k.arranged m) l)
