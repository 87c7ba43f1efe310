-- Sums over the reachable nodes, as `total` and `sum` answer them. Assumes nothing.
use mathlib.Core.Path.{◌≡◌, refl, ap, ◌∙◌}
use mathlib.Core.Bool.{true}
use mathlib.Core.List.{List}
use Prim.Native.Nat.{ℕ}
use lib.IntN.{ℤ}
use mir.Syntax.{w64}
use mir.Val.{SFits, to_z, of_z}
use Rattle.base.specs.Lists.{keep_by}
use Rattle.base.proofs.Lists.{all_more}
use Rattle.base.proofs.Signed.{narrow_back}
use Rattle.wire.specs.Order.{good}
use Rattle.model.specs.Figures.{data_limit}
use Rattle.model.specs.Numbers.{number}
use Rattle.model.specs.declared.numbers.Refusal.{Refusal}
use Rattle.model.specs.State.{State as ModelState}
use Rattle.model.specs.Table.{Entry, statements}
use Rattle.model.specs.Totals.{Summed as ModelSummed, total_of, sum_of, unreadable, payments_in, reachable, not_summed, refusal_total, total, refusal_sum, sum}
use Rattle.model.specs.Invariant.{EntryFits, Midway}
use Rattle.table.specs.View.{view, AllGood}
use Rattle.reach.specs.declared.Reached.{Reached}
use Rattle.reach.specs.Marks.{Reaching}
use Rattle.reach.proofs.Reaching.{reached_by}
use Rattle.node.specs.declared.State.{State}
use Rattle.node.specs.View.{state_of}
use Rattle.node.proofs.Parts.{state-last}
use Rattle.accounts.specs.declared.totals.Whose.{Whose}
use Rattle.accounts.specs.declared.totals.Whose.TheVariants.{All, Of}
use Rattle.accounts.specs.declared.totals.Total.{Total}
use Rattle.accounts.specs.Tallied.{sum_for, Tallied}
use Rattle.ledger.specs.declared.answers.Summed.{Summed}
use Rattle.ledger.specs.Promises.{summed_of}
use Rattle.ledger.specs.Inner.{Summing}
use Rattle.ledger.proofs.Answering.{refused, as_refused, as_accepted}

module _ (clock : ℕ) (s : State) (m : List ℕ) where
  -- within a call every node's data are good
  pub midway-good : Midway clock (state_of s m) → AllGood (view s.table m)
  unfolding state_of
  midway-good w =
      all_more (EntryFits clock) (λ e. good data_limit e.says.node_data ≡ true) (λ e f. f.fine) (view s.table m) w.table.entries

  -- the sum over the marked nodes is that over the reachable ones
  module _ (w : Whose) (x : Reached) (g : Reaching s.own clock (view s.table m) x) (t : Total) (h : Tallied w (statements (keep_by x.marks (view s.table m))) t) where
    pub summing : SFits w64 t.value → Summing w clock (state_of s m) (record { number = 0; value = to_z w64 (of_z w64 t.value); unread = t.unread })
    unfolding state_of
    summing f =
        let e = reached_by s.own clock (view s.table m) x.marks g.marks in
        record {
          number = refl;
          value = narrow_back w64 t.value f ∙ h.value ∙ ap (λ (l : List Entry). sum_for w (statements l)) e;
          unread = h.unread ∙ ap (λ (l : List Entry). unreadable (payments_in (statements l))) e;
        }

-- ---- as the calls answer

abbrev answer : ℕ → ℤ → ℕ → ModelSummed
answer n v u = record { number = n; value = v; unread = u }

same_answer : {n k : ℕ} {v w : ℤ} {u x : ℕ} → n ≡ k → v ≡ w → u ≡ x → answer n v u ≡ answer k w x
same_answer a b c = rw (a, b, c)

module _ (clock table : ℕ) (s : State) (m : List ℕ) where
  module _ (h : ℕ) where
    abbrev totalled : ModelSummed
    totalled = answer 0 (total_of h (reachable clock (state_of s m))) (unreadable (payments_in (reachable clock (state_of s m))))

    pub total-refused : (n : Refusal) → ((v : ModelState) → v.last ≡ s.last → number n ≡ refusal_total clock h table v) → not_summed (number n) ≡ total clock h table (state_of s m)
    unfolding total
    total-refused n f = as_refused (number n) (refusal_total clock h table (state_of s m)) (f (state_of s m) (state-last s m)) totalled not_summed (refused n)

    pub total-accepted : (r : Summed) → ((v : ModelState) → v.last ≡ s.last → 0 ≡ refusal_total clock h table v)
        → Summing (Of h) clock (state_of s m) r → summed_of r ≡ total clock h table (state_of s m)
    unfolding total
    total-accepted r f g =
        same_answer g.number g.value g.unread ∙ as_accepted 0 (refusal_total clock h table (state_of s m)) (f (state_of s m) (state-last s m)) totalled not_summed refl

  abbrev summed : ModelSummed
  summed = answer 0 (sum_of (reachable clock (state_of s m))) (unreadable (payments_in (reachable clock (state_of s m))))

  pub sum-refused : (n : Refusal) → ((v : ModelState) → v.last ≡ s.last → number n ≡ refusal_sum clock table v) → not_summed (number n) ≡ sum clock table (state_of s m)
  unfolding sum
  sum-refused n f = as_refused (number n) (refusal_sum clock table (state_of s m)) (f (state_of s m) (state-last s m)) summed not_summed (refused n)

  pub sum-accepted : (r : Summed) → ((v : ModelState) → v.last ≡ s.last → 0 ≡ refusal_sum clock table v)
      → Summing All clock (state_of s m) r → summed_of r ≡ sum clock table (state_of s m)
  unfolding sum
  sum-accepted r f g =
      same_answer g.number g.value g.unread ∙ as_accepted 0 (refusal_sum clock table (state_of s m)) (f (state_of s m) (state-last s m)) summed not_summed refl
