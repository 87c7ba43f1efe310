-- Sums of the payments of the reachable nodes (document 01, Payments). Assumes nothing.
use Rattle.std.specs.Prelude.{ℕ, suc, Bool, cond, List, [], ◌∷◌, map, ℤ, pos, ◌==◌, nat_eq}
use Rattle.base.specs.Lists.{keep, join_all, or_else}
use Rattle.base.specs.Signed.{sumℤ}
use Rattle.wire.specs.Row.{type_of, value_of, tlvs}
use Rattle.wire.specs.Payment.{Payment, read_payment}
use Rattle.model.specs.Table.{Statement, statements}
use Rattle.model.specs.Reach.{reached}
use Rattle.model.specs.State.{State}
use Rattle.model.specs.Refusals.{first_of, late, back, small_table, no_household}

-- "40 is a payment"
abbrev pub is_payment : List ℕ → Bool
is_payment t = type_of t == 40

-- the payment TLVs of node data
abbrev pub payments_of : List ℕ → List (List ℕ)
payments_of d = keep is_payment (tlvs d)

-- those that these nodes publish
unfoldable pub payments_in : List Statement → List (List ℕ)
payments_in ss = join_all (map (λ s. payments_of s.node_data) ss)

unfoldable pub readable : List (List ℕ) → List Payment
readable [] = []
readable (t ∷ ts) = or_else (read_payment (value_of t)) (readable ts) (λ p. p ∷ readable ts)

-- "Unreadable ones .. are counted, not summed"
unfoldable pub unreadable : List (List ℕ) → ℕ
unreadable [] = 0
unreadable (t ∷ ts) = or_else (read_payment (value_of t)) (suc (unreadable ts)) (λ p. unreadable ts)

abbrev pub amounts : List Payment → List ℤ
amounts ps = map (λ p. p.amount) ps

unfoldable pub total_of : ℕ → List Statement → ℤ
total_of h ss = sumℤ (amounts (keep (λ p. nat_eq p.household h) (readable (payments_in ss))))

unfoldable pub sum_of : List Statement → ℤ
sum_of ss = sumℤ (amounts (readable (payments_in ss)))

abbrev pub reachable : ℕ → State → List Statement
reachable clock s = statements (reached s.own clock s.table)

-- "the count comes with every total and sum"
pub record Summed : Type 0 where
  pub number : ℕ
  pub value : ℤ
  pub unread : ℕ

abbrev pub not_summed : ℕ → Summed
not_summed n = record { number = n; value = pos 0; unread = 0 }

abbrev pub refusal_total : ℕ → ℕ → ℕ → State → ℕ
refusal_total clock h table s = first_of (late clock ∷ back clock s ∷ small_table table ∷ no_household h ∷ [])

unfoldable pub total : ℕ → ℕ → ℕ → State → Summed
total clock h table s =
    let n : ℕ = refusal_total clock h table s in
    cond (n == 0) (record { number = 0; value = total_of h (reachable clock s); unread = unreadable (payments_in (reachable clock s)) }) (not_summed n)

abbrev pub refusal_sum : ℕ → ℕ → State → ℕ
refusal_sum clock table s = first_of (late clock ∷ back clock s ∷ small_table table ∷ [])

unfoldable pub sum : ℕ → ℕ → State → Summed
sum clock table s =
    let n : ℕ = refusal_sum clock table s in
    cond (n == 0) (record { number = 0; value = sum_of (reachable clock s); unread = unreadable (payments_in (reachable clock s)) }) (not_summed n)
