-- A payment into our own data, and purging (document 01, Payments; In reach). Assumes nothing.
use Rattle.std.specs.Prelude.{ℕ, cond, List, [], ◌∷◌, ◌==◌}
use Rattle.wire.specs.Payment.{Payment, payment_tlv}
use Rattle.model.specs.Reach.{reached}
use Rattle.model.specs.State.{State, with_table, own_data, publish, with_tlv, settle}
use Rattle.model.specs.Refusals.{first_of, late, back, small_table, no_household, paid_already, full}
use Rattle.model.specs.Begin.{Done}

-- the payment's TLV in its place in our data, published
unfoldable pub paid : ℕ → Payment → List ℕ → State → State
paid clock p randoms s = settle clock randoms (publish clock (with_tlv (payment_tlv p) (own_data s)) s)

abbrev pub refusal_pay : ℕ → Payment → ℕ → State → ℕ
refusal_pay clock p table s =
    first_of (late clock ∷ back clock s ∷ small_table table ∷ no_household p.household ∷ paid_already p s ∷ full p s ∷ [])

unfoldable pub pay : ℕ → Payment → List ℕ → ℕ → State → Done
pay clock p randoms table s =
    let n : ℕ = refusal_pay clock p table s in
    cond (n == 0) (record { number = 0; state = paid clock p randoms s }) (record { number = n; state = s })

-- "Forgetting .. drops every box not in reach"
unfoldable pub purged : ℕ → List ℕ → State → State
purged clock randoms s = settle clock randoms (with_table (reached s.own clock s.table) s)

abbrev pub refusal_purge : ℕ → ℕ → State → ℕ
refusal_purge clock table s = first_of (late clock ∷ back clock s ∷ small_table table ∷ [])

unfoldable pub purge : ℕ → List ℕ → ℕ → State → Done
purge clock randoms table s =
    let n : ℕ = refusal_purge clock table s in
    cond (n == 0) (record { number = 0; state = purged clock randoms s }) (record { number = n; state = s })
