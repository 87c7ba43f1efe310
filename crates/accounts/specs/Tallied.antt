-- What a sum over nodes answers: a payment, a TLV and a node more. Assumes nothing.
use Rattle.std.specs.Prelude.{◌≡◌, Bool, true, cond, List, ℕ, ◌+◌, ◌*◌, ◌/◌, ◌≤◌, eqb, ℤ, ◌+ℤ◌}
use Rattle.std.proofs.Math.Option.{Option, none, some}
use Rattle.std.specs.Int.Signed.{mag}
use Rattle.wire.specs.Payment.{Payment, amount_limit, read_payment}
use Rattle.model.specs.Figures.{most_nodes, data_limit}
use Rattle.model.specs.Table.{Statement}
use Rattle.model.specs.Totals.{total_of, sum_of, unreadable, payments_in}
use Rattle.accounts.specs.declared.totals.Whose.{Whose}
use Rattle.accounts.specs.declared.totals.Whose.TheVariants.{All, Of}
use Rattle.accounts.specs.declared.totals.Total.{Total}

-- the sum asked for: every household's, or one's
abbrev pub sum_for : Whose → List Statement → ℤ
sum_for All ss = sum_of ss
sum_for (Of household) ss = total_of household ss

-- the sum over these nodes, and how many of their payments are unreadable
pub record Tallied (w : Whose) (ss : List Statement) (r : Total) : Type 0 where
  pub value : r.value ≡ sum_for w ss
  pub unread : r.unread ≡ unreadable (payments_in ss)

abbrev pub payment_of : ℕ → ℕ → ℤ → Payment
payment_of household receipt amount = record { household = household; receipt = receipt; amount = amount }

-- ---- summing, step by step

-- the household's payments are summed
abbrev pub counted : Whose → ℕ → Bool
counted All household = true
counted (Of one) household = eqb household one

-- one payment TLV more, which reads as a payment or as none
abbrev pub add_paid : Whose → Option Payment → Total → Total
add_paid w none t = record { value = t.value; unread = t.unread + 1 }
add_paid w (some p) t = cond (counted w p.household) (record { value = t.value +ℤ p.amount; unread = t.unread }) t

-- one TLV more, of a type and a value
unfoldable pub add_tlv : Whose → ℕ → List ℕ → Total → Total
add_tlv w kind v t = cond (eqb kind 40) (add_paid w (read_payment v) t) t

-- these nodes' payments more
pub record Added (w : Whose) (ss : List Statement) (t r : Total) : Type 0 where
  pub value : r.value ≡ t.value +ℤ sum_for w ss
  pub unread : r.unread ≡ t.unread + unreadable (payments_in ss)

-- the statement of a node that publishes d: its identifier and number do not matter
abbrev pub publishing : List ℕ → Statement
publishing d = record { node = 0; seq = 0; node_data = d }

-- a TLV has 4 bytes at least, so that no more payments than these stand in a table
abbrev pub most_payments : ℕ
most_payments = most_nodes * (data_limit / 4)

-- t sums k payments at most
pub record Room (k : ℕ) (t : Total) : Type 0 where
  pub value : mag t.value ≤ k * amount_limit
  pub unread : t.unread ≤ k
