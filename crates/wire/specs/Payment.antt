-- Payments (document 01, Payments). Assumes nothing.
use Rattle.std.specs.Prelude.{cond, ◌&&◌, List, [], ◌∷◌, ◌++◌, ℕ, ◌+◌, ◌*◌, ◌/◌, ◌%◌, ◌≤◌, eqb, leb, ℤ, pos, negsuc}
use Rattle.std.proofs.Math.Option.{Option, none, some}
use Rattle.base.specs.Bytes.{most_u32}
use Rattle.base.specs.Lists.{or_else}
use Rattle.wire.specs.Row.{encode}
use Rattle.wire.specs.Groups.{groups, read_groups}

pub record Payment : Type 0 where
  pub household : ℕ
  pub receipt : ℕ
  pub amount : ℤ

-- "0, -1, 1, -2 become 0, 1, 2, 3"
abbrev pub folded : ℤ → ℕ
folded (pos n) = n * 2
folded (negsuc n) = n * 2 + 1

unfoldable pub unfolded : ℕ → ℤ
unfolded n = cond (eqb (n % 2) 0) (pos (n / 2)) (negsuc (n / 2))

-- "household, receipt, amount, each in seven-bit groups"
unfoldable pub payment_value : Payment → List ℕ
payment_value p = groups p.household ++ (groups p.receipt ++ groups (folded p.amount))

-- "40 is a payment"
unfoldable pub payment_tlv : Payment → List ℕ
payment_tlv p = encode 40 (payment_value p)

-- "amount any signed 32-bit number": 31 bits and a sign
abbrev pub amount_limit : ℕ
amount_limit = 2147483648

-- "Households 1 to 9,999"
abbrev pub most_household : ℕ
most_household = 9999

-- "Nothing may follow the three, and a household outside 1 to 9,999 is unreadable"
unfoldable pub ended : ℕ → ℕ → ℕ → List ℕ → Option Payment
ended h r a [] = cond (leb 1 h && leb h most_household) (some (record { household = h; receipt = r; amount = unfolded a })) none
ended h r a (b ∷ s) = none

-- "each in seven-bit groups .., below 2^32"
unfoldable pub read_payment : List ℕ → Option Payment
read_payment s =
    or_else (read_groups most_u32 s) none
    (λ h. or_else (read_groups most_u32 h.rest) none (λ r. or_else (read_groups most_u32 r.rest) none (λ a. ended h.number r.number a.number a.rest)))

-- what can be written: every number in its range
pub record Payable (p : Payment) : Type 0 where
  pub low : 1 ≤ p.household
  pub high : p.household ≤ most_household
  pub receipt : p.receipt ≤ most_u32
  pub amount : folded p.amount ≤ most_u32
