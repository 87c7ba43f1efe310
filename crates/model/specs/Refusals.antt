-- The numbers a call may answer, and when each applies (document 01, Numbers a call may answer; document 02, Keep quiet links alive). Assumes nothing.
use Rattle.std.specs.Prelude.{ℕ, ◌+◌, Bool, cond, not, ◌&&◌, ◌||◌, List, [], ◌∷◌, length, nat_le, nat_lt}
use Rattle.base.specs.Lists.{is_some}
use Rattle.wire.specs.Row.{is_row, tlvs}
use Rattle.wire.specs.Order.{among}
use Rattle.wire.specs.Payment.{Payment, most_household, payment_tlv}
use Rattle.model.specs.Figures.{most_endpoints, last_reading, table_bytes, most_bytes, publish_limit, least_keep_alive, most_keep_alive}
use Rattle.model.specs.Table.{look}
use Rattle.model.specs.State.{State, own_data}

-- a number, and whether it applies
pub record Row : Type 0 where
  pub number : ℕ
  pub applies : Bool

-- "the first in the order that applies is given", 0 if none does
abbrev pub first_of : List Row → ℕ
first_of [] = 0
first_of (r ∷ rs) = cond r.applies r.number (first_of rs)

-- 1: "clock above 2^62 - 1"
abbrev pub late : ℕ → Row
late clock = record { number = 1; applies = nat_lt last_reading clock }

-- 2: "clock below the last accepted reading"
abbrev pub back : ℕ → State → Row
back clock s = record { number = 2; applies = nat_lt clock s.last }

-- 3: "endpoint not 1 to 4"
abbrev pub no_such_endpoint : ℕ → Row
no_such_endpoint i = record { number = 3; applies = not (nat_le 1 i && nat_le i most_endpoints) }

-- 4: "a lent buffer is below its figure": the table memory alone, or with the room for what is sent or saved
abbrev pub small_table : ℕ → Row
small_table table = record { number = 4; applies = nat_lt table table_bytes }

abbrev pub small_room : ℕ → ℕ → ℕ → Row
small_room table room least = record { number = 4; applies = nat_lt table table_bytes || nat_lt room least }

-- 5: "datagram over 4,096 bytes"; 6: "datagram is not a row of whole TLVs with zero padding"
abbrev pub long : List ℕ → Row
long datagram = record { number = 5; applies = nat_lt most_bytes (length datagram) }

abbrev pub no_row : List ℕ → Row
no_row datagram = record { number = 6; applies = not (is_row datagram) }

-- 7: "household outside 1 to 9,999"
abbrev pub no_household : ℕ → Row
no_household h = record { number = 7; applies = not (nat_le 1 h && nat_le h most_household) }

-- 8: "this very payment stands in our data already"; 9: "the payment doesn't fit in our 1,024 bytes"
abbrev pub paid_already : Payment → State → Row
paid_already p s = record { number = 8; applies = among (payment_tlv p) (tlvs (own_data s)) }

abbrev pub full : Payment → State → Row
full p s = record { number = 9; applies = nat_lt publish_limit (length (own_data s) + length (payment_tlv p)) }

-- 10: "no such box in the table"
abbrev pub no_such_node : ℕ → State → Row
no_such_node n s = record { number = 10; applies = not (is_some (look n s.table)) }

-- 12: "an interval of 0 or above 600,000"
abbrev pub no_interval : ℕ → Row
no_interval n = record { number = 12; applies = not (nat_le least_keep_alive n && nat_le n most_keep_alive) }
