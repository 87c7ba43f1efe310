-- What the program `totals` prints (document 01, Payments, totals, the book). Assumes nothing.
use Rattle.std.specs.Prelude.{◌≡◌, List, [], ◌∷◌, ◌++◌, map, ℕ, zero, suc, ◌≤◌, length, take, drop, eqb}
use Rattle.base.specs.Lists.{any, keep, join_all, or_else}
use Rattle.text.specs.Decimal.{decimal, line}
use Rattle.wire.specs.Payment.{Payment, most_household}
use Rattle.model.specs.Table.{Statement, statements}
use Rattle.model.specs.Reach.{reached}
use Rattle.model.specs.Totals.{payments_in, readable, total_of, sum_of}
use Rattle.model.specs.Snapshot.{load}

-- "household total", "all", "refused"
abbrev pub heading : List ℕ
heading = 104 ∷ 111 ∷ 117 ∷ 115 ∷ 101 ∷ 104 ∷ 111 ∷ 108 ∷ 100 ∷ 32 ∷ 116 ∷ 111 ∷ 116 ∷ 97 ∷ 108 ∷ 10 ∷ []

abbrev pub all_name : List ℕ
all_name = 97 ∷ 108 ∷ 108 ∷ []

abbrev pub refused_line : List ℕ
refused_line = 114 ∷ 101 ∷ 102 ∷ 117 ∷ 115 ∷ 101 ∷ 100 ∷ 10 ∷ []

-- 1 to n
unfoldable pub up_to : ℕ → List ℕ
up_to zero = []
up_to (suc n) = up_to n ++ (suc n ∷ [])

-- "per household with a readable payment in reach", "ascending"
abbrev pub payers : List Payment → List ℕ
payers ps = keep (λ h. any (λ p. eqb p.household h) ps) (up_to most_household)

unfoldable pub report : List Statement → List ℕ
report ss = heading ++ (join_all (map (λ h. line (decimal h) (total_of h ss)) (payers (readable (payments_in ss)))) ++ line all_name (sum_of ss))

-- "takes it as saved (Peer TLVs kept, nothing republished)": its ages count from reading 0, and it is read at that reading
unfoldable pub printed : List ℕ → List ℕ
printed bytes = or_else (load 0 bytes) refused_line (λ b. report (statements (reached b.own 0 b.entries)))

-- room for the longest report: a heading, a line for each of the payments that fit a table, and the sum
abbrev pub report_bytes : ℕ
report_bytes = 131072

-- the report stands at the front of the room, and r is its length; the bytes after it stay
pub record PrintedTo (bytes q q' : List ℕ) (r : ℕ) : Type 0 where
  pub within : r ≤ length q'
  pub front : take r q' ≡ printed bytes
  pub rest : drop r q' ≡ drop r q
  pub room : length q' ≡ length q
