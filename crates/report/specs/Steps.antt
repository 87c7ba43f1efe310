-- What the steps of the report leave: a sum for each household that paid. Assumes nothing.
use Rattle.std.specs.Prelude.{◌≡◌, Option, Some, None, is_some, unwrap_or, Bool, cond, ◌||◌, List, map, ℕ, ◌+◌, ◌*◌, ◌≤◌, ◌<◌, length, get_or, set, drop, eqb, ℤ, pos, ◌+ℤ◌}
use Rattle.std.proofs.Math.Option.{Option as Maybe, none, some}
use Rattle.std.specs.Int.Signed.{mag}
use Rattle.base.specs.Lists.{any, keep, join_all}
use Rattle.wire.specs.Payment.{Payment, amount_limit, most_household, read_payment}
use Rattle.model.specs.Figures.{table_bytes}
use Rattle.model.specs.Table.{Statement, statements}
use Rattle.model.specs.Reach.{reached}
use Rattle.model.specs.Snapshot.{Snapshot, load}
use Rattle.model.specs.Totals.{payments_in, readable, total_of}
use Rattle.table.specs.declared.Table.{Table}
use Rattle.table.specs.View.{view, Kept, Lays}
use Rattle.text.specs.Decimal.{decimal, line}
use Rattle.report.specs.Report.{up_to}

-- ---- a sum for each household that paid, at the place of its number

abbrev pub households : ℕ
households = most_household + 1

abbrev pub Wide : List (Option ℤ) → Type 0
Wide s = households ≤ length s

abbrev pub sum_at : List (Option ℤ) → ℕ → ℤ
sum_at s h = unwrap_or (get_or s h None) (pos 0)

abbrev pub paid_at : List (Option ℤ) → ℕ → Bool
paid_at s h = is_some (get_or s h None)

-- every sum is one of k payments at most
pub record Small (k : ℕ) (s : List (Option ℤ)) : Type 0 where
  pub each : (h : ℕ) → h < households → mag (sum_at s h) ≤ k * amount_limit

-- what lies behind the households stays, and so does the length
pub record Behind (s s' : List (Option ℤ)) : Type 0 where
  pub rest : drop households s' ≡ drop households s
  pub long : length s' ≡ length s

-- nobody has paid yet
pub record Cleared (s : List (Option ℤ)) : Type 0 where
  pub each : (h : ℕ) → h < households → get_or s h None ≡ None

-- ---- one TLV

-- what a TLV of this type and value pays
unfoldable pub pays : ℕ → List ℕ → Maybe Payment
pays kind v = cond (eqb kind 40) (read_payment v) none

-- one payment more, or none
abbrev pub add_sum : Maybe Payment → List (Option ℤ) → List (Option ℤ)
add_sum none s = s
add_sum (some p) s = set s p.household (Some (sum_at s p.household +ℤ p.amount))

-- ---- nodes

-- these nodes publish a readable payment of household h
abbrev pub paid_in : List Statement → ℕ → Bool
paid_in ss h = any (λ p. eqb p.household h) (readable (payments_in ss))

-- these nodes' payments more
pub record SumsGrow (ss : List Statement) (s s' : List (Option ℤ)) : Type 0 where
  pub sums : (h : ℕ) → h < households → sum_at s' h ≡ sum_at s h +ℤ total_of h ss
  pub marks : (h : ℕ) → h < households → paid_at s' h ≡ paid_at s h || paid_in ss h

-- these nodes' payments and no others
pub record SumsAre (ss : List Statement) (s : List (Option ℤ)) : Type 0 where
  pub sums : (h : ℕ) → h < households → sum_at s h ≡ total_of h ss
  pub marks : (h : ℕ) → h < households → paid_at s h ≡ paid_in ss h

-- the lent memory besides the room: as it was where the snapshot is refused; else the sum of each household that paid is that of its reachable nodes,
-- its entries' data are laid in the table memory, each in a slot of its own, and all that lies behind or between them stays
pub record Lent (bytes m : List ℕ) (s : List (Option ℤ)) (m' : List ℕ) (s' : List (Option ℤ)) : Type 0 where
  pub refused : load 0 bytes ≡ none → (m' ≡ m) × (s' ≡ s)
  pub totals : (k : Snapshot) → load 0 bytes ≡ some k → SumsAre (statements (reached k.own 0 k.entries)) s'
  pub behind : Behind s s'
  pub lays : (k : Snapshot) → load 0 bytes ≡ some k → (t : Table) × (Kept t m' × ((view t m' ≡ k.entries) × Lays m k.entries t m'))
  pub beyond : drop table_bytes m' ≡ drop table_bytes m
  pub size : length m' ≡ length m

-- ---- lines

-- a line for each household up to n that m holds of, with its sum in v
unfoldable pub lines_to : ℕ → (ℕ → ℤ) → (ℕ → Bool) → List ℕ
lines_to n v m = join_all (map (λ h. line (decimal h) (v h)) (keep m (up_to n)))

abbrev pub lines : List (Option ℤ) → List ℕ
lines s = lines_to most_household (sum_at s) (paid_at s)
