-- The small snapshots computed from the definitions; only the households are gone through by a law. Assumes nothing.
use mathlib.Core.Path.{◌≡◌, refl, ap, ◌∙◌}
use mathlib.Core.Bool.{Bool, false, ◌||◌, or-false}
use mathlib.Core.List.{List, [], ◌∷◌, ◌++◌, append-nil}
use Prim.Native.Nat.{ℕ}
use native.Mathlib.Omega.{arith}
use lib.Dec.{eqb}
use lib.IntN.{ℤ}
use lib.ListN.{drop}
use Rattle.base.specs.Sorted.{find}
use Rattle.base.proofs.Tests.{by_test}
use Rattle.base.proofs.Lists.{keep_same, keep-never}
use Rattle.wire.specs.Row.{type_of, length_of, value_of, size_of, heads, row_of, row, tlvs}
use Rattle.wire.specs.Order.{before, climbs, ascending, good}
use Rattle.wire.specs.Groups.{any_groups, read_groups}
use Rattle.wire.specs.Payment.{most_household, unfolded, ended, read_payment}
use Rattle.model.specs.Table.{Statement, look}
use Rattle.model.specs.Reach.{links, joined, touched, levels_from, levels, met, marked, in_reach, reached}
use Rattle.model.specs.Totals.{payments_in, readable, total_of, sum_of}
use Rattle.model.specs.Snapshot.{reads, load_entries, load}
use Rattle.model.specs.Examples.{sample}
use Rattle.text.specs.Decimal.{decimal_of, decimal, signed, line}
use Rattle.report.specs.Report.{heading, all_name, up_to, report, printed}
use Rattle.report.specs.Steps.{paid_in, lines_to}
use Rattle.report.specs.Sample.{Samples, alone, minus, plus, overlong}
use Rattle.report.proofs.Lines.{only_one}
use Rattle.report.proofs.Printing.{report-is}

-- the lines where household 17 alone has paid, and where none has
lines-one : (v : ℕ → ℤ) (m : ℕ → Bool) → ((h : ℕ) → m h ≡ eqb 17 h) → lines_to most_household v m ≡ line (decimal 17) (v 17)
unfolding lines_to
lines-one v m e = rw (keep_same m (eqb 17) (up_to most_household) (λ h m. e h) ∙ only_one 17 most_household (omega arith) (omega arith)) (append-nil (line (decimal 17) (v 17)))

lines_no : (v : ℕ → ℤ) (m : ℕ → Bool) → ((h : ℕ) → m h ≡ false) → lines_to most_household v m ≡ []
unfolding lines_to
lines_no v m e = rw (keep-never m (up_to most_household) e)

-- node 1 alone publishes d
abbrev says : List ℕ → List Statement
says d = record { node = 1; seq = 1; node_data = d } ∷ []

report-one : (ss : List Statement) → ((h : ℕ) → paid_in ss h ≡ eqb 17 h) → report ss ≡ heading ++ (line (decimal 17) (total_of 17 ss) ++ line all_name (sum_of ss))
report-one ss e = report-is ss ∙ ap (λ (l : List ℕ). heading ++ (l ++ line all_name (sum_of ss))) (lines-one (λ h. total_of h ss) (paid_in ss) e)

report_no : (ss : List Statement) → ((h : ℕ) → paid_in ss h ≡ false) → report ss ≡ heading ++ line all_name (sum_of ss)
report_no ss e = report-is ss ∙ ap (λ (l : List ℕ). heading ++ (l ++ line all_name (sum_of ss))) (lines_no (λ h. total_of h ss) (paid_in ss) e)

-- ---- each snapshot loads to node 1 alone

loads-document : printed sample ≡ report (says (drop 7 sample))
unfolding printed find type_of length_of value_of size_of heads row_of row tlvs before climbs ascending good any_groups read_groups look links joined touched levels_from levels met marked in_reach reached reads load_entries load
loads-document = refl

loads-minus : printed (alone 8 minus) ≡ report (says minus)
unfolding printed find type_of length_of value_of size_of heads row_of row tlvs before climbs ascending good any_groups read_groups look links joined touched levels_from levels met marked in_reach reached reads load_entries load
loads-minus = refl

loads_both : printed (alone 16 (minus ++ plus)) ≡ report (says (minus ++ plus))
unfolding printed find type_of length_of value_of size_of heads row_of row tlvs before climbs ascending good any_groups read_groups look links joined touched levels_from levels met marked in_reach reached reads load_entries load
loads_both = refl

loads-overlong : printed (alone 8 overlong) ≡ report (says overlong)
unfolding printed find type_of length_of value_of size_of heads row_of row tlvs before climbs ascending good any_groups read_groups look links joined touched levels_from levels met marked in_reach reached reads load_entries load
loads-overlong = refl

loads-empty : printed (alone 0 []) ≡ report (says [])
unfolding printed find type_of length_of value_of size_of heads row_of row tlvs before climbs ascending good any_groups read_groups look links joined touched levels_from levels met marked in_reach reached reads load_entries load
loads-empty = refl

-- ---- and who has paid there

one : (h : ℕ) → eqb 17 h || false ≡ eqb 17 h
one h = or-false (eqb 17 h)

twice : (h : ℕ) → eqb 17 h || (eqb 17 h || false) ≡ eqb 17 h
twice h = by_test (eqb 17 h) (λ e. rw e) (λ e. rw e)

paid-document : (h : ℕ) → paid_in (says (drop 7 sample)) h ≡ eqb 17 h
unfolding type_of length_of value_of size_of heads row_of row tlvs any_groups read_groups ended read_payment payments_in readable
paid-document h = one h

paid-minus : (h : ℕ) → paid_in (says minus) h ≡ eqb 17 h
unfolding type_of length_of value_of size_of heads row_of row tlvs any_groups read_groups ended read_payment payments_in readable
paid-minus h = one h

paid-both : (h : ℕ) → paid_in (says (minus ++ plus)) h ≡ eqb 17 h
unfolding type_of length_of value_of size_of heads row_of row tlvs any_groups read_groups ended read_payment payments_in readable
paid-both h = twice h

paid-overlong : (h : ℕ) → paid_in (says overlong) h ≡ false
unfolding type_of length_of value_of size_of heads row_of row tlvs any_groups read_groups ended read_payment payments_in readable
paid-overlong h = refl

paid-empty : (h : ℕ) → paid_in (says []) h ≡ false
unfolding row_of row tlvs payments_in readable
paid-empty h = refl

pub samples : Samples
unfolding printed type_of length_of value_of size_of heads row_of row tlvs any_groups read_groups unfolded ended read_payment payments_in readable total_of sum_of reads load_entries load look find decimal_of signed before climbs ascending good
samples =
    record {
      document = loads-document ∙ report-one (says (drop 7 sample)) paid-document;
      negative = loads-minus ∙ report-one (says minus) paid-minus;
      cancelled = loads_both ∙ report-one (says (minus ++ plus)) paid-both;
      unread = loads-overlong ∙ report_no (says overlong) paid-overlong;
      empty = loads-empty ∙ report_no (says []) paid-empty;
      nothing = refl;
      edition = refl;
      over = refl;
    }
