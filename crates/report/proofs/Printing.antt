-- The report piece by piece, its length, and what is printed of a snapshot. Assumes nothing.
use mathlib.Core.Path.{◌≡◌, refl, sym, ap, ◌∙◌}
use mathlib.Core.Bool.{Bool, true}
use mathlib.Core.List.{List, [], ◌∷◌, ◌++◌}
use Prim.Native.Nat.{ℕ, ◌+◌, ◌^◌, ◌≤◌, ◌<◌}
use native.Mathlib.Omega.{arith}
use lib.ListN.{drop, length, length-append}
use lib.IntN.{ℤ}
use Rattle.std.specs.Prelude.{Option}
use lib.Signed.{mag}
use mir.Syntax.{w64}
use mir.Val.{SFits}
use Rattle.base.specs.Lists.{keep, keep_by, is_some}
use Rattle.base.specs.Memory.{written}
use Rattle.base.proofs.Options.{nothing}
use mathlib.Core.Option.{none}
use Rattle.base.proofs.Lists.{all_keep_by, all_more}
use Rattle.base.proofs.Marks.{keep_by_length}
use Rattle.base.proofs.Written.{written-length, written-there, written-above}
use Rattle.wire.specs.Payment.{most_household}
use Rattle.model.specs.Figures.{most_nodes, data_limit, table_bytes}
use Rattle.wire.specs.Order.{good}
use Rattle.model.specs.Table.{Entry, Statement, statements, look}
use Rattle.model.specs.Snapshot.{load}
use Rattle.model.specs.Invariant.{EntryFits, SnapshotFits}
use Rattle.model.specs.Totals.{payments_in, readable, total_of, sum_of}
use Rattle.model.proofs.Totals.{payments_good, tally-mag, of_household, any_payment, total-is, sum_is}
use Rattle.model.proofs.Snapshots.{load_fits}
use Rattle.table.specs.declared.Table.{Table}
use Rattle.table.specs.View.{view, Kept, AllGood}
use Rattle.table.proofs.Tables.{view-length}
use Rattle.reach.specs.Marks.{Readable, Reaching}
use Rattle.reach.specs.declared.Reached.{Reached}
use Rattle.reach.proofs.Reaching.{reached_by}
use Rattle.snapshot.specs.declared.load.Loaded.{Loaded}
use Rattle.snapshot.specs.Answers.{Holds}
use Rattle.text.specs.Decimal.{decimal, signed, line}
use Rattle.text.specs.Room.{Put}
use Rattle.text.proofs.Digits.{decimal-short, signed-short}
use Rattle.text.proofs.Puts.{put_then, first_fits, second_fits}
use Rattle.report.specs.Report.{heading, all_name, refused_line, up_to, report, printed, report_bytes, PrintedTo}
use Rattle.report.specs.Steps.{sum_at, paid_at, paid_in, Behind, SumsAre, Lent, lines_to, lines}
use Rattle.report.proofs.Adding.{behind-none}
use Rattle.report.proofs.Lines.{lines_same, lines-short, payers-few}
use Rattle.report.proofs.Few.{nodes-readable}

-- the lines of these nodes' households
abbrev pub lines_of : List Statement → List ℕ
lines_of ss = lines_to most_household (λ h. total_of h ss) (paid_in ss)

pub report-is : (ss : List Statement) → report ss ≡ heading ++ (lines_of ss ++ line all_name (sum_of ss))
unfolding report lines_to
report-is ss = refl

lines_are : (ss : List Statement) (s : List (Option ℤ)) → SumsAre ss s → lines s ≡ lines_of ss
lines_are ss s t = lines_same most_household (sum_at s) (λ h. total_of h ss) (paid_at s) (paid_in ss) (λ h l. t.sums h (omega arith)) (λ h l. t.marks h (omega arith))

-- ---- how long it can be: no sum of a table has more than 14 digits

line-length : (name : List ℕ) (v : ℤ) → length (line name v) ≡ length name + length (signed v) + 2
line-length name v = omega (arith, length-append name (32 ∷ (signed v ++ (10 ∷ []))), length-append (signed v) (10 ∷ []))

line-short : (h : ℕ) (v : ℤ) → h ≤ most_household → mag v + 1 < 10 ^ 14 → length (line (decimal h) v) ≤ 21
line-short h v l m = omega (arith, line-length (decimal h) v, decimal-short 3 h (omega arith), signed-short 13 v m)

module _ (es : List Entry) (g : AllGood es) (n : length es ≤ most_nodes) where
  all-few : length (payments_in (statements es)) ≤ 8192
  all-few = omega (arith, payments_good es g)

  total-small : (h : ℕ) → mag (total_of h (statements es)) + 1 < 10 ^ 14
  total-small h = rw (total-is h (statements es)) (omega (arith, all-few, tally-mag (of_household h) (payments_in (statements es))))

  sum-small : mag (sum_of (statements es)) + 1 < 10 ^ 14
  sum-small = rw (sum_is (statements es)) (omega (arith, all-few, tally-mag any_payment (payments_in (statements es))))

  pub sum_fits : SFits w64 (sum_of (statements es))
  sum_fits = record { sfits = omega (arith, sum-small) }

  payers-all : length (keep (paid_in (statements es)) (up_to most_household)) ≤ 4096
  payers-all = omega (arith, payers-few (readable (payments_in (statements es))) most_household, nodes-readable es g)

  pub report-short : length (report (statements es)) ≤ report_bytes
  report-short =
      let ss = statements es in
      rw (report-is ss)
      (omega (
        arith,
        length-append heading (lines_of ss ++ line all_name (sum_of ss)),
        length-append (lines_of ss) (line all_name (sum_of ss)),
        line-length all_name (sum_of ss),
        signed-short 13 (sum_of ss) sum-small,
        lines-short most_household 21 (λ h. total_of h ss) (paid_in ss) (λ h l. line-short h (total_of h ss) l (total-small h)),
        payers-all,
      ))

  -- ---- heading, lines and sum, one behind the other

  module _ (room : List ℕ) (fits : report_bytes ≤ length room) (s : List (Option ℤ)) (d : SumsAre (statements es) s)
      (room1 : List ℕ) (p1 : room1 ≡ written room 0 heading) (l1 : length room1 ≡ length room) where
    whole_is : report (statements es) ≡ heading ++ (lines s ++ line all_name (sum_of (statements es)))
    whole_is = report-is (statements es) ∙ ap (λ (l : List ℕ). heading ++ (l ++ line all_name (sum_of (statements es)))) (sym (lines_are (statements es) s d))

    whole-fits : 0 + length (heading ++ (lines s ++ line all_name (sum_of (statements es)))) ≤ length room
    whole-fits = omega (arith, report-short, ap length whole_is)

    after-heading : Put heading room 0 room1 16
    after-heading = record { there = p1; next = refl }

    tail_fits : 16 + length (lines s ++ line all_name (sum_of (statements es))) ≤ length room1
    tail_fits = second_fits heading (lines s ++ line all_name (sum_of (statements es))) room 0 whole-fits room1 16 after-heading l1

    pub lines_fit : 16 + length (lines s) ≤ length room1
    lines_fit = first_fits (lines s) (line all_name (sum_of (statements es))) room1 16 tail_fits

    module _ (room2 : List ℕ) (e : ℕ) (p2 : Put (lines s) room1 16 room2 e) where
      pub all-fits : length room2 ≡ length room1 → e + length (line all_name (sum_of (statements es))) ≤ length room2
      all-fits l2 = second_fits (lines s) (line all_name (sum_of (statements es))) room1 16 tail_fits room2 e p2 l2

      pub report-put : (room3 : List ℕ) (r : ℕ) → Put (line all_name (sum_of (statements es))) room2 e room3 r → Put (report (statements es)) room 0 room3 r
      report-put room3 r p3 =
          let l : List ℕ = line all_name (sum_of (statements es)) in
          rw whole_is
          (put_then heading (lines s ++ l) room 0 room1 16 room3 r after-heading (put_then (lines s) l room1 16 room2 e room3 r p2 p3 tail_fits) whole-fits)

-- ---- the marked nodes of a table

module _ (t : Table) (m : List ℕ) (k : Kept t m) (g : AllGood (view t m)) (marks : List Bool) where
  pub marked-good : AllGood (keep_by marks (view t m))
  marked-good = all_keep_by (λ e. good data_limit e.says.node_data ≡ true) marks (view t m) g

  pub marked-few : length (keep_by marks (view t m)) ≤ most_nodes
  marked-few = omega (arith, keep_by_length marks (view t m), view-length t k.arranged m, k.arranged.most)

-- ---- what is printed

pub printed_to : (bytes room room' : List ℕ) (r : ℕ) → Put (printed bytes) room 0 room' r → length (printed bytes) ≤ length room → PrintedTo bytes room room' r
printed_to bytes room room' r p h =
    let e : r ≡ length (printed bytes) = omega (arith, p.next) in
    record {
      within = rw p.there (omega (arith, written-length room (printed bytes) 0 (omega arith)));
      front = rw (p.there, e) (written-there room (printed bytes) 0 (omega arith));
      rest = rw p.there (written-above room (printed bytes) 0 (omega arith) r (omega arith));
      room = rw p.there (written-length room (printed bytes) 0 (omega arith));
    }

printed-none : (bytes : List ℕ) → load 0 bytes ≡ none → printed bytes ≡ refused_line
unfolding printed
printed-none bytes e = rw e

pub refused_to : (bytes m m' : List ℕ) → (load 0 bytes ≡ none) × (m' ≡ m) → (room room' : List ℕ) → report_bytes ≤ length room → room' ≡ written room 0 refused_line → (s : List (Option ℤ))
    → PrintedTo bytes room room' 8 × Lent bytes m s m' s
refused_to bytes m m' l room room' h e s =
    let q : printed bytes ≡ refused_line = printed-none bytes l.0 in (
      printed_to bytes room room' 8 (rw q (record { there = e; next = refl })) (rw q (omega arith)),
      record {
        refused = λ o. (l.1, refl);
        totals = λ k o. nothing k (sym l.0 ∙ o);
        behind = behind-none s;
        lays = λ k o. nothing k (sym l.0 ∙ o);
        beyond = ap (drop table_bytes) l.1;
        size = ap length l.1;
      },
    )

module _ (bytes m : List ℕ) (f : Loaded) (m' : List ℕ) (l : Holds 0 bytes m f m') where
  fits_all : SnapshotFits 0 (record { own = f.own; entries = view f.table m' })
  fits_all = load_fits 0 bytes (record { own = f.own; entries = view f.table m' }) l.loads

  pub loaded_readable : Readable 0 f.table m'
  loaded_readable = record { kept = l.kept; entries = fits_all.table.entries; reading = omega arith }

  pub loaded_held : is_some (look f.own (view f.table m')) ≡ true
  loaded_held = fits_all.table.held

  pub loaded_good : AllGood (view f.table m')
  loaded_good = all_more (EntryFits 0) (λ e. good data_limit e.says.node_data ≡ true) (λ e h. h.fine) (view f.table m') fits_all.table.entries

  module _ (r : Reached) (a : Reaching f.own 0 (view f.table m') r) where
    loaded_printed : printed bytes ≡ report (statements (keep_by r.marks (view f.table m')))
    unfolding printed
    loaded_printed = rw (l.loads, reached_by f.own 0 (view f.table m') r.marks a.marks)

    loaded_filled : (s : List (Option ℤ)) (s' : List (Option ℤ)) → SumsAre (statements (keep_by r.marks (view f.table m'))) s' → Behind s s'
        → Lent bytes m s m' s'
    loaded_filled s s' t k =
        record {
          refused = λ e. nothing (record { own = f.own; entries = view f.table m' }) (sym e ∙ l.loads);
          totals = λ x e. let q : x ≡ record { own = f.own; entries = view f.table m' } = cc l.loads in
              rw (q, ← reached_by f.own 0 (view f.table m') r.marks a.marks) t;
          behind = k;
          lays = λ x e. let q : x ≡ record { own = f.own; entries = view f.table m' } = cc l.loads in
              (f.table, (l.kept, rw q (refl, l.lays)));
          beyond = l.beyond;
          size = l.size;
        }

    pub loaded_to : (room room' : List ℕ) (n : ℕ) → report_bytes ≤ length room → (s : List (Option ℤ)) (s' : List (Option ℤ))
        → Put (report (statements (keep_by r.marks (view f.table m')))) room 0 room' n × (SumsAre (statements (keep_by r.marks (view f.table m'))) s' × Behind s s')
        → PrintedTo bytes room room' n × Lent bytes m s m' s'
    loaded_to room room' n h s s' p = (
      printed_to bytes room room' n (rw loaded_printed p.0)
          (rw loaded_printed
          (omega (arith, report-short (keep_by r.marks (view f.table m')) (marked-good f.table m' l.kept loaded_good r.marks) (marked-few f.table m' l.kept loaded_good r.marks)))),
      loaded_filled s s' p.1.0 p.1.1,
    )
