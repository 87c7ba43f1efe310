-- An input longer than any snapshot is refused, and so is its beginning. Assumes nothing.
use mathlib.Core.Path.{◌≡◌, sym, ap, ◌∙◌}
use mathlib.Core.List.{List}
use mathlib.Core.Option.{some}
use Prim.Native.Nat.{ℕ, ◌<◌, ◌≤◌}
use native.Mathlib.Omega.{arith}
use lib.Dec.{ltb}
use lib.ListN.{length, take, length-append}
use lib.Seq.{take_all, length-take-le}
use borrow.Author.Tests.{ltb-true, ltb-false}
use Rattle.base.specs.Bytes.{Bytes}
use Rattle.base.proofs.Tests.{by_test}
use Rattle.base.proofs.Options.{by_option}
use Rattle.base.proofs.Bytes.{bytes_take}
use Rattle.model.specs.Figures.{snapshot_bytes}
use Rattle.model.specs.Invariant.{SnapshotFits}
use Rattle.model.specs.Snapshot.{Snapshot, load}
use Rattle.model.proofs.Snapshots.{snapshots, load_fits, saved_head, saved_entries, saved-is, head_short, entries-short}
use Rattle.report.specs.Report.{refused_line, printed}
use Rattle.report.specs.Reading.{Cut}

-- what loads is short
loads-short : (bytes : List ℕ) (b : Snapshot) → Bytes bytes → load 0 bytes ≡ some b → length bytes ≤ snapshot_bytes
loads-short bytes b k e =
    let f : SnapshotFits 0 b = load_fits 0 bytes b e in
    let q = snapshots.once 0 bytes b k e ∙ saved-is b.own 0 b.entries in
    omega (
      arith,
      ap length q,
      length-append (saved_head b.own (length b.entries)) (saved_entries 0 b.entries),
      head_short b.own (length b.entries) f.own f.table.nodes,
      entries-short 0 0 b.entries f.table.entries,
      f.table.nodes,
    )

long : (bytes : List ℕ) → Bytes bytes → snapshot_bytes < length bytes → printed bytes ≡ refused_line
unfolding printed
long bytes k l = by_option (load 0 bytes) (λ e. rw e) (λ b e. absurd (omega (arith, loads-short bytes b k e)))

same : (n : ℕ) (bytes : List ℕ) → Bytes bytes → snapshot_bytes < n → printed (take n bytes) ≡ printed bytes
same n bytes k l =
    by_test (ltb n (length bytes))
    (λ b. let p : n < length bytes = ltb-true n (length bytes) b in
    long (take n bytes) (bytes_take n bytes k) (rw (length-take-le n bytes (omega arith)) l) ∙ sym (long bytes k (omega arith)))
    (λ b. ap printed (take_all n bytes (ltb-false n (length bytes) b)))

pub cut : Cut
cut = record { long = long; same = same }
