-- Why the program may stop reading behind the longest snapshot. Assumes nothing.
use Rattle.std.specs.Prelude.{◌≡◌, List, ℕ, ◌<◌, length, take}
use Rattle.base.specs.Bytes.{Bytes}
use Rattle.model.specs.Figures.{snapshot_bytes}
use Rattle.report.specs.Report.{refused_line, printed}

pub record Cut : Type 0 where
  -- "at most 33,319 bytes": a longer input is refused
  pub long : (bytes : List ℕ) → Bytes bytes → snapshot_bytes < length bytes → printed bytes ≡ refused_line
  -- so that the first n bytes, one more than a snapshot has or more of them, print the same as the whole input
  pub same : (n : ℕ) (bytes : List ℕ) → Bytes bytes → snapshot_bytes < n → printed (take n bytes) ≡ printed bytes
