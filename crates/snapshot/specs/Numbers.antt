-- What reading the numbers before an entry's data answers. Assumes nothing.
use Rattle.std.specs.Prelude.{◌≡◌, List, ℕ, ◌+◌, ◌≤◌, ◌<◌, length, drop, Option, Some, None}
use Rattle.std.proofs.Math.Option.{none, some}
use Rattle.base.specs.Bytes.{most_u32}
use Rattle.wire.specs.Groups.{read_groups}
use Rattle.model.specs.Figures.{most_age}
use Rattle.model.specs.Snapshot.{load_entries}
use Rattle.snapshot.specs.declared.read.Numbers.{Numbers}

-- an identifier from `low` on, a sequence number and an age stand one after the other from place `at` of s to place `next`
pub record Numbered (s : List ℕ) (at low : ℕ) (x : Numbers) : Type 0 where
  pub past_node : ℕ
  pub past_seq : ℕ
  pub first : read_groups most_u32 (drop at s) ≡ some (record { number = x.node; rest = drop past_node s })
  pub second : read_groups most_u32 (drop past_node s) ≡ some (record { number = x.seq; rest = drop past_seq s })
  pub third : read_groups most_age (drop past_seq s) ≡ some (record { number = x.age; rest = drop x.next s })
  pub high : low ≤ x.node
  pub node_fits : x.node ≤ most_u32
  pub seq_fits : x.seq ≤ most_u32
  pub age_fits : x.age ≤ most_age
  pub onward : at < x.next
  pub within : x.next ≤ length s

abbrev pub ReadNumbers : List ℕ → ℕ → ℕ → Option Numbers → Type 0
ReadNumbers s at low (Some x) = Numbered s at low x
ReadNumbers s at low None = (clock n : ℕ) → load_entries clock (n + 1) low (drop at s) ≡ none
