-- The lines of the households, put one behind the other. Assumes nothing.
use mathlib.Core.Path.{◌≡◌, subst}
use mathlib.Core.Bool.{true, false}
use mathlib.Core.List.{List, ◌++◌}
use Prim.Native.Nat.{ℕ, ◌+◌, ◌≤◌, ◌<◌}
use native.Mathlib.Omega.{arith}
use lib.ListN.{length}
use lib.IntN.{ℤ}
use Rattle.std.specs.Prelude.{Option}
use Rattle.text.specs.Decimal.{decimal, line}
use Rattle.text.specs.Room.{Put}
use Rattle.text.proofs.Puts.{put-none, put_then, second_fits}
use Rattle.wire.specs.Payment.{most_household}
use Rattle.report.specs.Steps.{sum_at, paid_at, lines_to, lines}
use Rattle.report.proofs.Lines.{lines_none, lines_in, lines-out, lines-least}

-- those of the households up to h
module _ (s : List (Option ℤ)) (room : List ℕ) (at : ℕ) where
  pub lines_start : Put (lines_to 0 (sum_at s) (paid_at s)) room at room at
  lines_start = rw (lines_none (sum_at s) (paid_at s)) (put-none room at)

  module _ (h : ℕ) (room1 : List ℕ) (e : ℕ) (p : Put (lines_to h (sum_at s) (paid_at s)) room at room1 e) where
    pub lines_end : h ≤ most_household → most_household ≤ h → Put (lines s) room at room1 e
    lines_end l k = let q : h ≡ most_household = omega arith in subst (λ (n : ℕ). Put (lines_to n (sum_at s) (paid_at s)) room at room1 e) q p

    pub lines_skip : paid_at s (h + 1) ≡ false → Put (lines_to (h + 1) (sum_at s) (paid_at s)) room at room1 e
    lines_skip m = rw (lines-out (sum_at s) (paid_at s) h m) p

    module _ (fits : at + length (lines s) ≤ length room) (l : h < most_household) (m : paid_at s (h + 1) ≡ true) where
      both-fit : at + length (lines_to h (sum_at s) (paid_at s) ++ line (decimal (h + 1)) (sum_at s (h + 1))) ≤ length room
      both-fit = rw (← lines_in (sum_at s) (paid_at s) h m) (omega (arith, lines-least (sum_at s) (paid_at s) (h + 1) most_household (omega arith)))

      pub line-fits : length room1 ≡ length room → e + length (line (decimal (h + 1)) (sum_at s (h + 1))) ≤ length room1
      line-fits k = second_fits (lines_to h (sum_at s) (paid_at s)) (line (decimal (h + 1)) (sum_at s (h + 1))) room at both-fit room1 e p k

      pub line-put : (room2 : List ℕ) (f : ℕ) → Put (line (decimal (h + 1)) (sum_at s (h + 1))) room1 e room2 f → Put (lines_to (h + 1) (sum_at s) (paid_at s)) room at room2 f
      line-put room2 f q =
          rw (lines_in (sum_at s) (paid_at s) h m)
          (put_then (lines_to h (sum_at s) (paid_at s)) (line (decimal (h + 1)) (sum_at s (h + 1))) room at room1 e room2 f p q both-fit)
