use borrow.Author.Rules.{rules}
use mathlib.Core.Path.{◌≡◌, ap}
use mathlib.Core.Bool.{true}
use Prim.Native.Nat.{◌+◌, ◌-◌}
use native.Mathlib.Omega.{arith}
use lib.IntN.{ℤ, pos}
use mir.Syntax.{w64}
use mir.Val.{SFits}
use Rattle.std.specs.Prelude.{Option, is_some, unwrap_or}
use Rattle.base.proofs.Signed.{narrow_back}
use Rattle.report.specs.Steps.{sum_at, paid_at}
use Rattle.report.proofs.Puts.{lines_start, line-fits, line-put, lines_skip}
use Rattle.report.proofs.put_lines.Goals as goal
use Rattle.report.proofs.put_lines.Goals.{in-Some, in_default}

pub loop-h-init : goal.loop-h-init
loop-h-init c = lines_start c.args.sums.now c.args.room.now c.args.at

pub put_household-e-requires : goal.put_household-e-requires
put_household-e-requires c =
    let h = c.loop-h.h in
    let f : SFits w64 c.in-Some.sum = search rules in
    let q : h - 1 + 1 ≡ h = omega arith in
    let v : sum_at c.args.sums.now h ≡ c.in-Some.sum = ap (λ (o : Option ℤ). unwrap_or o (pos 0)) c.in-Some.is in
    let p : paid_at c.args.sums.now h ≡ true = ap is_some c.in-Some.is in
    rw (narrow_back w64 c.in-Some.sum f)
    (rw (q, v) at (line-fits c.args.sums.now c.args.room.now c.args.at (h - 1) c.loop-h.room c.loop-h.e c.loop-h.invariant c.requires.1 (omega arith) (rw q p) c.loop-h.auto.room))

pub loop-h-preserved : goal.loop-h-preserved
loop-h-preserved c =
    let h = c.loop-h.h in
    let q : h - 1 + 1 ≡ h = omega arith in
    let n : h + 1 - 1 ≡ h - 1 + 1 = omega arith in
    elim c.match-sums-h.branch [
      | in-Some w ↦ let f : SFits w64 w.in-Some.sum = search rules in
          let v : sum_at c.args.sums.now h ≡ w.in-Some.sum = ap (λ (o : Option ℤ). unwrap_or o (pos 0)) w.in-Some.is in
          let p : paid_at c.args.sums.now h ≡ true = ap is_some w.in-Some.is in
          rw (n, w.room-is, w.e-is)
          (line-put c.args.sums.now c.args.room.now c.args.at (h - 1) c.loop-h.room c.loop-h.e c.loop-h.invariant c.requires.1 (omega arith) (rw q p) w.put_household-e.new.room w.put_household-e.result
          (rw (q, v) (rw (narrow_back w64 w.in-Some.sum f) at w.put_household-e.ensures)))
      | in_default w ↦ rw (n, w.room-is, w.e-is) (lines_skip c.args.sums.now c.args.room.now c.args.at (h - 1) c.loop-h.room c.loop-h.e c.loop-h.invariant (rw q (ap is_some w.in_default.is)))
    ]
