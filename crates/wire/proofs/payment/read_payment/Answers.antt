use borrow.Author.Rules.{rules}
use mir.Syntax.{w32}
use mir.Val.{SFits}
use Rattle.base.proofs.Signed.{narrow_back}
use Rattle.wire.proofs.Payments.{first_bad, second_bad, third_bad, one-read, two_read, three_read, ended_more, ended-low, ended-high, ended_well}
use native.Mathlib.Omega.{arith}
use mathlib.Core.Path.{sym, ◌∙◌}
use lib.ListN.{drop, length-drop}
use Rattle.wire.proofs.payment.read_payment.Goals as goal
use Rattle.wire.proofs.payment.read_payment.Goals.{then-household-lt-LEAST_HOUSEHOLD-via-then-household-lt-LEAST_HOUSEHOLD, then-household-lt-LEAST_HOUSEHOLD-via-else-household-lt-LEAST_HOUSEHOLD+then-household-gt-MOST_HOUSEHOLD}

pub returns-in_err-first : goal.returns-in_err-first
returns-in_err-first c =
    rw c.from_residual.ensures (sym (first_bad c.args.value.now (sym c.in_err-first.ensures.0)))

pub returns-in_err-second : goal.returns-in_err-second
returns-in_err-second c =
    let s = c.args.value.now in
    let h = c.in_ok-first.first in
    rw c.from_residual-in_err-second.ensures (sym (one-read s h.number h.next c.in_ok-first.ensures.0 ∙ second_bad h.number (drop h.next s) (sym c.in_err-second.ensures.0)))

pub returns-in_err-third : goal.returns-in_err-third
returns-in_err-third c =
    let s = c.args.value.now in
    let h = c.in_ok-first.first in
    let r = c.in_ok-second.second in
    rw c.from_residual-in_err-third.ensures (sym (two_read s h.number h.next c.in_ok-first.ensures.0 r.number r.next c.in_ok-second.ensures.0 ∙ third_bad h.number r.number (drop r.next s) (sym c.in_err-third.ensures.0)))

pub returns-then-third-value : goal.returns-then-third-value
returns-then-third-value c =
    let s = c.args.value.now in
    let h = c.in_ok-first.first in
    let r = c.in_ok-second.second in
    let f = c.in_ok-third.third in
    sym (three_read s h.number h.next c.in_ok-first.ensures.0 r.number r.next c.in_ok-second.ensures.0 f.number f.next c.in_ok-third.ensures.0 ∙ ended_more h.number r.number f.number (drop f.next s) (simp length-drop (omega arith)))

pub returns-then-household-lt-LEAST_HOUSEHOLD : goal.returns-then-household-lt-LEAST_HOUSEHOLD
returns-then-household-lt-LEAST_HOUSEHOLD c =
    let s = c.args.value.now in
    let h = c.in_ok-first.first in
    let r = c.in_ok-second.second in
    let f = c.in_ok-third.third in
    let e = three_read s h.number h.next c.in_ok-first.ensures.0 r.number r.next c.in_ok-second.ensures.0 f.number f.next c.in_ok-third.ensures.0 in
    elim c.then-household-lt-LEAST_HOUSEHOLD.branch [
      | then-household-lt-LEAST_HOUSEHOLD-via-then-household-lt-LEAST_HOUSEHOLD w ↦ sym (e ∙ ended-low h.number r.number f.number (drop f.next s) (omega arith))
      | then-household-lt-LEAST_HOUSEHOLD-via-else-household-lt-LEAST_HOUSEHOLD+then-household-gt-MOST_HOUSEHOLD w ↦ sym (e ∙ ended-high h.number r.number f.number (drop f.next s) (omega arith))
    ]

pub returns : goal.returns
returns c =
    let s = c.args.value.now in
    let h = c.in_ok-first.first in
    let r = c.in_ok-second.second in
    let f = c.in_ok-third.third in
    let fx : SFits w32 c.unfold.result = search rules in
    rw (narrow_back w32 c.unfold.result fx, c.unfold.ensures) (sym (three_read s h.number h.next c.in_ok-first.ensures.0 r.number r.next c.in_ok-second.ensures.0 f.number f.next c.in_ok-third.ensures.0 ∙ ended_well h.number r.number f.number (drop f.next s) (simp length-drop (omega arith)) (omega arith) (omega arith)))
