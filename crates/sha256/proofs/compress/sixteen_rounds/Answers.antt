use mathlib.Core.Path.{refl, sym}
use native.Mathlib.Nat.{add-zero}
use native.Mathlib.Omega.{arith}
use Rattle.sha256.proofs.Rounds.{no_rounds, round-more}
use Rattle.sha256.proofs.compress.sixteen_rounds.Goals as goal

pub returns : goal.returns
returns c =
    let r1 = round-more (sym (add-zero c.args.t)) refl (omega arith) (no_rounds c.args.t _ _) c.round_at-x.ensures in
    let r2 = round-more refl refl (omega arith) r1 c.round_at-x-2.ensures in
    let r3 = round-more refl refl (omega arith) r2 c.round_at-x-3.ensures in
    let r4 = round-more refl refl (omega arith) r3 c.round_at-x-4.ensures in
    let r5 = round-more refl refl (omega arith) r4 c.round_at-x-5.ensures in
    let r6 = round-more refl refl (omega arith) r5 c.round_at-x-6.ensures in
    let r7 = round-more refl refl (omega arith) r6 c.round_at-x-7.ensures in
    let r8 = round-more refl refl (omega arith) r7 c.round_at-x-8.ensures in
    let r9 = round-more refl refl (omega arith) r8 c.round_at-x-9.ensures in
    let r10 = round-more refl refl (omega arith) r9 c.round_at-x-10.ensures in
    let r11 = round-more refl refl (omega arith) r10 c.round_at-x-11.ensures in
    let r12 = round-more refl refl (omega arith) r11 c.round_at-x-12.ensures in
    let r13 = round-more refl refl (omega arith) r12 c.round_at-x-13.ensures in
    let r14 = round-more refl refl (omega arith) r13 c.round_at-x-14.ensures in
    let r15 = round-more refl refl (omega arith) r14 c.round_at-x-15.ensures in
    round-more refl refl (omega arith) r15 c.round_at.ensures
