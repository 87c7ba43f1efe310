use borrow.Author.Rules.{rules}
use native.Mathlib.Omega.{arith}
use mathlib.Core.Path.{◌≡◌, ap, ◌∙◌}
use lib.ListN.{length, length-set}
use Rattle.node.specs.declared.peers.Peers.{Peers}
use Rattle.node.proofs.Stripping.{stayed_none, stayed_not, stayed_one, stayed_all}
use Rattle.node.proofs.leaving.staying.Goals as goal
use Rattle.node.proofs.leaving.staying.Goals.{then-not-marks-i, else-not-marks-i}

pub loop-i-init : goal.loop-i-init
loop-i-init c = (omega arith, c.requires.list, stayed_none c.args.marks c.args.p.list c.args.p.list)

pub loop-i-preserved : goal.loop-i-preserved
loop-i-preserved c =
    let b : length c.args.marks ≡ 16 = search rules in
    let l : length c.args.p.list ≡ 16 = c.requires.list in
    elim c.if-not-marks-i.branch [
      | then-not-marks-i w ↦ (
        omega arith,
        ap (λ (r : Peers). length r.list) w.r-is ∙ simp length-set c.loop-i.invariant.1,
        rw (w.r-is, w.j-is) (stayed_one c.args.marks c.args.p.list c.loop-i.i c.loop-i.r.list c.loop-i.j (omega arith) (omega arith) c.loop-i.invariant.2 _ w.if-not-marks-i.true (omega arith)),
      )
      | else-not-marks-i w ↦ (
        omega arith,
        ap (λ (r : Peers). length r.list) w.r-is ∙ c.loop-i.invariant.1,
        rw (w.r-is, w.j-is) (stayed_not c.args.marks c.args.p.list c.loop-i.i c.loop-i.r.list c.loop-i.j (omega arith) (omega arith) c.loop-i.invariant.2 w.if-not-marks-i.false),
      )
    ]

pub returns : goal.returns
returns c =
    (record { few = omega arith; list = c.loop-i.invariant.1 }, stayed_all c.args.marks c.args.p c.loop-i.i c.loop-i.r.list c.loop-i.j (omega arith) c.loop-i.invariant.2)
