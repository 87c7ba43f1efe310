use native.Mathlib.Omega.{arith}
use Prim.Native.Nat.{◌+◌, ◌-◌, ◌*◌}
use mathlib.Core.Path.{sym, ◌∙◌}
use lib.ListN.{drop}
use Rattle.wire.proofs.Varints.{read-start, onward_end, onward-short, onward-over, onward-last, onward_on, onward-sum, onward_scale}
use Rattle.wire.proofs.groups.read_groups.Goals as goal
use Rattle.wire.proofs.groups.read_groups.Goals.{then-b-least-via-then-b-least, then-b-least-via-else-b-least+then-most-number, then-most-sum-via-then-most-sum, then-most-sum-via-else-most-sum+then-most-scale}

pub loop-i-init : goal.loop-i-init
loop-i-init c = (omega arith, omega arith, read-start c.args.most (drop c.args.at c.args.s.now))

pub returns-then-b-least : goal.returns-then-b-least
returns-then-b-least c =
    elim c.then-b-least.branch [
      | then-b-least-via-then-b-least w ↦ (sym (c.loop-i.invariant.2 ∙ onward-short c.args.most c.loop-i.sum c.loop-i.scale c.loop-i.least c.args.s.now c.loop-i.i c.from-b.result (omega arith) c.from-b.ensures (omega arith) (omega arith)), tt)
      | then-b-least-via-else-b-least+then-most-number w ↦ (sym (c.loop-i.invariant.2 ∙ onward-over c.args.most c.loop-i.sum c.loop-i.scale c.loop-i.least c.args.s.now c.loop-i.i c.from-b.result (omega arith) c.from-b.ensures (omega arith) (omega arith) (omega arith)), tt)
    ]

pub returns-then-b-lt128 : goal.returns-then-b-lt128
returns-then-b-lt128 c =
    (sym (c.loop-i.invariant.2 ∙ onward-last c.args.most c.loop-i.sum c.loop-i.scale c.loop-i.least c.args.s.now c.loop-i.i c.from-b.result (omega arith) c.from-b.ensures (omega arith) (omega arith) (omega arith)), (omega arith, omega arith, omega arith))

pub returns-then-most-sum : goal.returns-then-most-sum
returns-then-most-sum c =
    let on = c.loop-i.invariant.2 ∙ onward_on c.args.most c.loop-i.sum c.loop-i.scale c.loop-i.least c.args.s.now c.loop-i.i c.from-b.result (omega arith) c.from-b.ensures (omega arith) (omega arith) in
    elim c.then-most-sum.branch [
      | then-most-sum-via-then-most-sum w ↦ (sym (on ∙ onward-sum c.args.most (c.loop-i.sum + (c.from-b.result - 128) * c.loop-i.scale) (c.loop-i.scale * 128) 1 (drop (c.loop-i.i + 1) c.args.s.now) (omega arith)), tt)
      | then-most-sum-via-else-most-sum+then-most-scale w ↦ (sym (on ∙ onward_scale c.args.most (c.loop-i.sum + (c.from-b.result - 128) * c.loop-i.scale) (c.loop-i.scale * 128) (drop (c.loop-i.i + 1) c.args.s.now) (omega arith)), tt)
    ]

pub loop-i-preserved : goal.loop-i-preserved
loop-i-preserved c =
    (omega arith, omega arith, c.loop-i.invariant.2 ∙ onward_on c.args.most c.loop-i.sum c.loop-i.scale c.loop-i.least c.args.s.now c.loop-i.i c.from-b.result (omega arith) c.from-b.ensures (omega arith) (omega arith))

pub returns : goal.returns
returns c =
    (sym (c.loop-i.invariant.2 ∙ onward_end c.args.most c.loop-i.sum c.loop-i.scale c.loop-i.least c.args.s.now c.loop-i.i (omega arith)), tt)
