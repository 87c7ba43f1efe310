use native.Mathlib.Omega.{arith}
use Rattle.accounts.proofs.Sums.{meta_good}
use Rattle.report.proofs.Adding.{behind-none, behind_then}
use Rattle.report.proofs.Marking.{sums-start, sums-room, sums-stay, sums_on, sums_end}
use Rattle.report.proofs.sums.sum_up.Goals as goal
use Rattle.report.proofs.sums.sum_up.Goals.{then-marks-i, else-marks-i}

pub clear-requires : goal.clear-requires
clear-requires c = c.requires.1.1

pub loop-i-init : goal.loop-i-init
loop-i-init c =
    (sums-start c.args.t c.args.mem.now c.requires.0 c.args.marks c.clear.new.sums c.clear.ensures.0, behind-none c.clear.new.sums)

pub data_of-requires : goal.data_of-requires
data_of-requires c = (c.requires.0, c.loop-i-test.true)

pub add_data-requires : goal.add_data-requires
add_data-requires c = (
  omega (arith, c.requires.1.1, c.loop-i.auto.sums, c.clear.auto.sums),
  (
    sums-room c.args.t c.args.mem.now c.requires.0 c.args.marks c.loop-i.sums c.loop-i.i c.loop-i.invariant.0 c.requires.1.0 c.loop-i-test.true,
    meta_good c.args.t c.args.mem.now c.requires.0 c.requires.1.0 c.loop-i.i c.loop-i-test.true c.data_of.result.now c.data_of.ensures.0,
  ),
)

pub loop-i-preserved : goal.loop-i-preserved
loop-i-preserved c =
    elim c.if-marks-i.branch [
      | then-marks-i w ↦ rw w.sums-is (
        sums_on c.args.t c.args.mem.now c.requires.0 c.args.marks c.loop-i.sums c.loop-i.i c.loop-i.invariant.0 c.loop-i-test.true w.if-marks-i.true w.data_of.result.now w.data_of.ensures.0 w.add_data.new.sums w.add_data.ensures.0,
        behind_then c.clear.new.sums c.loop-i.sums c.loop-i.invariant.1 w.add_data.new.sums w.add_data.ensures.1,
      )
      | else-marks-i w ↦ rw w.sums-is (sums-stay c.args.t c.args.mem.now c.requires.0 c.args.marks c.loop-i.sums c.loop-i.i c.loop-i.invariant.0 c.loop-i-test.true w.if-marks-i.false, c.loop-i.invariant.1)
    ]

pub returns : goal.returns
returns c = (
  sums_end c.args.t c.args.mem.now c.requires.0 c.args.marks c.loop-i.sums c.loop-i.i c.loop-i.invariant.0 c.loop-i-test.false,
  behind_then c.args.sums.now c.clear.new.sums c.clear.ensures.1 c.loop-i.sums c.loop-i.invariant.1,
)
