use borrow.Author.Rules.{rules}
use native.Mathlib.Omega.{arith}
use Rattle.table.specs.View.{view}
use Rattle.accounts.proofs.Sums.{table-start, meta_good, metas_room, metas_stay, metas_on, metas_end}
use Rattle.accounts.proofs.totals.tally.Goals as goal
use Rattle.accounts.proofs.totals.tally.Goals.{then-marks-i, else-marks-i}

pub loop-i-init : goal.loop-i-init
loop-i-init c = table-start c.args.w c.args.marks (view c.args.t c.args.mem.now) c.default-r.result c.default-r.ensures

pub data_of-requires : goal.data_of-requires
data_of-requires c = (c.requires.0, search rules)

pub add_data-r-requires : goal.add_data-r-requires
add_data-r-requires c = (
  metas_room c.args.t c.args.mem.now c.requires.0 c.args.w c.args.marks c.loop-i.r c.loop-i.i c.loop-i.invariant c.requires.1 c.loop-i-test.true,
  meta_good c.args.t c.args.mem.now c.requires.0 c.requires.1 c.loop-i.i c.loop-i-test.true c.data_of.result.now c.data_of.ensures.0,
)

pub loop-i-preserved : goal.loop-i-preserved
loop-i-preserved c =
    elim c.if-marks-i.branch [
      | then-marks-i b ↦ metas_on c.args.t c.args.mem.now c.requires.0 c.args.w c.args.marks c.loop-i.r c.loop-i.i c.loop-i.invariant c.if-marks-i.r c.loop-i-test.true b.if-marks-i.true b.data_of.result.now b.data_of.ensures.0 b.add_data-r.result b.add_data-r.ensures b.r-is
      | else-marks-i b ↦ metas_stay c.args.t c.args.mem.now c.requires.0 c.args.w c.args.marks c.loop-i.r c.loop-i.i c.loop-i.invariant c.if-marks-i.r c.loop-i-test.true b.if-marks-i.false b.r-is
    ]

pub returns : goal.returns
returns c =
    metas_end c.args.t c.args.mem.now c.requires.0 c.args.w c.args.marks c.loop-i.r c.loop-i.i c.loop-i.invariant (omega arith)
