use mathlib.Core.Path.{sym, subst}
use native.Mathlib.Omega.{arith}
use mir.Syntax.{w64}
use mir.Val.{SFits}
use Rattle.base.specs.Lists.{keep_by}
use Rattle.base.proofs.Signed.{narrow_back}
use Rattle.table.specs.View.{view}
use Rattle.report.proofs.Printing.{sum_fits, marked-good, marked-few, lines_fit, all-fits, report-put}
use Rattle.report.proofs.put_report.Goals as goal

pub put_lines-e-requires : goal.put_lines-e-requires
put_lines-e-requires c =
    let es = keep_by c.args.marks (view c.args.t c.args.mem.now) in
    let g = marked-good c.args.t c.args.mem.now c.requires.0 c.requires.1.0 c.args.marks in
    let n = marked-few c.args.t c.args.mem.now c.requires.0 c.requires.1.0 c.args.marks in (
      omega (arith, c.requires.1.1.0, c.sum_up.auto.sums),
      lines_fit es g n c.args.room.now c.requires.1.1.1 c.sum_up.new.sums c.sum_up.ensures.0 c.store.new.mem c.store.ensures c.store.auto.mem,
    )

pub put_line-requires : goal.put_line-requires
put_line-requires c =
    let es = keep_by c.args.marks (view c.args.t c.args.mem.now) in
    let g = marked-good c.args.t c.args.mem.now c.requires.0 c.requires.1.0 c.args.marks in
    let n = marked-few c.args.t c.args.mem.now c.requires.0 c.requires.1.0 c.args.marks in
    let f : SFits w64 c.tally-all.result.value = subst (SFits w64) (sym c.tally-all.ensures.value) (sum_fits es g n) in
    rw (narrow_back w64 c.tally-all.result.value f, c.tally-all.ensures.value) (all-fits es g n c.args.room.now c.requires.1.1.1 c.sum_up.new.sums c.sum_up.ensures.0 c.store.new.mem c.store.ensures c.store.auto.mem c.put_lines-e.new.room c.put_lines-e.result c.put_lines-e.ensures c.put_lines-e.auto.room)

pub returns : goal.returns
returns c =
    let es = keep_by c.args.marks (view c.args.t c.args.mem.now) in
    let g = marked-good c.args.t c.args.mem.now c.requires.0 c.requires.1.0 c.args.marks in
    let n = marked-few c.args.t c.args.mem.now c.requires.0 c.requires.1.0 c.args.marks in
    let f : SFits w64 c.tally-all.result.value = subst (SFits w64) (sym c.tally-all.ensures.value) (sum_fits es g n) in
    (report-put es g n c.args.room.now c.requires.1.1.1 c.sum_up.new.sums c.sum_up.ensures.0 c.store.new.mem c.store.ensures c.store.auto.mem c.put_lines-e.new.room c.put_lines-e.result c.put_lines-e.ensures c.put_line.new.room c.put_line.result (rw (narrow_back w64 c.tally-all.result.value f, c.tally-all.ensures.value) at c.put_line.ensures), c.sum_up.ensures)
