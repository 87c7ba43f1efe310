use Rattle.report.proofs.Printing.{refused_to, loaded_readable, loaded_held, loaded_good, loaded_to}
use Rattle.report.proofs.report.Goals as goal

pub returns-in_default : goal.returns-in_default
returns-in_default c =
    refused_to c.args.bytes.now c.args.mem.now c.load.new.mem c.in_default.ensures c.args.room.now c.store.new.mem c.requires.1.1 c.store.ensures c.args.sums.now

pub reach-reached-requires : goal.reach-reached-requires
reach-reached-requires c = (loaded_readable c.args.bytes.now c.args.mem.now c.in-Some.found c.load.new.mem c.in-Some.ensures, loaded_held c.args.bytes.now c.args.mem.now c.in-Some.found c.load.new.mem c.in-Some.ensures)

pub put_report-requires : goal.put_report-requires
put_report-requires c = (
  c.in-Some.ensures.kept,
  (loaded_good c.args.bytes.now c.args.mem.now c.in-Some.found c.load.new.mem c.in-Some.ensures, (c.requires.1.0, c.requires.1.1)),
)

pub returns : goal.returns
returns c =
    loaded_to c.args.bytes.now c.args.mem.now c.in-Some.found c.load.new.mem c.in-Some.ensures c.reach-reached.result c.reach-reached.ensures c.args.room.now c.put_report.new.room c.put_report.result c.requires.1.1 c.args.sums.now c.put_report.new.sums c.put_report.ensures
