use native.Mathlib.Omega.{arith}
use lib.Seq.{length_front, length-take-le}
use mathlib.Core.Path.{◌∙◌}
use Rattle.std.proofs.lemmas.Slice.{drop-append-drop}
use Rattle.sessions.proofs.Fronts.{left-part, left-whole, goes-front}
use Rattle.sessions.proofs.changing.change.Goals as goal

pub run-requires : goal.run-requires
run-requires c = (left-part c.args.s c.args.memory.now c.args.table c.requires.1.0 c.requires.0, c.requires.1.1)

pub returns-clause-goes : goal.returns-clause-goes
returns-clause-goes c = goes-front c.args.s c.run.result c.args.memory.now c.run.new.mem c.args.table c.requires.1.0 c.run.ensures

pub returns-clause-behind : goal.returns-clause-behind
returns-clause-behind c =
    drop-append-drop c.args.table c.args.memory.now c.run.new.mem c.args.table (omega arith) (c.run.ensures.size ∙ length-take-le c.args.table c.args.memory.now c.requires.1.0)

pub returns-clause-left : goal.returns-clause-left
returns-clause-left c = left-whole c.args.s c.run.result c.args.memory.now c.run.new.mem c.args.table c.requires.1.0 c.requires.0 c.run.ensures

pub returns-clause-size : goal.returns-clause-size
returns-clause-size c = length_front c.args.memory.now c.run.new.mem c.args.table c.run.ensures.size
