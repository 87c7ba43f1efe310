use Rattle.snapshot.proofs.Loading.{judged_stops, judged_end, judging_next}
use Rattle.snapshot.proofs.load.is_whole.Goals as goal

pub returns-in_default : goal.returns-in_default
returns-in_default c =
    judged_stops c.args.s.now c.args.at c.args.count c.args.own c.loop-k.cursor.place c.loop-k.cursor.low c.loop-k.held c.loop-k._k c.loop-k.invariant c.loop-k-test.true c.in_default.ensures.0

pub loop-k-preserved : goal.loop-k-preserved
loop-k-preserved c =
    judging_next c.args.s.now c.args.at c.args.count c.args.own c.loop-k.cursor.place c.loop-k.cursor.low c.loop-k.held c.loop-k._k c.loop-k.invariant c.loop-k-test.true c.in-Some.entry c.next_entry.new.self c.in-Some.ensures

pub returns-then-held : goal.returns-then-held
returns-then-held c =
    rw c.if-held.true at (judged_end c.args.s.now c.args.at c.args.count c.args.own c.loop-k.cursor.place c.loop-k.cursor.low c.loop-k.held c.loop-k._k c.loop-k.invariant c.loop-k-test.false)

pub returns-else-held : goal.returns-else-held
returns-else-held c =
    rw c.if-held.false (rw c.if-held.false at (judged_end c.args.s.now c.args.at c.args.count c.args.own c.loop-k.cursor.place c.loop-k.cursor.low c.loop-k.held c.loop-k._k c.loop-k.invariant c.loop-k-test.false))
