use Rattle.upkeep.proofs.Choosing.{chosen-readable, chosen_settled}
use Rattle.upkeep.proofs.choice.choose.Goals as goal

pub reach-found-requires : goal.reach-found-requires
reach-found-requires c =
    let e = c.milliseconds-now.ensures.same in
    rw e (chosen-readable c.args.clock c.args.endpoint c.args.interval c.args.s c.args.mem.now c.requires.0 c.requires.1.0 c.with_choice-a.ensures.within.0 c.with_choice-a.ensures.within.1 c.requires.1.1.0 c.requires.1.1.1.0 c.requires.1.1.1.1
    c.with_choice-a.result c.with_choice-a.new.mem (rw e at c.with_choice-a.ensures.published) (rw e at c.milliseconds-now.ensures.within))

pub returns : goal.returns
returns c =
    let e = c.milliseconds-now.ensures.same in
    chosen_settled c.args.clock c.args.endpoint c.args.interval c.args.s c.args.mem.now c.requires.0 c.requires.1.0 c.with_choice-a.ensures.within.0 c.with_choice-a.ensures.within.1 c.requires.1.1.0 c.requires.1.1.1.0 c.requires.1.1.1.1
    c.with_choice-a.result c.with_choice-a.new.mem (rw e at c.with_choice-a.ensures.published) c.args.randoms c.reach-found.result c.settle.result (rw e at c.reach-found.ensures) (rw e at c.settle.ensures)
