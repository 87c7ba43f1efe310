use mathlib.Core.Path.{ap}
use Rattle.model.specs.State.{Endpoint}
use Rattle.node.specs.View.{state_of}
use Rattle.node.proofs.Parts.{state-held}
use Rattle.upkeep.proofs.Choosing.{standing_asks, length-is}
use Rattle.upkeep.proofs.choice.length_with.Goals as goal

pub own_data-ours-requires : goal.own_data-ours-requires
own_data-ours-requires c =
    (c.requires.0, state-held c.args.s c.args.mem.now c.requires.1.table.held)

pub standing-old-requires : goal.standing-old-requires
standing-old-requires c =
    let k = c.number-number.ensures.same in
    rw k (standing_asks c.args.clock c.args.endpoint (state_of c.args.s c.args.mem.now) c.requires.1 (rw k at c.number-number.ensures.within.0) (rw k at c.number-number.ensures.within.1) c.endpoint_at-e.result.keep
    (ap (λ (x : Endpoint). x.keep) (c.endpoint_at-e.ensures c.args.mem.now)) c.own_data-ours.result.now c.own_data-ours.ensures)

pub returns : goal.returns
returns c =
    length-is c.args.clock c.args.endpoint c.args.interval (state_of c.args.s c.args.mem.now) c.requires.1 c.standing-old.result c.own_data-ours.result.now c.own_data-ours.ensures (rw c.number-number.ensures.same at c.standing-old.ensures) c.size_of.result c.size_of.ensures
