use mathlib.Core.Path.{refl, sym, ap, ◌∙◌}
use Rattle.model.specs.State.{Endpoint, own_data}
use Rattle.node.specs.View.{state_of}
use Rattle.node.proofs.Parts.{state-held}
use Rattle.upkeep.proofs.Choosing.{standing_asks, stands_in, choice_same, choice_other, swap_asks}
use Rattle.upkeep.proofs.choice.with_choice.Goals as goal

pub returns-then-e-interval-clause-published : goal.returns-then-e-interval-clause-published
returns-then-e-interval-clause-published c =
    choice_same c.args.clock c.args.endpoint c.args.interval c.args.s c.args.mem.now c.requires.0 (ap (λ (x : Endpoint). x.keep) (sym (c.endpoint_at-e.ensures c.args.mem.now)) ∙ c.if-e-interval.true)

pub own_data-requires : goal.own_data-requires
own_data-requires c =
    (c.requires.0, state-held c.args.s c.args.mem.now c.requires.1.0.table.held)

pub standing-old-requires : goal.standing-old-requires
standing-old-requires c =
    let k = c.number-number.ensures.same in
    rw k (standing_asks c.args.clock c.args.endpoint (state_of c.args.s c.args.mem.now) c.requires.1.0 (rw k at c.number-number.ensures.within.0) (rw k at c.number-number.ensures.within.1) c.endpoint_at-e.result.keep
    (ap (λ (x : Endpoint). x.keep) (c.endpoint_at-e.ensures c.args.mem.now)) c.own_data.result.now c.own_data.ensures)

pub own_seq-requires : goal.own_seq-requires
own_seq-requires c =
    (c.requires.0, state-held c.args.s c.args.mem.now c.requires.1.0.table.held)

pub publish_swap-r-requires : goal.publish_swap-r-requires
publish_swap-r-requires c =
    let h = stands_in c.args.endpoint (own_data (state_of c.args.s c.args.mem.now)) c.own_data.result.now c.standing-old.result c.own_data.ensures (rw c.number-number.ensures.same at c.standing-old.ensures) in (
      c.requires.0,
      (
        state-held c.args.s c.args.mem.now c.requires.1.0.table.held,
        swap_asks c.args.clock c.args.endpoint c.args.interval c.args.s c.args.mem.now c.requires.0 c.requires.1.0 c.standing-old.result h c.size_of-n.result c.size_of-n.ensures c.keep_alive_tlv-tlv.result (rw c.number-number.ensures.same at c.keep_alive_tlv-tlv.ensures) c.requires.1.1,
      ),
    )

pub returns-clause-published : goal.returns-clause-published
returns-clause-published c =
    let h = stands_in c.args.endpoint (own_data (state_of c.args.s c.args.mem.now)) c.own_data.result.now c.standing-old.result c.own_data.ensures (rw c.number-number.ensures.same at c.standing-old.ensures) in
    choice_other c.args.clock c.args.endpoint c.args.interval c.args.s c.args.mem.now c.requires.0 c.requires.1.0 c.standing-old.result h c.size_of-n.result c.size_of-n.ensures c.keep_alive_tlv-tlv.result (rw c.number-number.ensures.same at c.keep_alive_tlv-tlv.ensures)
    (λ z. c.if-e-interval.false (ap (λ (y : Endpoint). y.keep) (c.endpoint_at-e.ensures c.args.mem.now) ∙ z)) c.own_seq.result c.advanced-seq.result c.own_seq.ensures c.advanced-seq.ensures c.publish_swap-r.result c.publish_swap-r.new.mem c.publish_swap-r.ensures
    c.endpoint_at-e.result (c.endpoint_at-e.ensures c.args.mem.now) _ refl c.with_endpoint.result (c.with_endpoint.ensures.0 c.publish_swap-r.new.mem c.publish_swap-r.ensures.moved.rep) (c.with_endpoint.ensures.1 c.publish_swap-r.new.mem) c.with_endpoint.ensures.2
