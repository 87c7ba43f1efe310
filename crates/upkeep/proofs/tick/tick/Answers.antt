use borrow.Author.Tests.{not-true, not-false}
use native.Mathlib.Omega.{arith}
use Rattle.upkeep.proofs.Events.{found-fits, quiet-tick, sent_tick}
use Rattle.upkeep.proofs.tick.tick.Goals as goal

pub event_of-v-requires : goal.event_of-v-requires
event_of-v-requires c =
    let k = c.number-number.ensures.same in
    found-fits c.args.clock c.args.endpoint c.args.randoms c.args.s c.args.mem.now c.cleared-b.result c.cleared-b.new.mem (rw k at c.cleared-b.ensures) c.endpoint_at-e.result (c.endpoint_at-e.ensures c.cleared-b.new.mem) (rw k at c.number-number.ensures.within.0) (rw k at c.number-number.ensures.within.1)

pub returns-then-not-v : goal.returns-then-not-v
returns-then-not-v c =
    let k = c.number-number.ensures.same in
    quiet-tick c.args.clock c.args.endpoint c.args.randoms c.args.s c.args.mem.now c.cleared-b.result c.cleared-b.new.mem (rw k at c.cleared-b.ensures) c.endpoint_at-e.result (c.endpoint_at-e.ensures c.cleared-b.new.mem) c.event_of-v.result c.place.result (omega (arith, c.place.ensures.place)) c.event_of-v.ensures
    c.after_event.result c.after_event.ensures c.with_endpoint-r.result (c.with_endpoint-r.ensures.0 c.cleared-b.new.mem c.cleared-b.ensures.published.moved.rep) (c.with_endpoint-r.ensures.1 c.cleared-b.new.mem) c.with_endpoint-r.ensures.2 c.args.room.now (not-true _ c.if-not-v.true)

pub returns : goal.returns
returns c =
    let k = c.number-number.ensures.same in
    sent_tick c.args.clock c.args.endpoint c.args.randoms c.args.s c.args.mem.now c.cleared-b.result c.cleared-b.new.mem (rw k at c.cleared-b.ensures) c.endpoint_at-e.result (c.endpoint_at-e.ensures c.cleared-b.new.mem) c.event_of-v.result c.place.result (omega (arith, c.place.ensures.place)) c.event_of-v.ensures
    c.after_event.result c.after_event.ensures c.with_endpoint-r.result (c.with_endpoint-r.ensures.0 c.cleared-b.new.mem c.cleared-b.ensures.published.moved.rep) (c.with_endpoint-r.ensures.1 c.cleared-b.new.mem) c.with_endpoint-r.ensures.2 c.args.room.now (not-false _ c.if-not-v.false)
    c.requires.1.1 c.announce.new.room (rw k at c.announce.ensures)
