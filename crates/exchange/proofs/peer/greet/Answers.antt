use mathlib.Core.Path.{ap}
use Rattle.exchange.proofs.Peers.{told-dropped, told_greets}
use Rattle.table.specs.declared.Entry.{Entry as Meta}
use Rattle.exchange.proofs.peer.greet.Goals as goal

pub returns-then-has_room : goal.returns-then-has_room
returns-then-has_room c v = told_greets v c.args.f c.requires c.own_place-i.result c.own_place-i.ensures c.meta_at-e.result.len (ap (λ (e : Meta). e.len) c.meta_at-e.ensures.same) c.has_room.result c.has_room.ensures c.if-has_room.true

pub returns : goal.returns
returns c v = told-dropped v c.args.f c.requires c.own_place-i.result c.own_place-i.ensures c.meta_at-e.result.len (ap (λ (e : Meta). e.len) c.meta_at-e.ensures.same) c.has_room.result c.has_room.ensures c.if-has_room.false
