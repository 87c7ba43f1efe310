use mathlib.Core.Path.{refl}
use Rattle.reply.specs.Updates.{with_reached}
use Rattle.decide.proofs.Cases.{compared}
use Rattle.exchange.proofs.Telling.{told_refreshed}
use Rattle.exchange.proofs.Networks.{network_same, network_passed, network_asked}
use Rattle.exchange.proofs.network.on_network.Goals as goal

pub returns-then-eq : goal.returns-then-eq
returns-then-eq c v p =
    told_refreshed v c.args.d c.refreshed-reached.result c.refreshed-reached.ensures (network_same v c.args.c (with_reached c.refreshed-reached.result c.args.d) c.refreshed-reached.result refl c.args.digest.now c.eq.result (compared c.eq.ensures c.as_slice.ensures refl) c.if-eq.true)

pub returns-then-c : goal.returns-then-c
returns-then-c c v p =
    rw c.still.ensures
    (told_refreshed v c.args.d c.refreshed-reached.result c.refreshed-reached.ensures (network_passed v c.args.c (with_reached c.refreshed-reached.result c.args.d) c.refreshed-reached.result refl c.args.digest.now c.eq.result (compared c.eq.ensures c.as_slice.ensures refl) c.if-eq.false c.if-c.true))

pub returns : goal.returns
returns c v p =
    told_refreshed v c.args.d c.refreshed-reached.result c.refreshed-reached.ensures (network_asked v c.args.c (with_reached c.refreshed-reached.result c.args.d) c.refreshed-reached.result refl c.args.digest.now c.eq.result (compared c.eq.ensures c.as_slice.ensures refl) c.if-eq.false c.if-c.false)
