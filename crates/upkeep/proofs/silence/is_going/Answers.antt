use mathlib.Core.Path.{sym, ap, ◌∙◌}
use Prim.Native.Nat.{ℕ, ◌-◌}
use borrow.Author.Tests.{ne_eqb}
use Rattle.model.specs.Tick.{silent_for}
use Rattle.table.specs.View.{view}
use Rattle.node.specs.View.{peer_of}
use Rattle.upkeep.proofs.KeepAlive.{goes_other, goes-here}
use Rattle.upkeep.proofs.silence.is_going.Goals as goal

pub returns-then-p-endpoint : goal.returns-then-p-endpoint
returns-then-p-endpoint c =
    c.is_silent.ensures ∙ ap (λ (n : ℕ). silent_for n (c.args.clock - c.args.p.contact)) c.interval_of.ensures
    ∙ sym (goes-here c.args.clock c.args.endpoint (view c.args.t c.args.mem.now) (peer_of c.args.p) c.if-p-endpoint.true)

pub returns-else-p-endpoint : goal.returns-else-p-endpoint
returns-else-p-endpoint c =
    ne_eqb c.args.p.ours c.args.endpoint c.if-p-endpoint.false ∙ sym (goes_other c.args.clock c.args.endpoint (view c.args.t c.args.mem.now) (peer_of c.args.p) c.if-p-endpoint.false)
