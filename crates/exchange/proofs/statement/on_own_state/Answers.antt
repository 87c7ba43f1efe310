use Rattle.exchange.proofs.Statements.{told-stays, told-again}
use mathlib.Core.Bool.{not}
use mathlib.Core.Path.{ap}
use Rattle.exchange.proofs.statement.on_own_state.Goals as goal

pub returns-then-not-is_different : goal.returns-then-not-is_different
returns-then-not-is_different c p = rw c.still.ensures (told-stays c.args.value.now c.own_place-place.result c.own_place-place.ensures c.meta_at-e.result c.meta_at-e.ensures c.read_u32-seq.result c.read_u32-seq.ensures c.is_different.result c.is_different.ensures (ap not c.if-not-is_different.true))

pub returns : goal.returns
returns c p =
    rw c.anew.ensures
    (told-again c.args.value.now c.own_place-place.result c.own_place-place.ensures c.meta_at-e.result c.meta_at-e.ensures c.read_u32-seq.result c.read_u32-seq.ensures c.is_different.result c.is_different.ensures (ap not c.if-not-is_different.false) c.advanced.result c.advanced.ensures)
