use mathlib.Core.Path.{sym, ap, ◌∙◌}
use mathlib.Core.List.{List}
use Prim.Native.Nat.{ℕ}
use Rattle.wire.specs.Row.{is_row}
use Rattle.model.specs.Tick.{interval_in}
use Rattle.node.specs.View.{peer_of}
use Rattle.upkeep.proofs.KeepAlive.{stands-row, interval-found, interval_missing}
use Rattle.upkeep.proofs.silence.interval_of.Goals as goal

pub interval_in-requires : goal.interval_in-requires
interval_in-requires c =
    ap is_row c.data_of.ensures.0 ∙ stands-row c.args.t c.args.mem.now c.requires.0 c.in-Ok.i c.args.p.node c.requires.1 c.in-Ok.ensures

pub returns-in-Ok : goal.returns-in-Ok
returns-in-Ok c =
    c.interval_in.ensures ∙ ap (λ (d : List ℕ). interval_in d c.args.p.theirs) c.data_of.ensures.0 ∙ sym (interval-found c.args.t c.args.mem.now c.requires.0 c.in-Ok.i (peer_of c.args.p) c.in-Ok.ensures)

pub returns-in-Err : goal.returns-in-Err
returns-in-Err c =
    sym (interval_missing c.args.t c.args.mem.now c.requires.0 c.in-Err.field-0 (peer_of c.args.p) c.in-Err.ensures)
