use mathlib.Core.Path.{◌≡◌}
use lib.ListN.{drop}
use Rattle.wire.specs.Row.{tlvs}
use Rattle.model.specs.Tick.{interval_for}
use Rattle.upkeep.proofs.silence.interval_for.Given as goal

abbrev pub invariant-loop-h : goal.invariant-loop-h
invariant-loop-h l =
    let at = l.h-iterator.at in
    (l.h-iterator.row.now ≡ l.nd) × (interval_for l.endpoint l.other (tlvs l.nd) ≡ interval_for l.endpoint l.other (tlvs (drop at l.nd)))
