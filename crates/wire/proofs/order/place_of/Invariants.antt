use mathlib.Core.Path.{◌≡◌}
use lib.ListN.{drop, take}
use Rattle.base.specs.Lists.{join_all}
use Rattle.wire.specs.Row.{tlvs}
use Rattle.wire.specs.Order.{place}
use mathlib.Core.List.{◌++◌}
use Rattle.wire.proofs.order.place_of.Given as goal

abbrev pub invariant-loop-h : goal.invariant-loop-h
invariant-loop-h l =
    let at = l.h-iterator.at in
    (l.h-iterator.row.now ≡ l.nd) × (join_all (place l.tlv (tlvs l.nd)) ≡ take at l.nd ++ join_all (place l.tlv (tlvs (drop at l.nd))))
