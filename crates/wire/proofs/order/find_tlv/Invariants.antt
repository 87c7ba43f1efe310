use mathlib.Core.Path.{◌≡◌}
use mathlib.Core.List.{◌++◌}
use Rattle.base.specs.Lists.{join_all}
use mathlib.Core.Bool.{true}
use lib.ListN.{drop, take}
use Rattle.wire.specs.Row.{tlvs}
use Rattle.wire.specs.Order.{among, ascending, without}
use Rattle.wire.proofs.order.find_tlv.Given as goal

abbrev pub invariant-loop-h : goal.invariant-loop-h
invariant-loop-h l =
    let at = l.h-iterator.at in (
    (l.h-iterator.row.now ≡ l.nd) × (among l.tlv (tlvs l.nd) ≡ among l.tlv (tlvs (drop at l.nd)))
    × (ascending (tlvs (drop at l.nd)) ≡ true) × (join_all (without l.tlv (tlvs l.nd)) ≡ take at l.nd ++ join_all (without l.tlv (tlvs (drop at l.nd))))
    )
