use mathlib.Core.Path.{◌≡◌}
use mathlib.Core.Bool.{false}
use lib.ListN.{drop}
use Rattle.base.specs.Lists.{any}
use Rattle.wire.specs.Row.{tlvs}
use Rattle.reach.specs.Marks.{link_in}
use Rattle.reach.proofs.Links.{answers, pairs}
use Rattle.reach.proofs.link.is_joined.Given as goal

abbrev pub invariant-loop-k : goal.invariant-loop-k
invariant-loop-k l =
    (l.k-iterator.row.now ≡ l.y) × (l.found ≡ false)
    × (any (answers l.r l.n (link_in l.l)) (tlvs l.y) ≡ any (answers l.r l.n (link_in l.l)) (tlvs (drop l.k-iterator.at l.y)))

abbrev pub invariant-search : goal.invariant-search
invariant-search l =
    (l.h-iterator.row.now ≡ l.x) × (l.found ≡ false)
    × (any (pairs l.r l.n (tlvs l.y)) (tlvs l.x) ≡ any (pairs l.r l.n (tlvs l.y)) (tlvs (drop l.h-iterator.at l.x)))
