use mathlib.Core.Path.{◌≡◌}
use lib.ListN.{drop}
use Rattle.base.specs.Lists.{any}
use Rattle.wire.specs.Row.{tlvs}
use Rattle.model.specs.Receive.{about_other}
use Rattle.exchange.proofs.datagram.has_other.Given as goal

abbrev pub invariant-loop-h : goal.invariant-loop-h
invariant-loop-h l = (l.h-iterator.row.now ≡ l.s) × (any (about_other l.own) (tlvs l.s) ≡ any (about_other l.own) (tlvs (drop l.h-iterator.at l.s)))
