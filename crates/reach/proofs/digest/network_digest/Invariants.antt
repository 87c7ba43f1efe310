use mathlib.Core.List.{map}
use Rattle.base.specs.Lists.{keep_by, join_all}
use Rattle.table.specs.View.{live}
use Rattle.reach.proofs.Digests.{row_part, Gathered}
use Rattle.reach.proofs.digest.network_digest.Given as goal

abbrev pub invariant-loop-e : goal.invariant-loop-e
invariant-loop-e l = Gathered (join_all (map row_part (keep_by l.fn.marks (live l.fn.t)))) l.e-iterator.b.rest.now l.e-iterator.a.rest.now l.d l.n
