use mathlib.Core.List.{map}
use Rattle.base.specs.Lists.{keep_by}
use Rattle.table.specs.View.{meta_id, live}
use Rattle.reach.proofs.Listing.{ListedSo}
use Rattle.reach.proofs.list.marked_nodes.Given as goal

abbrev pub invariant-loop-e : goal.invariant-loop-e
invariant-loop-e l = ListedSo (map meta_id (keep_by l.fn.marks (live l.fn.t))) l.e-iterator.b.rest.now l.e-iterator.a.rest.now l.list l.n
