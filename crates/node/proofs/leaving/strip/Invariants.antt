use Rattle.base.specs.Lists.{keep_by}
use Prim.Native.Nat.{◌-◌}
use Rattle.node.specs.View.{peers_of}
use Rattle.node.proofs.Stripping.{Passed}
use Rattle.node.proofs.leaving.strip.Given as goal

abbrev pub invariant-loop-at : goal.invariant-loop-at
invariant-loop-at l = Passed (keep_by l.marks (peers_of l.p)) l.initial.mem l.start l.len l.at l.to l.mem

abbrev pub decreases-loop-at : goal.decreases-loop-at
decreases-loop-at l = l.len - l.at
