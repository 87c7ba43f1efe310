use mathlib.Core.Path.{◌≡◌, subst}
use Prim.Native.Nat.{ℕ}
use native.Mathlib.Omega.{arith}
use lib.ListN.{length}
use Rattle.table.specs.View.{view}
use Rattle.upkeep.proofs.Leaving.{Marked, mark_all}
use Rattle.upkeep.proofs.silence.scan.Goals as goal

pub returns : goal.returns
returns c =
    let at : c.loop-i.i ≡ length c.args.peers.now = omega arith in
    mark_all c.args.clock c.args.endpoint (view c.args.t c.args.mem.now) c.args.peers.now (length c.args.peers.now) c.loop-i.marks (omega arith)
    (subst (λ (j : ℕ). Marked c.args.clock c.args.endpoint (view c.args.t c.args.mem.now) c.args.peers.now j c.loop-i.marks) at c.loop-i.invariant)
