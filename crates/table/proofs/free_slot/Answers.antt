use Rattle.std.proofs.Common.{below_more}
use native.Mathlib.Omega.{arith}
use Rattle.table.proofs.Tables.{all-used, unused_free}
use Rattle.table.proofs.free_slot.Goals as goal

pub returns-then-not-slot_used : goal.returns-then-not-slot_used
returns-then-not-slot_used c =
    (omega arith, unused_free c.args.t c.loop-s.s c.requires.0 c.if-not-slot_used.ensures)

pub loop-s-preserved : goal.loop-s-preserved
loop-s-preserved c = below_more _ _ c.loop-s.invariant c.if-not-slot_used.ensures

pub returns : goal.returns
returns c =
    absurd (all-used c.args.t 32 c.requires.0 c.requires.1 (λ u p. c.loop-s.invariant u (omega arith)))
