use native.Mathlib.Omega.{arith}
use mathlib.Core.Path.{sym, ◌∙◌}
use mathlib.Core.Logic.{inl, inr, ⊎_elim}
use Rattle.table.proofs.Tables.{purged, keep_end}
use Rattle.table.proofs.purge.Goals as goal

pub returns : goal.returns
returns c =
    let h = ⊎_elim (λ x. inl x.1.0) (λ x. inr x.1.0) c.in-None.ensures.steps in
    purged c.args.marks c.args.t _ c.requires (omega (arith, c.loop-e.invariant.few)) c.loop-e.invariant.wide
    (sym (c.loop-e.invariant.kept ∙ keep_end c.loop-e.n.entries c.loop-e.j _ _ h))
