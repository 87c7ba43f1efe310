use native.Mathlib.Omega.{arith}
use mathlib.Core.Path.{refl}
use mathlib.Core.Logic.{inl, inr, ⊎_elim}
use Rattle.table.proofs.Tables.{live-length}
use Rattle.reach.proofs.Listing.{list-start, list-stay, list_on, list_end}
use Rattle.reach.proofs.list.marked_nodes.Goals as goal

pub loop-e-init : goal.loop-e-init
loop-e-init c =
    rw (c.into_iter-e-iterator.ensures.into_iter_gives, c.zip-e-items.ensures.first, c.iter.ensures.rest, c.zip-e-items.ensures.second.0)
    (list-start _ _ _ (omega (arith, live-length c.args.t c.requires, c.requires.most)) refl)

pub loop-e-preserved-then-marked : goal.loop-e-preserved-then-marked
loop-e-preserved-then-marked c =
    let s = c.in-Some.ensures.steps in
    list_on _ _ _ c.in-Some.e.now _ c.loop-e.list c.loop-e.n (rw (s.0, s.1) at c.loop-e.invariant) c.if-marked.true

pub loop-e-preserved : goal.loop-e-preserved
loop-e-preserved c =
    let s = c.in-Some.ensures.steps in
    list-stay _ _ _ c.in-Some.e.now _ c.loop-e.list c.loop-e.n (rw (s.0, s.1) at c.loop-e.invariant) c.if-marked.false

pub returns : goal.returns
returns c =
    let h = ⊎_elim (λ x. inl x.1.0) (λ x. inr x.1.0) c.in-None.ensures.steps in
    list_end _ c.args.marks c.args.t _ _ c.loop-e.list c.loop-e.n c.loop-e.invariant h refl
