use borrow.Author.Rules.{rules}
use native.Mathlib.Omega.{arith}
use mathlib.Core.Path.{refl, sym, ap, ◌∙◌}
use mathlib.Core.Logic.{inl, inr, ⊎_elim}
use lib.Seq.{length-take-le}
use Rattle.sha256.specs.Sha256.{hash16}
use Rattle.table.proofs.Tables.{live-length}
use Rattle.reach.proofs.Digests.{gather-start, gather-stay, gather_on, gather_end, digest_by}
use Rattle.reach.proofs.digest.network_digest.Goals as goal

pub loop-e-init : goal.loop-e-init
loop-e-init c =
    rw (c.into_iter-e-iterator.ensures.into_iter_gives, c.zip-e-items.ensures.first, c.iter.ensures.rest, c.zip-e-items.ensures.second.0)
    (gather-start _ _ _ _ (search rules) (omega (arith, live-length c.args.t c.requires, c.requires.most)) refl)

pub put_part-requires : goal.put_part-requires
put_part-requires c =
    let f = rw c.in-Some.ensures.steps.0 at c.loop-e.invariant.few in
    omega (arith, c.loop-e.invariant.size)

pub loop-e-preserved-then-marked : goal.loop-e-preserved-then-marked
loop-e-preserved-then-marked c =
    let s = c.in-Some.ensures.steps in
    gather_on _ _ _ c.in-Some.e.now _ c.loop-e.d c.loop-e.n (rw (s.0, s.1) at c.loop-e.invariant) _ c.if-marked.true c.put_part.ensures.0 c.put_part.ensures.1

pub loop-e-preserved : goal.loop-e-preserved
loop-e-preserved c =
    let s = c.in-Some.ensures.steps in
    gather-stay _ _ _ c.in-Some.e.now _ c.loop-e.d c.loop-e.n (rw (s.0, s.1) at c.loop-e.invariant) c.if-marked.false

pub slice_bounds-d-end : goal.slice_bounds-d-end
slice_bounds-d-end c = omega (arith, c.loop-e.invariant.size, c.loop-e.invariant.few)

pub slice_bounds-hash16-end : goal.slice_bounds-hash16-end
slice_bounds-hash16-end c =
    sym (length-take-le c.loop-e.n c.loop-e.d (omega (arith, c.loop-e.invariant.size, c.loop-e.invariant.few)))

pub returns : goal.returns
returns c m k =
    let h = ⊎_elim (λ x. inl x.1.0) (λ x. inr x.1.0) c.in-None.ensures.steps in
    c.hash16.ensures ∙ ap hash16 (gather_end _ _ _ c.loop-e.d c.loop-e.n c.loop-e.invariant h) ∙ digest_by c.args.t c.args.marks m k
