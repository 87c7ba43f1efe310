use Rattle.std.proofs.Common.{◌≡◌, None, rules, tests, sym, ◌∙◌}
use Rattle.wire.specs.Row.{tlvs}
use Rattle.model.specs.Reach.{matches}
use Rattle.wire.proofs.Steps.{step, ended}
use Rattle.reach.specs.Marks.{link_in}
use Rattle.reach.proofs.Links.{found_by, answers, pairs, joins_paired, picked_on, picked-here, picked_end, unlinked_on, unmatched_on, unnamed_on, matched-here}
use Rattle.reach.proofs.link.is_joined.Goals as goal
use Rattle.reach.proofs.link.is_joined.Goals.{in_default-via-in-None-1, in_default-via-in-Some-link_at+else-l-n}

pub loop-k-preserved : goal.loop-k-preserved
loop-k-preserved c =
    let d = c.args.y.now in
    let s = c.loop-k.k-iterator in
    let k = c.in-Some-k.k in
    let l = link_in c.in-Some-link_at.l in
    let w = step d s c.loop-k.invariant.0 c.loop-k.iterator.0 k c.next-in-loop-k.new.self c.in-Some-k.ensures.steps in
    let b = rw w.tells.here at (found_by (matches c.args.r c.args.n l) _ _ _ c.link_at-in-loop-k.ensures c.is_some_and.ensures (λ m p. search (rules, tests))) in
    rw w.onward (w.row, c.loop-k.invariant.1, c.loop-k.invariant.2 ∙ picked_on (answers c.args.r c.args.n l) d s.at k w.tells b c.if-is_some_and.false)

pub search-preserved-in-search : goal.search-preserved-in-search
search-preserved-in-search c =
    let d = c.args.x.now in
    let s = c.search.h-iterator in
    let h = c.in-Some.h in
    let l = c.in-Some-link_at.l in
    let v = step d s c.search.invariant.0 c.search.iterator.0 h c.next.new.self c.in-Some.ensures.steps in
    let e = ended c.args.y.now c.loop-k.k-iterator c.loop-k.invariant.0 c.loop-k.iterator.0 c.next-in-loop-k.new.self c.in-None-k.ensures.steps in
    let a = c.loop-k.invariant.2 ∙ picked_end (answers c.args.r c.args.n (link_in l)) c.args.y.now c.loop-k.k-iterator.at e in
    rw v.onward (v.row, c.loop-k.invariant.1, c.search.invariant.2 ∙ unmatched_on c.args.r c.args.n (tlvs c.args.y.now) d s.at h v.tells l c.in-Some-link_at.ensures a)

pub search-preserved : goal.search-preserved
search-preserved c =
    let d = c.args.x.now in
    let s = c.search.h-iterator in
    let h = c.in-Some.h in
    let v = step d s c.search.invariant.0 c.search.iterator.0 h c.next.new.self c.in-Some.ensures.steps in
    rw v.onward (
      v.row,
      c.search.invariant.1,
      c.search.invariant.2
          ∙ elim c.in_default.branch [
            | in_default-via-in-None-1 w ↦
                let q : c.link_at.result ≡ None = cc in
                unlinked_on c.args.r c.args.n (tlvs c.args.y.now) d s.at h v.tells (rw q at c.link_at.ensures)
            | in_default-via-in-Some-link_at+else-l-n w ↦
                unnamed_on c.args.r c.args.n (tlvs c.args.y.now) d s.at h v.tells w.in-Some-link_at.l w.in-Some-link_at.ensures w.if-l-n.false
          ],
    )

pub returns-in-None : goal.returns-in-None
returns-in-None c =
    let e = ended c.args.x.now c.search.h-iterator c.search.invariant.0 c.search.iterator.0 c.next.new.self c.in-None.ensures.steps in
    c.search.invariant.1
    ∙ sym (joins_paired c.args.r c.args.n c.args.x.now c.args.y.now ∙ c.search.invariant.2 ∙ picked_end (pairs c.args.r c.args.n (tlvs c.args.y.now)) c.args.x.now c.search.h-iterator.at e)

pub returns-then-is_some_and : goal.returns-then-is_some_and
returns-then-is_some_and c =
    let s = c.search.h-iterator in
    let t = c.loop-k.k-iterator in
    let l = c.in-Some-link_at.l in
    let v = step c.args.x.now s c.search.invariant.0 c.search.iterator.0 c.in-Some.h c.next.new.self c.in-Some.ensures.steps in
    let w = step c.args.y.now t c.loop-k.invariant.0 c.loop-k.iterator.0 c.in-Some-k.k c.next-in-loop-k.new.self c.in-Some-k.ensures.steps in
    let b = rw w.tells.here at (found_by (matches c.args.r c.args.n (link_in l)) _ _ _ c.link_at-in-loop-k.ensures c.is_some_and.ensures (λ m p. search (rules, tests))) in
    let a = c.loop-k.invariant.2 ∙ picked-here (answers c.args.r c.args.n (link_in l)) c.args.y.now t.at c.in-Some-k.k w.tells b c.if-is_some_and.true in
    sym (joins_paired c.args.r c.args.n c.args.x.now c.args.y.now ∙ c.search.invariant.2 ∙ matched-here c.args.r c.args.n (tlvs c.args.y.now) c.args.x.now s.at c.in-Some.h v.tells l c.in-Some-link_at.ensures a)
