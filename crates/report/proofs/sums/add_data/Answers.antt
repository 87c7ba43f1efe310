use native.Mathlib.Omega.{arith}
use Rattle.wire.proofs.Good.{good-row, good-fits}
use Rattle.wire.proofs.Steps.{step, ended}
use Rattle.model.specs.Figures.{data_limit}
use Rattle.report.proofs.Adding.{going_start, going_room, going_on, going_end}
use Rattle.report.proofs.sums.add_data.Goals as goal

pub tlvs-h-items-requires : goal.tlvs-h-items-requires
tlvs-h-items-requires c = good-row data_limit c.args.nd.now c.requires.1.1

pub loop-h-init : goal.loop-h-init
loop-h-init c =
    rw (c.into_iter-h-iterator.ensures.into_iter_gives, c.tlvs-h-items.ensures.1)
    (c.tlvs-h-items.ensures.0, going_start c.args.nd.now c.args.sums.now c.requires.0 c.requires.1.0)

pub loop-h-init-derived : goal.loop-h-init-derived
loop-h-init-derived c =
    rw (c.into_iter-h-iterator.ensures.into_iter_gives, c.tlvs-h-items.ensures.1, c.tlvs-h-items.ensures.0)
    ((omega arith, good-row data_limit c.args.nd.now c.requires.1.1), tt)

pub add_tlv-requires : goal.add_tlv-requires
add_tlv-requires c =
    let d = c.args.nd.now in
    let s = c.loop-h.h-iterator in
    let k = step d s c.loop-h.invariant.0 c.loop-h.iterator.0 c.in-Some.h c.next.new.self c.in-Some.ensures.steps in
    let g = c.loop-h.invariant.1 in
    (g.wide, going_room d c.args.sums.now c.loop-h.sums s.at g (omega (arith, k.within, good-fits data_limit d c.requires.1.1)))

pub loop-h-preserved : goal.loop-h-preserved
loop-h-preserved c =
    let d = c.args.nd.now in
    let s = c.loop-h.h-iterator in
    let h = c.in-Some.h in
    let k = step d s c.loop-h.invariant.0 c.loop-h.iterator.0 h c.next.new.self c.in-Some.ensures.steps in
    rw k.onward (k.row, going_on d c.args.sums.now c.loop-h.sums s.at c.loop-h.invariant.1 h k.tells c.add_tlv.new.sums (rw c.value.ensures at c.add_tlv.ensures))

pub returns : goal.returns
returns c =
    let d = c.args.nd.now in
    let s = c.loop-h.h-iterator in
    let e = ended d s c.loop-h.invariant.0 c.loop-h.iterator.0 c.next.new.self c.in-None.ensures.steps in
    going_end d c.args.sums.now c.loop-h.sums s.at c.loop-h.invariant.1 (omega arith)
