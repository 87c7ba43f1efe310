use native.Mathlib.Omega.{arith}
use Rattle.node.proofs.Stripping.{passed_none, passed_length, passed-row, ends, passed-gone, passed_kept, passed_all}
use Rattle.node.proofs.leaving.strip.Goals as goal

pub loop-at-init : goal.loop-at-init
loop-at-init c =
    passed_none _ c.args.mem.now c.args.start c.args.len c.requires.1.0 c.requires.1.1

pub slice_bounds-tlv_at-end : goal.slice_bounds-tlv_at-end
slice_bounds-tlv_at-end c =
    omega (arith, passed_length _ c.args.mem.now c.args.start c.args.len c.requires.1.0 c.loop-at.at c.loop-at.to c.loop-at.mem c.loop-at.invariant, c.requires.1.0)

pub tlv_at-h-requires : goal.tlv_at-h-requires
tlv_at-h-requires c =
    passed-row _ c.args.mem.now c.args.start c.args.len c.requires.1.0 c.loop-at.at c.loop-at.to c.loop-at.mem c.loop-at.invariant c.loop-at-test.true

pub slice_bounds-is_marked_link-end : goal.slice_bounds-is_marked_link-end
slice_bounds-is_marked_link-end c =
    omega (arith, passed_length _ c.args.mem.now c.args.start c.args.len c.requires.1.0 c.loop-at.at c.loop-at.to c.loop-at.mem c.loop-at.invariant, c.requires.1.0, c.loop-at.invariant.low, c.tlv_at-h.ensures.onward, ends _ c.args.mem.now c.args.start c.args.len c.requires.1.0 c.loop-at.at c.loop-at.to c.loop-at.mem c.loop-at.invariant c.tlv_at-h.result c.tlv_at-h.ensures)

pub loop-at-preserved-then-goes : goal.loop-at-preserved-then-goes
loop-at-preserved-then-goes c =
    passed-gone _ c.args.mem.now c.args.start c.args.len c.requires.1.0 c.loop-at.at c.loop-at.to c.loop-at.mem c.loop-at.invariant c.tlv_at-h.result c.tlv_at-h.ensures c.is_marked_link-goes.ensures c.if-goes.true

pub move_down-requires : goal.move_down-requires
move_down-requires c =
    omega (arith, passed_length _ c.args.mem.now c.args.start c.args.len c.requires.1.0 c.loop-at.at c.loop-at.to c.loop-at.mem c.loop-at.invariant, c.requires.1.0, c.loop-at.invariant.low, c.tlv_at-h.ensures.onward, ends _ c.args.mem.now c.args.start c.args.len c.requires.1.0 c.loop-at.at c.loop-at.to c.loop-at.mem c.loop-at.invariant c.tlv_at-h.result c.tlv_at-h.ensures)

pub loop-at-preserved : goal.loop-at-preserved
loop-at-preserved c =
    passed_kept _ c.args.mem.now c.args.start c.args.len c.requires.1.0 c.loop-at.at c.loop-at.to c.loop-at.mem c.loop-at.invariant c.tlv_at-h.result c.tlv_at-h.ensures c.is_marked_link-goes.ensures c.if-goes.false _ c.move_down.ensures

pub returns : goal.returns
returns c =
    passed_all _ c.args.mem.now c.args.start c.args.len c.requires.1.0 c.loop-at.at c.loop-at.to c.loop-at.mem c.loop-at.invariant (omega arith)
