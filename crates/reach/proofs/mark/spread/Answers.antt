use borrow.Author.Rules.{rules}
use native.Mathlib.Omega.{arith}
use Rattle.table.specs.View.{view}
use Rattle.reach.proofs.Nodes.{few-nodes}
use Rattle.reach.proofs.Waves.{wave_start, wave_on, wave_stop, wave_end}
use Rattle.reach.proofs.mark.spread.Goals as goal

pub loop-k-init : goal.loop-k-init
loop-k-init c =
    wave_start c.args.clock (view c.args.t c.args.mem.now) (few-nodes c.args.t c.args.mem.now c.requires.kept.arranged) c.args.first (search rules)

pub next_level-next-requires : goal.next_level-next-requires
next_level-next-requires c = c.requires

pub returns-then-is_empty : goal.returns-then-is_empty
returns-then-is_empty c =
    wave_stop c.args.clock (view c.args.t c.args.mem.now) (few-nodes c.args.t c.args.mem.now c.requires.kept.arranged) c.args.first c.loop-k.k c.loop-k.w c.next_level-next.result c.loop-k.invariant c.next_level-next.ensures c.is_empty.ensures c.if-is_empty.true

pub onward-w-requires : goal.onward-w-requires
onward-w-requires c = c.next_level-next.ensures.wide

pub loop-k-preserved : goal.loop-k-preserved
loop-k-preserved c =
    wave_on c.args.clock (view c.args.t c.args.mem.now) (few-nodes c.args.t c.args.mem.now c.requires.kept.arranged) c.args.first c.loop-k.k c.loop-k.w c.next_level-next.result c.loop-k.invariant c.next_level-next.ensures c.is_empty.ensures c.if-is_empty.false c.onward-w.result (omega arith) c.onward-w.ensures

pub returns : goal.returns
returns c =
    wave_end c.args.clock (view c.args.t c.args.mem.now) (few-nodes c.args.t c.args.mem.now c.requires.kept.arranged) c.args.first c.loop-k.k c.loop-k.w c.loop-k.invariant (omega arith) _ (omega arith)
