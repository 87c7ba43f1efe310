use mathlib.Core.Path.{◌≡◌}
use lib.ListN.{length}
use native.Mathlib.Omega.{arith}
use Rattle.snapshot.proofs.Loading.{filling_start, next_gap, next_short, filling_next, never_stops, filled}
use Rattle.snapshot.proofs.load.fill.Goals as goal

pub loop-k-init : goal.loop-k-init
loop-k-init c =
    filling_start c.args.clock c.args.s.now c.args.at c.args.count c.args.mem.now c.empty-t.result c.requires.0 (c.empty-t.ensures c.args.mem.now c.requires.1.1.0)

pub returns-in_default : goal.returns-in_default
returns-in_default c =
    never_stops c.args.clock c.args.s.now c.args.at c.args.count c.args.mem.now c.loop-k.t c.loop-k.mem c.loop-k.cursor.place c.loop-k.cursor.low c.loop-k.k c.loop-k.invariant c.requires.1.1.1 c.loop-k-test.true c.in_default.ensures.0

pub insert-t-requires : goal.insert-t-requires
insert-t-requires c = (
  c.loop-k.invariant.kept,
  (
    omega (arith, c.loop-k.invariant.full, c.requires.1.0),
    (
      next_gap c.args.clock c.args.s.now c.args.at c.args.count c.args.mem.now c.loop-k.t c.loop-k.mem c.loop-k.cursor.place c.loop-k.cursor.low c.loop-k.k c.loop-k.invariant c.loop-k-test.true c.in-Some.entry c.next_entry.new.self c.in-Some.ensures,
      (next_short c.args.clock c.args.s.now c.args.at c.args.count c.args.mem.now c.loop-k.t c.loop-k.mem c.loop-k.cursor.place c.loop-k.cursor.low c.loop-k.k c.loop-k.invariant c.loop-k-test.true c.in-Some.entry c.next_entry.new.self c.in-Some.ensures, c.hash16.ensures),
    ),
  ),
)

pub loop-k-preserved : goal.loop-k-preserved
loop-k-preserved c =
    let n : length c.insert-t.new.mem ≡ length c.loop-k.mem = omega arith in
    filling_next c.args.clock c.args.s.now c.args.at c.args.count c.args.mem.now c.loop-k.t c.loop-k.mem c.loop-k.cursor.place c.loop-k.cursor.low c.loop-k.k c.loop-k.invariant c.loop-k-test.true c.in-Some.entry c.next_entry.new.self c.in-Some.ensures c.insert-t.result c.insert-t.new.mem c.insert-t.ensures n

pub returns : goal.returns
returns c =
    filled c.args.clock c.args.s.now c.args.at c.args.count c.args.mem.now c.loop-k.t c.loop-k.mem c.loop-k.cursor.place c.loop-k.cursor.low c.loop-k.k c.loop-k.invariant c.requires.1.1.1 c.loop-k-test.false
