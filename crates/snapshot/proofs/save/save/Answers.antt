use borrow.Author.Rules.{rules}
use mathlib.Core.Path.{◌≡◌, sym}
use Prim.Native.Nat.{◌<◌}
use lib.ListN.{length, get_or, take, length-take}
use Rattle.std.proofs.lemmas.List.{get_or-take}
use Rattle.table.specs.View.{no_meta, meta_at}
use native.Mathlib.Omega.{arith}
use Rattle.wire.proofs.Varints.{groups-length}
use Rattle.table.specs.View.{view}
use Rattle.table.proofs.Tables.{view-length}
use Rattle.snapshot.proofs.Saving.{meta_fit, meta_fits, row-size, entry_seen, headed, through_start, through_room, through_next, all_saved}
use Rattle.snapshot.proofs.save.save.Goals as goal

pub put_groups-a-requires : goal.put_groups-a-requires
put_groups-a-requires c = omega (arith, groups-length 0 1 (omega arith), c.requires.1.1)

pub put_groups-b-requires : goal.put_groups-b-requires
put_groups-b-requires c = rw c.from.ensures (omega (arith, groups-length 0 1 (omega arith), groups-length 4 c.args.own (omega (arith, c.ranges.own)), c.requires.1.1))

pub put_groups-at-requires : goal.put_groups-at-requires
put_groups-at-requires c =
    let h = rw c.from.ensures at c.put_groups-b.ensures in
    omega (arith, h.1, groups-length 0 1 (omega arith), groups-length 4 c.args.own (omega (arith, c.ranges.own)), groups-length 0 c.args.t.count (omega (arith, c.requires.0.arranged.most)), c.requires.1.1)

pub loop-e-init : goal.loop-e-init
loop-e-init c =
    through_start c.args.clock (view c.args.t c.args.mem.now) c.put_groups-at.new.d c.put_groups-at.result

pub bytes_of-requires : goal.bytes_of-requires
bytes_of-requires c =
    let n : c.loop-e.e-index < c.args.t.count = omega (arith, length-take c.args.t.count c.args.t.entries) in
    let m : get_or (take c.args.t.count c.args.t.entries) c.loop-e.e-index no_meta ≡ meta_at c.args.t c.loop-e.e-index = get_or-take c.args.t.count c.args.t.entries c.loop-e.e-index no_meta n in
    rw m (meta_fit c.args.t c.args.mem.now c.loop-e.e-index c.requires.0 n)

pub save_entry-at-requires : goal.save_entry-at-requires
save_entry-at-requires c =
    let n : c.loop-e.e-index < c.args.t.count = omega (arith, length-take c.args.t.count c.args.t.entries) in
    let m : get_or (take c.args.t.count c.args.t.entries) c.loop-e.e-index no_meta ≡ meta_at c.args.t c.loop-e.e-index = get_or-take c.args.t.count c.args.t.entries c.loop-e.e-index no_meta n in
    let h = headed c.args.own c.args.t.count c.args.room.now c.put_groups-a.new.d c.put_groups-b.new.d c.put_groups-at.new.d c.put_groups-a.result c.put_groups-b.result c.put_groups-at.result
    c.put_groups-a.ensures (rw c.from.ensures at c.put_groups-b.ensures) c.put_groups-at.ensures (view c.args.t c.args.mem.now) (sym (view-length c.args.t c.requires.0.arranged c.args.mem.now)) c.requires.1.0.nodes
    (omega (arith, c.ranges.own)) c.requires.1.1 (omega arith) in rw m (
      meta_fits c.args.t c.args.mem.now c.loop-e.e-index c.requires.0 n _ (rw m at c.bytes_of.ensures.0) c.args.own c.args.clock c.requires.1.0,
      (
        row-size c.args.t c.args.mem.now c.loop-e.e-index c.requires.0 n _ (rw m at c.bytes_of.ensures.0),
        through_room c.args.own c.args.clock (view c.args.t c.args.mem.now) c.requires.1.0 c.args.room.now c.put_groups-at.new.d c.put_groups-at.result h c.loop-e.room c.loop-e.at c.loop-e.e-index c.loop-e.invariant (rw (view-length c.args.t c.requires.0.arranged c.args.mem.now) n),
      ),
    )

pub loop-e-preserved : goal.loop-e-preserved
loop-e-preserved c =
    let n : c.loop-e.e-index < c.args.t.count = omega (arith, length-take c.args.t.count c.args.t.entries) in
    let m : get_or (take c.args.t.count c.args.t.entries) c.loop-e.e-index no_meta ≡ meta_at c.args.t c.loop-e.e-index = get_or-take c.args.t.count c.args.t.entries c.loop-e.e-index no_meta n in
    let h = headed c.args.own c.args.t.count c.args.room.now c.put_groups-a.new.d c.put_groups-b.new.d c.put_groups-at.new.d c.put_groups-a.result c.put_groups-b.result c.put_groups-at.result
    c.put_groups-a.ensures (rw c.from.ensures at c.put_groups-b.ensures) c.put_groups-at.ensures (view c.args.t c.args.mem.now) (sym (view-length c.args.t c.requires.0.arranged c.args.mem.now)) c.requires.1.0.nodes
    (omega (arith, c.ranges.own)) c.requires.1.1 (omega arith) in
    let e = entry_seen c.args.t c.args.mem.now c.loop-e.e-index c.requires.0 n _ (rw m at c.bytes_of.ensures.0) in
    through_next c.args.own c.args.clock (view c.args.t c.args.mem.now) c.requires.1.0 c.args.room.now c.put_groups-at.new.d c.put_groups-at.result h c.loop-e.room c.loop-e.at c.loop-e.e-index c.loop-e.invariant
    c.save_entry-at.new.room c.save_entry-at.result (rw (view-length c.args.t c.requires.0.arranged c.args.mem.now) n) (rw e (rw m at c.save_entry-at.ensures.0)) (rw e (rw m at c.save_entry-at.ensures.1))

pub returns : goal.returns
returns c =
    let h = headed c.args.own c.args.t.count c.args.room.now c.put_groups-a.new.d c.put_groups-b.new.d c.put_groups-at.new.d c.put_groups-a.result c.put_groups-b.result c.put_groups-at.result
    c.put_groups-a.ensures (rw c.from.ensures at c.put_groups-b.ensures) c.put_groups-at.ensures (view c.args.t c.args.mem.now) (sym (view-length c.args.t c.requires.0.arranged c.args.mem.now)) c.requires.1.0.nodes
    (omega (arith, c.ranges.own)) c.requires.1.1 (omega arith) in
    all_saved c.args.own c.args.clock (view c.args.t c.args.mem.now) c.requires.1.0 c.args.room.now c.put_groups-at.new.d c.put_groups-at.result h c.loop-e.room c.loop-e.at c.loop-e.e-index c.loop-e.invariant
    (omega (arith, c.ranges.own)) c.requires.1.1 (rw (view-length c.args.t c.requires.0.arranged c.args.mem.now) (let w : length c.args.t.entries ≡ 32 = search rules in omega (arith, length-take c.args.t.count c.args.t.entries, c.loop-e-test.false, c.requires.0.arranged.most)))
