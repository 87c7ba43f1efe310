-- Four numbers and the data, each right behind the one before.
use native.Mathlib.Omega.{arith}
use mathlib.Core.Path.{◌≡◌}
use Prim.Native.Nat.{◌+◌, ◌-◌}
use lib.ListN.{length}
use Rattle.snapshot.proofs.Saving.{short_row, short-age, meta_saved}
use Rattle.snapshot.proofs.save.save_entry.Goals as goal

pub put_groups-a-requires : goal.put_groups-a-requires
put_groups-a-requires c =
    let b = short_row c.args.clock c.args.e c.args.bytes.now c.requires.0 c.requires.1.0 in
    rw c.from.ensures (omega (arith, b.id, c.requires.1.1))

pub put_groups-b-requires : goal.put_groups-b-requires
put_groups-b-requires c =
    let b = short_row c.args.clock c.args.e c.args.bytes.now c.requires.0 c.requires.1.0 in
    let one = rw c.from.ensures at c.put_groups-a.ensures in
    rw c.from-2.ensures (omega (arith, b.id, b.seq, one.1, c.requires.1.1))

pub put_groups-c-requires : goal.put_groups-c-requires
put_groups-c-requires c =
    let b = short_row c.args.clock c.args.e c.args.bytes.now c.requires.0 c.requires.1.0 in
    let age = short-age (c.args.e.age + (c.milliseconds.result - c.args.e.since)) c.capped_age.result c.capped_age.ensures in
    let one = rw c.from.ensures at c.put_groups-a.ensures in
    let two = rw c.from-2.ensures at c.put_groups-b.ensures in
    rw c.from-3.ensures (omega (arith, b.id, b.seq, age, one.1, two.1, c.requires.1.1))

pub put_groups-d-requires : goal.put_groups-d-requires
put_groups-d-requires c =
    let b = short_row c.args.clock c.args.e c.args.bytes.now c.requires.0 c.requires.1.0 in
    let age = short-age (c.args.e.age + (c.milliseconds.result - c.args.e.since)) c.capped_age.result c.capped_age.ensures in
    let one = rw c.from.ensures at c.put_groups-a.ensures in
    let two = rw c.from-2.ensures at c.put_groups-b.ensures in
    let three = rw c.from-3.ensures at c.put_groups-c.ensures in
    rw c.from-4.ensures (omega (arith, b.id, b.seq, b.size, age, one.1, two.1, three.1, c.requires.1.1))

pub store-requires : goal.store-requires
store-requires c =
    let b = short_row c.args.clock c.args.e c.args.bytes.now c.requires.0 c.requires.1.0 in
    let age = short-age (c.args.e.age + (c.milliseconds.result - c.args.e.since)) c.capped_age.result c.capped_age.ensures in
    let one = rw c.from.ensures at c.put_groups-a.ensures in
    let two = rw c.from-2.ensures at c.put_groups-b.ensures in
    let three = rw c.from-3.ensures at c.put_groups-c.ensures in
    let four = rw c.from-4.ensures at c.put_groups-d.ensures in
    let l : length c.put_groups-d.new.d ≡ length c.args.room.now = omega arith in
    omega (arith, l, b.id, b.seq, b.size, b.most, age, one.1, two.1, three.1, four.1, c.requires.1.1)

pub overflow_add-result : goal.overflow_add-result
overflow_add-result c =
    let b = short_row c.args.clock c.args.e c.args.bytes.now c.requires.0 c.requires.1.0 in
    let age = short-age (c.args.e.age + (c.milliseconds.result - c.args.e.since)) c.capped_age.result c.capped_age.ensures in
    let one = rw c.from.ensures at c.put_groups-a.ensures in
    let two = rw c.from-2.ensures at c.put_groups-b.ensures in
    let three = rw c.from-3.ensures at c.put_groups-c.ensures in
    let four = rw c.from-4.ensures at c.put_groups-d.ensures in
    omega (arith, b.id, b.seq, b.size, b.most, age, one.1, two.1, three.1, four.1, c.requires.1.1, c.well_formed.1.1.1.0.0)

pub returns : goal.returns
returns c =
    let b = short_row c.args.clock c.args.e c.args.bytes.now c.requires.0 c.requires.1.0 in
    let age = short-age (c.args.e.age + (c.milliseconds.result - c.args.e.since)) c.capped_age.result c.capped_age.ensures in
    let one = rw c.from.ensures at c.put_groups-a.ensures in
    let two = rw c.from-2.ensures at c.put_groups-b.ensures in
    let three = rw c.from-3.ensures at c.put_groups-c.ensures in
    let four = rw c.from-4.ensures at c.put_groups-d.ensures in
    meta_saved c.args.e c.args.bytes.now c.args.clock c.args.at c.args.room.now c.put_groups-a.new.d c.put_groups-b.new.d c.put_groups-c.new.d c.put_groups-d.new.d c.store.new.mem c.put_groups-a.result c.put_groups-b.result c.put_groups-c.result c.put_groups-d.result c.capped_age.result
    one.0 one.1 two.0 two.1 (rw c.milliseconds.ensures.same at c.capped_age.ensures) three.0 three.1 four.0 four.1 c.requires.1.0 c.store.ensures (omega (arith, b.id, b.seq, b.size, b.most, age, one.1, two.1, three.1, four.1, c.requires.1.1))
