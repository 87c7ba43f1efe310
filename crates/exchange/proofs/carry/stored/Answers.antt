use native.Mathlib.Omega.{arith}
use Rattle.exchange.proofs.Statements.{fine-rest, fine-long, stored-rest}
use Rattle.exchange.proofs.carry.stored.Goals as goal

pub hash_in-hash-requires : goal.hash_in-hash-requires
hash_in-hash-requires c = fine-long c.args.value.now c.requires.1.1.1

pub slice_bounds-bytes-count : goal.slice_bounds-bytes-count
slice_bounds-bytes-count c = fine-long c.args.value.now c.requires.1.1.1

pub slice_bounds-bytes-start : goal.slice_bounds-bytes-start
slice_bounds-bytes-start c = omega (arith, fine-long c.args.value.now c.requires.1.1.1)

pub replace-requires : goal.replace-requires
replace-requires c =
    (c.requires.0, (rw c.in-Ok.is at c.requires.1.0, fine-rest c.args.value.now c.requires.1.1.1 c.hash_in-hash.result c.hash_in-hash.ensures))

pub insert-requires : goal.insert-requires
insert-requires c =
    (c.requires.0, (rw c.in-Err.is at c.requires.1.1.0, (rw c.in-Err.is at c.requires.1.0, fine-rest c.args.value.now c.requires.1.1.1 c.hash_in-hash.result c.hash_in-hash.ensures)))

pub returns-in-Ok : goal.returns-in-Ok
returns-in-Ok c = rw c.in-Ok.is (stored-rest c.args.value.now c.replace.ensures)

pub returns-in-Err : goal.returns-in-Err
returns-in-Err c = rw c.in-Err.is (stored-rest c.args.value.now c.insert.ensures)
