use borrow.Author.Rules.{rules}
use mathlib.Core.Path.{◌≡◌}
use native.Mathlib.Omega.{arith}
use lib.ListN.{length}
use Rattle.reach.proofs.Digests.{part-put}
use Rattle.reach.proofs.digest.put_part.Goals as goal

pub store-requires : goal.store-requires
store-requires c = let h : length c.args.e.hash ≡ 16 = search rules in omega arith

pub returns : goal.returns
returns c =
    let h : length c.args.e.hash ≡ 16 = search rules in
    (h, part-put c.args.d.now c.put_u32.new.d c.store.new.mem c.args.at c.args.e c.put_u32.ensures c.store.ensures c.requires h)
