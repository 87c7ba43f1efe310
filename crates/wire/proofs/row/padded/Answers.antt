use native.Mathlib.Omega.{arith}
use Prim.Native.Nat.{◌+◌, ◌-◌}
use borrow.Author.Rules.{rules}
use borrow.Author.Tests.{tests}
use mathlib.Core.Path.{◌≡◌, ◌∙◌}
use lib.Dec.{eqb}
use lib.ListN.{take, drop}
use Rattle.std.proofs.lemmas.Iterator.{YieldsList-from_slice}
use Rattle.std.proofs.lemmas.Iterator.Search.{all_from_yields_List}
use Rattle.wire.proofs.Rows.{zeros-all}
use Rattle.wire.proofs.row.padded.Goals as goal

pub returns : goal.returns
returns c =
    let s = take (c.args.at + c.args.k - c.args.at) (drop c.args.at c.args.s.now) in
    let e : c.args.at + c.args.k - c.args.at ≡ c.args.k = omega arith in
    let r = all_from_yields_List (λ b. eqb b 0) _ _ c.all.result c.all.ensures.ran (YieldsList-from_slice s c.iter.ensures.rest) (λ x b q k. search (rules, tests)) ∙ zeros-all s in
    rw e at r
