use borrow.Author.Rules.{rules}
use mathlib.Core.Path.{◌≡◌}
use Prim.Native.Nat.{ℕ}
use native.Mathlib.Omega.{arith}
use lib.ListN.{length}
use Rattle.model.specs.Begin.{fresh_endpoint}
use Rattle.node.specs.declared.Endpoint.{Endpoint}
use Rattle.node.specs.View.{endpoint_of}
use Rattle.start.proofs.Starting.{mapped_at, fresh-each}
use Rattle.start.proofs.begin.fresh_endpoints.Goals as goal

pub returns : goal.returns
returns c =
    let made = c.map.ensures.items in
    let n : length c.args.randoms ≡ 4 = search rules in
    let P : ℕ → Endpoint → Type 0 = λ x y. endpoint_of y ≡ fresh_endpoint c.args.clock x in
    (made.long, fresh-each c.args.clock c.args.randoms c.map.result made.each.2 n made.long (λ k l. mapped_at _ _ P c.args.randoms c.map.result (λ x y q h. (search rules, search rules)) 0 4 made.each k 0 made.each.2 (omega arith) (omega arith)))
