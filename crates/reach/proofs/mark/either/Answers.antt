use Rattle.std.proofs.Common.{rules, tests, false, get_or, ◌≡◌, ◌||◌, arith}
use Rattle.base.proofs.Library.{made_at}
use Rattle.reach.proofs.mark.either.Goals as goal

pub returns : goal.returns
returns c = (
  c.from_fn.ensures.items.long,
  λ i p. made_at _ _ (λ k y. y ≡ get_or c.args.x k false || get_or c.args.y k false) c.from_fn.result (λ k y q h. search (rules, tests)) 0 32 c.from_fn.ensures.items.each i false (omega arith) (omega arith),
)
