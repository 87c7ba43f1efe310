use mathlib.Core.Path.{ap, subst, ◌∙◌}
use mathlib.Core.List.{List}
use Prim.Native.Nat.{ℕ}
use Rattle.wire.specs.Order.{good}
use Rattle.model.specs.Figures.{data_limit}
use Rattle.reach.specs.Parts.{Front}
use Rattle.reach.proofs.front.front_of.Goals as goal

pub links_front-requires : goal.links_front-requires
links_front-requires c = ap (good data_limit) c.bytes_of.ensures.0 ∙ c.requires.1.1

pub returns : goal.returns
returns c = subst (λ (d : List ℕ). Front d c.links_front.result.now) c.bytes_of.ensures.0 c.links_front.ensures
