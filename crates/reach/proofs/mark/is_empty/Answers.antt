use Rattle.std.proofs.Common.{rules, tests, ap, ◌∙◌, not}
use Rattle.std.proofs.lemmas.Iterator.{YieldsList-from_slice}
use Rattle.std.proofs.lemmas.Iterator.Search.{any_from_yields_List}
use Rattle.base.proofs.Library.{listed_any}
use Rattle.reach.proofs.mark.is_empty.Goals as goal

pub returns : goal.returns
returns c =
    ap not
    (any_from_yields_List (λ b. b) _ _ _ c.any.ensures.ran (YieldsList-from_slice c.args.marks cc) (λ x b q k. search (rules, tests))
    ∙ listed_any (λ b. b) c.args.marks)
