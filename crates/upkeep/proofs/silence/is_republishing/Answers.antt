use Rattle.std.proofs.Common.{rules, tests}
use Rattle.std.proofs.lemmas.Iterator.{YieldsList-from_slice}
use Rattle.std.proofs.lemmas.Iterator.Search.{any_from_yields_List}
use mathlib.Core.Path.{◌≡◌, sym, ap, ◌∙◌}
use mathlib.Core.Bool.{Bool, ◌||◌}
use lib.Dec.{leb}
use Rattle.base.specs.Lists.{any}
use Rattle.base.proofs.Library.{listed_any}
use Rattle.model.specs.Figures.{refresh_age}
use Rattle.model.specs.Table.{age_at}
use Rattle.model.specs.State.{own_entry}
use Rattle.node.specs.View.{state_of}
use Rattle.upkeep.proofs.silence.is_republishing.Goals as goal

pub returns-else-any : goal.returns-else-any
returns-else-any c =
    let some : c.any.result ≡ any (λ (b : Bool). b) c.args.marks =
    any_from_yields_List (λ b. b) _ _ _ c.any.ensures.ran (YieldsList-from_slice c.args.marks cc) (λ x b q k. search (rules, tests)) ∙ listed_any (λ b. b) c.args.marks in
    c.is_stale.ensures ∙ ap (λ (b : Bool). b || leb refresh_age (age_at c.args.clock (own_entry (state_of c.args.s c.args.mem.now)))) (sym c.if-any.false ∙ some)
