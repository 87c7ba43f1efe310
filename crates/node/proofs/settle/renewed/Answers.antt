use borrow.Author.Rules.{rules}
use mathlib.Core.Path.{sym, ◌∙◌}
use Rattle.base.proofs.Library.{same_equal}
use Rattle.node.proofs.settle.renewed.Goals as goal

pub returns-then-eq : goal.returns-then-eq
returns-then-eq c = (search rules, rw (← same_equal c.args.old c.args.digest, sym c.eq.ensures ∙ c.if-eq.true))

pub returns-else-eq : goal.returns-else-eq
returns-else-eq c = (c.reset_all.ensures.0, rw (← same_equal c.args.old c.args.digest, sym c.eq.ensures ∙ c.if-eq.false) c.reset_all.ensures.1)
