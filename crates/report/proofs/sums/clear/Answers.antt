use borrow.Author.Rules.{rules}
use Rattle.report.proofs.Adding.{cleared}
use Rattle.report.proofs.sums.clear.Goals as goal

pub returns : goal.returns
returns c = cleared c.args.sums.now c.fill.new.self c.requires (c.fill.ensures.after (λ y e. search rules))
