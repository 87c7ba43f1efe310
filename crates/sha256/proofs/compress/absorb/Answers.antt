use borrow.Author.Rules.{rules}
use mathlib.Core.Path.{◌≡◌, ◌∙◌}
use lib.ListN.{length}
use Rattle.sha256.proofs.Rounds.{compressed}
use Rattle.sha256.proofs.compress.absorb.Goals as goal

pub returns : goal.returns
returns c =
    let l : length c.args.w ≡ 16 = search rules in
    c.add.ensures ∙ compressed c.args.w c.args.s _ _ l c.all_rounds.ensures
