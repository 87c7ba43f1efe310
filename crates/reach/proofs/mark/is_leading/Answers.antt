use mathlib.Core.Path.{sym, ◌∙◌}
use borrow.Author.Tests.{le-ltb}
use Rattle.reach.proofs.Nodes.{meta_age, front_asks, old-leads, young-leads}
use Rattle.reach.proofs.mark.is_leading.Goals as goal

pub age_at-requires : goal.age_at-requires
age_at-requires c = meta_age _ _ _ c.requires.0

pub returns-else-age_at-lt-AGE_LIMIT : goal.returns-else-age_at-lt-AGE_LIMIT
returns-else-age_at-lt-AGE_LIMIT c =
    le-ltb _ _ c.if-age_at-lt-AGE_LIMIT.false
    ∙ sym (old-leads c.args.clock c.args.mem.now c.args.e c.args.f _ c.age_at.ensures c.if-age_at-lt-AGE_LIMIT.false)

pub front_of-requires : goal.front_of-requires
front_of-requires c = front_asks _ _ _ c.requires.0

pub front_of-requires-then-age_at-lt-AGE_LIMIT : goal.front_of-requires-then-age_at-lt-AGE_LIMIT
front_of-requires-then-age_at-lt-AGE_LIMIT c = front_asks _ _ _ c.requires.1

pub is_joined-requires : goal.is_joined-requires
is_joined-requires c = (c.front_of.ensures.row, c.front_of-then-age_at-lt-AGE_LIMIT.ensures.row)

pub returns-then-age_at-lt-AGE_LIMIT : goal.returns-then-age_at-lt-AGE_LIMIT
returns-then-age_at-lt-AGE_LIMIT c =
    young-leads c.args.clock c.args.mem.now c.args.e c.args.f _ c.age_at.ensures c.if-age_at-lt-AGE_LIMIT.true _ _ c.front_of.ensures c.front_of-then-age_at-lt-AGE_LIMIT.ensures c.is_joined.ensures
