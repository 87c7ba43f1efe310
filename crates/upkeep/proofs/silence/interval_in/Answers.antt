use mathlib.Core.Path.{◌∙◌}
use Rattle.upkeep.proofs.KeepAlive.{interval-is}
use Rattle.upkeep.proofs.silence.interval_in.Goals as goal

pub returns : goal.returns
returns c =
    c.interval_for.ensures ∙ interval-is c.args.nd.now c.args.endpoint c.interval_for-all.result c.interval_for-all.ensures
