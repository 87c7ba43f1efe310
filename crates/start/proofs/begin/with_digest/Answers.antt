use mathlib.Core.Path.{refl}
use Rattle.start.proofs.Starting.{digested-moved}
use Rattle.start.proofs.begin.with_digest.Goals as goal

pub returns : goal.returns
returns c =
    (digested-moved c.args.clock c.args.s c.args.mem.now c.requires.0 c.reach-found.result c.reach-found.ensures, refl)
