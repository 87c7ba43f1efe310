use mathlib.Core.Path.{refl}
use Rattle.table.proofs.Tables.{begun}
use Rattle.table.proofs.begin.Goals as goal

pub returns : goal.returns
returns c = begun c.args.own c.args.clock c.hash16.result c.args.mem.now c.entry-e.result _ c.requires c.hash16.ensures (rw c.anew.ensures at c.entry-e.ensures) refl
