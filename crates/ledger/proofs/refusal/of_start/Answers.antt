-- What begins goes on from reading 0, before which there is none.
use Rattle.std.proofs.Common.{[], refl}
use Prim.Native.Nat.{zero-le}
use borrow.Author.Tests.{le-ltb}
use Rattle.ledger.proofs.refusal.of_start.Goals as goal

pub returns-clause-number : goal.returns-clause-number
returns-clause-number c = rw (le-ltb c.args.clock 0 zero-le) at (c.of_table.ensures.number (record { own = 0; last = 0; table = []; peers = []; endpoints = []; digest = [] }) refl)
