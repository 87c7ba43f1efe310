use borrow.Author.Rules.{rules}
use lib.ListN.{length}
use Rattle.ledger.proofs.Saves.{save_ready, save-refused, save_accepted}
use Rattle.ledger.proofs.look.pingvratha_save.Goals as goal

pub returns-in-Err : goal.returns-in-Err
returns-in-Err c = rw c.refused.ensures (save-refused c.args.clock (length c.args.snapshot.now) c.requires c.in-Err.refusal c.in-Err.ensures.number c.args.snapshot.now)

pub save-length-requires : goal.save-length-requires
save-length-requires c = rw c.in-Ok.ensures.held (save_ready c.args.clock (length c.args.snapshot.now) c.requires c.in-Ok.ensures.number)

pub returns-in-Ok : goal.returns-in-Ok
returns-in-Ok c =
    save_accepted c.args.clock (length c.args.snapshot.now) c.requires c.in-Ok.ensures.number c.args.snapshot.now _ c.save-length.result (rw c.in-Ok.ensures.held at c.save-length.ensures) (search rules)
