use mathlib.Core.Path.{sym}
use lib.ListN.{length}
use Rattle.ledger.proofs.Left.{start-accepted}
use Rattle.ledger.proofs.Changing.{resume_no, resume-unread, resume_yes}
use Rattle.ledger.proofs.change.pingvratha_resume.Goals as goal

pub returns-in-Err : goal.returns-in-Err
returns-in-Err c = rw c.refused.ensures (resume_no c.requires c.args.clock c.args.randoms.now c.args.snapshot.now c.in-Err.refusal c.in-Err.ensures.number)

pub resume-requires : goal.resume-requires
resume-requires c =
    (start-accepted c.args.clock (length c.args.memory.now) (sym c.in-Ok.ensures.number)).1

pub returns-in-None : goal.returns-in-None
returns-in-None c =
    rw c.refused-in-None.ensures (resume-unread c.requires c.args.clock c.args.randoms.now c.args.snapshot.now c.in-Ok.ensures.number c.resume.new.mem (rw c.in-Ok.ensures.held at c.in-None.ensures))

pub returns-in-Some : goal.returns-in-Some
returns-in-Some c =
    resume_yes c.requires c.args.clock c.args.randoms.now c.args.snapshot.now c.in-Ok.ensures.number c.resume.new.mem c.in-Some.next (rw c.in-Ok.ensures.held at c.in-Some.ensures)
