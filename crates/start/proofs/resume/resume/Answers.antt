-- `well_formed` holds the length of the random numbers' array.
use Rattle.start.proofs.Resuming.{resume_ready, resume-readable, resume_done}
use Rattle.start.proofs.resume.resume.Goals as goal

pub republish-published-requires : goal.republish-published-requires
republish-published-requires c =
    resume_ready c.args.clock c.args.bytes.now c.args.randoms c.args.mem.now c.in_ok-loaded.loaded c.load.new.mem (rw c.milliseconds-now.ensures.same at c.in_ok-loaded.ensures) c.undigested-begun.result c.undigested-begun.ensures

pub with_digest-requires : goal.with_digest-requires
with_digest-requires c =
    rw c.milliseconds-now.ensures.same
    (resume-readable c.args.clock c.args.bytes.now c.args.randoms c.args.mem.now c.in_ok-loaded.loaded c.load.new.mem (rw c.milliseconds-now.ensures.same at c.in_ok-loaded.ensures) c.undigested-begun.result c.undigested-begun.ensures
    (rw c.milliseconds-now.ensures.same at c.milliseconds-now.ensures.within) c.well_formed.1.1.1.0.1.0.1 c.republish-published.result c.republish-published.new.mem (rw c.milliseconds-now.ensures.same at c.republish-published.ensures))

pub returns : goal.returns
returns c =
    resume_done c.args.clock c.args.bytes.now c.args.randoms c.args.mem.now c.in_ok-loaded.loaded c.load.new.mem (rw c.milliseconds-now.ensures.same at c.in_ok-loaded.ensures) c.undigested-begun.result c.undigested-begun.ensures
    (rw c.milliseconds-now.ensures.same at c.milliseconds-now.ensures.within) c.well_formed.1.1.1.0.1.0.1 c.republish-published.result c.republish-published.new.mem (rw c.milliseconds-now.ensures.same at c.republish-published.ensures) c.with_digest.result (rw c.milliseconds-now.ensures.same at c.with_digest.ensures)
