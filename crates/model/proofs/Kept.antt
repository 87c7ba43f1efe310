-- The invariant holds at first, and every call keeps it. Assumes nothing.
use Rattle.model.specs.Theorems.{InvariantKept}
use Rattle.model.proofs.KeptReceive.{receive-valid}
use Rattle.model.proofs.KeptTick.{tick-valid}
use Rattle.model.proofs.KeptChoice.{keep_alive_valid}
use Rattle.model.proofs.KeptCalls.{blank-valid, begin-valid, resume-valid, pay-valid, purge-valid}

pub invariant_kept : InvariantKept
invariant_kept =
    record {
      first = blank-valid;
      begins = begin-valid;
      resumes = resume-valid;
      receives = receive-valid;
      ticks = tick-valid;
      chooses = keep_alive_valid;
      pays = pay-valid;
      purges = purge-valid;
    }
