use Rattle.start.proofs.begin.fresh_endpoint.Goals as goal

pub returns : goal.returns
returns c = rw (c.fresh.ensures, c.quiet_from.ensures, c.milliseconds-now.ensures.same)
