use native.Mathlib.Omega.{arith}
use Rattle.sessions.proofs.Fronts.{left-part}
use Rattle.sessions.proofs.session.Session.run.Goals as goal

pub tell-requires : goal.tell-requires
tell-requires c = left-part c.args.self.now.state c.args.self.now.memory c.args.self.now.table (omega (arith, c.requires.table, c.requires.wide)) c.requires.left
