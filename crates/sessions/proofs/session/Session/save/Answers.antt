use native.Mathlib.Omega.{arith}
use Rattle.sessions.proofs.Fronts.{left-part}
use Rattle.sessions.proofs.session.Session.save.Goals as goal

pub save-a-requires : goal.save-a-requires
save-a-requires c = left-part c.args.self.now.state c.args.self.now.memory c.args.self.now.table (omega (arith, c.requires.table, c.requires.wide)) c.requires.left
