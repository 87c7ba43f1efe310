use Rattle.sessions.proofs.Going.{changes_goes, resume-room}
use Rattle.sessions.proofs.changing.resume.Goals as goal

pub returns : goal.returns
returns c = changes_goes c.pingvratha_resume-a.ensures.0 (resume-room _ _ _ _ _)
