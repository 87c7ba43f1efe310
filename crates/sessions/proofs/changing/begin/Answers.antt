use Rattle.sessions.proofs.Going.{changes_goes, begin-room}
use Rattle.sessions.proofs.changing.begin.Goals as goal

pub returns : goal.returns
returns c = changes_goes c.pingvratha_begin-a.ensures (begin-room _ _ _ _ _)
