use Rattle.sessions.proofs.Going.{changes_goes, keep_alive_room}
use Rattle.sessions.proofs.changing.keep_alive.Goals as goal

pub returns : goal.returns
returns c = changes_goes c.pingvratha_keep_alive-a.ensures.0 (keep_alive_room _ _ _ _ _ _)
