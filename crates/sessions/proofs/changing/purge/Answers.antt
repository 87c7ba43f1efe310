use Rattle.sessions.proofs.Going.{changes_goes, purge-room}
use Rattle.sessions.proofs.changing.purge.Goals as goal

pub returns : goal.returns
returns c = changes_goes c.pingvratha_purge-a.ensures.0 (purge-room _ _ _ _)
