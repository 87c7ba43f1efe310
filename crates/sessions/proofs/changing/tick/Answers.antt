use Rattle.sessions.proofs.Going.{sends_goes, tick-room}
use Rattle.sessions.proofs.changing.tick.Goals as goal

pub returns : goal.returns
returns c = sends_goes c.pingvratha_tick-a.ensures (tick-room _ _ _ _ _ _)
