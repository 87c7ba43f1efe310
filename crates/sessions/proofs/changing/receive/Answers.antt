use Rattle.sessions.proofs.Going.{answers_goes, receive-room}
use Rattle.sessions.proofs.changing.receive.Goals as goal

pub returns : goal.returns
returns c = answers_goes c.pingvratha_receive-a.ensures (receive-room _ _)
