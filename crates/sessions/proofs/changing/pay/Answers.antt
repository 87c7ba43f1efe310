use Rattle.sessions.proofs.Going.{changes_goes, pay-room}
use Rattle.sessions.proofs.changing.pay.Goals as goal

pub returns : goal.returns
returns c = changes_goes c.pingvratha_pay-a.ensures.0 (pay-room _ _ _ _ _)
