use Rattle.wire.specs.Row.{encode}
use Rattle.model.specs.State.{peer_tlv}
use Rattle.message.proofs.peer_tlv.Goals as goal

pub returns : goal.returns
unfolding encode peer_tlv
returns c = c.tlv.ensures
