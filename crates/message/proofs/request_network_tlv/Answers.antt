use Rattle.wire.specs.Row.{encode}
use Rattle.message.proofs.request_network_tlv.Goals as goal

pub returns : goal.returns
unfolding encode
returns c = c.tlv.ensures
