use Rattle.wire.specs.Row.{encode}
use Rattle.message.proofs.put_endpoint.Goals as goal

pub returns : goal.returns
unfolding encode
returns c = c.put_tlv.ensures
