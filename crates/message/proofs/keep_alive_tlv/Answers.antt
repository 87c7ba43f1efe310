use Rattle.wire.specs.Row.{encode}
use Rattle.model.specs.KeepAlive.{keep_alive_tlv}
use Rattle.message.proofs.keep_alive_tlv.Goals as goal

pub returns : goal.returns
unfolding encode keep_alive_tlv
returns c = c.tlv.ensures
