use mathlib.Core.Path.{◌∙◌}
use Rattle.wire.specs.Row.{encode}
use Rattle.message.proofs.network_tlv.Goals as goal

pub returns : goal.returns
unfolding encode
returns c = c.store.ensures ∙ rw (c.tlv-d.ensures, c.requires)
