use mathlib.Core.Path.{◌∙◌}
use mathlib.Core.List.{append-nil}
use Rattle.message.proofs.state_front.Goals as goal

pub returns : goal.returns
returns c = c.store.ensures ∙ rw (c.tlv-d.ensures, c.requires.0, append-nil c.args.hash)
