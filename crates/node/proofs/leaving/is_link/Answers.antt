use mathlib.Core.Path.{ap, ◌∙◌}
use mathlib.Core.List.{List}
use Prim.Native.Nat.{ℕ}
use Rattle.base.specs.Bytes.{same}
use Rattle.base.proofs.Library.{same_equal}
use Rattle.node.proofs.Stripping.{link_is}
use Rattle.node.proofs.leaving.is_link.Goals as goal

pub returns : goal.returns
returns c =
    c.eq.ensures ∙ same_equal c.peer_tlv-link.result c.args.tlv.now
    ∙ ap (λ (t : List ℕ). same t c.args.tlv.now) (link_is c.args.p c.peer_tlv-link.ensures)
