use native.Mathlib.Omega.{arith}
use mathlib.Core.Path.{refl, ◌∙◌}
use Rattle.wire.proofs.Rows.{tells, four-left}
use Rattle.wire.proofs.row.tlv_at.Goals as goal

pub read_u16-kind-requires : goal.read_u16-kind-requires
read_u16-kind-requires c =
    omega (arith, four-left c.args.s.now c.args.at c.requires.0 c.requires.1)

pub read_u16-requires : goal.read_u16-requires
read_u16-requires c =
    omega (arith, four-left c.args.s.now c.args.at c.requires.0 c.requires.1)

pub returns : goal.returns
returns c =
    tells c.args.s.now c.args.at c.requires.0 c.requires.1 _ refl c.read_u16-kind.ensures (c.from-len.ensures ∙ c.read_u16.ensures) refl (rw c.pad.ensures.0 (omega arith))
