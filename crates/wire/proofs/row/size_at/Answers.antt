use native.Mathlib.Omega.{arith}
use mathlib.Core.Path.{sym, ◌∙◌}
use Rattle.wire.proofs.Rows.{size-short, size-cut, size_dirty, size-full}
use Rattle.wire.proofs.row.size_at.Goals as goal
use Rattle.wire.proofs.row.size_at.Goals.{then-left-n-via-then-left-n, then-left-n-via-else-left-n+then-not-padded}

pub returns-then-left-lt4 : goal.returns-then-left-lt4
returns-then-left-lt4 c =
    size-short c.args.s.now c.args.at (omega arith) (omega arith)

pub returns-then-left-n : goal.returns-then-left-n
returns-then-left-n c =
    let e = c.from-n.ensures ∙ c.read_u16.ensures in
    elim c.then-left-n.branch [
      | then-left-n-via-then-left-n w ↦ size-cut c.args.s.now c.args.at (omega arith) c.from-n.result c.pad-k.result e c.pad-k.ensures.0 (omega arith) (omega arith)
      | then-left-n-via-else-left-n+then-not-padded w ↦ size_dirty c.args.s.now c.args.at (omega arith) c.from-n.result c.pad-k.result e c.pad-k.ensures.0 (sym w.padded.ensures ∙ w.if-not-padded.true)
    ]

pub returns : goal.returns
returns c =
    size-full c.args.s.now c.args.at (omega arith) c.from-n.result c.pad-k.result (c.from-n.ensures ∙ c.read_u16.ensures) c.pad-k.ensures.0 (omega arith) (omega arith) (sym c.padded.ensures ∙ c.if-not-padded.false)
