use native.Mathlib.Omega.{arith}
use Prim.Native.Nat.{◌+◌, ◌-◌}
use mathlib.Core.Path.{◌∙◌}
use Rattle.base.proofs.Written.{copied_within, cut-written}
use Rattle.base.proofs.memory.remove_bytes.Goals as goal

pub returns : goal.returns
returns c =
    let a = c.args in
    c.copy_within.ensures.after
    ∙ copied_within a.mem.now (a.at + a.p + a.n) (a.at + a.len) (a.at + a.p) (a.len - a.p - a.n) (omega arith) (omega arith)
    ∙ cut-written a.mem.now a.at a.len a.p (omega arith) a.n (omega arith)
