use native.Mathlib.Omega.{arith}
use mathlib.Core.Path.{ap, ◌∙◌}
use mathlib.Core.List.{List}
use Prim.Native.Nat.{ℕ, ◌+◌, ◌-◌}
use lib.ListN.{length}
use Rattle.base.specs.Memory.{written}
use Rattle.base.proofs.Written.{copied_within, splice_written}
use Rattle.base.proofs.memory.insert_bytes.Goals as goal

pub returns : goal.returns
returns c =
    let a = c.args in
    c.store.ensures
    ∙ ap (λ (m : List ℕ). written m (a.at + a.p) a.bytes.now)
    (c.copy_within.ensures.after ∙ copied_within a.mem.now (a.at + a.p) (a.at + a.len) (a.at + a.p + length a.bytes.now) (a.len - a.p) (omega arith) (omega arith))
    ∙ splice_written a.mem.now a.at a.len a.p (omega arith) a.bytes.now (omega arith) (omega arith)
