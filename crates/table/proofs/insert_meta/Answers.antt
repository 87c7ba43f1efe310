use Prim.Native.Nat.{◌+◌}
use mathlib.Core.Path.{◌≡◌, ap, ◌∙◌}
use mathlib.Core.List.{List}
use native.Mathlib.Omega.{arith}
use lib.ListN.{length, set}
use Rattle.table.specs.declared.Entry.{Entry as Meta}
use Rattle.table.proofs.Tables.{length_mapped, moved_up}
use borrow.Author.Rules.{rules}
use Rattle.table.proofs.insert_meta.Goals as goal

pub returns : goal.returns
returns c =
    let L : length c.args.t.entries ≡ 32 = search (rules, length_mapped) in
    ap (λ (l : List Meta). record { count = c.args.t.count + 1; entries = l })
    (ap (λ (l : List Meta). set l c.args.i c.args.e) c.copy_within.ensures.after ∙ moved_up c.args.t.entries c.args.i c.args.t.count c.args.e (omega arith) (omega arith))
