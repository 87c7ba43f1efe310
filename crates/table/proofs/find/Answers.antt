use Rattle.std.proofs.Common.{rules}
use Rattle.std.proofs.lemmas.List.Sorted.{answers_always}
use Rattle.table.specs.declared.Entry.{Entry as Meta}
use Rattle.table.proofs.Tables.{finding}
use Rattle.table.proofs.find.Goals as goal

-- the closure gives an entry's identifier, and the slice has the entries that count
pub returns : goal.returns
returns c =
    let facts = c.binary_search_by_key.ensures in
    let by_key = facts.position (λ (e : Meta). e.id) (answers_always _ _ _ (λ f a r g called. search rules)) in
    finding c.args.t c.requires c.args.id _ facts.bound by_key
