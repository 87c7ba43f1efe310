use Rattle.std.proofs.Common.{◌∙◌, refl}
use borrow.Author.Tests.{ne_eqb}
use Rattle.model.specs.Decide.{received_of}
use Rattle.table.specs.View.{seen}
use Rattle.decide.proofs.Cases.{differs-older, differs_newer, differs_equal, compared}
use Rattle.decide.proofs.is_different.Goals as goal

pub returns-then-is_older : goal.returns-then-is_older
returns-then-is_older c m v h s q =
    c.if-is_older.true ∙ differs-older (seen m c.args.e) (received_of v) c.args.seq c.is_older.result c.is_older.ensures s c.if-is_older.true

pub returns-then-e-seq : goal.returns-then-e-seq
returns-then-e-seq c m v h s q =
    c.ne.ensures
    ∙ differs_equal (seen m c.args.e) (received_of v) c.args.seq c.is_older.result c.is_older.ensures s c.if-is_older.false c.if-e-seq.true _ c.args.e.hash c.args.hash.now h q
    (compared refl c.as_slice.ensures refl)

pub returns-else-e-seq : goal.returns-else-e-seq
returns-else-e-seq c m v h s q =
    ne_eqb c.args.e.seq c.args.seq c.if-e-seq.false
    ∙ differs_newer (seen m c.args.e) (received_of v) c.args.seq c.is_older.result c.is_older.ensures s c.if-is_older.false c.if-e-seq.false
