-- Each answer of the group reader leads one number on.
use Rattle.snapshot.proofs.Reading.{edition-unread, edition_wrong, own-unread, count-unread, count-zero, head_stands}
use Rattle.snapshot.proofs.read.head_of.Goals as goal

pub returns-in_err-edition : goal.returns-in_err-edition
returns-in_err-edition c = rw c.from_residual.ensures (edition-unread c.args.s.now c.in_err-edition.ensures.0)

pub returns-then-edition-ne-EDITION : goal.returns-then-edition-ne-EDITION
returns-then-edition-ne-EDITION c = edition_wrong c.args.s.now c.in_ok-edition.edition c.in_ok-edition.ensures c.if-edition-ne-EDITION.true

pub returns-in_err-own : goal.returns-in_err-own
returns-in_err-own c =
    rw c.from_residual-in_err-own.ensures (own-unread c.args.s.now c.in_ok-edition.edition c.in_ok-edition.ensures c.if-edition-ne-EDITION.false c.in_err-own.ensures.0)

pub returns-in_err-count : goal.returns-in_err-count
returns-in_err-count c =
    rw c.from_residual-in_err-count.ensures
    (count-unread c.args.s.now c.in_ok-edition.edition c.in_ok-edition.ensures c.if-edition-ne-EDITION.false c.in_ok-own.own c.in_ok-own.ensures c.in_err-count.ensures.0)

pub returns-then-count-lt1 : goal.returns-then-count-lt1
returns-then-count-lt1 c =
    count-zero c.args.s.now c.in_ok-edition.edition c.in_ok-edition.ensures c.if-edition-ne-EDITION.false c.in_ok-own.own c.in_ok-own.ensures c.in_ok-count.count c.in_ok-count.ensures c.if-count-lt1.true

pub returns : goal.returns
returns c =
    head_stands c.args.s.now c.in_ok-edition.edition c.in_ok-edition.ensures c.if-edition-ne-EDITION.false c.in_ok-own.own c.in_ok-own.ensures c.in_ok-count.count c.in_ok-count.ensures c.if-count-lt1.false
