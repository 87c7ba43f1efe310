-- Each answer of the group reader leads one number on.
use Rattle.snapshot.proofs.Reading.{node-unread, node-below, seq-unread, age-unread}
use Rattle.snapshot.proofs.read.numbers_at.Goals as goal

pub returns-in_err-node : goal.returns-in_err-node
returns-in_err-node c = rw c.from_residual.ensures (node-unread c.args.s.now c.args.at c.args.low c.in_err-node.ensures.0)

pub returns-then-node-low : goal.returns-then-node-low
returns-then-node-low c = node-below c.args.s.now c.args.at c.args.low c.in_ok-node.node c.in_ok-node.ensures c.if-node-low.true

pub returns-in_err-seq : goal.returns-in_err-seq
returns-in_err-seq c =
    rw c.from_residual-in_err-seq.ensures (seq-unread c.args.s.now c.args.at c.args.low c.in_ok-node.node c.in_ok-node.ensures c.in_err-seq.ensures.0)

pub returns-in_err-age : goal.returns-in_err-age
returns-in_err-age c =
    rw c.from_residual-in_err-age.ensures
    (age-unread c.args.s.now c.args.at c.args.low c.in_ok-node.node c.in_ok-node.ensures c.in_ok-seq.seq c.in_ok-seq.ensures c.if-node-low.false c.in_err-age.ensures.0)
