use Rattle.ledger.proofs.Shown.{placed_small, placed}
use Rattle.ledger.proofs.look.place_of.Goals as goal

pub returns-then-memory-lt-TABLE_BYTES : goal.returns-then-memory-lt-TABLE_BYTES
returns-then-memory-lt-TABLE_BYTES c = placed_small c.args.node c.args.state c.args.memory.now c.if-memory-lt-TABLE_BYTES.true

pub returns : goal.returns
returns c = rw c.or.ensures (placed c.args.node c.args.state c.args.memory.now c.requires c.if-memory-lt-TABLE_BYTES.false c.find.result c.find.ensures)
