use Rattle.exchange.proofs.Statements.{state-ours, state-theirs}
use Rattle.exchange.proofs.statement.on_state.Goals as goal

pub returns-then-read_u32-c : goal.returns-then-read_u32-c
returns-then-read_u32-c c p = state-ours c.args.value.now c.read_u32.result c.read_u32.ensures c.if-read_u32-c.true (c.on_own_state.ensures p)

pub returns : goal.returns
returns c p = state-theirs c.args.value.now c.read_u32.result c.read_u32.ensures c.if-read_u32-c.false c.decide.result c.decide.ensures.0 c.decide.ensures.1.0 c.decide.ensures.1.1
