use borrow.Author.Rules.{rules}
use native.Mathlib.Omega.{arith}
use Rattle.reply.proofs.Replies.{progress_full, progress_written}
use Rattle.reply.proofs.put.reply.Goals as goal

pub returns-then-used-need : goal.returns-then-used-need
returns-then-used-need c =
    progress_full c.args.c c.args.d c.args.room.now c.requires.0.used c.requires.0.room c.args.front.now c.args.back.now c.head_size.result c.head_size.ensures.0 c.if-used-need.true

pub returns : goal.returns
returns c =
    progress_written c.args.c c.args.d c.args.room.now c.requires.0.used c.requires.0.room c.args.front.now c.args.back.now c.head_size.result c.head_size.ensures.0 (omega (arith, c.if-used-need.false)) c.put_head-at.result c.put_head-at.ensures.0 _ _ _ c.put_head-at.ensures.1 c.store.ensures c.store-2.ensures (search rules)
