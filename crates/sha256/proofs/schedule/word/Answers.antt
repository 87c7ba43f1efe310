use Rattle.sha256.proofs.Words.{takes-early, takes-late}
use Rattle.sha256.proofs.schedule.word.Goals as goal
use Rattle.sha256.proofs.schedule.word.Goals.{then-t-ge16, else-t-ge16}

pub returns : goal.returns
returns c =
    elim c.if-t-ge16.branch [
      | then-t-ge16 y ↦ takes-late c.args.t y.next.result c.args.w.now c.if-t-ge16.w y.if-t-ge16.true c.requires y.next.ensures y.w-is
      | else-t-ge16 n ↦ takes-early c.args.t c.args.w.now c.if-t-ge16.w n.if-t-ge16.false n.w-is
    ]
