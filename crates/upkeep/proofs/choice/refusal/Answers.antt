use Rattle.node.specs.View.{state_of}
use Rattle.upkeep.proofs.Choosing.{refused_full, refused-not}
use Rattle.upkeep.proofs.choice.refusal.Goals as goal

pub returns-then-length_with-gt-PUBLISH_LIMIT : goal.returns-then-length_with-gt-PUBLISH_LIMIT
returns-then-length_with-gt-PUBLISH_LIMIT c =
    refused_full c.args.endpoint c.args.interval (state_of c.args.s c.args.mem.now) c.length_with.result c.length_with.ensures c.if-length_with-gt-PUBLISH_LIMIT.true

pub returns : goal.returns
returns c =
    refused-not c.args.endpoint c.args.interval (state_of c.args.s c.args.mem.now) c.length_with.result c.length_with.ensures c.if-length_with-gt-PUBLISH_LIMIT.false
