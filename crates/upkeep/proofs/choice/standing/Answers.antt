use Rattle.upkeep.proofs.Choosing.{stands_not}
use Rattle.upkeep.proofs.choice.standing.Goals as goal

pub returns-in-None : goal.returns-in-None
returns-in-None c =
    stands_not c.args.endpoint c.args.keep c.args.ours.now c.requires.0 c.requires.1.1 c.keep_alive_tlv.result c.keep_alive_tlv.ensures c.in-None.ensures
