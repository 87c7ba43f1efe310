use Rattle.upkeep.proofs.Events.{announced}
use Rattle.upkeep.proofs.tick.announce.Goals as goal

pub returns : goal.returns
returns c =
    announced c.args.own c.args.endpoint c.args.digest c.requires.1 c.args.room.now c.put_endpoint.new.room c.store.new.mem c.network_tlv.result c.requires.0 c.put_endpoint.ensures c.network_tlv.ensures c.store.ensures
