use Rattle.exchange.proofs.Requests.{network_told}
use Rattle.exchange.proofs.request.on_request_network.Goals as goal

pub returns : goal.returns
returns c v p = network_told v c.args.d c.refreshed-reached.result c.refreshed-reached.ensures
