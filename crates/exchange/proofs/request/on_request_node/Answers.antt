use Rattle.exchange.proofs.Requests.{node-unknown, node_unreachable, node-told}
use Rattle.exchange.proofs.request.on_request_node.Goals as goal
use Rattle.exchange.proofs.request.on_request_node.Goals.{in_default-via-in-Ok+else-reached-place, in_default-via-in_default}

pub returns-in-Ok : goal.returns-in-Ok
returns-in-Ok c v p = node-told v c.args.d c.refreshed-reached.result c.refreshed-reached.ensures c.args.node c.in-Ok.place c.in-Ok.ensures c.if-reached-place.true

pub returns-in_default : goal.returns-in_default
returns-in_default c v p =
    rw c.still.ensures
    (elim c.in_default.branch [
      | in_default-via-in-Ok+else-reached-place w ↦ node_unreachable v c.args.d c.refreshed-reached.result c.refreshed-reached.ensures c.args.node w.in-Ok.place w.in-Ok.ensures w.if-reached-place.false
      | in_default-via-in_default w ↦ node-unknown v c.args.d c.refreshed-reached.result c.refreshed-reached.ensures c.args.node w.in_default.field-0 w.in_default.ensures
    ])
