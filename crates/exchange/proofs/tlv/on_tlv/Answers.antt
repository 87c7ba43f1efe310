use native.Mathlib.Omega.{arith}
use mathlib.Core.Path.{refl}
use Rattle.exchange.proofs.Tlvs.{short-node, short-endpoint, short_network, short-state, other_type, network_asked, node-asked, endpoint-met, network_met, state-met}
use Rattle.exchange.proofs.tlv.on_tlv.Goals as goal
use Rattle.exchange.proofs.tlv.on_tlv.Goals.{in_default-via-in-2+else-value-ge4, in_default-via-in-3+else-value-ge8, in_default-via-in-4+else-value-ge16, in_default-via-in-5+else-value-ge28, in_default-via-in_default+then-kind-lt32, in_default-via-in_default+else-kind-lt32+else-kind-lt512}

pub returns-in-1 : goal.returns-in-1
returns-in-1 c = network_asked c.args.c c.args.t c.args.p c.args.d c.args.mem.now c.args.kind c.args.value.now c.in-1.is (c.on_request_network.ensures c.args.value.now c.args.p)

pub returns-in-2 : goal.returns-in-2
returns-in-2 c =
    node-asked c.args.c c.args.t c.args.p c.args.d c.args.mem.now c.args.kind c.args.value.now c.in-2.is c.if-value-ge4.true c.read_u32.result c.read_u32.ensures (c.on_request_node.ensures c.args.value.now c.args.p)

pub returns-in-3 : goal.returns-in-3
returns-in-3 c =
    endpoint-met c.args.c c.args.t c.args.p c.args.d c.args.mem.now c.args.kind c.args.value.now c.in-3.is c.if-value-ge8.true c.read_u32-in-3.result c.read_u32-in-3-2.result c.read_u32-in-3.ensures c.read_u32-in-3-2.ensures (c.on_endpoint.ensures c.args.value.now)

pub returns-in-4 : goal.returns-in-4
returns-in-4 c =
    network_met c.args.c c.args.t c.args.p c.args.d c.args.mem.now c.args.kind c.args.value.now c.in-4.is c.if-value-ge16.true _ refl (c.on_network.ensures c.args.value.now c.args.p)

pub returns-in-5 : goal.returns-in-5
returns-in-5 c = state-met c.args.c c.args.t c.args.p c.args.d c.args.mem.now c.args.kind c.args.value.now c.in-5.is c.if-value-ge28.true (c.on_state.ensures c.args.p)

pub returns-in-32-to-511 : goal.returns-in-32-to-511
returns-in-32-to-511 c =
    rw c.still.ensures (other_type c.args.c c.args.t c.args.p c.args.d c.args.mem.now c.args.kind c.args.value.now (omega arith) (omega arith) (omega arith) (omega arith) (omega arith))

pub returns-in_default : goal.returns-in_default
returns-in_default c =
    rw c.still-in_default.ensures
    (elim c.in_default.branch [
      | in_default-via-in-2+else-value-ge4 w ↦ short-node c.args.c c.args.t c.args.p c.args.d c.args.mem.now c.args.kind c.args.value.now w.in-2.is w.if-value-ge4.false
      | in_default-via-in-3+else-value-ge8 w ↦ short-endpoint c.args.c c.args.t c.args.p c.args.d c.args.mem.now c.args.kind c.args.value.now w.in-3.is w.if-value-ge8.false
      | in_default-via-in-4+else-value-ge16 w ↦ short_network c.args.c c.args.t c.args.p c.args.d c.args.mem.now c.args.kind c.args.value.now w.in-4.is w.if-value-ge16.false
      | in_default-via-in-5+else-value-ge28 w ↦ short-state c.args.c c.args.t c.args.p c.args.d c.args.mem.now c.args.kind c.args.value.now w.in-5.is w.if-value-ge28.false
      | in_default-via-in_default+then-kind-lt32 w ↦
          other_type c.args.c c.args.t c.args.p c.args.d c.args.mem.now c.args.kind c.args.value.now (omega arith) (omega arith) (omega arith) (omega arith) (omega arith)
      | in_default-via-in_default+else-kind-lt32+else-kind-lt512 w ↦
          other_type c.args.c c.args.t c.args.p c.args.d c.args.mem.now c.args.kind c.args.value.now (omega arith) (omega arith) (omega arith) (omega arith) (omega arith)
    ])
