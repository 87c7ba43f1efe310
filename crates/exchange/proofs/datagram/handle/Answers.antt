use native.Mathlib.Omega.{arith}
use mathlib.Core.Path.{◌≡◌, refl, sym, ◌∙◌}
use mathlib.Core.Bool.{false}
use Prim.Native.Nat.{◌-◌}
use lib.Seq.{set-get_or}
use Rattle.base.proofs.Bytes.{bytes-known}
use Rattle.wire.specs.Answers.{tlv_of}
use Rattle.wire.proofs.Steps.{step, ended}
use Rattle.node.specs.declared.peers.Peers.{Peers}
use Rattle.node.specs.View.{peers_of, PeersRep}
use Rattle.reply.specs.View.{gather}
use Rattle.reply.proofs.Steps.{ready_open}
use Rattle.exchange.specs.Told.{greeted_in, touched_in}
use Rattle.exchange.proofs.Asides.{open_aside}
use Rattle.exchange.proofs.Carrying.{unaltered, unmet}
use Rattle.exchange.proofs.Tlvs.{Through, through_start, through_on, through_end}
use Rattle.exchange.proofs.Passed.{passed-step}
use Rattle.exchange.proofs.Datagrams.{context_in, call_in, first_ready, carried_on, received}
use Rattle.exchange.proofs.datagram.handle.Goals as goal
use Rattle.exchange.proofs.datagram.handle.Goals.{After-is_meeting, then-is_altering, else-is_altering}

pub loop-h-init : goal.loop-h-init
loop-h-init c =
    let c' = call_in c.args.s c.args.datagram.now c.milliseconds-now.result c.number-number.result c.args.unicast c.args.randoms in
    rw c.into_iter-h-iterator.ensures.into_iter_gives
    (record {
      row = c.tlvs-h-items.ensures.0;
      through = rw c.tlvs-h-items.ensures.1
          (through_start c' c.args.datagram.now _ c.args.mem.now c.args.room.now
          (rw c.at_start-d.ensures
          (first_ready c.args.s c.args.mem.now c.args.room.now c.milliseconds-now.result c.number-number.result c.args.unicast c.args.randoms c'.others _ (set-get_or c.args.s.endpoints (c.number-number.result - 1) _) c.requires.0 (rw c.milliseconds-now.ensures.same c.requires.1.0) c.milliseconds-now.ensures.within c.number-number.ensures.within.0 c.number-number.ensures.within.1 c.requires.1.1.0))
          c.requires.1.1.1.0);
      others = tt;
    })

pub loop-h-preserved-then-is_idle : goal.loop-h-preserved-then-is_idle
loop-h-preserved-then-is_idle c =
    let c' = call_in c.args.s c.args.datagram.now c.milliseconds-now.result c.number-number.result c.args.unicast c.args.randoms in
    let k = step c.args.datagram.now c.loop-h.h-iterator c.loop-h.invariant.row c.loop-h.iterator.0 c.in-Some.h c.next.new.self c.in-Some.ensures.steps in
    let w = gather c' c.args.s c.loop-h.t c.loop-h.p c.loop-h.d in
    let z = passed-step c' w c.loop-h.mem c.loop-h.room (tlv_of c.args.datagram.now c.loop-h.h-iterator.at c.in-Some.h) c.loop-h.invariant.through.ready c.in-Some.h.kind (sym k.tells.kind) (rw c.is_some.ensures at (sym c.is_idle.ensures ∙ c.if-is_idle.true)) in
    record {
      row = k.row;
      through = rw k.onward
          (through_on c' c.args.datagram.now _ c.args.mem.now c.args.room.now c.loop-h.h-iterator.at w c.loop-h.mem c.loop-h.room c.loop-h.invariant.through c.in-Some.h k.tells
          (bytes-known c.args.datagram.now (λ i. (c.type_inv.datagram i).fits)) c.requires.1.1.1.1 (rw c.at_start-d.ensures refl) (rw c.at_start-d.ensures refl) w c.loop-h.mem c.loop-h.room z);
      others = c.loop-h.invariant.others;
    }

pub on_tlv-x-requires : goal.on_tlv-x-requires
on_tlv-x-requires c =
    ((open_aside c.unwrap_or.result (ready_open c.args.s c.loop-h.p c.loop-h.invariant.through.ready)).marks, c.loop-h.invariant.through.ready.sound.rep.peers)

pub answered-d-requires : goal.answered-d-requires
answered-d-requires c =
    (c.on_tlv-x.ensures.opens c.loop-h.room (open_aside c.unwrap_or.result (ready_open c.args.s c.loop-h.p c.loop-h.invariant.through.ready)), c.on_tlv-x.ensures.answers)

-- one TLV more, with the peers q that it leaves
through_next : (c : After-is_meeting)
    → let c' = call_in c.args.s c.args.datagram.now c.milliseconds-now.result c.number-number.result c.args.unicast c.args.randoms in
    let c'' = context_in c.args.s c.milliseconds-now.result c.number-number.result c.args.unicast c.args.randoms c.unwrap_or.result in
    (q : Peers) → PeersRep q → peers_of q ≡ touched_in c'' c.on_tlv-x.result.progress.sender c.on_tlv-x.result.act (greeted_in c'' c.on_tlv-x.result.act (peers_of c.loop-h.p))
    → Through c' c.args.datagram.now (gather c' c.args.s c.args.s.table c.args.s.peers c.at_start-d.result) c.args.mem.now c.args.room.now c.next.new.self.at (gather c' c.args.s c.if-is_altering.t q c.answered-d.result) c.if-is_altering.mem c.answered-d.new.room
through_next c q f j =
    let c'' = context_in c.args.s c.milliseconds-now.result c.number-number.result c.args.unicast c.args.randoms c.unwrap_or.result in
    let k = step c.args.datagram.now c.loop-h.h-iterator c.loop-h.invariant.row c.loop-h.iterator.0 c.in-Some.h c.next.new.self c.in-Some.ensures.steps in
    rw k.onward
    (carried_on c.args.s c.args.datagram.now c.milliseconds-now.result c.number-number.result c.args.unicast c.args.randoms _ c.args.mem.now c.args.room.now c.loop-h.h-iterator.at c.loop-h.t c.loop-h.p c.loop-h.d c.loop-h.mem c.loop-h.room c.loop-h.invariant.through c.in-Some.h k.tells
    c.unwrap_or.result (λ e. rw (c.looked-others.ensures.1 e) at c.unwrap_or.ensures)
    (bytes-known c.args.datagram.now (λ i. (c.type_inv.datagram i).fits)) c.requires.1.1.1.1 (rw c.at_start-d.ensures refl) (rw c.at_start-d.ensures refl) _ (k.tells.value ∙ sym c.value-value.ensures)
    c.on_tlv-x.result c.on_tlv-x.ensures c.answered-d.result _ c.answered-d.ensures c.if-is_altering.t c.if-is_altering.mem
    (elim c.if-is_altering.branch [
      | then-is_altering b ↦ rw (b.t-is, b.mem-is) b.altered-t.ensures
      | else-is_altering b ↦ rw (b.t-is, b.mem-is) (unaltered c'' c.on_tlv-x.result.act c.is_altering.result c.is_altering.ensures b.if-is_altering.false c.value-value.result.now c.loop-h.t c.loop-h.mem)
    ])
    q f j)

pub loop-h-preserved-then-is_meeting : goal.loop-h-preserved-then-is_meeting
loop-h-preserved-then-is_meeting c =
    let k = step c.args.datagram.now c.loop-h.h-iterator c.loop-h.invariant.row c.loop-h.iterator.0 c.in-Some.h c.next.new.self c.in-Some.ensures.steps in
    record { row = k.row; through = through_next ((goal.at.loop-h-preserved-then-is_meeting c).After-is_meeting) c.met-p.result c.met-p.ensures.0 c.met-p.ensures.1; others = c.looked-others.ensures.0 }

pub loop-h-preserved : goal.loop-h-preserved
loop-h-preserved c =
    let c'' = context_in c.args.s c.milliseconds-now.result c.number-number.result c.args.unicast c.args.randoms c.unwrap_or.result in
    let k = step c.args.datagram.now c.loop-h.h-iterator c.loop-h.invariant.row c.loop-h.iterator.0 c.in-Some.h c.next.new.self c.in-Some.ensures.steps in
    record {
      row = k.row;
      through = through_next ((goal.at.loop-h-preserved c).After-is_meeting) c.loop-h.p c.loop-h.invariant.through.ready.sound.rep.peers
          (unmet c'' c.on_tlv-x.result.act c.is_meeting.result c.on_tlv-x.result.progress.sender c.is_meeting.ensures c.if-is_meeting.false (peers_of c.loop-h.p));
      others = c.looked-others.ensures.0;
    }

pub refreshed-found-requires : goal.refreshed-found-requires
refreshed-found-requires c = (open_aside false (ready_open c.args.s c.loop-h.p c.loop-h.invariant.through.ready)).marks

pub returns : goal.returns
returns c =
    let c' = call_in c.args.s c.args.datagram.now c.milliseconds-now.result c.number-number.result c.args.unicast c.args.randoms in
    let w = gather c' c.args.s c.loop-h.t c.loop-h.p c.loop-h.d in
    let e = ended c.args.datagram.now c.loop-h.h-iterator c.loop-h.invariant.row c.loop-h.iterator.0 c.next.new.self c.in-None.ensures.steps in
    rw (c.milliseconds-now.ensures.same, c.number-number.ensures.same) at (received c.args.s c.args.mem.now c.args.room.now c.args.datagram.now c.milliseconds-now.result c.number-number.result c.args.unicast c.args.randoms c'.others _ (set-get_or c.args.s.endpoints (c.number-number.result - 1) _) refl w c.loop-h.mem c.loop-h.room
    (through_end c' c.args.datagram.now _ c.args.mem.now c.args.room.now c.loop-h.h-iterator.at w c.loop-h.mem c.loop-h.room (rw c.at_start-d.ensures at c.loop-h.invariant.through) (omega arith))
    c.refreshed-found.result.digest c.refreshed-found.ensures.digest c.settled-state.result (c.settled-state.ensures c.args.s.last))
