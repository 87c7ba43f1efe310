use native.Mathlib.Omega.{arith}
use mathlib.Core.Path.{refl, ◌∙◌}
use Rattle.model.specs.State.{contacted}
use Rattle.node.specs.View.{peers_of}
use Rattle.node.proofs.Contacts.{done_next, done_end, peers_set_rep, peers-length}
use Rattle.node.proofs.peers.with_contact.Goals as goal

pub loop-i-init : goal.loop-i-init
loop-i-init c = (refl, c.requires, refl)

pub loop-i-preserved : goal.loop-i-preserved
loop-i-preserved c = (
  c.loop-i.invariant.0,
  peers_set_rep c.loop-i.p c.loop-i.i c.loop-i.p.count c.contacted.result c.loop-i.invariant.1 c.loop-i.invariant.1.few,
  done_next (contacted c.args.node c.args.theirs c.args.ours c.args.clock) c.args.p c.loop-i.p c.loop-i.i c.contacted.result _
      c.requires c.loop-i.invariant.0 (omega arith) c.loop-i.invariant.2 c.contacted.ensures,
)

pub returns : goal.returns
returns c =
    let l = peers-length c.args.p c.requires in
    (c.loop-i.invariant.1, c.loop-i.invariant.2 ∙ done_end (contacted c.args.node c.args.theirs c.args.ours c.args.clock) (peers_of c.args.p) c.loop-i.i (omega (arith, l)))
