use borrow.Author.Rules.{rules}
use mathlib.Core.Path.{refl, sym}
use native.Mathlib.Omega.{arith}
use lib.Seq.{length-take-le}
use Rattle.wire.specs.Answers.{told}
use Rattle.node.specs.View.{state_of}
use Rattle.node.proofs.Parts.{state-held}
use Rattle.accounts.proofs.Paying.{written-size, own-fine, paid-readable, paid_settled}
use Rattle.accounts.proofs.pay.pay.Goals as goal

pub own_seq-requires : goal.own_seq-requires
own_seq-requires c =
    (c.requires.0, state-held c.args.s c.args.mem.now c.requires.1.0.table.held)

pub slice_bounds-publish_with-end : goal.slice_bounds-publish_with-end
slice_bounds-publish_with-end c =
    sym (length-take-le c.put_payment-n.result c.put_payment-n.new.d (search rules))

pub publish_with-t-requires : goal.publish_with-t-requires
publish_with-t-requires c =
    let e = written-size (told c.args.payment) _ c.put_payment-n.new.d c.put_payment-n.result (omega arith) c.put_payment-n.ensures in
    (c.requires.0, (state-held c.args.s c.args.mem.now c.requires.1.0.table.held, ((own-fine c.args.clock (state_of c.args.s c.args.mem.now) c.requires.1.0 _ refl).0, omega (arith, e, c.requires.1.1.1))))

pub reach-found-requires : goal.reach-found-requires
reach-found-requires c =
    let e = c.milliseconds-now.ensures.same in
    rw e
    (paid-readable (told c.args.payment) _ c.put_payment-n.new.d c.put_payment-n.result (omega arith) c.put_payment-n.ensures
    c.args.clock c.args.s c.args.mem.now c.own_seq.result c.advanced-seq.result c.own_seq.ensures c.advanced-seq.ensures
    c.publish_with-t.result c.publish_with-t.new.mem (rw e at c.publish_with-t.ensures) c.requires.1.0 c.requires.1.1.0 c.requires.1.1.1 (rw e at c.milliseconds-now.ensures.within))

pub returns : goal.returns
returns c =
    let e = c.milliseconds-now.ensures.same in
    paid_settled (told c.args.payment) _ c.put_payment-n.new.d c.put_payment-n.result (omega arith) c.put_payment-n.ensures
    c.args.clock c.args.s c.args.mem.now c.own_seq.result c.advanced-seq.result c.own_seq.ensures c.advanced-seq.ensures
    c.publish_with-t.result c.publish_with-t.new.mem (rw e at c.publish_with-t.ensures) c.args.randoms c.reach-found.result c.settle.result (rw e at c.reach-found.ensures) (rw e at c.settle.ensures)
