use borrow.Author.Rules.{rules}
use mathlib.Core.Path.{sym, ◌∙◌}
use native.Mathlib.Omega.{arith}
use lib.Seq.{length-take-le}
use Rattle.wire.specs.Answers.{told}
use Rattle.node.specs.View.{state_of}
use Rattle.node.proofs.Parts.{state-held}
use Rattle.accounts.proofs.Paying.{own-fine, refused-paid, refused_full, refused-not}
use Rattle.accounts.proofs.pay.refusal.Goals as goal

pub own_data-ours-requires : goal.own_data-ours-requires
own_data-ours-requires c =
    (c.requires.0, state-held c.args.s c.args.mem.now c.requires.1.table.held)

pub slice_bounds-find_tlv-end : goal.slice_bounds-find_tlv-end
slice_bounds-find_tlv-end c =
    sym (length-take-le c.put_payment-n.result c.put_payment-n.new.d (search rules))

pub find_tlv-requires : goal.find_tlv-requires
find_tlv-requires c =
    own-fine c.args.clock (state_of c.args.s c.args.mem.now) c.requires.1 c.own_data-ours.result.now c.own_data-ours.ensures

pub returns-then-is_some : goal.returns-then-is_some
returns-then-is_some c =
    refused-paid (told c.args.payment) _ c.put_payment-n.new.d c.put_payment-n.result (omega arith) c.put_payment-n.ensures
    (state_of c.args.s c.args.mem.now) c.own_data-ours.result.now c.own_data-ours.ensures c.find_tlv.result c.find_tlv.ensures (sym c.is_some.ensures ∙ c.if-is_some.true)

pub returns-then-ours-n-gt-PUBLISH_LIMIT : goal.returns-then-ours-n-gt-PUBLISH_LIMIT
returns-then-ours-n-gt-PUBLISH_LIMIT c =
    refused_full (told c.args.payment) _ c.put_payment-n.new.d c.put_payment-n.result (omega arith) c.put_payment-n.ensures
    (state_of c.args.s c.args.mem.now) c.own_data-ours.result.now c.own_data-ours.ensures c.find_tlv.result c.find_tlv.ensures (sym c.is_some.ensures ∙ c.if-is_some.false) c.if-ours-n-gt-PUBLISH_LIMIT.true

pub returns : goal.returns
returns c =
    refused-not (told c.args.payment) _ c.put_payment-n.new.d c.put_payment-n.result (omega arith) c.put_payment-n.ensures
    (state_of c.args.s c.args.mem.now) c.own_data-ours.result.now c.own_data-ours.ensures c.find_tlv.result c.find_tlv.ensures (sym c.is_some.ensures ∙ c.if-is_some.false) c.if-ours-n-gt-PUBLISH_LIMIT.false
