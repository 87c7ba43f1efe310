use mathlib.Core.Path.{sym, ◌∙◌}
use Rattle.accounts.proofs.Sums.{add_other, code_unread, code_sum, code_not, code_picked}
use Rattle.accounts.proofs.totals.add_tlv.Goals as goal

pub returns-then-kind : goal.returns-then-kind
returns-then-kind c = sym (add_other c.args.w c.args.kind c.args.value.now c.args.t c.if-kind.true)

pub returns-in-None : goal.returns-in-None
returns-in-None c = code_unread c.args.w c.args.kind c.args.value.now c.args.t c.if-kind.false c.requires c.in-None.ensures

pub overflow_add-result-in-Some : goal.overflow_add-result-in-Some
overflow_add-result-in-Some c = rw c.from.ensures (code_sum c.args.w c.args.kind c.args.value.now c.args.t c.if-kind.false c.requires c.in-Some.payment c.in-Some.ensures)

pub returns-in-Some : goal.returns-in-Some
returns-in-Some c = rw c.from.ensures (code_picked c.args.w c.args.kind c.args.value.now c.args.t c.if-kind.false c.requires c.in-Some.payment c.in-Some.ensures (sym c.counts.ensures ∙ c.if-counts.true))

pub returns-in-Some-2 : goal.returns-in-Some-2
returns-in-Some-2 c = code_not c.args.w c.args.kind c.args.value.now c.args.t c.if-kind.false c.requires c.in-Some.payment c.in-Some.ensures (sym c.counts.ensures ∙ c.if-counts.false)
