use mathlib.Core.List.{[], ◌∷◌}
use native.Mathlib.Omega.{arith}
use lib.ListN.{length}
use Rattle.std.proofs.lemmas.Grind.{common_steps}
use Rattle.model.specs.Refusals.{late, back, small_table, no_household, paid_already, full}
use Rattle.wire.specs.Answers.{told}
use Rattle.node.specs.View.{state_of}
use Rattle.node.proofs.Parts.{state-last}
use Rattle.ledger.proofs.Answering.{goes-early, goes-late, table_ready}
use Rattle.ledger.proofs.refusal.of_payment.Goals as goal

pub returns-in_err-reading-clause-number : goal.returns-in_err-reading-clause-number
returns-in_err-reading-clause-number c =
    let v = state_of c.args.state c.args.memory.now in
    let p = told c.args.payment in
    let e = goes-early (late c.args.clock ∷ back c.args.clock v ∷ small_table (length c.args.memory.now) ∷ no_household c.args.payment.household ∷ [])
    (paid_already p v ∷ full p v ∷ []) _ (c.in_err-reading.ensures.number v (state-last c.args.state c.args.memory.now)) in
    grind (arith, common_steps, e)

pub refusal-requires : goal.refusal-requires
refusal-requires c =
    let r = table_ready c.requires c.args.clock (no_household c.args.payment.household ∷ []) (omega arith) c.in_ok-reading.ensures.number in
    (r.0, r.1.0)

pub returns-in_err-refusal-clause-number : goal.returns-in_err-refusal-clause-number
returns-in_err-refusal-clause-number c =
    let v = state_of c.args.state c.args.memory.now in
    let p = told c.args.payment in
    let e = goes-late (late c.args.clock ∷ back c.args.clock v ∷ small_table (length c.args.memory.now) ∷ no_household c.args.payment.household ∷ []) (paid_already p v ∷ full p v ∷ []) (omega arith) (c.in_ok-reading.ensures.number v (state-last c.args.state c.args.memory.now)) c.in_err-refusal.ensures in
    grind (arith, common_steps, e)

pub returns-clause-number : goal.returns-clause-number
returns-clause-number c =
    let v = state_of c.args.state c.args.memory.now in
    let p = told c.args.payment in
    goes-late (late c.args.clock ∷ back c.args.clock v ∷ small_table (length c.args.memory.now) ∷ no_household c.args.payment.household ∷ [])
    (paid_already p v ∷ full p v ∷ []) (omega arith) (c.in_ok-reading.ensures.number v (state-last c.args.state c.args.memory.now))
    c.in_ok-refusal.ensures
