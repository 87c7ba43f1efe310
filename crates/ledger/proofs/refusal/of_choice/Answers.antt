use mathlib.Core.Path.{sym}
use Rattle.std.proofs.lemmas.Grind.{common_steps}
use mathlib.Core.List.{[], ◌∷◌}
use native.Mathlib.Omega.{arith}
use lib.ListN.{length}
use Rattle.model.specs.Refusals.{late, back, no_such_endpoint, no_interval, small_table}
use Rattle.model.specs.KeepAlive.{no_room}
use Rattle.node.specs.View.{state_of}
use Rattle.node.proofs.Parts.{state-last}
use Rattle.ledger.proofs.Left.{interval-accepted}
use Rattle.ledger.proofs.Answering.{goes-early, goes-late, ready}
use Rattle.ledger.proofs.refusal.of_choice.Goals as goal

pub returns-in_err-place-clause-number : goal.returns-in_err-place-clause-number
returns-in_err-place-clause-number c =
    let v = state_of c.args.state c.args.memory.now in
    let e = goes-early (late c.args.clock ∷ back c.args.clock v ∷ no_such_endpoint c.args.endpoint ∷ no_interval c.args.interval ∷ small_table (length c.args.memory.now) ∷ [])
    (no_room c.args.endpoint c.args.interval v ∷ []) _ (c.in_err-place.ensures.number v (state-last c.args.state c.args.memory.now)) in
    grind (arith, common_steps, e)

pub refusal-requires : goal.refusal-requires
refusal-requires c =
    let v = state_of c.args.state c.args.memory.now in
    let f = interval-accepted c.args.clock v c.args.endpoint c.args.interval (length c.args.memory.now) [] tt (sym (c.in_ok-place.ensures.number v (state-last c.args.state c.args.memory.now))) in
    let r = ready c.requires c.args.clock (f.0, (f.1.0, f.1.1.1.1.0)) in
    (r.0, r.1.0)

pub returns-in_err-refusal-clause-number : goal.returns-in_err-refusal-clause-number
returns-in_err-refusal-clause-number c =
    let v = state_of c.args.state c.args.memory.now in
    let e = goes-late (late c.args.clock ∷ back c.args.clock v ∷ no_such_endpoint c.args.endpoint ∷ no_interval c.args.interval ∷ small_table (length c.args.memory.now) ∷ []) (no_room c.args.endpoint c.args.interval v ∷ []) (omega arith) (c.in_ok-place.ensures.number v (state-last c.args.state c.args.memory.now)) (rw c.in_ok-place.ensures.held.1 at c.in_err-refusal.ensures) in
    grind (arith, common_steps, e)

pub returns-clause-number : goal.returns-clause-number
returns-clause-number c =
    let v = state_of c.args.state c.args.memory.now in
    goes-late (late c.args.clock ∷ back c.args.clock v ∷ no_such_endpoint c.args.endpoint ∷ no_interval c.args.interval ∷ small_table (length c.args.memory.now) ∷ [])
    (no_room c.args.endpoint c.args.interval v ∷ []) (omega arith) (c.in_ok-place.ensures.number v (state-last c.args.state c.args.memory.now)) (rw c.in_ok-place.ensures.held.1 at c.in_ok-refusal.ensures)
