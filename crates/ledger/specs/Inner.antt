-- What the steps behind the calls promise. Assumes nothing.
use Rattle.std.specs.Prelude.{◌≡◌, List, length, ℕ, Result, Ok, Err}
use Rattle.model.specs.Numbers.{number}
use Rattle.model.specs.declared.numbers.Refusal.{Refusal}
use Rattle.model.specs.Show.{refusal_show}
use Rattle.model.specs.State.{State}
use Rattle.model.specs.Totals.{reachable, unreadable, payments_in}
use Rattle.table.specs.View.{Stands}
use Rattle.node.specs.View.{state_of}
use Rattle.node.specs.declared.State.{State as Node}
use Rattle.accounts.specs.declared.totals.Whose.{Whose}
use Rattle.accounts.specs.Tallied.{sum_for}
use Rattle.ledger.specs.declared.answers.Summed.{Summed}

-- the sum over the reachable nodes of the state s
pub record Summing (w : Whose) (clock : ℕ) (s : State) (r : Summed) : Type 0 where
  pub number : r.number ≡ 0
  pub value : r.value ≡ sum_for w (reachable clock s)
  pub unread : r.unread ≡ unreadable (payments_in (reachable clock s))

-- the place of the node n in the table, or why nothing is shown
abbrev pub Placed : ℕ → Node → List ℕ → Result ℕ Refusal → Type 0
Placed n s m (Ok i) = Stands s.table n i × (0 ≡ refusal_show n (length m) (state_of s m))
Placed n s m (Err r) = number r ≡ refusal_show n (length m) (state_of s m)
