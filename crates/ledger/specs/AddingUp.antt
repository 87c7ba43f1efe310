-- Totals that add up: what groups of nodes, and payments, add to a total or to the sum (document 02, Totals that add up). Assumes nothing.
use Rattle.std.specs.Prelude.{◌≡◌, Bool, true, not, cond, List, [], ◌++◌, map, ◌⊎◌, ◌↔◌, ℕ, ◌+◌, eqb, ℤ, pos, neg_ℤ, ◌+ℤ◌}
use Rattle.base.specs.Lists.{keep, In}
use Rattle.base.specs.Sorted.{Ascending}
use Rattle.wire.specs.Payment.{Payment, Payable}
use Rattle.model.specs.Table.{Entry, Statement, id_of, under_age, statements}
use Rattle.model.specs.State.{own_entry}
use Rattle.model.specs.Totals.{Summed as ModelSummed, total_of, payments_of, sum_of, unreadable, payments_in, not_summed}
use Rattle.table.specs.View.{view}
use Rattle.node.specs.View.{state_of}
use Rattle.node.specs.declared.State.{State}
use Rattle.node.specs.declared.answers.Done.{Done}
use Rattle.ledger.specs.declared.answers.Summed.{Summed}
use Rattle.ledger.specs.Promises.{AsLeft, summed_of, Pays, Totals, SumsUp}
use Rattle.ledger.specs.Demands.{Reachable}

-- ---- what is asked, and what is answered

-- a household's total, or the sum over all households
pub data Question : Type 0 where
  household : ℕ → Question
  all : Question

abbrev pub AnswerTo : Question → ℕ → State → List ℕ → Summed → Type 0
AnswerTo (Question.household h) clock s m r = Totals clock h s m r
AnswerTo Question.all clock s m r = SumsUp clock s m r

abbrev pub value_over : Question → List Statement → ℤ
value_over (Question.household h) ss = total_of h ss
value_over Question.all ss = sum_of ss

-- the answer over these nodes alone
abbrev pub over : Question → List Entry → ModelSummed
over q es = record { number = 0; value = value_over q (statements es); unread = unreadable (payments_in (statements es)) }

-- value and count of r are the sums of those of x and y
abbrev pub AddsUp : ModelSummed → ModelSummed → ModelSummed → Type 0
AddsUp r x y = (r.value ≡ x.value +ℤ y.value) × (r.unread ≡ x.unread + y.unread)

-- ---- groups of nodes

abbrev pub ids_of : List Entry → List ℕ
ids_of es = map id_of es

-- "split into two groups with no box in common": each node stands in exactly one of the two, and no other does; both ascend, so that it stands there once; and its
-- payments are the same there. Sequence numbers, ages and what else it publishes play no part.
pub record Split (es a b : List Entry) : Type 0 where
  pub every : (n : ℕ) → In n (ids_of es) ↔ (In n (ids_of a) ⊎ In n (ids_of b))
  pub apart : (n : ℕ) → In n (ids_of a) → ¬ In n (ids_of b)
  pub once : Ascending id_of a × Ascending id_of b
  pub same : (e f : Entry) → In e es → In f (a ++ b) → id_of e ≡ id_of f → payments_of e.says.node_data ≡ payments_of f.says.node_data

-- a node's accepted answer to a question, as it was given, and the nodes that it has in reach at that reading
pub record Report (q : Question) : Type 0 where
  pub clock : ℕ
  pub state : State
  pub memory : List ℕ
  pub answer : Summed
  pub nodes : List Entry
  pub left : AsLeft state memory
  pub promised : AnswerTo q clock state memory answer
  pub accepted : answer.number ≡ 0
  pub reached : Reachable state.own clock (view state.table memory) nodes

pub record GroupsAddUp : Type 0 where
  -- "if the boxes in reach are split into two groups .., each household's total is the sum of the two"; so are the sum over all and the count
  pub groups : (q : Question) (x : Report q) (a b : List Entry) → Split x.nodes a b → AddsUp (summed_of x.answer) (over q a) (over q b)
  -- "a group without boxes adds nothing"
  pub nothing : (q : Question) → over q [] ≡ not_summed 0
  -- whoever marks nodes by identifier splits them
  pub marking : (f : ℕ → Bool) (es : List Entry) → Ascending id_of es → Split es (keep (λ e. f (id_of e)) es) (keep (λ e. not (f (id_of e))) es)
  -- "I add the valley and hill reports by hand": the answers of two other nodes add up to ours where what they have in reach is such a split of what we have
  pub reports : (q : Question) (ours valley hill : Report q) → Split ours.nodes valley.nodes hill.nodes
      → AddsUp (summed_of ours.answer) (summed_of valley.answer) (summed_of hill.answer)

-- ---- payments

-- an accepted payment, as it was made. That its numbers are in range is what the types of the call's arguments and refusal 7 give. "The opposite of
-- -2,147,483,648 doesn't exist in 32 bits": so it is no payment here, and needs no exception.
pub record Booked (clock : ℕ) (s : State) (m : List ℕ) : Type 0 where
  pub payment : Payment
  pub randoms : List ℕ
  pub answer : Done
  pub memory : List ℕ
  pub promised : Pays clock payment randoms s m answer memory
  pub accepted : answer.number ≡ 0
  pub payable : Payable payment

-- "our own age under the limit", at a reading
abbrev pub OwnYoung : ℕ → State → List ℕ → Type 0
OwnYoung clock s m = under_age clock (own_entry (state_of s m)) ≡ true

-- the question asks for this payment
abbrev pub asks_for : Question → Payment → Bool
asks_for (Question.household h) p = eqb p.household h
asks_for Question.all p = true

-- what a payment adds to the answer
abbrev pub adding : Question → Payment → ModelSummed
adding q p = record { number = 0; value = cond (asks_for q p) p.amount (pos 0); unread = 0 }

-- "its opposite": the same household, and minus the amount as an integer, whatever the receipts
abbrev pub Opposite : Payment → Payment → Type 0
Opposite p o = (o.household ≡ p.household) × (o.amount ≡ neg_ℤ p.amount)

pub record OppositesCancel : Type 0 where
  -- an accepted payment adds its amount to its household's total and to the sum; no other total changes, and no count
  pub adds : (clock : ℕ) (s : State) (m : List ℕ) → AsLeft s m → OwnYoung clock s m → (x : Booked clock s m)
      → (q : Question) (a b : Summed) → AnswerTo q clock s m a → AnswerTo q clock x.answer.state x.memory b → a.number ≡ 0
      → (b.number ≡ 0) × AddsUp (summed_of b) (adding q x.payment) (summed_of a)
  -- "a payment directly followed by its opposite, both accepted at one reading with our own age under the limit before, leaves every total at that reading
  -- as before": to each question the whole answer, refused or not
  pub cancels : (clock : ℕ) (s : State) (m : List ℕ) → AsLeft s m → OwnYoung clock s m → (x : Booked clock s m) (y : Booked clock x.answer.state x.memory)
      → Opposite x.payment y.payment
      → (q : Question) (a b : Summed) → AnswerTo q clock s m a → AnswerTo q clock y.answer.state y.memory b → b ≡ a
