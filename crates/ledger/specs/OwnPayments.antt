-- Our own payments over any list of public calls: what was accepted stays, and nothing else comes. Assumes nothing.
use Rattle.std.specs.Prelude.{◌≡◌, false, cond, List, [], ◌∷◌, ◌++◌, ◌⊎◌, ◌↔◌, ℕ, ◌≤◌, length, take, eqb}
use Rattle.base.specs.Lists.{In, All}
use Rattle.wire.specs.Payment.{payment_tlv}
use Rattle.model.specs.Figures.{table_bytes, last_reading}
use Rattle.model.specs.Theorems.{own_payments}
use Rattle.node.specs.View.{state_of}
use Rattle.node.specs.declared.State.{State}
use Rattle.node.specs.declared.answers.Done.{Done}
use Rattle.ledger.specs.declared.answers.Saved.{Saved}
use Rattle.ledger.specs.Promises.{AsLeft, Begins, Resumes, Saves}
use Rattle.ledger.specs.Calls.{PublicCall, starts_anew, Trace, state_at_end, memory_at_end}

-- the payments in our own data, each as its TLV
abbrev pub payments_at : State → List ℕ → List (List ℕ)
payments_at s m = own_payments (state_of s m)

-- the payment that a call accepted
abbrev pub paid_by : PublicCall → List (List ℕ)
paid_by (PublicCall.begins own clock rs r) = []
paid_by (PublicCall.resumes bytes clock rs r m') = []
paid_by (PublicCall.receives datagram clock endpoint unicast rs q r m' q') = []
paid_by (PublicCall.ticks clock endpoint rs q r m' q') = []
paid_by (PublicCall.chooses clock endpoint interval rs r m') = []
paid_by (PublicCall.pays clock p rs r m') = cond (eqb r.number 0) (payment_tlv p ∷ []) []
paid_by (PublicCall.purges clock rs r) = []
paid_by (PublicCall.looks x) = []

abbrev pub paid_over : List PublicCall → List (List ℕ)
paid_over [] = []
paid_over (x ∷ xs) = paid_by x ++ paid_over xs

pub record PaidStays : Type 0 where
  -- any calls but those that start anew, whatever datagrams bring: at the end our data has exactly the payments of the start and those accepted
  pub kept : (s : State) (m : List ℕ) (xs : List PublicCall) → AsLeft s m → Trace s m xs → All (λ x. starts_anew x ≡ false) xs
      → (t : List ℕ) → In t (payments_at (state_at_end s xs) (memory_at_end m xs)) ↔ (In t (payments_at s m) ⊎ In t (paid_over xs))
  -- a node that begins has none
  pub begun : (own clock : ℕ) (randoms : List ℕ) (s : State) (m : List ℕ) (r : Done) → Begins own clock randoms s m r → r.number ≡ 0 → payments_at r.state m ≡ []
  -- one that resumes has those of the node that saved, whatever state and memory were there
  pub resumed : (clock later : ℕ) (randoms : List ℕ) (s : State) (m q : List ℕ) (r : Saved) (q' : List ℕ) → AsLeft s m → Saves clock s m q r q' → r.number ≡ 0
      → later ≤ last_reading → (u : State) (n : List ℕ) (d : Done) (n' : List ℕ) → table_bytes ≤ length n → Resumes (take r.length q') later randoms u n d n'
      → payments_at d.state n' ≡ payments_at s m
