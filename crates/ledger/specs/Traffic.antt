-- Demand 3 over the traffic that there is: lists of public calls, datagrams with any TLVs, ticks, choices and payments among them. Assumes nothing.
use Rattle.std.specs.Prelude.{◌≡◌, Bool, true, false, List, [], ◌∷◌, ◌++◌, map, ◌↔◌, ℕ, ◌≤◌, length}
use Rattle.base.specs.Lists.{In, All}
use Rattle.model.specs.Table.{Entry, Statement, statements}
use Rattle.model.specs.Delivery.{Close, distinct, Holds}
use Rattle.model.specs.Traffic.{Turn, heard_over, others_of, held_or_heard_by}
use Rattle.table.specs.View.{view}
use Rattle.node.specs.View.{state_of}
use Rattle.node.specs.declared.State.{State}
use Rattle.exchange.specs.Datagram.{call_of}
use Rattle.ledger.specs.Promises.{AsLeft}
use Rattle.ledger.specs.Calls.{PublicCall, Trace, state_at_end, memory_at_end}

-- all calls but those that start anew and the one that purges
abbrev pub continues : PublicCall → Bool
continues (PublicCall.begins own clock rs r) = false
continues (PublicCall.resumes bytes clock rs r m') = false
continues (PublicCall.receives datagram clock endpoint unicast rs q r m' q') = true
continues (PublicCall.ticks clock endpoint rs q r m' q') = true
continues (PublicCall.chooses clock endpoint interval rs r m') = true
continues (PublicCall.pays clock p rs r m') = true
continues (PublicCall.purges clock rs r) = false
continues (PublicCall.looks x) = true

-- the model's calls, where the table memory has n bytes; those that show or sum are none
abbrev pub turn_of : ℕ → PublicCall → List Turn
turn_of n (PublicCall.begins own clock rs r) = []
turn_of n (PublicCall.resumes bytes clock rs r m') = []
turn_of n (PublicCall.receives datagram clock endpoint unicast rs q r m' q') = Turn.receives (call_of datagram clock endpoint unicast rs n (length q)) ∷ []
turn_of n (PublicCall.ticks clock endpoint rs q r m' q') = Turn.ticks clock endpoint rs n (length q) ∷ []
turn_of n (PublicCall.chooses clock endpoint interval rs r m') = Turn.chooses clock endpoint interval rs n ∷ []
turn_of n (PublicCall.pays clock p rs r m') = Turn.pays clock p rs n ∷ []
turn_of n (PublicCall.purges clock rs r) = []
turn_of n (PublicCall.looks x) = []

abbrev pub turns_of : ℕ → List PublicCall → List Turn
turns_of n [] = []
turns_of n (x ∷ xs) = turn_of n x ++ turns_of n xs

-- statements of other nodes held at the start, or heard in an accepted datagram: each Node State about another node that carries good data with
-- matching H, and each without data whose H is that of the data held for its node by then, with that data (model, Traffic)
abbrev pub held_or_heard_of : State → List ℕ → List PublicCall → List Statement
held_or_heard_of s m xs = held_or_heard_by (state_of s m) (turns_of (length m) xs)

-- any start that keeps the invariant, any such calls, and the demand's own words
pub record Carried (s : State) (m : List ℕ) (xs : List PublicCall) : Type 0 where
  pub left : AsLeft s m
  pub trace : Trace s m xs
  pub goes_on : All (λ x. continues x ≡ true) xs
  pub few : length (distinct (map (λ (x : Statement). x.node) (statements (view s.table m) ++ heard_over (state_of s m) (turns_of (length m) xs)))) ≤ 32
  pub close : (n : ℕ) → Close (held_or_heard_of s m xs) n
  pub single : (x y : Statement) → In x (held_or_heard_of s m xs) → In y (held_or_heard_of s m xs) → x.node ≡ y.node → x.seq ≡ y.seq → x.node_data ≡ y.node_data

-- the other nodes' entries after the last call
abbrev pub others_at_end : State → List ℕ → List PublicCall → List Entry
others_at_end s m xs = others_of s.own (view (state_at_end s xs).table (memory_at_end m xs))

pub record RealTrafficLosesNothing : Type 0 where
  pub own : (s : State) (m : List ℕ) (xs : List PublicCall) → Carried s m xs → (state_at_end s xs).own ≡ s.own
  -- exactly the other nodes held or heard, each with its newest statement
  pub kept : (s : State) (m : List ℕ) (xs : List PublicCall) → Carried s m xs → Holds (λ (x : Statement). In x (held_or_heard_of s m xs)) (others_at_end s m xs)
  -- two such lists that heard the same leave the same of the other nodes, apart from ages
  pub alike : (s : State) (m : List ℕ) (xs ys : List PublicCall) → Carried s m xs → Carried s m ys
      → ((x : Statement) → In x (heard_over (state_of s m) (turns_of (length m) xs)) ↔ In x (heard_over (state_of s m) (turns_of (length m) ys)))
      → statements (others_at_end s m xs) ≡ statements (others_at_end s m ys)
