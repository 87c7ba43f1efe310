-- Demand 3 over the traffic that there is: datagrams with any TLVs, ticks, choices and payments, in whatever order. What is heard is then not one statement for
-- each call, and our own node publishes in between; what holds is said of the other nodes. Assumes nothing.
use Rattle.std.specs.Prelude.{◌≡◌, ℕ, ◌≤◌, true, cond, not, ◌&&◌, ◌⊎◌, ◌↔◌, List, [], ◌∷◌, ◌++◌, map, length, ◌==◌}
use Rattle.std.proofs.Math.Option.{some}
use Rattle.base.specs.Lists.{or_else, keep, In}
use Rattle.base.specs.Bytes.{same}
use Rattle.sha256.specs.Sha256.{hash16}
use Rattle.wire.specs.Row.{value_of, tlvs}
use Rattle.wire.specs.Order.{good}
use Rattle.wire.specs.Payment.{Payment}
use Rattle.model.specs.Figures.{data_limit}
use Rattle.model.specs.Table.{Statement, Entry, id_of, look, statements}
use Rattle.model.specs.State.{State}
use Rattle.model.specs.Decide.{Received, received_of}
use Rattle.model.specs.Handle.{Context, Work, one_tlv}
use Rattle.model.specs.Receive.{Call, about_other, context_of, start_of, receive}
use Rattle.model.specs.Tick.{tick}
use Rattle.model.specs.KeepAlive.{keep_alive}
use Rattle.model.specs.Pay.{pay}
use Rattle.model.specs.Invariant.{Valid}
use Rattle.model.specs.Delivery.{saying, statement_in, accepted, distinct, Close, Holds}

-- ---- what is heard

-- A Node State without data names a digest. Where that is the digest of the data that is held for its node, it says that this data has its number
-- (document 01: "take number and age and keep the data"), and it is heard as that. Where it is another digest nothing is known of the data, and it is
-- no statement. So a digest that two sets of data share would be heard as our data: H is taken at its word, here as in the table.
abbrev pub again : List Entry → Received → List Statement
again t r = or_else (look r.node t) [] (λ e. cond (same (hash16 e.says.node_data) r.hash) (saying r e.says.node_data ∷ []) [])

-- what a Node State says, where the table t is held: a statement as demand 3 has it, or the data that is held again
abbrev pub said_in : List Entry → Received → List Statement
said_in t r = or_else r.carried (again t r) (λ d. cond (good data_limit d && same (hash16 d) r.hash) (saying r d ∷ []) [])

-- what a TLV says of another node than our own
unfoldable pub heard_in : State → List ℕ → List Statement
heard_in s t = cond (about_other s.own t) (said_in s.table (received_of (value_of t))) []

-- TLV by TLV
unfoldable pub heard_all : Context → List (List ℕ) → Work → List Statement
heard_all c [] w = []
heard_all c (t ∷ ts) w = heard_in w.state t ++ heard_all c ts (one_tlv c t w)

-- ---- the calls: all that change state but those that start anew and the one that purges. Calls that show or sum change nothing.

pub data Turn : Type 0 where
  receives : Call → Turn
  ticks : (clock endpoint : ℕ) → List ℕ → (table room : ℕ) → Turn
  chooses : (clock endpoint interval : ℕ) → List ℕ → (table : ℕ) → Turn
  pays : ℕ → Payment → List ℕ → ℕ → Turn

abbrev pub turned : State → Turn → State
turned s (Turn.receives c) = (receive c s).state
turned s (Turn.ticks clock i rs table room) = (tick clock i rs table room s).state
turned s (Turn.chooses clock i n rs table) = (keep_alive clock i n rs table s).state
turned s (Turn.pays clock p rs table) = (pay clock p rs table s).state

unfoldable pub heard_by : State → Turn → List Statement
heard_by s (Turn.receives c) = cond (accepted s c) (heard_all (context_of s c) (tlvs c.datagram) (start_of s)) []
heard_by s (Turn.ticks clock i rs table room) = []
heard_by s (Turn.chooses clock i n rs table) = []
heard_by s (Turn.pays clock p rs table) = []

-- "Each call gets what the last one left"
unfoldable pub turns : State → List Turn → State
turns s [] = s
turns s (x ∷ xs) = turns (turned s x) xs

unfoldable pub heard_over : State → List Turn → List Statement
heard_over s [] = []
heard_over s (x ∷ xs) = heard_by s x ++ heard_over (turned s x) xs

-- ---- of the other nodes

abbrev pub others_of : ℕ → List Entry → List Entry
others_of own t = keep (λ e. not (id_of e == own)) t

abbrev pub held_or_heard_by : State → List Turn → List Statement
held_or_heard_by s xs = statements (others_of s.own s.table) ++ heard_over s xs

-- demand 3's premises, in its own words; our own node is one of the 32
pub record Traffic (s : State) (xs : List Turn) : Type 0 where
  pub valid : Valid s
  pub few : length (distinct (map (λ (x : Statement). x.node) (statements s.table ++ heard_over s xs))) ≤ 32
  pub close : (n : ℕ) → Close (held_or_heard_by s xs) n
  pub single : (x y : Statement) → In x (held_or_heard_by s xs) → In y (held_or_heard_by s xs) → x.node ≡ y.node → x.seq ≡ y.seq → x.node_data ≡ y.node_data

-- x is heard as the data that is held again: t names its digest, and an entry of its node has it
pub record HeldAgain (s : State) (t : List ℕ) (x : Statement) : Type 0 where
  pub entry : Entry
  pub stands : In entry s.table
  pub node : id_of entry ≡ x.node
  pub kept : entry.says.node_data ≡ x.node_data
  pub hash : same (hash16 x.node_data) (received_of (value_of t)).hash ≡ true

pub record TrafficLosesNothing : Type 0 where
  -- every statement about another node, as demand 3 has them, is heard, whatever is held; what else is heard is held already but for its number
  pub heard : (s : State) (t : List ℕ) (x : Statement) → statement_in t ≡ some x → ¬ (x.node ≡ s.own) → heard_in s t ≡ x ∷ []
  pub only : (s : State) (t : List ℕ) (x : Statement) → In x (heard_in s t) → (statement_in t ≡ some x) ⊎ HeldAgain s t x
  pub own : (s : State) (xs : List Turn) → (turns s xs).own ≡ s.own
  -- exactly the other nodes held or heard, each with its newest statement
  pub kept : (s : State) (xs : List Turn) → Traffic s xs → Holds (λ x. In x (held_or_heard_by s xs)) (others_of s.own (turns s xs).table)
  -- two such lists that heard the same leave the same of the other nodes, apart from ages
  pub alike : (s : State) (xs ys : List Turn) → Traffic s xs → Traffic s ys → ((x : Statement) → In x (heard_over s xs) ↔ In x (heard_over s ys))
      → statements (others_of s.own (turns s xs).table) ≡ statements (others_of s.own (turns s ys).table)
