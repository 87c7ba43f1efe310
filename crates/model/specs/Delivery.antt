-- Demand 3: over whole lists of datagram calls the order of delivery loses nothing. Document 01, What the promises must carry, says what its words mean.
-- Assumes nothing.
use Rattle.std.specs.Prelude.{◌≡◌, ℕ, ◌<◌, ◌≤◌, Bool, true, false, cond, ◌&&◌, ◌↔◌, List, [], ◌∷◌, ◌++◌, map, length, ◌==◌, nat_le}
use Rattle.std.proofs.Math.Option.{Option, none, some}
use Rattle.base.specs.Lists.{or_else, In}
use Rattle.base.specs.Bytes.{same}
use Rattle.base.specs.Sorted.{Ascending, insert}
use Rattle.sha256.specs.Sha256.{hash16}
use Rattle.wire.specs.Row.{type_of, value_of, tlvs}
use Rattle.wire.specs.Order.{good}
use Rattle.model.specs.Figures.{data_limit}
use Rattle.model.specs.Sequence.{circle, older, Stretch}
use Rattle.model.specs.Table.{Statement, Entry, id_of, statements, under_age}
use Rattle.model.specs.Reach.{in_reach}
use Rattle.model.specs.Digest.{network_digest}
use Rattle.model.specs.State.{State}
use Rattle.model.specs.Decide.{Received, received_of}
use Rattle.model.specs.Receive.{Call, receive}
use Rattle.model.specs.Invariant.{Valid}

-- ---- what is heard

-- a Node State's node and number, with the data d
abbrev pub saying : Received → List ℕ → Statement
saying r d = record { node = r.node; seq = r.seq; node_data = d }

-- document 01: "a statement is a Node State .. that carries data, good and with matching H"
abbrev pub statement_of : Received → Option Statement
statement_of r =
    or_else r.carried none
    (λ d. cond (good data_limit d && same (hash16 d) r.hash) (some (saying r d)) none)

abbrev pub statement_in : List ℕ → Option Statement
statement_in t = cond (type_of t == 5 && nat_le 28 (length (value_of t))) (statement_of (received_of (value_of t))) none

-- demand 3: "alone in its datagram"
abbrev pub alone : List (List ℕ) → Option Statement
alone [] = none
alone (t ∷ []) = statement_in t
alone (t ∷ u ∷ ts) = none

unfoldable pub brought : Call → Option Statement
brought c = alone (tlvs c.datagram)

abbrev pub accepted : State → Call → Bool
accepted s c = (receive c s).number == 0

abbrev pub next : State → Call → State
next s c = (receive c s).state

-- demand 3: "Each call gets what the last one left": the state after a list of calls
unfoldable pub run : State → List Call → State
run s [] = s
run s (c ∷ cs) = run (next s c) cs

abbrev pub brings_if : Bool → Call → List Statement
brings_if true c = or_else (brought c) [] (λ x. x ∷ [])
brings_if false c = []

-- document 01: "heard means in an accepted call"
unfoldable pub heard : State → List Call → List Statement
heard s [] = []
heard s (c ∷ cs) = brings_if (accepted s c) c ++ heard (next s c) cs

-- document 01: "Held means at the start"
abbrev pub held_or_heard : State → List Call → List Statement
held_or_heard s cs = statements s.table ++ heard s cs

-- ---- the premises, in demand 3's own words

pub record Brings (own : ℕ) (c : Call) : Type 0 where
  pub statement : Statement
  pub lone : brought c ≡ some statement
  pub foreign : ¬ (statement.node ≡ own)

-- "Let each accepted call bring one statement, alone in its datagram and not about our own box"
abbrev pub Lone : State → List Call → Type 0
Lone s [] = Unit {0}
Lone s (c ∷ cs) = (accepted s c ≡ true → Brings s.own c) × Lone (next s c) cs

-- each number once, ascending
abbrev pub distinct : List ℕ → List ℕ
distinct [] = []
distinct (n ∷ ns) = insert (λ (k : ℕ). k) n (distinct ns)

-- "let the numbers held and heard lie within one stretch of 2,147,483,648 consecutive values round the circle"
pub record Close (l : List Statement) (n : ℕ) : Type 0 where
  pub start : ℕ
  pub small : start < circle
  pub near : (x : Statement) → In x l → x.node ≡ n → Stretch start x.seq

pub record Premises (s : State) (cs : List Call) : Type 0 where
  -- "any state and table our calls can leave"
  pub valid : Valid s
  pub lone : Lone s cs
  -- "Let all boxes held or heard number 32 at most": the demand's own figure, not the table's, so that a table of 31 is refused
  pub few : length (distinct (map (λ x. x.node) (held_or_heard s cs))) ≤ 32
  pub close : (n : ℕ) → Close (held_or_heard s cs) n
  -- "let one number never have two sets of data"
  pub single : (x y : Statement) → In x (held_or_heard s cs) → In y (held_or_heard s cs) → x.node ≡ y.node → x.seq ≡ y.seq → x.node_data ≡ y.node_data

-- ---- the claims, in demand 3's own words

-- "the table afterwards holds exactly the boxes held or heard, each with its newest statement": of the statements in P,
-- document 01's "number .. that its other numbers are all older than, and that number's data"
pub record Holds (P : Statement → Type 0) (t : List Entry) : Type 0 where
  pub ascending : Ascending id_of t
  pub from : (e : Entry) → In e t → P e.says
  pub newest : (e : Entry) (x : Statement) → In e t → P x → x.node ≡ id_of e → ¬ (x.seq ≡ e.says.seq) → older x.seq e.says.seq ≡ true
  pub each : (x : Statement) → P x → (e : Entry) × In e t × (id_of e ≡ x.node)

-- "two such lists .. that heard the same statements, whatever the order, repeats, readings and endpoints"
abbrev pub SameHeard : State → List Call → List Call → Type 0
SameHeard s cs ds = (x : Statement) → In x (heard s cs) ↔ In x (heard s ds)

abbrev pub Under : ℕ → List Entry → Type 0
Under clock t = (e : Entry) → In e t → under_age clock e ≡ true

-- "leave the same table apart from ages. At any reading .., with every entry in both tables under age, marks and network digest are the same too"
pub record Alike (s : State) (cs ds : List Call) : Type 0 where
  pub table : statements (run s cs).table ≡ statements (run s ds).table
  pub marks : (clock : ℕ) → Under clock (run s cs).table → Under clock (run s ds).table → (n : ℕ)
      → in_reach (run s cs).own clock (run s cs).table n ≡ in_reach (run s ds).own clock (run s ds).table n
  pub digest : (clock : ℕ) → Under clock (run s cs).table → Under clock (run s ds).table
      → network_digest (run s cs).own clock (run s cs).table ≡ network_digest (run s ds).own clock (run s ds).table

-- the order of delivery can't lose a payment: both halves
pub record OrderLosesNothing : Type 0 where
  pub kept : (s : State) (cs : List Call) → Premises s cs → Holds (λ x. In x (held_or_heard s cs)) (run s cs).table
  pub alike : (s : State) (cs ds : List Call) → Premises s cs → Premises s ds → SameHeard s cs ds → Alike s cs ds
