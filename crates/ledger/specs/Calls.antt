-- The public calls as one relation: what each was handed and gave back, and one call after the other. Assumes nothing.
use Rattle.std.specs.Prelude.{◌≡◌, Bool, true, false, List, [], ◌∷◌, ◌++◌, ℕ, length, replicate, pos}
use Rattle.base.specs.Lists.{or_else}
use Rattle.wire.specs.Payment.{Payment}
use Rattle.model.specs.Figures.{most_nodes, most_bytes, snapshot_bytes}
use Rattle.model.specs.Table.{Entry}
use Rattle.model.specs.Refusals.{Row, late, back, no_such_endpoint, small_table, small_room, long, no_row, no_household, paid_already, full, no_interval, no_such_node}
use Rattle.model.specs.Tick.{tick}
use Rattle.model.specs.KeepAlive.{no_room, keep_alive}
use Rattle.model.specs.Pay.{pay}
use Rattle.model.specs.Show.{refusal_show}
use Rattle.model.specs.Snapshot.{load, resumed, no_snapshot}
use Rattle.node.specs.View.{state_of}
use Rattle.node.specs.declared.State.{State}
use Rattle.exchange.specs.Datagram.{call_of, tables_of}
use Rattle.node.specs.declared.answers.Done.{Done}
use Rattle.node.specs.declared.answers.Sent.{Sent}
use Rattle.node.specs.declared.answers.Answer.{Answer}
use Rattle.ledger.specs.declared.answers.Summed.{Summed}
use Rattle.ledger.specs.declared.answers.Marked.{Marked}
use Rattle.ledger.specs.declared.answers.Saved.{Saved}
use Rattle.ledger.specs.declared.answers.Extent.{Extent}
use Rattle.ledger.specs.Promises.{Begins, Resumes, Receives, Ticks, Chooses, Pays, Purges, Totals, SumsUp, Marks, Saves, Shows, ShowRefuses}

-- ---- a call as it was made: what was handed in besides state and table memory, and what came back

-- those that show or sum
pub data Look : Type 0 where
  totals : (clock household : ℕ) → Summed → Look
  sums : (clock : ℕ) → Summed → Look
  marks : (clock : ℕ) → Marked → Look
  saves : (clock : ℕ) (room : List ℕ) → Saved → (written : List ℕ) → Look
  shows : (node : ℕ) → Extent → Look
  asks : (node number : ℕ) → Look

pub data PublicCall : Type 0 where
  begins : (own clock : ℕ) (randoms : List ℕ) → Done → PublicCall
  resumes : (bytes : List ℕ) (clock : ℕ) (randoms : List ℕ) → Done → (memory : List ℕ) → PublicCall
  receives : (datagram : List ℕ) (clock endpoint : ℕ) (unicast : Bool) (randoms room : List ℕ) → Answer → (memory written : List ℕ) → PublicCall
  ticks : (clock endpoint : ℕ) (randoms room : List ℕ) → Sent → (memory written : List ℕ) → PublicCall
  chooses : (clock endpoint interval : ℕ) (randoms : List ℕ) → Done → (memory : List ℕ) → PublicCall
  pays : (clock : ℕ) → Payment → (randoms : List ℕ) → Done → (memory : List ℕ) → PublicCall
  purges : (clock : ℕ) (randoms : List ℕ) → Done → PublicCall
  looks : Look → PublicCall

-- it met its promise
abbrev pub Looks : Look → State → List ℕ → Type 0
Looks (Look.totals clock household r) s m = Totals clock household s m r
Looks (Look.sums clock r) s m = SumsUp clock s m r
Looks (Look.marks clock r) s m = Marks clock s m r
Looks (Look.saves clock q r q') s m = Saves clock s m q r q'
Looks (Look.shows n r) s m = Shows n s m r
Looks (Look.asks n k) s m = ShowRefuses n s m k

abbrev pub Promised : PublicCall → State → List ℕ → Type 0
Promised (PublicCall.begins own clock rs r) s m = Begins own clock rs s m r
Promised (PublicCall.resumes bytes clock rs r m') s m = Resumes bytes clock rs s m r m'
Promised (PublicCall.receives datagram clock endpoint unicast rs q r m' q') s m = Receives datagram clock endpoint unicast rs s m q r m' q'
Promised (PublicCall.ticks clock endpoint rs q r m' q') s m = Ticks clock endpoint rs s m q r m' q'
Promised (PublicCall.chooses clock endpoint interval rs r m') s m = Chooses clock endpoint interval rs s m r m'
Promised (PublicCall.pays clock p rs r m') s m = Pays clock p rs s m r m'
Promised (PublicCall.purges clock rs r) s m = Purges clock rs s m r
Promised (PublicCall.looks x) s m = Looks x s m

-- state and table memory after it
abbrev pub state_after : PublicCall → State → State
state_after (PublicCall.begins own clock rs r) s = r.state
state_after (PublicCall.resumes bytes clock rs r m') s = r.state
state_after (PublicCall.receives datagram clock endpoint unicast rs q r m' q') s = r.state
state_after (PublicCall.ticks clock endpoint rs q r m' q') s = r.state
state_after (PublicCall.chooses clock endpoint interval rs r m') s = r.state
state_after (PublicCall.pays clock p rs r m') s = r.state
state_after (PublicCall.purges clock rs r) s = r.state
state_after (PublicCall.looks x) s = s

abbrev pub memory_after : PublicCall → List ℕ → List ℕ
memory_after (PublicCall.begins own clock rs r) m = m
memory_after (PublicCall.resumes bytes clock rs r m') m = m'
memory_after (PublicCall.receives datagram clock endpoint unicast rs q r m' q') m = m'
memory_after (PublicCall.ticks clock endpoint rs q r m' q') m = m'
memory_after (PublicCall.chooses clock endpoint interval rs r m') m = m'
memory_after (PublicCall.pays clock p rs r m') m = m'
memory_after (PublicCall.purges clock rs r) m = m
memory_after (PublicCall.looks x) m = m

-- the number that it answered; a node's data is shown without one, which a second call gives
abbrev pub look_number : Look → State → List ℕ → ℕ
look_number (Look.totals clock household r) s m = r.number
look_number (Look.sums clock r) s m = r.number
look_number (Look.marks clock r) s m = r.number
look_number (Look.saves clock q r q') s m = r.number
look_number (Look.shows n r) s m = refusal_show n (length m) (state_of s m)
look_number (Look.asks n k) s m = k

abbrev pub number_of : PublicCall → State → List ℕ → ℕ
number_of (PublicCall.begins own clock rs r) s m = r.number
number_of (PublicCall.resumes bytes clock rs r m') s m = r.number
number_of (PublicCall.receives datagram clock endpoint unicast rs q r m' q') s m = r.number
number_of (PublicCall.ticks clock endpoint rs q r m' q') s m = r.number
number_of (PublicCall.chooses clock endpoint interval rs r m') s m = r.number
number_of (PublicCall.pays clock p rs r m') s m = r.number
number_of (PublicCall.purges clock rs r) s m = r.number
number_of (PublicCall.looks x) s m = look_number x s m

-- its rows of the documents' numbers, in the order that they ask for
abbrev pub look_refusals : Look → State → List ℕ → List Row
look_refusals (Look.totals clock household r) s m = late clock ∷ back clock (state_of s m) ∷ small_table (length m) ∷ no_household household ∷ []
look_refusals (Look.sums clock r) s m = late clock ∷ back clock (state_of s m) ∷ small_table (length m) ∷ []
look_refusals (Look.marks clock r) s m = late clock ∷ back clock (state_of s m) ∷ small_table (length m) ∷ []
look_refusals (Look.saves clock q r q') s m = late clock ∷ back clock (state_of s m) ∷ small_room (length m) (length q) snapshot_bytes ∷ []
look_refusals (Look.shows n r) s m = small_table (length m) ∷ no_such_node n (state_of s m) ∷ []
look_refusals (Look.asks n k) s m = small_table (length m) ∷ no_such_node n (state_of s m) ∷ []

abbrev pub refusals_of : PublicCall → State → List ℕ → List Row
refusals_of (PublicCall.begins own clock rs r) s m = late clock ∷ small_table (length m) ∷ []
refusals_of (PublicCall.resumes bytes clock rs r m') s m = late clock ∷ small_table (length m) ∷ no_snapshot clock bytes ∷ []
refusals_of (PublicCall.receives datagram clock endpoint unicast rs q r m' q') s m =
    late clock ∷ back clock (state_of s m) ∷ no_such_endpoint endpoint ∷ small_room (length m) (length q) most_bytes ∷ long datagram ∷ no_row datagram ∷ []
refusals_of (PublicCall.ticks clock endpoint rs q r m' q') s m =
    late clock ∷ back clock (state_of s m) ∷ no_such_endpoint endpoint ∷ small_room (length m) (length q) most_bytes ∷ []
refusals_of (PublicCall.chooses clock endpoint interval rs r m') s m =
    late clock ∷ back clock (state_of s m) ∷ no_such_endpoint endpoint ∷ no_interval interval ∷ small_table (length m) ∷ no_room endpoint interval (state_of s m) ∷ []
refusals_of (PublicCall.pays clock p rs r m') s m =
    late clock ∷ back clock (state_of s m) ∷ small_table (length m) ∷ no_household p.household ∷ paid_already p (state_of s m) ∷ full p (state_of s m) ∷ []
refusals_of (PublicCall.purges clock rs r) s m = late clock ∷ back clock (state_of s m) ∷ small_table (length m) ∷ []
refusals_of (PublicCall.looks x) s m = look_refusals x s m

-- "The answer then carries that number .. and length 0, all else 0 or empty; .. lent buffers stay": its answer beside number and state, and its room
abbrev pub LookBare : Look → Type 0
LookBare (Look.totals clock household r) = (r.value ≡ pos 0) × (r.unread ≡ 0)
LookBare (Look.sums clock r) = (r.value ≡ pos 0) × (r.unread ≡ 0)
LookBare (Look.marks clock r) = (r.count ≡ 0) × (r.levels ≡ 0) × (r.nodes ≡ replicate most_nodes 0) × (r.digest ≡ replicate 16 0)
LookBare (Look.saves clock q r q') = (r.length ≡ 0) × (q' ≡ q)
LookBare (Look.shows n r) = (r.start ≡ 0) × (r.length ≡ 0)
LookBare (Look.asks n k) = Unit {0}

abbrev pub Bare : PublicCall → Type 0
Bare (PublicCall.begins own clock rs r) = Unit {0}
Bare (PublicCall.resumes bytes clock rs r m') = Unit {0}
Bare (PublicCall.receives datagram clock endpoint unicast rs q r m' q') = (r.length ≡ 0) × ((r.omitted ≡ 0) × ((r.dropped ≡ 0) × (q' ≡ q)))
Bare (PublicCall.ticks clock endpoint rs q r m' q') = (r.length ≡ 0) × (q' ≡ q)
Bare (PublicCall.chooses clock endpoint interval rs r m') = Unit {0}
Bare (PublicCall.pays clock p rs r m') = Unit {0}
Bare (PublicCall.purges clock rs r) = Unit {0}
Bare (PublicCall.looks x) = LookBare x

-- it takes the place of the state, whatever that was
abbrev pub starts_anew : PublicCall → Bool
starts_anew (PublicCall.begins own clock rs r) = true
starts_anew (PublicCall.resumes bytes clock rs r m') = true
starts_anew (PublicCall.receives datagram clock endpoint unicast rs q r m' q') = false
starts_anew (PublicCall.ticks clock endpoint rs q r m' q') = false
starts_anew (PublicCall.chooses clock endpoint interval rs r m') = false
starts_anew (PublicCall.pays clock p rs r m') = false
starts_anew (PublicCall.purges clock rs r) = false
starts_anew (PublicCall.looks x) = false

-- the entries whose data it wrote in the table memory, accepted
abbrev pub written_by : PublicCall → State → List ℕ → List Entry
written_by (PublicCall.begins own clock rs r) s m = []
written_by (PublicCall.resumes bytes clock rs r m') s m = or_else (load clock bytes) [] (λ b. b.entries ++ (resumed clock rs b).table)
written_by (PublicCall.receives datagram clock endpoint unicast rs q r m' q') s m = tables_of (state_of s m) (call_of datagram clock endpoint unicast rs (length m) (length q))
written_by (PublicCall.ticks clock endpoint rs q r m' q') s m = (tick clock endpoint rs (length m) (length q) (state_of s m)).state.table
written_by (PublicCall.chooses clock endpoint interval rs r m') s m = (keep_alive clock endpoint interval rs (length m) (state_of s m)).state.table
written_by (PublicCall.pays clock p rs r m') s m = (pay clock p rs (length m) (state_of s m)).state.table
written_by (PublicCall.purges clock rs r) s m = []
written_by (PublicCall.looks x) s m = []

-- ---- one after the other: each call gets what the last one left

abbrev pub Trace : State → List ℕ → List PublicCall → Type 0
Trace s m [] = Unit {0}
Trace s m (x ∷ xs) = Promised x s m × Trace (state_after x s) (memory_after x m) xs

abbrev pub state_at_end : State → List PublicCall → State
state_at_end s [] = s
state_at_end s (x ∷ xs) = state_at_end (state_after x s) xs

abbrev pub memory_at_end : List ℕ → List PublicCall → List ℕ
memory_at_end m [] = m
memory_at_end m (x ∷ xs) = memory_at_end (memory_after x m) xs
