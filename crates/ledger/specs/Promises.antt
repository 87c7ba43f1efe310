-- What the public calls promise: answers, state and every lent buffer are those of the model's calls. Assumes nothing.
use Rattle.std.specs.Prelude.{◌≡◌, Bool, List, ◌++◌, ℕ, ◌+◌, ◌-◌, ◌*◌, ◌≤◌, length, take, drop, replicate}
use Rattle.std.proofs.Math.Option.{some}
use Rattle.model.specs.Figures.{most_nodes, most_endpoints, data_limit, table_bytes}
use Rattle.wire.specs.Payment.{Payment}
use Rattle.model.specs.Table.{Entry}
use Rattle.model.specs.Begin.{Done as ModelDone, blank, begin}
use Rattle.model.specs.Tick.{Sent as ModelSent, tick}
use Rattle.model.specs.Receive.{Call, Answer as ModelAnswer, receive}
use Rattle.model.specs.KeepAlive.{keep_alive}
use Rattle.model.specs.Pay.{pay, purge}
use Rattle.model.specs.Totals.{Summed as ModelSummed, total, sum}
use Rattle.model.specs.Show.{Marks as ModelMarks, marks, shown, refusal_show}
use Rattle.model.specs.Snapshot.{Snapshot, Saved as ModelSaved, load, resumed, resume, save}
use Rattle.model.specs.Invariant.{Valid}
use Rattle.table.specs.View.{live, meta_at, Arranged, Hashed, Stands, SlotsStay, Lays, Wrote}
use Rattle.node.specs.View.{state_of, PeersRep}
use Rattle.node.specs.declared.State.{State}
use Rattle.exchange.specs.Datagram.{call_of, tables_of}
use Rattle.node.specs.declared.answers.Done.{Done}
use Rattle.node.specs.declared.answers.Sent.{Sent}
use Rattle.node.specs.declared.answers.Answer.{Answer}
use Rattle.ledger.specs.declared.answers.Summed.{Summed}
use Rattle.ledger.specs.declared.answers.Marked.{Marked}
use Rattle.ledger.specs.declared.answers.Saved.{Saved}
use Rattle.ledger.specs.declared.answers.Extent.{Extent}

-- The one premise, which every call restores: state and table memory are as the last call left them. A memory below its figure is refused, so nothing
-- is asked of its bytes.
pub record AsLeft (s : State) (m : List ℕ) : Type 0 where
  pub arranged : Arranged s.table
  pub peers : PeersRep s.peers
  pub four : length s.endpoints ≡ most_endpoints
  pub digest : length s.digest ≡ 16
  pub hashed : table_bytes ≤ length m → Hashed m (live s.table)
  pub valid : table_bytes ≤ length m → Valid (state_of s m)

-- ---- calls that change state

-- begin, resume, keep_alive, pay, purge: answer and state; what is written in the table memory is said with each
pub record Changes (d : ModelDone) (s : State) (m : List ℕ) (r : Done) (m' : List ℕ) : Type 0 where
  pub is : record { number = r.number; state = state_of r.state m' } ≡ d
  pub left : AsLeft r.state m'
  pub size : length m' ≡ length m
  pub beyond : drop table_bytes m' ≡ drop table_bytes m
  pub refused : ¬ (r.number ≡ 0) → (r.state ≡ s) × (m' ≡ m)

-- keep_alive, pay: in the table memory the data of the table's entries are written, and nothing else
abbrev pub Publishes : ModelDone → State → List ℕ → Done → List ℕ → Type 0
Publishes d s m r m' = Changes d s m r m' × (r.number ≡ 0 → Wrote s.table m d.state.table r.state.table m')

-- tick: the first bytes of the room are what is sent, the others stay; in the table memory the data of the table's entries are written, and nothing else
pub record Sends (d : ModelSent) (s : State) (m q : List ℕ) (r : Sent) (m' q' : List ℕ) : Type 0 where
  pub is : record { number = r.number; state = state_of r.state m'; bytes = take r.length q' } ≡ d
  pub left : AsLeft r.state m'
  pub wrote : r.number ≡ 0 → Wrote s.table m d.state.table r.state.table m'
  pub size : length m' ≡ length m
  pub beyond : drop table_bytes m' ≡ drop table_bytes m
  pub within : r.length ≤ length q'
  pub room : length q' ≡ length q
  pub rest : drop r.length q' ≡ drop r.length q
  pub refused : ¬ (r.number ≡ 0) → (r.state ≡ s) × ((m' ≡ m) × (q' ≡ q))

-- receive: in the table memory the data of `tables`, entry after entry
pub record Answers (d : ModelAnswer) (tables : List Entry) (s : State) (m q : List ℕ) (r : Answer) (m' q' : List ℕ) : Type 0 where
  pub is : record { number = r.number; state = state_of r.state m'; bytes = take r.length q'; omitted = r.omitted; dropped = r.dropped } ≡ d
  pub left : AsLeft r.state m'
  pub wrote : r.number ≡ 0 → Wrote s.table m tables r.state.table m'
  pub size : length m' ≡ length m
  pub beyond : drop table_bytes m' ≡ drop table_bytes m
  pub within : r.length ≤ length q'
  pub room : length q' ≡ length q
  pub rest : drop r.length q' ≡ drop r.length q
  pub refused : ¬ (r.number ≡ 0) → (r.state ≡ s) × ((m' ≡ m) × (q' ≡ q))

-- ---- calls that show or sum: they change nothing

-- total, sum
abbrev pub summed_of : Summed → ModelSummed
summed_of r = record { number = r.number; value = r.value; unread = r.unread }

-- marks: the nodes are the first places of the list, at most 32; the places behind them are 0, of a refusal all
abbrev pub listed : Marked → List ℕ
listed r = take r.count r.nodes

abbrev pub marks_of : Marked → ModelMarks
marks_of r = record { number = r.number; nodes = listed r; last_level = r.levels; digest = r.digest }

pub record Lists (d : ModelMarks) (r : Marked) : Type 0 where
  pub is : marks_of r ≡ d
  pub few : r.count ≤ most_nodes
  pub wide : length r.nodes ≡ most_nodes
  pub rest : drop r.count r.nodes ≡ replicate (most_nodes - r.count) 0

-- save
pub record SavesTo (d : ModelSaved) (q : List ℕ) (r : Saved) (q' : List ℕ) : Type 0 where
  pub is : record { number = r.number; bytes = take r.length q' } ≡ d
  pub within : r.length ≤ length q'
  pub room : length q' ≡ length q
  pub rest : drop r.length q' ≡ drop r.length q

-- show: the node's data are the bytes of the table memory from the start of its slot on; a refusal shows an empty part
pub record Shows (n : ℕ) (s : State) (m : List ℕ) (r : Extent) : Type 0 where
  pub is : take r.length (drop r.start m) ≡ shown n (length m) (state_of s m)
  pub within : r.start + r.length ≤ length m
  pub slot : refusal_show n (length m) (state_of s m) ≡ 0 → (i : ℕ) → Stands s.table n i → r.start ≡ (meta_at s.table i).slot * data_limit
  pub refused : ¬ (refusal_show n (length m) (state_of s m) ≡ 0) → (r.start ≡ 0) × (r.length ≡ 0)

-- ---- the calls, each by its name: s and m are state and table memory that came in, r is the answer, m' the memory after it; q and q' the room

-- whatever the table memory
abbrev pub Blank : State → Type 0
Blank r = (m : List ℕ) → AsLeft r m × (state_of r m ≡ blank)

-- nothing is written in the table memory
abbrev pub Begins : ℕ → ℕ → List ℕ → State → List ℕ → Done → Type 0
Begins own clock randoms s m r = Changes (begin own clock randoms (length m) (state_of s m)) s m r m

-- into a table that is new the snapshot's entries are written, and then those of the table that they become: our own data without the Peer and
-- Keep-Alive TLVs
abbrev pub Resumes : List ℕ → ℕ → List ℕ → State → List ℕ → Done → List ℕ → Type 0
Resumes bytes clock randoms s m r m' =
    Changes (resume clock bytes randoms (length m) (state_of s m)) s m r m'
    × (r.number ≡ 0 → (b : Snapshot) → load clock bytes ≡ some b → Lays m (b.entries ++ (resumed clock randoms b).table) r.state.table m')

-- the entries of the table after each TLV are written, one table after the other
abbrev pub Receives : List ℕ → ℕ → ℕ → Bool → List ℕ → State → List ℕ → List ℕ → Answer → List ℕ → List ℕ → Type 0
Receives datagram clock endpoint unicast randoms s m q r m' q' =
    let c : Call = call_of datagram clock endpoint unicast randoms (length m) (length q) in
    Answers (receive c (state_of s m)) (tables_of (state_of s m) c) s m q r m' q'

abbrev pub Ticks : ℕ → ℕ → List ℕ → State → List ℕ → List ℕ → Sent → List ℕ → List ℕ → Type 0
Ticks clock endpoint randoms s m q r m' q' = Sends (tick clock endpoint randoms (length m) (length q) (state_of s m)) s m q r m' q'

abbrev pub Chooses : ℕ → ℕ → ℕ → List ℕ → State → List ℕ → Done → List ℕ → Type 0
Chooses clock endpoint interval randoms s m r m' = Publishes (keep_alive clock endpoint interval randoms (length m) (state_of s m)) s m r m'

abbrev pub Pays : ℕ → Payment → List ℕ → State → List ℕ → Done → List ℕ → Type 0
Pays clock p randoms s m r m' = Publishes (pay clock p randoms (length m) (state_of s m)) s m r m'

-- nothing is written in the table memory, and the nodes that stay keep their slots
abbrev pub Purges : ℕ → List ℕ → State → List ℕ → Done → Type 0
Purges clock randoms s m r = Changes (purge clock randoms (length m) (state_of s m)) s m r m × SlotsStay r.state.table s.table

abbrev pub Totals : ℕ → ℕ → State → List ℕ → Summed → Type 0
Totals clock household s m r = summed_of r ≡ total clock household (length m) (state_of s m)

abbrev pub SumsUp : ℕ → State → List ℕ → Summed → Type 0
SumsUp clock s m r = summed_of r ≡ sum clock (length m) (state_of s m)

abbrev pub Marks : ℕ → State → List ℕ → Marked → Type 0
Marks clock s m r = Lists (marks clock (length m) (state_of s m)) r

abbrev pub Saves : ℕ → State → List ℕ → List ℕ → Saved → List ℕ → Type 0
Saves clock s m q r q' = SavesTo (save clock (length m) (length q) (state_of s m)) q r q'

abbrev pub ShowRefuses : ℕ → State → List ℕ → ℕ → Type 0
ShowRefuses n s m r = r ≡ refusal_show n (length m) (state_of s m)
