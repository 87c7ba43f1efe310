-- The code's decision on a Node State as the model's: document 01's cases with their numbers. Assumes nothing.
use Rattle.std.specs.Prelude.{◌≡◌, Result, Ok, Err, List, ℕ, ◌≤◌, ◌<◌, length, take, drop}
use Rattle.base.specs.Bytes.{u32_at}
use Rattle.sha256.specs.Sha256.{hash16}
use Rattle.model.specs.Figures.{most_nodes, data_limit}
use Rattle.model.specs.Decide.{Decision as ModelDecision, received_of, decide}
use Rattle.table.specs.declared.Table.{Table}
use Rattle.table.specs.declared.Version.{Version}
use Rattle.table.specs.View.{meta_at, data_of, version_of, view, Kept, Stands, Finding}
use Rattle.decide.specs.declared.Decision.{Decision}
use Rattle.decide.specs.declared.Decision.TheVariants.{Ignored, Ask, TakeNumber, TakeAll, Dropped}

-- what it is in the model, for the table t with memory m and the received value v
abbrev pub decision_of : Table → List ℕ → List ℕ → Decision → ModelDecision
decision_of t m v Ignored = ModelDecision.ignored
decision_of t m v (Ask node) = ModelDecision.ask node
decision_of t m v (TakeNumber place version) = ModelDecision.take_number (version_of version (data_of m (meta_at t place)))
decision_of t m v (TakeAll place version) = ModelDecision.take_all (version_of version (drop 28 v))
decision_of t m v Dropped = ModelDecision.dropped

-- where it would act
abbrev pub Acts : Table → Decision → Type 0
Acts t Ignored = Unit {0}
Acts t (Ask node) = Unit {0}
Acts t (TakeNumber place version) = Stands t version.id place
Acts t (TakeAll place version) = Finding t version.id place
Acts t Dropped = Unit {0}

-- what it takes is short and hashed as received, and a new node has room
abbrev pub Fine : List ℕ → Type 0
Fine v = (length (drop 28 v) ≤ data_limit) × (take 16 (drop 12 v) ≡ hash16 (drop 28 v))

abbrev pub HasRoom : Table → Result ℕ ℕ → Type 0
HasRoom t (Ok place) = Unit {0}
HasRoom t (Err place) = t.count < most_nodes

abbrev pub Taken : Table → List ℕ → Decision → Type 0
Taken t v Ignored = Unit {0}
Taken t v (Ask node) = Unit {0}
Taken t v (TakeNumber place version) = Unit {0}
Taken t v (TakeAll place version) = HasRoom t place × Fine v
Taken t v Dropped = Unit {0}

-- the fields of the value v: node, number, age, digest, and the data from byte 28 on
pub record Fields (v : List ℕ) (version : Version) (hash bytes : List ℕ) : Type 0 where
  pub node_is : version.id ≡ u32_at v 0
  pub seq_is : version.seq ≡ u32_at v 4
  pub age_is : version.age ≡ u32_at v 8
  pub hash_is : hash ≡ take 16 (drop 12 v)
  pub bytes_are : bytes ≡ drop 28 v

-- it is the model's decision on the value v at the reading, for every memory of the table
pub record Decides (clock : ℕ) (t : Table) (v : List ℕ) (d : Decision) : Type 0 where
  pub acts : Acts t d
  pub taken : Taken t v d
  pub is : (m : List ℕ) → Kept t m → decision_of t m v d ≡ decide clock (view t m) (received_of v)
