-- The table of nodes: entries by strictly ascending identifier (document 01, the table of boxes). Assumes nothing.
use Rattle.std.specs.Prelude.{ℕ, ◌+◌, ◌-◌, Bool, List, map, nat_lt}
use Rattle.std.proofs.Math.Option.{Option}
use Rattle.base.specs.Sorted.{find, insert}
use Rattle.model.specs.Figures.{age_limit}

-- what a node publishes
pub record Statement : Type 0 where
  pub node : ℕ
  pub seq : ℕ
  pub node_data : List ℕ

-- when it was taken: its age then, in milliseconds, and the reading then
pub record Stamp : Type 0 where
  pub age : ℕ
  pub since : ℕ

abbrev pub stamp : ℕ → ℕ → Stamp
stamp age since = record { age = age; since = since }

-- "sets age 0"
abbrev pub anew : ℕ → Stamp
anew clock = stamp 0 clock

-- a statement as it was taken
pub record Entry : Type 0 where
  pub says : Statement
  pub stamp : Stamp

abbrev pub id_of : Entry → ℕ
id_of e = e.says.node

abbrev pub entry_of : ℕ → ℕ → List ℕ → Stamp → Entry
entry_of node seq d t = record { says = record { node = node; seq = seq; node_data = d }; stamp = t }

-- "the age taken or set plus the milliseconds since"
abbrev pub age_at : ℕ → Entry → ℕ
age_at clock e = e.stamp.age + (clock - e.stamp.since)

-- "under age when .. below 4,294,934,528"
abbrev pub under_age : ℕ → Entry → Bool
under_age clock e = nat_lt (age_at clock e) age_limit

unfoldable pub look : ℕ → List Entry → Option Entry
look n t = find id_of n t

-- in its place, over an entry of the same node
unfoldable pub put : Entry → List Entry → List Entry
put e t = insert id_of e t

-- "boxes, numbers and data .., not ages"
abbrev pub statements : List Entry → List Statement
statements t = map (λ e. e.says) t
