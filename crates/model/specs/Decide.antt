-- What is done with one received Node State about another node (document 01, Type 5; RFC 7787, 4.4). Assumes nothing.
use Rattle.std.specs.Prelude.{ℕ, Bool, cond, not, ◌&&◌, ◌||◌, List, [], ◌∷◌, length, take, drop, ◌==◌, nat_le}
use Rattle.std.proofs.Math.Option.{Option, none, some}
use Rattle.base.specs.Lists.{or_else}
use Rattle.base.specs.Bytes.{u32_at, same}
use Rattle.sha256.specs.Sha256.{hash16}
use Rattle.wire.specs.Order.{good}
use Rattle.model.specs.Figures.{most_nodes, data_limit}
use Rattle.model.specs.Sequence.{older}
use Rattle.model.specs.Table.{Entry, entry_of, look, put, stamp}

-- "box, number, age in ms, H(data), data"
pub record Received : Type 0 where
  pub node : ℕ
  pub seq : ℕ
  pub age : ℕ
  pub hash : List ℕ
  pub carried : Option (List ℕ)

-- "A Node State of length 28 carries no data, except that where H(data) is the digest of nothing it carries empty data"
abbrev pub carried_in : List ℕ → List ℕ → Option (List ℕ)
carried_in hash [] = cond (same hash (hash16 [])) (some []) none
carried_in hash (x ∷ xs) = some (x ∷ xs)

-- "Everything after the 28th byte of a Node State is its data"
unfoldable pub received_of : List ℕ → Received
received_of v =
    record {
      node = u32_at v 0;
      seq = u32_at v 4;
      age = u32_at v 8;
      hash = take 16 (drop 12 v);
      carried = carried_in (take 16 (drop 12 v)) (drop 28 v);
    }

-- each case with the numbers it needs
pub data Decision : Type 0 where
  ignored : Decision
  ask : ℕ → Decision
  take_number : Entry → Decision
  take_all : Entry → Decision
  dropped : Decision

-- "number, age and data are taken"
abbrev pub taken : ℕ → Received → List ℕ → Entry
taken clock r d = entry_of r.node r.seq d (stamp r.age clock)

-- "With data: ignored unless good and H matches"
unfoldable pub with_data : ℕ → Received → List ℕ → Decision
with_data clock r d = cond (good data_limit d && same (hash16 d) r.hash) (take_all (taken clock r d)) ignored

-- "Without data: if H differs from ours or we have none, reply Request Node State; else take number and age and keep the data"
unfoldable pub without_data : ℕ → Received → Entry → Decision
without_data clock r e =
    cond (same (hash16 e.says.node_data) r.hash) (take_number (taken clock r e.says.node_data)) (ask r.node)

unfoldable pub wanted_new : ℕ → Received → Decision
wanted_new clock r = or_else r.carried (ask r.node) (with_data clock r)

unfoldable pub wanted_held : ℕ → Received → Entry → Decision
wanted_held clock r e = or_else r.carried (without_data clock r e) (with_data clock r)

-- "ours is older, or numbers are equal and digests differ"
unfoldable pub differs : Entry → Received → Bool
differs e r = older e.says.seq r.seq || (e.says.seq == r.seq && not (same (hash16 e.says.node_data) r.hash))

-- "A new box with 32 held is dropped for room before any of this. Not wanted: nothing."
unfoldable pub decide : ℕ → List Entry → Received → Decision
decide clock t r =
    or_else (look r.node t) (cond (nat_le most_nodes (length t)) dropped (wanted_new clock r))
    (λ e. cond (differs e r) (wanted_held clock r e) ignored)

-- the table after the decision
unfoldable pub after : Decision → List Entry → List Entry
after ignored t = t
after (ask n) t = t
after (take_number e) t = put e t
after (take_all e) t = put e t
after dropped t = t
