-- The snapshot: saving, loading and resuming (document 01, the book; document 02, Keep quiet links alive). Assumes nothing.
use Rattle.std.specs.Prelude.{ℕ, zero, suc, ◌+◌, min, Bool, cond, not, ◌&&◌, ◌||◌, List, [], ◌∷◌, ◌++◌, map, length, take, drop, ◌==◌, nat_le, nat_lt}
use Rattle.std.proofs.Math.Option.{Option, none, some}
use Rattle.base.specs.Bytes.{most_u32}
use Rattle.base.specs.Lists.{keep, join_all, or_else, cons_to, is_some}
use Rattle.wire.specs.Row.{type_of, tlvs}
use Rattle.wire.specs.Order.{good}
use Rattle.wire.specs.Groups.{groups, read_groups}
use Rattle.model.specs.Figures.{most_nodes, data_limit, most_age, snapshot_bytes}
use Rattle.model.specs.Sequence.{advance}
use Rattle.model.specs.Table.{Entry, entry_of, id_of, age_at, look, put, stamp, anew}
use Rattle.model.specs.State.{State, no_entry}
use Rattle.model.specs.Refusals.{Row, first_of, late, back, small_table, small_room}
use Rattle.model.specs.Begin.{Done, started}

-- what a snapshot holds: our identifier, and the table
pub record Snapshot : Type 0 where
  pub own : ℕ
  pub entries : List Entry

-- ---- saving

-- "per box ascending: identifier, number, age (largest 2^32 - 1), data length, data"
unfoldable pub save_entry : ℕ → Entry → List ℕ
save_entry clock e =
    groups (id_of e) ++ (groups e.says.seq ++ (groups (min (age_at clock e) most_age) ++ (groups (length e.says.node_data) ++ e.says.node_data)))

-- "edition 1, own identifier, count, then .."
unfoldable pub saved : ℕ → ℕ → List Entry → List ℕ
saved own clock t = groups 1 ++ (groups own ++ (groups (length t) ++ join_all (map (save_entry clock) t)))

pub record Saved : Type 0 where
  pub number : ℕ
  pub bytes : List ℕ

abbrev pub refusal_save : ℕ → ℕ → ℕ → State → ℕ
refusal_save clock table room s = first_of (late clock ∷ back clock s ∷ small_room table room snapshot_bytes ∷ [])

unfoldable pub save : ℕ → ℕ → ℕ → State → Saved
save clock table room s =
    let n : ℕ = refusal_save clock table room s in
    cond (n == 0) (record { number = 0; bytes = saved s.own clock s.table }) (record { number = n; bytes = [] })

-- ---- loading: "Anything else is 11"

-- a number at most `most`, and what is made of it and of the rest
unfoldable pub reads : {X : Type 0} → ℕ → List ℕ → (ℕ → List ℕ → Option X) → Option X
reads most s f = or_else (read_groups most s) none (λ r. f r.number r.rest)

-- n entries with identifiers from `low` on, up to the end; ages count from the reading `clock`
unfoldable pub load_entries : ℕ → ℕ → ℕ → List ℕ → Option (List Entry)
load_entries clock zero low [] = some []
load_entries clock zero low (x ∷ s) = none
load_entries clock (suc n) low s =
    reads most_u32 s (λ node a. cond (nat_lt node low) none
    (reads most_u32 a (λ seq b. reads most_age b (λ age c. reads data_limit c (λ size d.
    cond (nat_le size (length d) && good data_limit (take size d))
    (cons_to (entry_of node seq (take size d) (stamp age clock)) (load_entries clock n (node + 1) (drop size d)))
    none)))))

abbrev pub holds_own : ℕ → List Entry → Option Snapshot
holds_own own t = cond (is_some (look own t)) (some (record { own = own; entries = t })) none

unfoldable pub load : ℕ → List ℕ → Option Snapshot
load clock s =
    reads 1 s (λ edition a. cond (edition == 1)
    (reads most_u32 a (λ own b. reads most_nodes b (λ n c. cond (nat_le 1 n)
    (or_else (load_entries clock n 0 c) none (holds_own own)) none))) none)

-- ---- resuming: "drops every type 8 TLV of ours and all peers, has asked nothing yet, and republishes once"; "drops our type 9 TLVs"

-- what node data says of its node's links: types 8 and 9
abbrev pub of_links : List ℕ → Bool
of_links t = type_of t == 8 || type_of t == 9

abbrev pub without_links : List ℕ → List ℕ
without_links d = join_all (keep (λ t. not (of_links t)) (tlvs d))

unfoldable pub republished : ℕ → Snapshot → List Entry
republished clock b =
    let e : Entry = or_else (look b.own b.entries) no_entry (λ f. f) in
    put (entry_of b.own (advance e.says.seq 1) (without_links e.says.node_data) (anew clock)) b.entries

unfoldable pub resumed : ℕ → List ℕ → Snapshot → State
resumed clock randoms b = started b.own clock randoms (republished clock b)

-- 11: "not a saved book"
abbrev pub no_snapshot : ℕ → List ℕ → Row
no_snapshot clock bytes = record { number = 11; applies = not (is_some (load clock bytes)) }

abbrev pub refusal_resume : ℕ → List ℕ → ℕ → ℕ
refusal_resume clock bytes table = first_of (late clock ∷ small_table table ∷ no_snapshot clock bytes ∷ [])

unfoldable pub resume : ℕ → List ℕ → List ℕ → ℕ → State → Done
resume clock bytes randoms table s =
    let n : ℕ = refusal_resume clock bytes table in
    cond (n == 0) (record { number = 0; state = or_else (load clock bytes) s (resumed clock randoms) }) (record { number = n; state = s })
