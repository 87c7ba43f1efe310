-- Node State TLVs as code makes them of an entry of the table: header and head, and then the data. Assumes nothing.
use mathlib.Core.Path.{◌≡◌, refl, sym, ap, ◌∙◌}
use mathlib.Core.List.{List, [], ◌++◌, append-nil}
use Prim.Native.Nat.{ℕ, ◌+◌, ◌-◌, ◌%◌, ◌≤◌, ◌<◌, min}
use native.Mathlib.Omega.{arith}
use lib.ListN.{length, length-append}
use Rattle.base.specs.Bytes.{big16, big32}
use Rattle.sha256.specs.Sha256.{hash16}
use Rattle.sha256.proofs.Sizes.{hash16-length}
use Rattle.wire.specs.Row.{padding, encode}
use Rattle.wire.proofs.Good.{row-length}
use Rattle.model.specs.Figures.{data_limit, most_bytes, most_age, last_reading}
use Rattle.model.specs.Messages.{state_head, short_state, whole_state}
use Rattle.table.specs.declared.Table.{Table}
use Rattle.table.specs.declared.Entry.{Entry as Meta}
use Rattle.table.specs.View.{meta_at, data_of, seen, Read}
use Rattle.table.proofs.Tables.{data_length, meta_hashed}
use Rattle.reach.specs.Marks.{Readable}
use Rattle.reach.proofs.Nodes.{age_fits_lem, data_row}

-- header and head of the Node State of e, with n bytes of data
abbrev front_of : ℕ → Meta → ℕ → List ℕ
front_of clock e n = big16 5 ++ (big16 (28 + n) ++ (big32 e.id ++ (big32 e.seq ++ (big32 (min (e.age + (clock - e.since)) most_age) ++ e.hash))))

-- with data d that need no padding
state_encoded : (clock : ℕ) (m : List ℕ) (e : Meta) (d : List ℕ) → e.hash ≡ hash16 (data_of m e) → length d % 4 ≡ 0
    → front_of clock e (length d) ++ d ≡ encode 5 (state_head clock (seen m e) ++ d)
unfolding state_head encode
state_encoded clock m e d h p =
    let l : length (hash16 (data_of m e) ++ d) ≡ 16 + length d = length-append (hash16 (data_of m e)) d ∙ rw (hash16-length (data_of m e)) in
    let z : padding (28 + length d) ≡ 0 = omega arith in
    let n : length (state_head clock (seen m e) ++ d) ≡ 28 + length d = omega arith in
    rw (h, n, z, append-nil (hash16 (data_of m e) ++ d))

module _ (clock : ℕ) (t : Table) (m : List ℕ) (g : Readable clock t m) (i : ℕ) (p : i < t.count) (e : Meta) (o : Read t i e) where
  -- what `node_state_front` asks of the entry that was read
  pub front_fits : (n : ℕ) → n ≤ data_limit → (e.since ≤ clock) × ((clock ≤ last_reading) × ((n ≤ data_limit) × (length e.hash ≡ 16)))
  front_fits n q =
      let f : (e.since ≤ clock) × (clock ≤ last_reading) = age_fits_lem clock t m g i p e o in
      (f.0, (f.1, (q, rw (o.same, meta_hashed t m i g.kept p) (hash16-length (data_of m (meta_at t i))))))

  -- what it gives is the Node State without data
  pub front-short : (x : List ℕ) → x ≡ front_of clock e 0 → x ++ [] ≡ short_state clock (seen m (meta_at t i))
  front-short x q =
      ap (λ (z : List ℕ). z ++ []) (q ∙ ap (λ (r : Meta). front_of clock r 0) o.same)
      ∙ state_encoded clock m (meta_at t i) [] (meta_hashed t m i g.kept p) refl ∙ ap (encode 5) (append-nil (state_head clock (seen m (meta_at t i))))

  -- and before its data the one with data
  pub front-whole : (x d : List ℕ) → x ≡ front_of clock e e.len → d ≡ data_of m (meta_at t i) → x ++ d ≡ whole_state clock (seen m (meta_at t i))
  front-whole x d q k =
      let l : length (data_of m (meta_at t i)) ≡ (meta_at t i).len = (data_length t m i g.kept p).0 in
      let a : x ≡ front_of clock (meta_at t i) (meta_at t i).len = q ∙ ap (λ (r : Meta). front_of clock r r.len) o.same in
      let b : x ≡ front_of clock (meta_at t i) (length (data_of m (meta_at t i))) = a ∙ ap (front_of clock (meta_at t i)) (sym l) in
      ap (λ (z : List ℕ). z ++ d) b ∙ ap (λ (z : List ℕ). front_of clock (meta_at t i) (length (data_of m (meta_at t i))) ++ z) k
      ∙ state_encoded clock m (meta_at t i) (data_of m (meta_at t i)) (meta_hashed t m i g.kept p) (row-length (data_of m (meta_at t i)) (data_row clock t m g i p (data_of m (meta_at t i)) refl))

  -- both fit a reply
  pub front-room : (x d : List ℕ) (n : ℕ) → x ≡ front_of clock e n → length d ≤ data_limit → length x + length d ≤ most_bytes
  front-room x d n q l = let z : length e.hash ≡ 16 = (front_fits 0 (omega arith)).1.1.1 in rw q (omega arith)

  pub data_room : (d : List ℕ) → d ≡ data_of m (meta_at t i) → length d ≤ data_limit
  data_room d k = let l = data_length t m i g.kept p in rw (k, l.0) l.1
