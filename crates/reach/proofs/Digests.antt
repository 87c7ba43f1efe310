-- The network digest over the marked entries of the table. Assumes nothing.
use mathlib.Core.Path.{◌≡◌, refl, sym, ap, ◌∙◌}
use mathlib.Core.Bool.{Bool, true, false}
use mathlib.Core.Logic.{◌⊎◌, inl, inr}
use mathlib.Core.List.{List, [], ◌∷◌, ◌++◌, map, append_assoc, append-nil}
use Prim.Native.Nat.{ℕ, ◌+◌, ◌*◌, ◌≤◌}
use native.Mathlib.Omega.{arith}
use lib.ListN.{length, take, drop, length-append, length-take}
use lib.Seq.{take_at}
use Rattle.base.specs.Bytes.{big32}
use Rattle.base.specs.Lists.{keep_by, join_all}
use Rattle.base.specs.Memory.{written}
use Rattle.base.proofs.Lists.{all_keep_by}
use Rattle.base.proofs.Written.{written_append, written-length}
use Rattle.sha256.specs.Sha256.{hash16}
use Rattle.model.specs.Figures.{most_nodes}
use Rattle.model.specs.Table.{statements}
use Rattle.model.specs.Digest.{digest_part, digest_of}
use Rattle.table.specs.declared.Table.{Table}
use Rattle.table.specs.declared.Entry.{Entry as Meta}
use Rattle.base.proofs.Marks.{keep_by_map}
use Rattle.table.specs.View.{live, data_of, seen, view, Hashed, Kept}

-- number and digest of an entry
abbrev pub row_part : Meta → List ℕ
row_part e = big32 e.seq ++ e.hash

pub part-put : (d x y : List ℕ) (at : ℕ) (e : Meta) → x ≡ written d at (big32 e.seq) → y ≡ written x (at + 4) e.hash → at + 20 ≤ length d → length e.hash ≡ 16 → y ≡ written d at (row_part e)
part-put d x y at e p q h l = q ∙ rw p (written_append d (big32 e.seq) e.hash at (omega arith))

-- where entries or marks have come to their end, no marked one is left
pub left_none : (bs : List Bool) (left : List Meta) → (length left ≡ 0) ⊎ (length bs ≡ 0) → keep_by bs left ≡ []
left_none [] left h = refl
left_none (b ∷ bs) [] h = refl
left_none (b ∷ bs) (e ∷ left) (inl p) = absurd (omega arith)
left_none (b ∷ bs) (e ∷ left) (inr p) = absurd (omega arith)

-- ---- the parts gathered so far stand in the first n bytes, where `left` and bs are the entries left and their marks

pub record Gathered (all : List ℕ) (bs : List Bool) (left : List Meta) (d : List ℕ) (n : ℕ) : Type 0 where
  pub size : length d ≡ most_nodes * 20
  pub few : n + 20 * length left ≤ most_nodes * 20
  pub is : all ≡ take n d ++ join_all (map row_part (keep_by bs left))

module _ (all : List ℕ) where
  pub gather-start : (bs : List Bool) (left : List Meta) (d : List ℕ) → length d ≡ most_nodes * 20 → length left ≤ most_nodes → all ≡ join_all (map row_part (keep_by bs left)) → Gathered all bs left d 0
  gather-start bs left d h p e = record { size = h; few = omega arith; is = e }

  module _ (b : Bool) (bs : List Bool) (e : Meta) (left : List Meta) (d : List ℕ) (n : ℕ) (g : Gathered all (b ∷ bs) (e ∷ left) d n) where
    -- an entry that is not marked
    pub gather-stay : b ≡ false → Gathered all bs left d n
    gather-stay q = record { size = g.size; few = omega (arith, g.few); is = rw q at g.is }

    -- one part more
    pub gather_on : (x : List ℕ) → b ≡ true → length e.hash ≡ 16 → x ≡ written d n (row_part e) → Gathered all bs left x (n + 20)
    gather_on x q h w =
        let z : length (row_part e) ≡ 20 = omega arith in
        let r : n + length (row_part e) ≤ length d = omega (arith, g.size, g.few) in
        let y : length (take n d ++ row_part e) ≡ n + 20 = simp (length-append, length-take) (omega arith) in
        let v : take (n + 20) x ≡ take n d ++ row_part e = ap (take (n + 20)) (w ∙ sym (append_assoc (take n d) (row_part e) (drop (n + length (row_part e)) d))) ∙ take_at (take n d ++ row_part e) (drop (n + length (row_part e)) d) (n + 20) y in
        let i : all ≡ take n d ++ (row_part e ++ join_all (map row_part (keep_by bs left))) = rw q at g.is in
        record {
          size = ap length w ∙ written-length d (row_part e) n r ∙ g.size;
          few = omega (arith, g.few);
          is = i ∙ rw v (sym (append_assoc (take n d) (row_part e) (join_all (map row_part (keep_by bs left)))));
        }

  pub gather_end : (bs : List Bool) (left : List Meta) (d : List ℕ) (n : ℕ) → Gathered all bs left d n → (length left ≡ 0) ⊎ (length bs ≡ 0) → take n d ≡ all
  gather_end bs left d n g h =
      let i : all ≡ take n d ++ [] = rw (left_none bs left h) at g.is in
      sym (i ∙ append-nil (take n d))

-- ---- the digest kept with an entry is that of its data

parts-hashed : (m : List ℕ) (l : List Meta) → Hashed m l → map row_part l ≡ map digest_part (statements (map (seen m) l))
parts-hashed m [] h = refl
parts-hashed m (e ∷ l) h = rw (h.0, parts-hashed m l h.1)

pub digest_by : (t : Table) (marks : List Bool) (m : List ℕ) → Kept t m → hash16 (join_all (map row_part (keep_by marks (live t)))) ≡ digest_of (statements (keep_by marks (view t m)))
unfolding digest_of view
digest_by t marks m k =
    rw (keep_by_map (seen m) marks (live t), parts-hashed m (keep_by marks (live t)) (all_keep_by (λ e. e.hash ≡ hash16 (data_of m e)) marks (live t) k.hashed))
