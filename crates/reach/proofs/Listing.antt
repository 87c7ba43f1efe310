-- The identifiers of the marked nodes, one after the other. Assumes nothing.
use mathlib.Core.Path.{◌≡◌, refl, sym, ap, ◌∙◌}
use mathlib.Core.Bool.{Bool, true, false}
use mathlib.Core.Logic.{◌⊎◌}
use mathlib.Core.List.{List, [], ◌∷◌, ◌++◌, map, append_assoc, append-nil}
use Prim.Native.Nat.{ℕ, suc, ◌+◌, ◌-◌, ◌≤◌, ◌<◌}
use native.Mathlib.Omega.{arith}
use native.Mathlib.Numerals.{add-one}
use lib.ListN.{length, take, drop, set, replicate, length-set, length-replicate}
use lib.Seq.{take-suc-set, drop-set-lt, drop-drop}
use Rattle.base.specs.Lists.{keep_by}
use Rattle.model.specs.Figures.{most_nodes}
use Rattle.table.specs.declared.Entry.{Entry as Meta}
use Rattle.table.specs.declared.Table.{Table}
use Rattle.table.specs.View.{meta_id, live}
use Rattle.reach.specs.Marks.{Listed}
use Rattle.reach.proofs.Digests.{left_none}

-- the first n places of the list have the marked ones of the entries gone by, where `left` and bs are those left and their marks
pub record ListedSo (all : List ℕ) (bs : List Bool) (left : List Meta) (list : List ℕ) (n : ℕ) : Type 0 where
  pub few : n + length left ≤ most_nodes
  pub wide : length list ≡ most_nodes
  pub is : all ≡ take n list ++ map meta_id (keep_by bs left)
  pub rest : drop n list ≡ replicate (most_nodes - n) 0

fewer : (k j : ℕ) → k ≡ suc j → drop {A = ℕ} 1 (replicate k 0) ≡ replicate j 0
fewer k j e = rw e

module _ (all : List ℕ) where
  pub list-start : (bs : List Bool) (left : List Meta) → length left ≤ most_nodes → all ≡ map meta_id (keep_by bs left) → ListedSo all bs left (replicate most_nodes 0) 0
  list-start bs left h e = record { few = omega arith; wide = length-replicate {A = ℕ} most_nodes 0; is = e; rest = refl }

  module _ (b : Bool) (bs : List Bool) (e : Meta) (left : List Meta) (list : List ℕ) (n : ℕ) (g : ListedSo all (b ∷ bs) (e ∷ left) list n) where
    -- an entry that is not marked
    pub list-stay : b ≡ false → ListedSo all bs left list n
    list-stay q = record { few = omega (arith, g.few); wide = g.wide; is = rw q at g.is; rest = g.rest }

    -- one more
    pub list_on : b ≡ true → ListedSo all bs left (set list n e.id) (n + 1)
    list_on q =
        let w : n < length list = omega (arith, g.wide, g.few) in
        let i : all ≡ take n list ++ (e.id ∷ map meta_id (keep_by bs left)) = rw q at g.is in
        record {
          few = omega (arith, g.few);
          wide = length-set list n e.id ∙ g.wide;
          is = rw (add-one n, take-suc-set list n e.id w) (i ∙ sym (append_assoc (take n list) (e.id ∷ []) (map meta_id (keep_by bs left))));
          rest =
              drop-set-lt (n + 1) list n e.id (omega arith) ∙ sym (drop-drop 1 n list) ∙ ap (drop 1) g.rest
              ∙ fewer (most_nodes - n) (most_nodes - (n + 1)) (omega (arith, g.few));
        }

  pub list_end : (marks : List Bool) (t : Table) (bs : List Bool) (left : List Meta) (list : List ℕ) (n : ℕ) → ListedSo all bs left list n → (length left ≡ 0) ⊎ (length bs ≡ 0)
      → all ≡ map meta_id (keep_by marks (live t)) → Listed marks t (record { count = n; list = list })
  list_end marks t bs left list n g h e =
      let i : all ≡ take n list ++ [] = rw (left_none bs left h) at g.is in
      record { few = omega (arith, g.few); is = sym (append-nil (take n list)) ∙ sym i ∙ e; wide = g.wide; rest = g.rest }
