-- A TLV written piece by piece: its header, and the numbers behind it one by one. Assumes nothing.
use mathlib.Core.Path.{◌≡◌, refl, sym, ap, ◌∙◌}
use mathlib.Core.List.{List, [], ◌∷◌, ◌++◌}
use Prim.Native.Nat.{ℕ, suc, ◌+◌, ◌-◌, ◌*◌, ◌≤◌, ◌<◌}
use native.Mathlib.Omega.{arith}
use native.Mathlib.Numerals.{add-one}
use lib.ListN.{length, get_or, drop, length-append, length-drop, drop_of_length-le}
use lib.Seq.{drop-cons}
use Rattle.base.specs.Bytes.{big16, big32}
use Rattle.base.specs.Memory.{written}
use Rattle.base.proofs.Written.{written_none, written_append, written_three, written-length}
use Rattle.message.specs.Numbers.{numbers}

pub numbers-length : (vs : List ℕ) → length (numbers vs) ≡ 4 * length vs
numbers-length [] = refl
numbers-length (v ∷ vs) = let h = numbers-length vs in simp length-append (omega (arith, h))

-- ---- x is d with the numbers below place i written from `at` on

module _ (d : List ℕ) (at : ℕ) (vs : List ℕ) where
  pub record Numbered (x : List ℕ) (i : ℕ) : Type 0 where
    pub size : length x ≡ length d
    pub rest : written x (at + 4 * i) (numbers (drop i vs)) ≡ written d at (numbers vs)

  pub numbered-none : Numbered d 0
  numbered-none = record { size = refl; rest = let e : at + 4 * 0 ≡ at = omega arith in rw e }

  pub numbered_on : (x y : List ℕ) (i : ℕ) → Numbered x i → i < length vs → at + 4 * length vs ≤ length d → y ≡ written x (at + 4 * i) (big32 (get_or vs i 0)) → Numbered y (i + 1)
  numbered_on x y i g h q e =
      let n : length (numbers (drop (suc i) vs)) ≡ 4 * length (drop (suc i) vs) = numbers-length (drop (suc i) vs) in
      let l : length (drop (suc i) vs) ≡ length vs - suc i = length-drop (suc i) vs in
      let f : at + 4 * i + 4 + length (numbers (drop (suc i) vs)) ≤ length x = omega (arith, g.size) in
      let p : at + 4 * (i + 1) ≡ at + 4 * i + 4 = omega arith in
      record {
        size = ap length e ∙ written-length x (big32 (get_or vs i 0)) (at + 4 * i) (omega (arith, f)) ∙ g.size;
        rest =
            rw (e, p, add-one i) (written_append x (big32 (get_or vs i 0)) (numbers (drop (suc i) vs)) (at + 4 * i) f)
            ∙ ap (λ (ns : List ℕ). written x (at + 4 * i) (numbers ns)) (sym (drop-cons vs i 0 h)) ∙ g.rest;
      }

  pub numbered_all : (x : List ℕ) (i : ℕ) → Numbered x i → length vs ≤ i → x ≡ written d at (numbers vs)
  numbered_all x i g h = sym (written_none x (at + 4 * i)) ∙ rw (drop_of_length-le vs {i = i} h) at g.rest

-- header and numbers
pub tlv-filled : (d d1 d2 d3 : List ℕ) (at kind size : ℕ) (vs : List ℕ) → at + 4 + 4 * length vs ≤ length d
    → d1 ≡ written d at (big16 kind) → d2 ≡ written d1 (at + 2) (big16 size) → d3 ≡ written d2 (at + 4) (numbers vs)
    → d3 ≡ written d at (big16 kind ++ (big16 size ++ numbers vs))
tlv-filled d d1 d2 d3 at kind size vs h e1 e2 e3 =
    let n = numbers-length vs in
    written_three d at (big16 kind) (big16 size) (numbers vs) d1 d2 d3 (at + 2) (at + 4) e1 refl e2 (omega arith) e3 (omega (arith, n))
