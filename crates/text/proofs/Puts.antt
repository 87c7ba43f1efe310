-- Text put piece by piece. Assumes nothing.
use mathlib.Core.List.{List, [], ◌∷◌, ◌++◌}
use Prim.Native.Nat.{ℕ, ◌+◌, ◌≤◌, ◌<◌}
use mathlib.Core.Path.{◌≡◌, sym}
use native.Mathlib.Omega.{arith}
use lib.ListN.{length, set, length-append, length-set}
use lib.IntN.{ℤ}
use Rattle.base.proofs.Written.{written_none, written_last, written_more}
use Rattle.text.specs.Decimal.{signed}
use Rattle.text.specs.Room.{Put}

pub put-none : (room : List ℕ) (at : ℕ) → Put [] room at room at
put-none room at = record { there = sym (written_none room at); next = omega arith }

pub put_one : (room : List ℕ) (at x : ℕ) → at < length room → Put (x ∷ []) room at (set room at x) (at + 1)
put_one room at x h = record { there = sym (written_last room at x h); next = omega arith }

-- one piece behind the other
pub put_then : (x y room : List ℕ) (at : ℕ) (room1 : List ℕ) (a : ℕ) (room2 : List ℕ) (b : ℕ) → Put x room at room1 a → Put y room1 a room2 b
    → at + length (x ++ y) ≤ length room → Put (x ++ y) room at room2 b
put_then x y room at room1 a room2 b p q h =
    let l : length (x ++ y) ≡ length x + length y = length-append x y in
    record {
      there = written_more room at x y room1 room2 a p.there p.next q.there (omega (arith, p.next));
      next = omega (arith, p.next, q.next);
    }

-- where both pieces fit, each does
module _ (x y room : List ℕ) (at : ℕ) (h : at + length (x ++ y) ≤ length room) where
  pub first_fits : at + length x ≤ length room
  first_fits = omega (arith, length-append x y)

  pub second_fits : (room1 : List ℕ) (a : ℕ) → Put x room at room1 a → length room1 ≡ length room → a + length y ≤ length room1
  second_fits room1 a p l = omega (arith, length-append x y, p.next)

-- a byte first
pub put_front : (x : ℕ) (y room : List ℕ) (at : ℕ) (room2 : List ℕ) (b : ℕ) → Put y (set room at x) (at + 1) room2 b
    → at + length (x ∷ y) ≤ length room → Put (x ∷ y) room at room2 b
put_front x y room at room2 b q h = put_then (x ∷ []) y room at (set room at x) (at + 1) room2 b (put_one room at x (omega arith)) q h

-- ---- a space, the cents, the line's end

module _ (room : List ℕ) (at : ℕ) (v : ℤ) (h : at + length (32 ∷ (signed v ++ (10 ∷ []))) ≤ length room) where
  cents_length : length (signed v ++ (10 ∷ [])) ≡ length (signed v) + 1
  cents_length = length-append (signed v) (10 ∷ [])

  pub cents_fits : at + 1 + length (signed v) ≤ length (set room at 32)
  cents_fits = omega (arith, cents_length, length-set room at 32)

  module _ (room1 : List ℕ) (e : ℕ) (p : Put (signed v) (set room at 32) (at + 1) room1 e) (l : length room1 ≡ length (set room at 32)) where
    pub cents_end : e < length room1
    cents_end = omega (arith, p.next, l, cents_length, length-set room at 32)

    pub cents_put : Put (32 ∷ (signed v ++ (10 ∷ []))) room at (set room1 e 10) (e + 1)
    cents_put =
        put_front 32 (signed v ++ (10 ∷ [])) room at (set room1 e 10) (e + 1)
        (put_then (signed v) (10 ∷ []) (set room at 32) (at + 1) room1 e (set room1 e 10) (e + 1) p (put_one room1 e 10 cents_end) (omega (arith, cents_length, length-set room at 32)))
        h
