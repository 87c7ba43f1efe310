-- Laws of bytes and big-endian numbers. Assumes nothing.
use mathlib.Core.Path.{◌≡◌, ◌∙◌}
use mathlib.Core.Bool.{◌&&◌}
use mathlib.Core.List.{List, [], ◌∷◌, ◌++◌}
use Prim.Native.Nat.{ℕ, zero, suc, ◌+◌, ◌-◌, ◌<◌, ◌≤◌}
use native.Mathlib.Omega.{arith}
use lib.ListN.{length, get_or, take, drop}
use lib.Seq.{get_or-drop, get_or-take}
use lib.Dec.{eqb}
use borrow.Author.Tests.{eq-eqb}
use Rattle.base.specs.Bytes.{Bytes, u16_at, u32_at, zeros}
use Rattle.base.proofs.Lists.{drop-next}

-- ---- numbers at a place

pub u16_drop : (s : List ℕ) (a i : ℕ) → u16_at (drop a s) i ≡ u16_at s (a + i)
u16_drop s a i = let e : a + (i + 1) ≡ a + i + 1 = omega arith in rw (get_or-drop a s i 0, get_or-drop a s (i + 1) 0, e)

pub u16_take : (s : List ℕ) (n i : ℕ) → i + 2 ≤ n → u16_at (take n s) i ≡ u16_at s i
u16_take s n i h = rw (get_or-take n s i 0 (omega arith), get_or-take n s (i + 1) 0 (omega arith))

-- ---- runs of zeros

pub zeros_on : (s : List ℕ) (a k : ℕ) → a < length s → 0 < k → zeros (take k (drop a s)) ≡ eqb (get_or s a 0) 0 && zeros (take (k - 1) (drop (a + 1) s))
zeros_on s a zero h p = absurd (omega arith)
zeros_on s a (suc k) h p =
    let e : suc k - 1 ≡ k = omega arith in
    rw (e, drop-next s a h)

-- behind a zero
pub zero_on : (s : List ℕ) (a k : ℕ) → a < length s → 0 < k → (b : ℕ) → b ≡ a + 1 → get_or s a 0 ≡ 0 → zeros (take k (drop a s)) ≡ zeros (take (k - 1) (drop b s))
zero_on s a k h p b e z = zeros_on s a k h p ∙ rw (eq-eqb (get_or s a 0) 0 z, e)

-- ---- bytes

pub bytes_right : (s t : List ℕ) → Bytes (s ++ t) → Bytes t
bytes_right [] t h = h
bytes_right (b ∷ s) t h = bytes_right s t h.1

pub bytes_left : (s t : List ℕ) → Bytes (s ++ t) → Bytes s
bytes_left [] t h = tt
bytes_left (b ∷ s) t h = (h.0, bytes_left s t h.1)

-- what a slice's rule gives of each element makes its list one of bytes
pub bytes-known : (s : List ℕ) → ((i : ℕ) → get_or s i 0 < 256) → Bytes s
bytes-known [] h = tt
bytes-known (b ∷ s) h = (h 0, bytes-known s (λ i. h (suc i)))

pub bytes_drop : (n : ℕ) (s : List ℕ) → Bytes s → Bytes (drop n s)
bytes_drop zero s h = h
bytes_drop (suc n) [] h = tt
bytes_drop (suc n) (b ∷ s) h = bytes_drop n s h.1

pub bytes_take : (n : ℕ) (s : List ℕ) → Bytes s → Bytes (take n s)
bytes_take zero s h = tt
bytes_take (suc n) [] h = tt
bytes_take (suc n) (b ∷ s) h = (h.0, bytes_take n s h.1)

pub byte_at : (s : List ℕ) (i : ℕ) → Bytes s → get_or s i 0 < 256
byte_at [] i h = omega arith
byte_at (b ∷ s) zero h = h.0
byte_at (b ∷ s) (suc i) h = byte_at s i h.1

pub u32_small : (s : List ℕ) (i : ℕ) → Bytes s → u32_at s i < 4294967296
u32_small s i h = omega (arith, byte_at s i h, byte_at s (i + 1) h, byte_at s (i + 2) h, byte_at s (i + 3) h)

-- a number in a part
pub u32_part : (s : List ℕ) (n a i : ℕ) → i + 4 ≤ n → u32_at (take n (drop a s)) i ≡ u32_at s (a + i)
u32_part s n a i h =
    let e1 : a + (i + 1) ≡ a + i + 1 = omega arith in
    let e2 : a + (i + 2) ≡ a + i + 2 = omega arith in
    let e3 : a + (i + 3) ≡ a + i + 3 = omega arith in
    rw (at i (omega arith), at (i + 1) (omega arith), at (i + 2) (omega arith), at (i + 3) (omega arith), e1, e2, e3)
  where
    at : (k : ℕ) → k < n → get_or (take n (drop a s)) k 0 ≡ get_or s (a + k) 0
    at k p = get_or-take n (drop a s) k 0 p ∙ get_or-drop a s k 0
