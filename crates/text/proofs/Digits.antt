-- Numbers as text: digit by digit, how many digits there are, and by the sign. Assumes nothing.
use mathlib.Core.Path.{◌≡◌, refl, sym, ap, ◌∙◌}
use mathlib.Core.Bool.{true, false}
use mathlib.Core.List.{List, [], ◌∷◌, ◌++◌}
use Prim.Native.Nat.{ℕ, zero, suc, ◌+◌, ◌-◌, ◌*◌, ◌/◌, ◌%◌, ◌^◌, ◌≤◌, ◌<◌}
use native.Mathlib.Nat.{pow-suc}
use native.Mathlib.Omega.{arith}
use lib.ListN.{length, set, length-append}
use lib.Dec.{ltb}
use lib.IntN.{ℤ, pos, negsuc, nat_abs}
use lib.Signed.{mag, lt_z}
use mir.Syntax.{w64}
use mir.Val.{SFits, to_z, of_z}
use Rattle.std.specs.Prelude.{max}
use Rattle.base.proofs.Signed.{narrow_back, sign}
use borrow.Author.Tests.{lt-ltb, le-ltb, ltb-true, ltb-false}
use Rattle.base.specs.Memory.{written}
use Rattle.base.proofs.Tests.{by_test}
use Rattle.base.proofs.Written.{written_none, written-before, written_last}
use Rattle.text.specs.Decimal.{decimal_of, decimal, signed}

-- one digit, and more
digit_last : (f n : ℕ) → n < 10 → decimal_of (suc f) n ≡ (48 + n) ∷ []
unfolding decimal_of
digit_last f n h = rw (lt-ltb n 10 h)

digit_more : (f n : ℕ) → 10 ≤ n → decimal_of (suc f) n ≡ decimal_of f (n / 10) ++ ((48 + n % 10) ∷ [])
unfolding decimal_of
digit_more f n h = rw (le-ltb n 10 h)

-- every count that is large enough gives the same
same_digits : (f g n : ℕ) → n < f → n < g → decimal_of f n ≡ decimal_of g n
same_digits zero g n h k = absurd (omega arith)
same_digits (suc f) zero n h k = absurd (omega arith)
same_digits (suc f) (suc g) n h k =
    by_test (ltb n 10)
    (λ b. digit_last f n (ltb-true n 10 b) ∙ sym (digit_last g n (ltb-true n 10 b)))
    (λ b.
    let l : 10 ≤ n = ltb-false n 10 b in
    digit_more f n l ∙ ap (λ (s : List ℕ). s ++ ((48 + n % 10) ∷ [])) (same_digits f g (n / 10) (omega arith) (omega arith)) ∙ sym (digit_more g n l))

pub decimal-last : (n : ℕ) → n < 10 → decimal n ≡ (48 + n) ∷ []
decimal-last n h = digit_last n n h

pub decimal_more : (n : ℕ) → 10 ≤ n → decimal n ≡ decimal (n / 10) ++ ((48 + n % 10) ∷ [])
decimal_more n h = digit_more n n h ∙ ap (λ (s : List ℕ). s ++ ((48 + n % 10) ∷ [])) (same_digits n (suc (n / 10)) (n / 10) (omega arith) (omega arith))

-- how many there are
pub places_last : (n : ℕ) → n < 10 → length (decimal n) ≡ 1
places_last n h = ap length (decimal-last n h)

pub places_more : (n : ℕ) → 10 ≤ n → length (decimal n) ≡ length (decimal (n / 10)) + 1
places_more n h = ap length (decimal_more n h) ∙ length-append (decimal (n / 10)) ((48 + n % 10) ∷ [])

pub places_some : (n : ℕ) → 1 ≤ length (decimal n)
places_some n = by_test (ltb n 10) (λ b. omega (arith, places_last n (ltb-true n 10 b))) (λ b. omega (arith, places_more n (ltb-false n 10 b)))

some_power : (k : ℕ) → 1 ≤ 10 ^ k
some_power zero = omega arith
some_power (suc k) = let p : 10 ^ suc k ≡ 10 ^ k * 10 = pow-suc 10 k in omega (arith, some_power k)

-- a number that reaches a power of ten has more digits than its exponent
places-least : (k n : ℕ) → 10 ^ k ≤ n → k + 1 ≤ length (decimal n)
places-least zero n h = places_some n
places-least (suc k) n h =
    let p : 10 ^ suc k ≡ 10 ^ k * 10 = pow-suc 10 k in
    let q : k + 1 ≤ length (decimal (n / 10)) = places-least k (n / 10) (omega arith) in
    let t : 10 ≤ n = omega (arith, some_power k) in
    omega (arith, places_more n t, q)

-- a number below a power of ten has no more digits than its exponent
short : (f n k : ℕ) → n < 10 ^ suc k → length (decimal_of f n) ≤ suc k
unfolding decimal_of
short zero n k h = omega arith
short (suc f) n zero h = rw (digit_last f n h) (omega arith)
short (suc f) n (suc k) h =
    by_test (ltb n 10)
    (λ b. rw (digit_last f n (ltb-true n 10 b)) (omega arith))
    (λ b. let p : 10 ^ suc (suc k) ≡ 10 ^ suc k * 10 = pow-suc 10 (suc k) in
    rw (digit_more f n (ltb-false n 10 b)) (omega (arith, length-append (decimal_of f (n / 10)) ((48 + n % 10) ∷ []), short f (n / 10) k (omega arith))))

pub decimal-short : (k n : ℕ) → n < 10 ^ suc k → length (decimal n) ≤ suc k
decimal-short k n h = short (suc n) n k h

pub signed-short : (k : ℕ) (v : ℤ) → mag v + 1 < 10 ^ suc k → length (signed v) ≤ suc k + 1
unfolding signed
signed-short k (pos n) h = omega (arith, decimal-short k n (omega arith))
signed-short k (negsuc n) h = omega (arith, decimal-short k (suc n) (omega arith))

-- how many there are, by the greatest power of ten that is no greater than the number, or than 1
pub places-are : (n m k : ℕ) → m ≡ max n 1 → 10 ^ k ≤ m → m < 10 * 10 ^ k → k + 1 ≡ length (decimal n)
places-are zero m k e l h =
    let p : 10 ^ suc k ≡ 10 ^ k * 10 = pow-suc 10 k in
    let u : length (decimal 1) ≡ 1 = places_last 1 (omega arith) in
    let z : length (decimal 0) ≡ 1 = places_last 0 (omega arith) in
    omega (arith, places-least k 1 (omega arith), u, z)
places-are (suc n) m k e l h =
    let p : 10 ^ suc k ≡ 10 ^ k * 10 = pow-suc 10 k in
    omega (arith, places-least k (suc n) (omega arith), decimal-short k (suc n) (omega arith))

-- ---- written from the last digit on: what is left to write, written now, gives the whole

-- the k last digits of n
pub last_digits : ℕ → ℕ → List ℕ
last_digits zero n = []
last_digits (suc k) n = last_digits k (n / 10) ++ ((48 + n % 10) ∷ [])

last-length : (k n : ℕ) → length (last_digits k n) ≡ k
unfolding last_digits
last-length zero n = refl
last-length (suc k) n = omega (arith, length-append (last_digits k (n / 10)) ((48 + n % 10) ∷ []), last-length k (n / 10))

are_last : (f n : ℕ) → n < f → decimal_of f n ≡ last_digits (length (decimal_of f n)) n
unfolding last_digits
are_last zero n h = absurd (omega arith)
are_last (suc f) n h =
    let d : List ℕ = (48 + n % 10) ∷ [] in
    by_test (ltb n 10)
    (λ b.
    let l : n < 10 = ltb-true n 10 b in
    rw (digit_last f n l) (ap (λ (k : ℕ). (48 + k) ∷ []) (omega arith)))
    (λ b.
    let l : 10 ≤ n = ltb-false n 10 b in
    let x : List ℕ = decimal_of f (n / 10) in
    let e : length (x ++ d) ≡ suc (length x) = omega (arith, length-append x d) in
    rw (digit_more f n l) (rw e (ap (λ (s : List ℕ). s ++ d) (are_last f (n / 10) (omega arith)))))

pub all-digits : (n : ℕ) → decimal n ≡ last_digits (length (decimal n)) n
all-digits n = are_last (suc n) n (omega arith)

pub no-digits : (m : List ℕ) (a n : ℕ) → written m a (last_digits 0 n) ≡ m
unfolding last_digits
no-digits m a n = written_none m a

digit_at : (m : List ℕ) (a k n : ℕ) → a + k < length m → written m a (last_digits (suc k) n) ≡ written (set m (a + k) (48 + n % 10)) a (last_digits k (n / 10))
unfolding last_digits
digit_at m a k n h =
    let x : List ℕ = last_digits k (n / 10) in
    let l : length x ≡ k = last-length k (n / 10) in
    let j : a + length x < length m = omega arith in
    sym (written-before m a x ((48 + n % 10) ∷ []) (omega arith))
    ∙ ap (λ (y : List ℕ). written y a x) (written_last m (a + length x) (48 + n % 10) j)
    ∙ ap (λ (q : ℕ). written (set m (a + q) (48 + n % 10)) a x) l

pub digit_written : (m : List ℕ) (a i n : ℕ) → a < i → i ≤ length m → written m a (last_digits (i - a) n) ≡ written (set m (i - 1) (48 + n % 10)) a (last_digits (i - 1 - a) (n / 10))
digit_written m a i n h f =
    let k : ℕ = i - 1 - a in
    let s : i - a ≡ suc k = omega arith in
    let p : a + k ≡ i - 1 = omega arith in
    ap (λ (q : ℕ). written m a (last_digits q n)) s
    ∙ digit_at m a k n (omega arith)
    ∙ ap (λ (q : ℕ). written (set m q (48 + n % 10)) a (last_digits k (n / 10))) p

-- ---- by its sign, as the code tests it and takes it off

signed_neg : (v : ℤ) → lt_z v (pos 0) ≡ true → signed v ≡ 45 ∷ decimal (nat_abs v)
unfolding signed
signed_neg (pos n) e = absurd (omega (arith, ltb-true n 0 e))
signed_neg (negsuc n) e = refl

signed-pos : (v : ℤ) → lt_z v (pos 0) ≡ false → signed v ≡ decimal (nat_abs v)
unfolding signed
signed-pos (pos n) e = refl
signed-pos (negsuc n) e = absurd (let z : ◌≡◌ {A = ℕ} 0 1 = cc in omega arith)

module _ (v : ℤ) (f : SFits w64 v) where
  pub below_zero : lt_z (to_z w64 (of_z w64 v)) (pos 0) ≡ true → (u : ℕ) → u ≡ nat_abs (to_z w64 (of_z w64 v)) → signed v ≡ 45 ∷ decimal u
  below_zero e u h = rw h (rw (narrow_back w64 v f) (signed_neg v (sign w64 v f true e)))

  pub not_below : lt_z (to_z w64 (of_z w64 v)) (pos 0) ≡ false → (u : ℕ) → u ≡ nat_abs (to_z w64 (of_z w64 v)) → signed v ≡ decimal u
  not_below e u h = rw h (rw (narrow_back w64 v f) (signed-pos v (sign w64 v f false e)))
