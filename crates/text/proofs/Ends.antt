-- The last word of a line, by its last space. Assumes nothing.
use mathlib.Core.Path.{◌≡◌, refl}
use mathlib.Core.Bool.{true, false}
use mathlib.Core.List.{List, [], ◌∷◌}
use Prim.Native.Nat.{ℕ, zero, suc, ◌+◌, ◌<◌}
use native.Mathlib.Omega.{arith}
use lib.Dec.{eqb}
use lib.ListN.{length, get_or, drop}
use borrow.Author.Tests.{eq-eqb, ne_eqb}
use Rattle.std.specs.Prelude.{◌≢◌}
use Rattle.std.specs.List.{AllWithin}
use Rattle.base.proofs.Tests.{by_test}
use Rattle.text.specs.Words.{has_space, last_word}

no_space : (s : List ℕ) → AllWithin (λ b. b ≢ 32) s 0 (length s) → has_space s ≡ false
no_space [] h = refl
no_space (b ∷ s) h = rw (ne_eqb b 32 (h 0 0 (omega arith) (omega arith))) (no_space s (λ k d l m. h (suc k) d (omega arith) (omega arith)))

one_space : (s : List ℕ) (i : ℕ) → i < length s → get_or s i 0 ≡ 32 → has_space s ≡ true
one_space [] i h e = absurd (omega arith)
one_space (b ∷ s) zero h e = rw (eq-eqb b 32 e) refl
one_space (b ∷ s) (suc i) h e = by_test (eqb b 32) (λ t. rw t refl) (λ f. rw f (one_space s i (omega arith) e))

-- without a space all is one word
pub last-whole : (s : List ℕ) → AllWithin (λ b. b ≢ 32) s 0 (length s) → last_word s ≡ s
unfolding last_word
last-whole [] h = refl
last-whole (b ∷ s) h = rw (ne_eqb b 32 (h 0 0 (omega arith) (omega arith)), no_space s (λ k d l m. h (suc k) d (omega arith) (omega arith))) refl

-- and else it stands behind the last one
pub last-behind : (s : List ℕ) (i : ℕ) → i < length s → get_or s i 0 ≡ 32 → AllWithin (λ b. b ≢ 32) s (i + 1) (length s) → last_word s ≡ drop (i + 1) s
unfolding last_word
last-behind [] i h e n = absurd (omega arith)
last-behind (b ∷ s) zero h e n = rw (eq-eqb b 32 e, no_space s (λ k d l m. n (suc k) d (omega arith) (omega arith))) refl
last-behind (b ∷ s) (suc i) h e n = let one : suc i + 1 ≡ suc (i + 1) = omega arith in rw (one, one_space s i (omega arith) e) (last-behind s i (omega arith) e (λ k d l m. n (suc k) d (omega arith) (omega arith)))
