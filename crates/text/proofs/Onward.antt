-- Numbers read digit by digit. Assumes nothing.
use mathlib.Core.Path.{◌≡◌, refl, ap, ◌∙◌}
use mathlib.Core.List.{List, [], ◌∷◌}
use Prim.Native.Nat.{ℕ, ◌+◌, ◌≤◌, ◌<◌}
use native.Mathlib.Omega.{arith}
use lib.ListN.{length, get_or, drop, drop_of_length-le}
use borrow.Author.Tests.{eq-eqb, ne_eqb}
use Rattle.std.specs.Prelude.{Option, Some, None, option_and_then}
use Rattle.base.proofs.Lists.{drop-next}
use Rattle.text.specs.Reading.{with_digit, read_on, read_decimal, folded_up, folded_down, read_amount}

-- ---- what is left gives the whole

pub read_none : (most : ℕ) (s : List ℕ) → length s ≡ 0 → read_decimal most s ≡ None
unfolding read_decimal
read_none most [] e = refl
read_none most (b ∷ s) e = absurd (omega arith)

pub read-start : (most : ℕ) (s : List ℕ) → 0 < length s → read_decimal most s ≡ read_on most 0 s
unfolding read_decimal
read-start most [] h = absurd (omega arith)
read-start most (b ∷ s) h = refl

read_step : (most n b : ℕ) (s : List ℕ) → read_on most n (b ∷ s) ≡ option_and_then (λ m. read_on most m s) (with_digit most n b)
unfolding read_on
read_step most n b s = refl

module _ (most n : ℕ) (s : List ℕ) (i : ℕ) where
  pub read_end : length s ≤ i → read_on most n (drop i s) ≡ Some n
  unfolding read_on
  read_end h = rw (drop_of_length-le s {i = i} h)

  -- v is what the next digit makes of the number
  pub read_next : i < length s → (v : Option ℕ) → v ≡ with_digit most n (get_or s i 0) → read_on most n (drop i s) ≡ option_and_then (λ m. read_on most m (drop (i + 1) s)) v
  read_next h v e = ap (read_on most n) (drop-next s i h) ∙ read_step most n (get_or s i 0) (drop (i + 1) s) ∙ rw (← e)

-- ---- amounts, by the first byte

pub amount-none : (s : List ℕ) → length s ≡ 0 → read_amount s ≡ None
unfolding read_amount
amount-none [] e = refl
amount-none (b ∷ s) e = absurd (omega arith)

module _ (s t : List ℕ) (b : ℕ) (is : s ≡ b ∷ t) (v : Option ℕ) where
  pub amount_up : (b ≡ 45 → ⊥) → v ≡ read_decimal 2147483647 s → folded_up v ≡ read_amount s
  unfolding read_amount
  amount_up n e = rw e (rw is (rw (ne_eqb b 45 n)))

  pub amount_down : b ≡ 45 → v ≡ read_decimal 2147483648 t → folded_down v ≡ read_amount s
  unfolding read_amount
  amount_down n e = rw is (rw (eq-eqb b 45 n, e))
