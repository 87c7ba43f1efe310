-- Signed amounts folded into unsigned numbers. Assumes nothing.
use Prim.Native.Nat.{ℕ, ◌+◌, ◌*◌, ◌/◌, ◌%◌}
use mathlib.Core.Path.{◌≡◌, sym, ap, ◌∙◌}
use native.Mathlib.Omega.{arith}
use lib.Dec.{eqb}
use lib.IntN.{ℤ, pos, negsuc}
use borrow.Author.Tests.{eq-eqb, ne_eqb, eqb-true, eqb-false}
use Rattle.wire.specs.Payment.{folded, unfolded}
use Rattle.base.proofs.Tests.{by_test}

pub unfold_even : (n : ℕ) → n % 2 ≡ 0 → pos (n / 2) ≡ unfolded n
unfolding unfolded
unfold_even n e = rw (eq-eqb (n % 2) 0 e)

pub unfold_odd : (n : ℕ) → (n % 2 ≡ 0 → ⊥) → negsuc (n / 2) ≡ unfolded n
unfolding unfolded
unfold_odd n e = rw (ne_eqb (n % 2) 0 e)

-- there and back
pub unfold_fold : (x : ℤ) → unfolded (folded x) ≡ x
unfold_fold (pos n) = sym (unfold_even (n * 2) (omega arith)) ∙ ap pos (omega arith)
unfold_fold (negsuc n) = sym (unfold_odd (n * 2 + 1) (λ e. omega arith)) ∙ ap negsuc (omega arith)

pub fold_unfold : (n : ℕ) → folded (unfolded n) ≡ n
fold_unfold n =
    by_test (eqb (n % 2) 0)
    (λ e. let q : n % 2 ≡ 0 = eqb-true (n % 2) 0 e in rw (← unfold_even n q) (omega arith))
    (λ e. let q : n % 2 ≡ 0 → ⊥ = eqb-false (n % 2) 0 e in rw (← unfold_odd n q) (omega arith))
