-- By the cases of a choice, and of what may be missing. Assumes nothing.
use mathlib.Core.Path.{◌≡◌, refl}
use mathlib.Core.Bool.{Bool, true, false, cond}
use mathlib.Core.Option.{Option, none, some}
use Prim.Native.Nat.{ℕ}
use native.Mathlib.Omega.{arith}
use Rattle.base.specs.Lists.{or_else}

pub by_cond : {A : Type 0} (P : A → Type 0) (b : Bool) (x y : A) → (b ≡ true → P x) → (b ≡ false → P y) → P (cond b x y)
by_cond P true x y f g = f refl
by_cond P false x y f g = g refl

pub by_or_else : {A B : Type 0} (P : B → Type 0) (o : Option A) (b : B) (f : A → B) → (o ≡ none → P b) → ((a : A) → o ≡ some a → P (f a)) → P (or_else o b f)
by_or_else P none b f g h = g refl
by_or_else P (some a) b f g h = h a refl

pub nothing {ℓ} : {A : Type 0} {X : Type ℓ} (a : A) → ◌≡◌ {A = Option A} none (some a) → X
nothing a e = absurd (let z : ◌≡◌ {A = ℕ} 0 1 = cc in omega arith)

module _ {A : Type 0} {X : Type 0} where
  pub by_option : (o : Option A) → (o ≡ none → X) → ((a : A) → o ≡ some a → X) → X
  by_option none f g = f refl
  by_option (some a) f g = g a refl

  -- what a test lets through
  pub cond_yes : (b : Bool) (o : Option A) (a : A) → cond b o none ≡ some a → (b ≡ true → o ≡ some a → X) → X
  cond_yes true o a e f = f refl e
  cond_yes false o a e f = nothing a e

  pub cond_no : (b : Bool) (o : Option A) (a : A) → cond b none o ≡ some a → (b ≡ false → o ≡ some a → X) → X
  cond_no true o a e f = nothing a e
  cond_no false o a e f = f refl e

pub or_else_some : {A B X : Type 0} (o : Option A) (f : A → Option B) (b : B) → or_else o none f ≡ some b → ((a : A) → o ≡ some a → f a ≡ some b → X) → X
or_else_some none f b e g = nothing b e
or_else_some (some a) f b e g = g a refl e
