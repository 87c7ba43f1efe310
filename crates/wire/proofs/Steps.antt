-- A loop over the TLVs of a row, call by call of its iterator. Assumes nothing.
use mathlib.Core.Path.{◌≡◌, ap, ◌∙◌}
use mathlib.Core.Bool.{true}
use mathlib.Core.List.{List}
use Prim.Native.Nat.{ℕ, ◌≤◌}
use native.Mathlib.Omega.{arith}
use lib.ListN.{length, drop}
use Rattle.std.specs.Prelude.{Some, None}
use Rattle.wire.specs.declared.row.Header.{Header}
use Rattle.wire.specs.declared.tlvs.Headers.{Headers}
use Rattle.wire.specs.Row.{is_row}
use Rattle.wire.specs.Answers.{Tells}
use Rattle.wire.specs.Tlvs.{Goes, Next}

-- at `at` of the row d stood the TLV that h tells, and the iterator goes on at t
pub record Step (d : List ℕ) (at : ℕ) (h : Header) (t : Headers) : Type 0 where
  pub tells : Tells d at h
  pub goes : is_row (drop at d) ≡ true
  pub within : at ≤ length d
  pub row : t.row.now ≡ d
  pub onward : t.at ≡ h.next

module _ (d : List ℕ) (s : Headers) (e : s.row.now ≡ d) (g : Goes s) where
  pub step : (h : Header) (t : Headers) → Next s (Some h) t → Step d s.at h t
  step h t n =
      record {
        tells = rw e at n.0;
        goes = rw e at g.1;
        within = rw e at g.0;
        row = ap (λ r. r.now) n.1 ∙ e;
        onward = n.2;
      }

  pub ended : (t : Headers) → Next s None t → s.at ≡ length d
  ended t n =
      let a : length d ≤ s.at = rw e at n.0 in
      let b : s.at ≤ length d = rw e at g.0 in
      omega arith
