-- A Node State about another node in the datagram: one TLV, and the search. Assumes nothing.
use mathlib.Core.Path.{◌≡◌, sym, ap, ◌∙◌, subst}
use mathlib.Core.Bool.{Bool, true, false}
use mathlib.Core.List.{List}
use Prim.Native.Nat.{ℕ, ◌≤◌}
use native.Mathlib.Omega.{arith}
use lib.ListN.{length, drop, length-drop}
use Rattle.base.specs.Lists.{any}
use Rattle.wire.specs.Row.{tlvs}
use Rattle.wire.specs.Answers.{tlv_of, Tells}
use Rattle.wire.specs.declared.row.Header.{Header}
use Rattle.wire.proofs.Rows.{tlvs_end}
use Rattle.model.specs.Receive.{about_other}

-- ---- one TLV

-- where its header says
pub told_there : {s : List ℕ} {at : ℕ} {h : Header} → Tells s at h → Tells s h.at h
told_there {s} {h = h} k = subst (λ (i : ℕ). Tells s i h) (sym k.here) k

-- ---- the search

module _ (s : List ℕ) (own at : ℕ) where
  pub others_end : length s ≤ at → any (about_other own) (tlvs (drop at s)) ≡ false
  others_end p = rw (tlvs_end (drop at s) (simp length-drop (omega arith)))

  module _ (h : Header) (k : Tells s at h) {b : Bool} (e : b ≡ about_other own (tlv_of s at h)) where
    pub others-here : b ≡ true → any (about_other own) (tlvs (drop at s)) ≡ true
    others-here t = ap (any (about_other own)) k.left ∙ rw (sym e ∙ t)

    pub others_on : b ≡ false → any (about_other own) (tlvs (drop at s)) ≡ any (about_other own) (tlvs (drop h.next s))
    others_on t = ap (any (about_other own)) k.left ∙ rw (sym e ∙ t)
