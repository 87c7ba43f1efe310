-- A TLV of a type that is not handled, with no last contact to set, changes nothing. Assumes nothing.
use mathlib.Core.Path.{◌≡◌, refl, sym, ap, ◌∙◌}
use mathlib.Core.Bool.{Bool, true, false, not, ◌&&◌}
use mathlib.Core.List.{List}
use Prim.Native.Nat.{ℕ}
use native.Mathlib.Omega.{arith}
use Rattle.base.proofs.Tests.{no_way, by_test, no_not, and_left, and_right}
use Rattle.std.specs.Prelude.{Option, Some, None, is_some}
use Rattle.wire.specs.Row.{type_of, value_of}
use Rattle.model.specs.Handle.{touch, on_tlv, one_tlv}
use Rattle.model.proofs.Cases.{touch-none, on_other, one_tlv_unicast, one_tlv_multicast}
use Rattle.reply.specs.declared.Context.{Context}
use Rattle.reply.specs.View.{context_of, Work, work_of, Ready, Stepped}
use Rattle.reply.proofs.Steps.{work_unknown, stepped_none, stepped_to, stepped_more}
use Rattle.exchange.specs.Passed.{handles, idle}

-- ---- such a TLV changes nothing

-- a type that is handled is none of those that are not
not_type : (kind i : ℕ) → handles i ≡ true → handles kind ≡ false → ¬ (kind ≡ i)
not_type kind i p n e = no_way (handles i) p (rw (sym e) n)

not-both : (a b : Bool) → not (a && b) ≡ true → a ≡ true → b ≡ false
not-both true b n e = no_not b n
not-both false b n e = no_way false e refl

absent : {A : Type 0} (o : Option A) → is_some o ≡ false → o ≡ None
absent None e = refl
absent (Some x) e = no_way true refl e

module _ (c : Context) (w : Work) (m r : List ℕ) (t : List ℕ) where
  -- the type decides nothing
  type_passed : handles (type_of t) ≡ false → on_tlv (context_of c) (type_of t) (value_of t) (work_of w m r) ≡ work_of w m r
  type_passed e =
      on_other (context_of c) (work_of w m r) (type_of t) (value_of t) (not_type (type_of t) 1 refl e) (not_type (type_of t) 2 refl e) (not_type (type_of t) 3 refl e)
      (not_type (type_of t) 4 refl e) (not_type (type_of t) 5 refl e)

  -- with no sender there is no last contact
  unknown-passed : c.unicast ≡ true → is_some w.sender ≡ false → handles (type_of t) ≡ false → one_tlv (context_of c) t (work_of w m r) ≡ work_of w m r
  unknown-passed u k e =
      one_tlv_unicast (context_of c) (work_of w m r) t u ∙ ap (touch (context_of c)) (type_passed e) ∙ touch-none (context_of c) (work_of w m r) (work_unknown w m r (absent w.sender k))

  -- over multicast none is set
  multicast-passed : c.unicast ≡ false → handles (type_of t) ≡ false → one_tlv (context_of c) t (work_of w m r) ≡ work_of w m r
  multicast-passed u e = one_tlv_multicast (context_of c) (work_of w m r) t u ∙ type_passed e

  -- passed over
  pub one-passed : idle c.unicast (is_some w.sender) (type_of t) ≡ true → one_tlv (context_of c) t (work_of w m r) ≡ work_of w m r
  one-passed e =
      let n : handles (type_of t) ≡ false = no_not (handles (type_of t)) (and_left (not (handles (type_of t))) (not (c.unicast && is_some w.sender)) e) in
      let o : not (c.unicast && is_some w.sender) ≡ true = and_right (not (handles (type_of t))) (not (c.unicast && is_some w.sender)) e in
      by_test c.unicast (λ u. unknown-passed u (not-both c.unicast (is_some w.sender) o u) n) (λ u. multicast-passed u n)

  -- as a step: none
  pub passed-step : Ready c w m r → (kind : ℕ) → type_of t ≡ kind → idle c.unicast (is_some w.sender) kind ≡ true → Stepped c 33 (one_tlv (context_of c) t) w m r w m r
  passed-step h kind p e =
      stepped_more (stepped_to (stepped_none h.sound) (one_tlv (context_of c) t) (sym (one-passed (rw p e)))) 33 (omega arith)
