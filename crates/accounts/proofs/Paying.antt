-- A payment into our own data: its TLV as the code writes it, when it is refused, and the state once it is published. Assumes nothing.
use mathlib.Core.Path.{◌≡◌, refl, sym, ap, subst}
use mathlib.Core.Bool.{true, false}
use mathlib.Core.List.{List, [], ◌∷◌}
use Prim.Native.Nat.{ℕ, ◌+◌, ◌≤◌, ◌<◌}
use native.Mathlib.Omega.{arith}
use lib.ListN.{length, take}
use borrow.Author.Tests.{lt-ltb, le-ltb}
use Rattle.std.specs.Prelude.{Option, Some, None, is_some}
use Rattle.base.specs.Memory.{written}
use Rattle.base.proofs.Written.{part-there}
use Rattle.base.proofs.Tests.{no_way}
use Rattle.wire.specs.Row.{is_row, tlvs}
use Rattle.wire.specs.Order.{ascending, good, among}
use Rattle.wire.specs.Payment.{Payment, payment_tlv}
use Rattle.wire.specs.Answers.{Found}
use Rattle.wire.proofs.Good.{good-row, good_rises}
use Rattle.model.specs.Figures.{data_limit, publish_limit, last_reading}
use Rattle.model.specs.Sequence.{advance}
use Rattle.model.specs.Refusals.{first_of, paid_already, full}
use Rattle.model.specs.State.{State as ModelState, own_data, own_seq, publish_as, publish, with_tlv, settle}
use Rattle.model.specs.Pay.{paid}
use Rattle.model.specs.Invariant.{Midway}
use Rattle.model.proofs.KeptParts.{midway-own}
use Rattle.model.proofs.KeptCalls.{published-midway}
use Rattle.table.specs.View.{view}
use Rattle.reach.specs.declared.Reached.{Reached}
use Rattle.reach.specs.Marks.{Readable, Reaching}
use Rattle.reach.proofs.Nodes.{fits-readable}
use Rattle.node.specs.declared.State.{State}
use Rattle.node.specs.View.{state_of, Held, Published, Settled}
use Rattle.node.proofs.Moves.{published_then}
use Rattle.node.proofs.Settling.{settled_moved}

-- ---- our data

pub own-fine : (clock : ℕ) (s : ModelState) → Midway clock s → (d : List ℕ) → d ≡ own_data s → (is_row d ≡ true) × (ascending (tlvs d) ≡ true)
own-fine clock s w d e =
    let g : good data_limit (own_data s) ≡ true = (midway-own s w).fine in
    rw e (good-row data_limit (own_data s) g, good_rises data_limit (own_data s) g)

-- with a payment more, published under the number after ours
module _ (clock : ℕ) (p : Payment) (s : ModelState) where
  abbrev published : ModelState
  published = publish clock (with_tlv (payment_tlv p) (own_data s)) s

-- ---- the payment's TLV as the code writes it: to the front of d, which becomes d', in n bytes

module _ (p : Payment) (d d' : List ℕ) (n : ℕ) (room : 20 ≤ length d) (h : (d' ≡ written d 0 (payment_tlv p)) × (n ≡ length (payment_tlv p)) × (n ≤ 20)) where
  written-tlv : take n d' ≡ payment_tlv p
  written-tlv = part-there d d' (payment_tlv p) 0 n h.0 h.1 (omega (arith, h.1, h.2))

  pub written-size : length (take n d') ≡ length (payment_tlv p)
  written-size = ap length written-tlv

  -- ---- refused

  module _ (s : ModelState) (o : List ℕ) (e : o ≡ own_data s) where
    pub refused-paid : (f : Option ℕ) → Found o (take n d') f → is_some f ≡ true → 8 ≡ first_of (paid_already p s ∷ full p s ∷ [])
    refused-paid None k i = no_way true refl (sym i)
    refused-paid (Some j) k i =
        let b : among (payment_tlv p) (tlvs (own_data s)) ≡ true = rw (e, written-tlv) at k.there in
        rw b

    nowhere : (f : Option ℕ) → Found o (take n d') f → is_some f ≡ false → among (payment_tlv p) (tlvs (own_data s)) ≡ false
    nowhere None k i = rw (e, written-tlv) at k
    nowhere (Some j) k i = no_way true refl i

    module _ (f : Option ℕ) (k : Found o (take n d') f) (i : is_some f ≡ false) where
      pub refused_full : publish_limit < length o + n → 9 ≡ first_of (paid_already p s ∷ full p s ∷ [])
      refused_full l = rw (nowhere f k i, lt-ltb publish_limit (length (own_data s) + length (payment_tlv p)) (omega (arith, ap length e, h.1)))

      pub refused-not : length o + n ≤ publish_limit → 0 ≡ first_of (paid_already p s ∷ full p s ∷ [])
      refused-not l = rw (nowhere f k i, le-ltb publish_limit (length (own_data s) + length (payment_tlv p)) (omega (arith, ap length e, h.1)))

  -- ---- published and settled

  module _ (clock : ℕ) (s : State) (m : List ℕ) (old seq : ℕ) (eo : old ≡ own_seq (state_of s m)) (es : seq ≡ advance old 1) (r : State) (m' : List ℕ)
      (g : Published (publish_as clock seq (with_tlv (take n d') (own_data (state_of s m))) (state_of s m)) s m r m') where
    paid-published : Published (published clock p (state_of s m)) s m r m'
    paid-published = subst (λ (x : ModelState). Published x s m r m') (rw (es, eo, written-tlv)) g

    pub paid-readable : Midway clock (state_of s m) → among (payment_tlv p) (tlvs (own_data (state_of s m))) ≡ false
        → length (own_data (state_of s m)) + length (payment_tlv p) ≤ publish_limit → clock ≤ last_reading → Readable clock r.table m' × Held r m'
    unfolding state_of
    paid-readable w a l t =
        let h : Midway clock (state_of r m') = subst (Midway clock) (sym paid-published.moved.is) (published-midway clock p (state_of s m) w a l) in
        (fits-readable r.own clock r.table m' paid-published.moved.rep.table h.table t, h.table.held)

    pub paid_settled : (rs : List ℕ) (x : Reached) (q : State) → Reaching r.own clock (view r.table m') x → Settled clock rs x.digest r q
        → Published (paid clock p rs (state_of s m)) s m q m'
    unfolding paid
    paid_settled rs x q c e =
        published_then (settle clock rs) paid-published e.table (settled_moved clock rs x.digest r q m' e paid-published.moved.rep c.digest)
