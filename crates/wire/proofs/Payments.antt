-- Payments: reading step by step, and what is written reads back. Assumes nothing.
use mathlib.Core.Path.{◌≡◌, refl, sym, ap, ◌∙◌, subst}
use mathlib.Core.Bool.{◌&&◌}
use mathlib.Core.List.{List, [], ◌∷◌, ◌++◌, append-nil}
use mathlib.Core.Option.{Option, none, some, some-injective}
use Prim.Native.Nat.{ℕ, ◌+◌, ◌*◌, ◌≤◌, ◌<◌}
use native.Mathlib.Omega.{arith}
use lib.ListN.{length, drop, length-append}
use lib.Dec.{leb}
use lib.IntN.{ℤ, pos, negsuc, ◌+ℤ◌}
use lib.Signed.{mag}
use borrow.Author.Tests.{le-leb, lt-leb, leb-true}
use Rattle.base.specs.Bytes.{Bytes, most_u32}
use Rattle.base.specs.Lists.{or_else, All}
use Rattle.base.specs.Memory.{written}
use Rattle.wire.specs.Groups.{Read, groups, read_groups}
use Rattle.wire.specs.Payment.{Payment, Payable, amount_limit, most_household, folded, unfolded, payment_value, ended, read_payment}
use Rattle.base.specs.Signed.{sumℤ}
use Rattle.base.proofs.Tests.{and_left, and_right, and_no, and_both, by_test}
use Rattle.base.proofs.Options.{nothing, cond_yes, or_else_some}
use Rattle.base.proofs.Signed.{mag_add}
use Rattle.base.proofs.Bytes.{bytes_right}
use Rattle.wire.proofs.Varints.{got, read-written, read-once, read-most}
use Rattle.wire.proofs.Folding.{unfold_fold, fold_unfold}
use Rattle.base.proofs.Written.{written_three}

-- ---- reading, number by number

unfoldable pub after_two : ℕ → ℕ → List ℕ → Option Payment
after_two h r s = or_else (read_groups most_u32 s) none (λ a. ended h r a.number a.rest)

unfoldable pub after_one : ℕ → List ℕ → Option Payment
after_one h s = or_else (read_groups most_u32 s) none (λ r. after_two h r.number r.rest)

pub first_bad : (s : List ℕ) → read_groups most_u32 s ≡ none → read_payment s ≡ none
unfolding read_payment
first_bad s e = rw e

pub first_on : (s : List ℕ) (h : ℕ) (d : List ℕ) → read_groups most_u32 s ≡ got h d → read_payment s ≡ after_one h d
unfolding read_payment after_one after_two
first_on s h d e = rw e

pub second_bad : (h : ℕ) (s : List ℕ) → read_groups most_u32 s ≡ none → after_one h s ≡ none
unfolding after_one
second_bad h s e = rw e

pub second_on : (h : ℕ) (s : List ℕ) (r : ℕ) (d : List ℕ) → read_groups most_u32 s ≡ got r d → after_one h s ≡ after_two h r d
unfolding after_one
second_on h s r d e = rw e

pub third_bad : (h r : ℕ) (s : List ℕ) → read_groups most_u32 s ≡ none → after_two h r s ≡ none
unfolding after_two
third_bad h r s e = rw e

pub third_on : (h r : ℕ) (s : List ℕ) (a : ℕ) (d : List ℕ) → read_groups most_u32 s ≡ got a d → after_two h r s ≡ ended h r a d
unfolding after_two
third_on h r s a d e = rw e

pub ended_more : (h r a : ℕ) (d : List ℕ) → 0 < length d → ended h r a d ≡ none
unfolding ended
ended_more h r a [] p = absurd (omega arith)
ended_more h r a (b ∷ d) p = refl

pub ended-low : (h r a : ℕ) (d : List ℕ) → h < 1 → ended h r a d ≡ none
unfolding ended
ended-low h r a [] p = rw (lt-leb 1 h p)
ended-low h r a (b ∷ d) p = refl

pub ended-high : (h r a : ℕ) (d : List ℕ) → most_household < h → ended h r a d ≡ none
unfolding ended
ended-high h r a [] p = rw (and_no (leb 1 h) (leb h most_household) (lt-leb h most_household p))
ended-high h r a (b ∷ d) p = refl

pub ended_well : (h r a : ℕ) (d : List ℕ) → length d ≡ 0 → 1 ≤ h → h ≤ most_household → ended h r a d ≡ some (record { household = h; receipt = r; amount = unfolded a })
unfolding ended
ended_well h r a [] e p q = rw (and_both (leb 1 h) (leb h most_household) (le-leb 1 h p) (le-leb h most_household q))
ended_well h r a (b ∷ d) e p q = absurd (omega arith)

-- ---- what is written reads back

pub payment-back : (p : Payment) → Payable p → read_payment (payment_value p) ≡ some p
unfolding payment_value
payment-back p k =
    let g = groups (folded p.amount) in
    let e : groups (folded p.amount) ++ [] ≡ groups (folded p.amount) = append-nil (groups (folded p.amount)) in
    first_on (groups p.household ++ (groups p.receipt ++ groups (folded p.amount))) p.household (groups p.receipt ++ groups (folded p.amount))
    (read-written most_u32 p.household (groups p.receipt ++ groups (folded p.amount)) (omega (arith, k.high)))
    ∙ second_on p.household (groups p.receipt ++ groups (folded p.amount)) p.receipt (groups (folded p.amount))
    (read-written most_u32 p.receipt (groups (folded p.amount)) k.receipt)
    ∙ third_on p.household p.receipt (groups (folded p.amount)) (folded p.amount) [] (rw e at (read-written most_u32 (folded p.amount) [] k.amount))
    ∙ ended_well p.household p.receipt (folded p.amount) [] refl k.low k.high ∙ rw (unfold_fold p.amount)

-- the code's three readings
module _ (s : List ℕ) (h a : ℕ) (e1 : got h (drop a s) ≡ read_groups most_u32 s) where
  pub one-read : read_payment s ≡ after_one h (drop a s)
  one-read = first_on s h (drop a s) (sym e1)

  module _ (r b : ℕ) (e2 : got r (drop b s) ≡ read_groups most_u32 (drop a s)) where
    pub two_read : read_payment s ≡ after_two h r (drop b s)
    two_read = one-read ∙ second_on h (drop a s) r (drop b s) (sym e2)

    pub three_read : (f e : ℕ) → got f (drop e s) ≡ read_groups most_u32 (drop b s) → read_payment s ≡ ended h r f (drop e s)
    three_read f e e3 = two_read ∙ third_on h r (drop b s) f (drop e s) (sym e3)

-- the three numbers that the code writes are the value
module _ (d : List ℕ) (at : ℕ) (p : Payment) (d1 d2 d3 : List ℕ) (a b e f : ℕ)
    (e1 : d1 ≡ written d at (groups p.household)) (ea : a ≡ at + length (groups p.household))
    (e2 : d2 ≡ written d1 a (groups p.receipt)) (eb : b ≡ a + length (groups p.receipt))
    (e3 : d3 ≡ written d2 b (groups f)) (ee : e ≡ b + length (groups f)) (ef : f ≡ folded p.amount) (fits : e ≤ length d) where
  value-put : d3 ≡ written d at (payment_value p)
  unfolding payment_value
  value-put = written_three d at (groups p.household) (groups p.receipt) (groups f) d1 d2 d3 a b e1 ea e2 eb e3 (omega arith) ∙ rw ef

  value_end : e ≡ at + length (payment_value p)
  unfolding payment_value
  value_end =
      let l1 = length-append (groups p.household) (groups p.receipt ++ groups (folded p.amount)) in
      let l2 = length-append (groups p.receipt) (groups (folded p.amount)) in
      let q : length (groups f) ≡ length (groups (folded p.amount)) = rw ef in
      omega arith

  pub value-written : (d3 ≡ written d at (payment_value p)) × (e ≡ at + length (payment_value p))
  value-written = (value-put, value_end)

-- ---- in one way only

abbrev Spelt : List ℕ → Option Payment → Type 0
Spelt v none = Unit {0}
Spelt v (some p) = v ≡ payment_value p

spelt_end : (v : List ℕ) (h r a : ℕ) (d : List ℕ) → v ≡ groups h ++ (groups r ++ (groups a ++ d)) → Spelt v (ended h r a d)
unfolding ended payment_value
spelt_end v h r a (b ∷ d) e = tt
spelt_end v h r a [] e =
    by_test (leb 1 h && leb h most_household)
    (λ q. rw q (e ∙ rw (fold_unfold a, append-nil (groups a))))
    (λ q. rw q tt)

spelt_two : (v : List ℕ) (h r : ℕ) (s : List ℕ) → Bytes s → v ≡ groups h ++ (groups r ++ s) → (o : Option Read) → read_groups most_u32 s ≡ o → Spelt v (after_two h r s)
unfolding after_two
spelt_two v h r s b e none q = rw q tt
spelt_two v h r s b e (some x) q = rw q (spelt_end v h r x.number x.rest (e ∙ ap (λ (z : List ℕ). groups h ++ (groups r ++ z)) (read-once most_u32 s x b q)))

spelt_one : (v : List ℕ) (h : ℕ) (s : List ℕ) → Bytes s → v ≡ groups h ++ s → (o : Option Read) → read_groups most_u32 s ≡ o → Spelt v (after_one h s)
unfolding after_one
spelt_one v h s b e none q = rw q tt
spelt_one v h s b e (some x) q =
    let k : s ≡ groups x.number ++ x.rest = read-once most_u32 s x b q in
    rw q (spelt_two v h x.number x.rest (bytes_right (groups x.number) x.rest (subst Bytes k b)) (e ∙ ap (λ (z : List ℕ). groups h ++ z) k) (read_groups most_u32 x.rest) refl)

spelt_all : (v : List ℕ) → Bytes v → (o : Option Read) → read_groups most_u32 v ≡ o → Spelt v (read_payment v)
spelt_all v b none q = rw (first_bad v q) tt
spelt_all v b (some x) q =
    let k : v ≡ groups x.number ++ x.rest = read-once most_u32 v x b q in
    rw (first_on v x.number x.rest q) (spelt_one v x.number x.rest (bytes_right (groups x.number) x.rest (subst Bytes k b)) k (read_groups most_u32 x.rest) refl)

-- a payment that is read stands there as it is written
pub payment-once : (v : List ℕ) (p : Payment) → Bytes v → read_payment v ≡ some p → v ≡ payment_value p
payment-once v p b e = subst (Spelt v) e (spelt_all v b (read_groups most_u32 v) refl)

-- ---- what is read can be written, and is small

ended-payable : (h r a : ℕ) (d : List ℕ) (p : Payment) → r ≤ most_u32 → a ≤ most_u32 → ended h r a d ≡ some p → Payable p
unfolding ended
ended-payable h r a (b ∷ d) p kr ka e = nothing p e
ended-payable h r a [] p kr ka e =
    cond_yes (leb 1 h && leb h most_household) (some (record { household = h; receipt = r; amount = unfolded a })) p e
    (λ b q. subst Payable (some-injective _ _ q)
    (record {
      low = leb-true 1 h (and_left (leb 1 h) (leb h most_household) b);
      high = leb-true h most_household (and_right (leb 1 h) (leb h most_household) b);
      receipt = kr;
      amount = rw (fold_unfold a) ka;
    }))

-- a payment that is read is one that can be written
pub read-payable : (v : List ℕ) (p : Payment) → read_payment v ≡ some p → Payable p
unfolding read_payment
read-payable v p e =
    or_else_some (read_groups most_u32 v) _ p e
    (λ h eh kh. or_else_some (read_groups most_u32 h.rest) _ p kh
    (λ r er kr. or_else_some (read_groups most_u32 r.rest) _ p kr
    (λ a ea ka. ended-payable h.number r.number a.number a.rest p (read-most most_u32 h.rest r er) (read-most most_u32 r.rest a ea) ka)))

folded-mag : (x : ℤ) → folded x ≤ most_u32 → mag x < amount_limit
folded-mag (pos n) h = omega arith
folded-mag (negsuc n) h = omega arith

pub payable-mag : (p : Payment) → Payable p → mag p.amount < amount_limit
payable-mag p k = folded-mag p.amount k.amount

-- the size of a sum of k amounts, and of one more
pub mag-step : (k : ℕ) (a x : ℤ) → mag a ≤ k * amount_limit → mag x < amount_limit → mag (a +ℤ x) ≤ (k + 1) * amount_limit
mag-step k a x h l = omega (arith, mag_add a x)

pub mag_sum : (xs : List ℤ) → All (λ x. mag x < amount_limit) xs → mag (sumℤ xs) ≤ length xs * amount_limit
mag_sum [] h = omega arith
mag_sum (x ∷ xs) h = omega (arith, h.0, mag_sum xs h.1, mag_add x (sumℤ xs))
