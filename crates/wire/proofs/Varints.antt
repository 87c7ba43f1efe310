-- Numbers in groups: what is written reads back, in one way only; the loops' laws. Assumes nothing.
use mathlib.Core.Path.{◌≡◌, refl, sym, ap, ◌∙◌}
use mathlib.Core.List.{List, [], ◌∷◌, ◌++◌}
use mathlib.Core.Option.{Option, none, some}
use Prim.Native.Nat.{ℕ, zero, suc, ◌+◌, ◌-◌, ◌*◌, ◌/◌, ◌%◌, ◌^◌, ◌≤◌, ◌<◌}
use native.Mathlib.Omega.{arith}
use native.Mathlib.Nat.{mul-le-mul_left, mul-add, mul_assoc, mul_comm, pow-suc}
use lib.ListN.{length, get_or, drop, drop_of_length-le}
use lib.Dec.{ltb, leb}
use borrow.Author.Tests.{lt-ltb, le-ltb, le-leb, lt-leb, leb-true, ltb-true, ltb-false}
use Rattle.base.specs.Bytes.{Bytes}
use Rattle.wire.specs.Groups.{groups_of, groups, Read, above, any_groups, up_to, read_groups}
use Rattle.base.proofs.Tests.{by_test}
use Rattle.base.proofs.Options.{nothing, cond_yes}
use Rattle.base.proofs.Lists.{drop-next}

abbrev pub got : ℕ → List ℕ → Option Read
got n s = some (record { number = n; rest = s })

-- ---- the groups of a number

more : (f g n : ℕ) → n ≤ f → n ≤ g → groups_of f n ≡ groups_of g n
unfolding groups_of
more zero zero n p q = refl
more zero (suc g) n p q = rw (lt-ltb n 128 (omega arith))
more (suc f) zero n p q = rw (lt-ltb n 128 (omega arith))
more (suc f) (suc g) n p q = by_test (ltb n 128) (λ e. rw e) (λ e. let l : 128 ≤ n = ltb-false n 128 e in rw (e, more f g (n / 128) (omega arith) (omega arith)))

pub groups-small : (n : ℕ) → n < 128 → groups n ≡ n ∷ []
unfolding groups groups_of
groups-small zero h = refl
groups-small (suc n) h = rw (lt-ltb (suc n) 128 h)

groups-step : (n : ℕ) → 128 ≤ suc n → groups (suc n) ≡ (suc n % 128 + 128) ∷ groups (suc n / 128)
unfolding groups groups_of
groups-step n h = rw (le-ltb (suc n) 128 h) (ap (λ (g : List ℕ). (suc n % 128 + 128) ∷ g) (more n (suc n / 128) (suc n / 128) (omega arith) (omega arith)))

pub groups_large : (n : ℕ) → 128 ≤ n → groups n ≡ (n % 128 + 128) ∷ groups (n / 128)
groups_large zero h = absurd (omega arith)
groups_large (suc n) h = groups-step n h

-- k groups hold what is below 128^k
pub groups-length : (k n : ℕ) → n < 128 ^ suc k → length (groups n) ≤ suc k
groups-length zero n h = let p : n < 128 = h in rw (groups-small n p) (omega arith)
groups-length (suc k) n h =
    let p : n < 128 ^ suc k * 128 = rw (pow-suc 128 (suc k)) at h in
    by_test (ltb n 128) (λ e. rw (groups-small n (ltb-true n 128 e)) (omega arith))
    (λ e. let l : 128 ≤ n = ltb-false n 128 e in rw (groups_large n l) (let ih : length (groups (n / 128)) ≤ suc k = groups-length k (n / 128) (omega arith) in omega arith))

pub groups-some : (n : ℕ) → 1 ≤ length (groups n)
groups-some n = by_test (ltb n 128) (λ e. rw (groups-small n (ltb-true n 128 e)) (omega arith)) (λ e. rw (groups_large n (ltb-false n 128 e)) (omega arith))

-- ---- reading, group by group

pub any-short : (least b : ℕ) (s : List ℕ) → b < 128 → b < least → any_groups least (b ∷ s) ≡ none
unfolding any_groups
any-short least b s h k = rw (lt-ltb b 128 h, lt-ltb b least k)

pub any_last : (least b : ℕ) (s : List ℕ) → b < 128 → least ≤ b → any_groups least (b ∷ s) ≡ got b s
unfolding any_groups
any_last least b s h k = rw (lt-ltb b 128 h, le-ltb b least k)

pub any_more : (least b : ℕ) (s : List ℕ) → 128 ≤ b → any_groups least (b ∷ s) ≡ above b (any_groups 1 s)
unfolding any_groups
any_more least b s h = rw (le-ltb b 128 h)

any_nil : (least : ℕ) → any_groups least [] ≡ none
unfolding any_groups
any_nil least = refl

joined_up : (n : ℕ) → (n % 128 + 128) % 128 + 128 * (n / 128) ≡ n
joined_up n = omega arith

any-read : (f least n : ℕ) (s : List ℕ) → n ≤ f → least ≤ n → least ≤ 1 → any_groups least (groups n ++ s) ≡ got n s
any-read zero least n s p l k = rw (groups-small n (omega arith)) (any_last least n s (omega arith) l)
any-read (suc f) least n s p l k =
    by_test (ltb n 128) (λ e. let q : n < 128 = ltb-true n 128 e in rw (groups-small n q) (any_last least n s q l))
    (λ e. let q : 128 ≤ n = ltb-false n 128 e in
    rw (groups_large n q) (any_more least (n % 128 + 128) (groups (n / 128) ++ s) (omega arith)
    ∙ ap (above (n % 128 + 128)) (any-read f 1 (n / 128) s (omega arith) (omega arith) (omega arith)) ∙ ap (λ (m : ℕ). got m s) (joined_up n)))

-- what is written reads back
pub read-written : (most n : ℕ) (s : List ℕ) → n ≤ most → read_groups most (groups n ++ s) ≡ got n s
unfolding read_groups
read-written most n s h = ap (up_to most) (any-read n 0 n s (omega arith) (omega arith) (omega arith)) ∙ rw (le-leb n most h)

-- ---- and in one way only

abbrev Spelt : ℕ → List ℕ → Option Read → Type 0
Spelt least s none = Unit {0}
Spelt least s (some r) = (least ≤ r.number) × (s ≡ groups r.number ++ r.rest)

spelt_above : (least b : ℕ) (s : List ℕ) (o : Option Read) → least ≤ 1 → 128 ≤ b → b < 256 → Spelt 1 s o → Spelt least (b ∷ s) (above b o)
spelt_above least b s none l p q h = tt
spelt_above least b s (some r) l p q h =
    let n = b % 128 + 128 * r.number in
    let k : 1 ≤ r.number = h.0 in
    let e : (b % 128 + 128 * r.number) % 128 + 128 ≡ b = omega arith in
    let d : (b % 128 + 128 * r.number) / 128 ≡ r.number = omega arith in
    (omega arith, rw (groups_large (b % 128 + 128 * r.number) (omega arith), e, d) (ap (λ (x : List ℕ). b ∷ x) h.1))

any_spelt : (least : ℕ) (s : List ℕ) → least ≤ 1 → Bytes s → Spelt least s (any_groups least s)
any_spelt least [] l h = rw (any_nil least) tt
any_spelt least (b ∷ s) l h =
    by_test (ltb b 128)
    (λ e. let p : b < 128 = ltb-true b 128 e in
    by_test (ltb b least) (λ q. rw (any-short least b s p (ltb-true b least q)) tt)
    (λ q. rw (any_last least b s p (ltb-false b least q)) (ltb-false b least q, rw (groups-small b p))))
    (λ e. let p : 128 ≤ b = ltb-false b 128 e in rw (any_more least b s p) (spelt_above least b s (any_groups 1 s) l p h.0 (any_spelt 1 s (omega arith) h.1)))

-- a number that is read stands there as it is written
up_to_spelt : (most : ℕ) (s : List ℕ) (o : Option Read) (r : Read) → Spelt 0 s o → up_to most o ≡ some r → s ≡ groups r.number ++ r.rest
up_to_spelt most s none r h e = absurd (let z : ◌≡◌ {A = ℕ} 0 1 = cc in omega arith)
up_to_spelt most s (some q) r h e =
    by_test (leb q.number most)
    (λ b. let w : some q ≡ some r = rw b at e in let v : q ≡ r = cc in h.1 ∙ rw v)
    (λ b. let w : ◌≡◌ {A = Option Read} none (some r) = rw b at e in absurd (let z : ◌≡◌ {A = ℕ} 0 1 = cc in omega arith))

pub read-once : (most : ℕ) (s : List ℕ) (r : Read) → Bytes s → read_groups most s ≡ some r → s ≡ groups r.number ++ r.rest
unfolding read_groups
read-once most s r h e = up_to_spelt most s (any_groups 0 s) r (any_spelt 0 s (omega arith) h) e

-- ---- the reading loop: sum is what the groups before give, the next one counts scale times

abbrev lift : ℕ → ℕ → Option Read → Option Read
lift a k none = none
lift a k (some r) = some (record { number = a + k * r.number; rest = r.rest })

unfoldable pub onward : ℕ → ℕ → ℕ → ℕ → List ℕ → Option Read
onward most a k least d = up_to most (lift a k (any_groups least d))

lift_start : (o : Option Read) → lift 0 1 o ≡ o
lift_start none = refl
lift_start (some r) = let e : 0 + 1 * r.number ≡ r.number = omega arith in rw e

pub read-start : (most : ℕ) (d : List ℕ) → read_groups most d ≡ onward most 0 1 0 d
unfolding read_groups onward
read-start most d = rw (lift_start (any_groups 0 d))

regroup : (a k b n : ℕ) → 128 ≤ b → b < 256 → a + k * (b % 128 + 128 * n) ≡ a + (b - 128) * k + k * 128 * n
regroup a k b n p q =
    let e : b % 128 ≡ b - 128 = omega arith in
    let f : k * (b % 128 + 128 * n) ≡ k * (b % 128) + k * (128 * n) = mul-add k (b % 128) (128 * n) in
    let g : k * (128 * n) ≡ k * 128 * n = sym (mul_assoc k 128 n) in
    let m : k * (b % 128) ≡ (b - 128) * k = rw e (mul_comm k (b - 128)) in
    omega arith

lift_above : (a k b : ℕ) (o : Option Read) → 128 ≤ b → b < 256 → lift a k (above b o) ≡ lift (a + (b - 128) * k) (k * 128) o
lift_above a k b none p q = refl
lift_above a k b (some r) p q = rw (regroup a k b r.number p q)

over-sum : (most a k : ℕ) (o : Option Read) → most < a → up_to most (lift a k o) ≡ none
over-sum most a k none h = refl
over-sum most a k (some r) h = rw (lt-leb (a + k * r.number) most (omega arith))

abbrev Positive : Option Read → Type 0
Positive none = Unit {0}
Positive (some r) = 1 ≤ r.number

above_positive : (b : ℕ) (o : Option Read) → Positive o → Positive (above b o)
above_positive b none h = tt
above_positive b (some r) h = omega arith

any_positive : (s : List ℕ) → Positive (any_groups 1 s)
any_positive [] = rw (any_nil 1) tt
any_positive (b ∷ s) =
    by_test (ltb b 128)
    (λ e. let p : b < 128 = ltb-true b 128 e in
    by_test (ltb b 1) (λ q. rw (any-short 1 b s p (ltb-true b 1 q)) tt) (λ q. rw (any_last 1 b s p (ltb-false b 1 q)) (ltb-false b 1 q)))
    (λ e. rw (any_more 1 b s (ltb-false b 128 e)) (above_positive b (any_groups 1 s) (any_positive s)))

over_scale : (most a k : ℕ) (o : Option Read) → Positive o → most < k → up_to most (lift a k o) ≡ none
over_scale most a k none q h = refl
over_scale most a k (some r) q h = rw (lt-leb (a + k * r.number) most (omega (arith, mul-le-mul_left k q)))

pub onward_end : (most a k least : ℕ) (s : List ℕ) (i : ℕ) → length s ≤ i → onward most a k least (drop i s) ≡ none
unfolding onward
onward_end most a k least s i h = rw (drop_of_length-le s {i = i} h, any_nil least)

module _ (most a k least : ℕ) (s : List ℕ) (i b : ℕ) (h : i < length s) (e : b ≡ get_or s i 0) where
  here : drop i s ≡ b ∷ drop (i + 1) s
  here = drop-next s i h ∙ rw e

  pub onward-short : b < 128 → b < least → onward most a k least (drop i s) ≡ none
  unfolding onward
  onward-short p q = rw (here, any-short least b (drop (i + 1) s) p q)

  pub onward-over : b < 128 → least ≤ b → most < a + b * k → onward most a k least (drop i s) ≡ none
  unfolding onward
  onward-over p q l = rw (here, any_last least b (drop (i + 1) s) p q, mul_comm k b, lt-leb (a + b * k) most l)

  pub onward-last : b < 128 → least ≤ b → a + b * k ≤ most → onward most a k least (drop i s) ≡ got (a + b * k) (drop (i + 1) s)
  unfolding onward
  onward-last p q l = rw (here, any_last least b (drop (i + 1) s) p q, mul_comm k b, le-leb (a + b * k) most l)

  pub onward_on : 128 ≤ b → b < 256 → onward most a k least (drop i s) ≡ onward most (a + (b - 128) * k) (k * 128) 1 (drop (i + 1) s)
  unfolding onward
  onward_on p q = rw (here, any_more least b (drop (i + 1) s) p, lift_above a k b (any_groups 1 (drop (i + 1) s)) p q)

pub onward-sum : (most a k least : ℕ) (d : List ℕ) → most < a → onward most a k least d ≡ none
unfolding onward
onward-sum most a k least d h = over-sum most a k (any_groups least d) h

pub onward_scale : (most a k : ℕ) (d : List ℕ) → most < k → onward most a k 1 d ≡ none
unfolding onward
onward_scale most a k d h = over_scale most a k (any_groups 1 d) (any_positive d) h

pub large_length : (n : ℕ) → 128 ≤ n → length (groups n) ≡ 1 + length (groups (n / 128))
large_length n h = rw (groups_large n h) (omega arith)

pub small-length : (n : ℕ) → n < 128 → length (groups n) ≡ 1
small-length n h = rw (groups-small n h)

up_to_most : (most : ℕ) (o : Option Read) (r : Read) → up_to most o ≡ some r → r.number ≤ most
up_to_most most none r e = nothing r e
up_to_most most (some q) r e =
    cond_yes (leb q.number most) (some q) r e
    (λ b p. let z : q ≡ r = cc in rw (← z) (leb-true q.number most b))

-- a number that is read is at most what it may be
pub read-most : (most : ℕ) (s : List ℕ) (r : Read) → read_groups most s ≡ some r → r.number ≤ most
unfolding read_groups
read-most most s r e = up_to_most most (any_groups 0 s) r e
