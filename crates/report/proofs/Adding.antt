-- Sums by household, and who paid: payment by payment, TLV by TLV, node by node. Assumes nothing.
use mathlib.Core.Path.{◌≡◌, refl, sym, ap, ◌∙◌}
use mathlib.Core.Bool.{Bool, true, false, ◌||◌, or-true, or-false}
use mathlib.Core.List.{List, [], ◌∷◌, ◌++◌, append-nil}
use mathlib.Core.Option.{none, some}
use Rattle.std.specs.Prelude.{Option, Some, None, is_some, unwrap_or}
use Prim.Native.Nat.{ℕ, ◌+◌, ◌-◌, ◌*◌, ◌/◌, ◌≤◌, ◌<◌}
use native.Mathlib.Omega.{arith}
use lib.ListN.{length, get_or, take, drop, set, replicate, length-set, length-append, length-drop, get_or-append}
use Rattle.std.proofs.lemmas.List.{length-take-le, get_or-replicate, length-replicate}
use Rattle.std.proofs.lemmas.Slice.{drop-append-drop}
use lib.Seq.{get_or-set_same, get_or-set_other, drop-set-lt}
use lib.Dec.{eqb}
use lib.IntN.{ℤ, pos, ◌+ℤ◌, +ℤ_idr}
use lib.Signed.{mag}
use borrow.Author.Tests.{eq-eqb, ne_eqb, eqb-true, eqb-false}
use mir.Syntax.{w32, w64}
use mir.Val.{SFits, to_z, of_z}
use Rattle.base.specs.Lists.{any}
use Rattle.base.proofs.Signed.{narrow_back, wide_back}
use Rattle.base.proofs.Tests.{by_test}
use Rattle.base.proofs.Options.{by_option}
use Rattle.base.proofs.Lists.{any-joined}
use Rattle.wire.specs.Row.{value_of}
use Rattle.wire.specs.Payment.{Payment, Payable, amount_limit, read_payment}
use Rattle.wire.specs.Answers.{tlv_of, Tells, told}
use Rattle.wire.specs.declared.payment.Payment.{Payment as Paid}
use Rattle.wire.specs.declared.row.Header.{Header}
use Rattle.wire.proofs.Payments.{read-payable, payable-mag, mag-step}
use Rattle.model.specs.Figures.{data_limit}
use Rattle.model.specs.Table.{Statement}
use Rattle.model.specs.Totals.{payments_of, payments_in, readable, total_of}
use Rattle.model.proofs.Totals.{payments_append, payments_end, payments_pass, payments_meet, readable_no, readable_yes, readable_append, tally, tally-none, tally_pass, tally-onward, of_household, total-is, total-nodes}
use Rattle.accounts.specs.Tallied.{publishing, most_payments}
use Rattle.report.specs.Steps.{households, Wide, sum_at, paid_at, Small, Behind, pays, add_sum, paid_in, SumsGrow, SumsAre, Cleared}

-- ---- behind the households

module _ (s₀ : List (Option ℤ)) where
  pub behind-none : Behind s₀ s₀
  behind-none = record { rest = refl; long = refl }

  module _ (s : List (Option ℤ)) (k : Behind s₀ s) where
    -- a store for a household
    behind-set : (h : ℕ) (x : Option ℤ) → h < households → Behind s₀ (set s h x)
    behind-set h x l = record { rest = drop-set-lt households s h x l ∙ k.rest; long = length-set s h x ∙ k.long }

    pub behind_then : (s' : List (Option ℤ)) → Behind s s' → Behind s₀ s'
    behind_then s' j = record { rest = j.rest ∙ k.rest; long = j.long ∙ k.long }

-- ---- cleared: p is what the households' places were filled with

module _ (s p : List (Option ℤ)) (w : Wide s) (e : p ≡ replicate (length (take households s)) None) where
  filled : p ≡ replicate households None
  filled = rw (length-take-le households s w) at e

  filled-long : length p ≡ households
  filled-long = rw filled (length-replicate {A = Option ℤ} households None)

  pub cleared : Cleared (p ++ drop households s) × Behind s (p ++ drop households s)
  cleared = (
    record { each = λ h l. get_or-append p (drop households s) None h (omega (arith, filled-long)) ∙ rw filled (get_or-replicate households h None None l) },
    record { rest = drop-append-drop households s p households (omega arith) filled-long; long = simp (length-append, length-drop) (omega (arith, filled-long)) },
  )

-- ---- one payment: its household's sum changes, and no other's

module _ (p : Payment) (h : ℕ) (s : List (Option ℤ)) where
  place-own : of_household h p ≡ true → h < length s → get_or (add_sum (some p) s) h None ≡ Some (sum_at s h +ℤ p.amount)
  place-own b l = let e : p.household ≡ h = eqb-true p.household h b in rw e (get_or-set_same s h (Some (sum_at s h +ℤ p.amount)) None l)

  place-other : of_household h p ≡ false → get_or (add_sum (some p) s) h None ≡ get_or s h None
  place-other b =
      let n : p.household ≡ h → ⊥ = eqb-false p.household h b in
      get_or-set_other s p.household h (Some (sum_at s p.household +ℤ p.amount)) None (λ e. n (sym e))

  pub sum-own : of_household h p ≡ true → h < length s → sum_at (add_sum (some p) s) h ≡ sum_at s h +ℤ p.amount
  sum-own b l = ap (λ (o : Option ℤ). unwrap_or o (pos 0)) (place-own b l)

  pub sum-other : of_household h p ≡ false → sum_at (add_sum (some p) s) h ≡ sum_at s h
  sum-other b = ap (λ (o : Option ℤ). unwrap_or o (pos 0)) (place-other b)

  pub paid_own : of_household h p ≡ true → h < length s → paid_at (add_sum (some p) s) h ≡ true
  paid_own b l = ap is_some (place-own b l)

  pub paid_other : of_household h p ≡ false → paid_at (add_sum (some p) s) h ≡ paid_at s h
  paid_other b = ap is_some (place-other b)

-- one more payment in each sum
added_small : (k : ℕ) (p : Payment) (s : List (Option ℤ)) → mag p.amount < amount_limit → households ≤ length s → Small k s → Small (k + 1) (add_sum (some p) s)
added_small k p s l w m =
    record {
      each = λ h i. by_test (of_household h p)
          (λ e. rw (sum-own p h s e (omega arith)) (mag-step k (sum_at s h) p.amount (m.each h i) l))
          (λ e. rw (sum-other p h s e) (omega (arith, m.each h i)));
    }

small_more : (j k : ℕ) (s : List (Option ℤ)) → j ≤ k → Small j s → Small k s
small_more j k s l m = record { each = λ h i. omega (arith, m.each h i) }

-- ---- one TLV

pub pays-other : (kind : ℕ) (v : List ℕ) → (kind ≡ 40 → ⊥) → pays kind v ≡ none
unfolding pays
pays-other kind v n = rw (ne_eqb kind 40 n)

pub pays-read : (kind : ℕ) (v : List ℕ) → kind ≡ 40 → pays kind v ≡ read_payment v
unfolding pays
pays-read kind v e = rw (eq-eqb kind 40 e)

-- ---- as the code adds it: words of 64 bits have room for all payments of a table

pub code_other : (kind : ℕ) (v : List ℕ) (s : List (Option ℤ)) → (kind ≡ 40 → ⊥) → s ≡ add_sum (pays kind v) s
code_other kind v s n = rw (pays-other kind v n)

module _ (kind : ℕ) (v : List ℕ) (s : List (Option ℤ)) (k : kind ≡ 40) where
  pub code_none : none ≡ read_payment v → s ≡ add_sum (pays kind v) s
  code_none e = let r : pays kind v ≡ none = pays-read kind v k ∙ sym e in rw r

  module _ (w : Wide s) (m : Small (most_payments * 2) s) (p : Paid) (e : some (told p) ≡ read_payment v) where
    payable : Payable (told p)
    payable = read-payable v (told p) (sym e)

    pub code_place : p.household < households
    code_place = omega (arith, payable.high)

    small : mag p.amount < amount_limit
    small = payable-mag (told p) payable

    old-fits : SFits w64 (sum_at s p.household)
    old-fits = record { sfits = omega (arith, m.each p.household code_place) }

    new_fits : SFits w64 (sum_at s p.household +ℤ p.amount)
    new_fits = record { sfits = omega (arith, mag-step (most_payments * 2) (sum_at s p.household) p.amount (m.each p.household code_place) small) }

    fits : SFits w32 p.amount
    fits = record { sfits = small }

    pub code_sum : SFits w64 (to_z w64 (of_z w64 (sum_at s p.household)) +ℤ to_z w64 (of_z w64 (to_z w32 (of_z w32 p.amount))))
    code_sum = rw (narrow_back w64 (sum_at s p.household) old-fits, wide_back p.amount fits) new_fits

    pub code_paid : set s p.household (Some (to_z w64 (of_z w64 (to_z w64 (of_z w64 (sum_at s p.household)) +ℤ to_z w64 (of_z w64 (to_z w32 (of_z w32 p.amount))))))) ≡ add_sum (pays kind v) s
    code_paid =
        let o : pays kind v ≡ some (told p) = pays-read kind v k ∙ sym e in
        rw (o, narrow_back w64 (sum_at s p.household) old-fits, wide_back p.amount fits, narrow_back w64 (sum_at s p.household +ℤ p.amount) new_fits)

-- ---- what is read

readable-none : readable [] ≡ []
unfolding readable
readable-none = refl

-- one node's payments
payments_alone : (d : List ℕ) → payments_in (publishing d ∷ []) ≡ payments_of d
unfolding payments_in
payments_alone d = append-nil (payments_of d)

total-alone : (d : List ℕ) (h : ℕ) → total_of h (publishing d ∷ []) ≡ tally (of_household h) (payments_of d)
total-alone d h = total-is h (publishing d ∷ []) ∙ ap (tally (of_household h)) (payments_alone d)

-- only readable payments are summed
tally-same : (f : Payment → Bool) (ts us : List (List ℕ)) → readable ts ≡ readable us → tally f ts ≡ tally f us
unfolding tally
tally-same f ts us e = rw e

-- ---- one node's data d, at place at: what stands there now and what is left give the whole

pub record Going (d : List ℕ) (s₀ : List (Option ℤ)) (s : List (Option ℤ)) (at : ℕ) : Type 0 where
  pub wide : Wide s
  pub small : Small (most_payments + at / 4) s
  pub sums : (h : ℕ) → h < households → sum_at s h +ℤ tally (of_household h) (payments_of (drop at d)) ≡ sum_at s₀ h +ℤ tally (of_household h) (payments_of d)
  pub marks : (h : ℕ) → h < households
      → paid_at s h || any (of_household h) (readable (payments_of (drop at d))) ≡ paid_at s₀ h || any (of_household h) (readable (payments_of d))
  pub behind : Behind s₀ s

module _ (d : List ℕ) (s₀ : List (Option ℤ)) where
  pub going_start : Wide s₀ → Small most_payments s₀ → Going d s₀ s₀ 0
  going_start w m = record { wide = w; small = small_more most_payments (most_payments + 0 / 4) s₀ (omega arith) m; sums = λ h i. refl; marks = λ h i. refl; behind = behind-none s₀ }

  module _ (s : List (Option ℤ)) (at : ℕ) (g : Going d s₀ s at) where
    -- there is room for one more
    pub going_room : at ≤ data_limit → Small (most_payments * 2) s
    going_room l = small_more (most_payments + at / 4) (most_payments * 2) s (omega arith) g.small

    module _ (h : Header) (t : Tells d at h) where
      next_far : at / 4 + 1 ≤ h.next / 4
      next_far = omega (arith, t.start, t.inside)

      -- the TLV pays nothing
      going_pass : readable (payments_of (drop at d)) ≡ readable (payments_of (drop h.next d)) → Going d s₀ s h.next
      going_pass e =
          record {
            wide = g.wide;
            small = small_more (most_payments + at / 4) (most_payments + h.next / 4) s (omega (arith, next_far)) g.small;
            sums = λ x i. rw (← tally-same (of_household x) (payments_of (drop at d)) (payments_of (drop h.next d)) e) (g.sums x i);
            marks = λ x i. rw (← e) (g.marks x i);
            behind = g.behind;
          }

      unread : h.kind ≡ 40 → read_payment (take h.len (drop h.start d)) ≡ none → readable (payments_of (drop at d)) ≡ readable (payments_of (drop h.next d))
      unread y r =
          let q : read_payment (value_of (tlv_of d at h)) ≡ none = rw t.value r in
          ap readable (payments_meet d at h t y) ∙ readable_no (tlv_of d at h) (payments_of (drop h.next d)) q

      -- it pays p
      module _ (y : h.kind ≡ 40) (p : Payment) (r : read_payment (take h.len (drop h.start d)) ≡ some p) where
        pays_p : read_payment (value_of (tlv_of d at h)) ≡ some p
        pays_p = rw t.value r

        left : payments_of (drop at d) ≡ take (h.next - at) (drop at d) ∷ payments_of (drop h.next d)
        left = payments_meet d at h t y

        sum_on : (x : ℕ) → x < households
            → sum_at (add_sum (some p) s) x +ℤ tally (of_household x) (payments_of (drop h.next d)) ≡ sum_at s x +ℤ tally (of_household x) (payments_of (drop at d))
        sum_on x i =
            let l : households ≤ length s = g.wide in
            by_test (of_household x p)
            (λ e. rw (left, sum-own p x s e (omega arith))
            (sym (tally-onward (of_household x) (tlv_of d at h) (payments_of (drop h.next d)) p pays_p e (sum_at s x))))
            (λ e. rw (left, sum-other p x s e, tally_pass (of_household x) (tlv_of d at h) (payments_of (drop h.next d)) p pays_p e))

        mark_on : (x : ℕ) → x < households
            → paid_at (add_sum (some p) s) x || any (of_household x) (readable (payments_of (drop h.next d))) ≡ paid_at s x || any (of_household x) (readable (payments_of (drop at d)))
        mark_on x i =
            let l : households ≤ length s = g.wide in
            let q : readable (payments_of (drop at d)) ≡ p ∷ readable (payments_of (drop h.next d)) =
            ap readable left ∙ readable_yes (tlv_of d at h) (payments_of (drop h.next d)) p pays_p in
            by_test (of_household x p)
            (λ e. rw (q, e, paid_own p x s e (omega arith)) (sym (or-true (paid_at s x))))
            (λ e. rw (q, e, paid_other p x s e))

        going_paid : Going d s₀ (add_sum (some p) s) h.next
        going_paid =
            let f : Payable p = read-payable (take h.len (drop h.start d)) p r in
            let l : mag p.amount < amount_limit = payable-mag p f in
            record {
              wide = omega (arith, g.wide, length-set s p.household (Some (sum_at s p.household +ℤ p.amount)));
              small = small_more (most_payments + at / 4 + 1) (most_payments + h.next / 4) (add_sum (some p) s) (omega (arith, next_far))
                  (added_small (most_payments + at / 4) p s l g.wide g.small);
              sums = λ x i. sum_on x i ∙ g.sums x i;
              marks = λ x i. mark_on x i ∙ g.marks x i;
              behind = behind-set s₀ s g.behind p.household (Some (sum_at s p.household +ℤ p.amount)) (omega (arith, f.high));
            }

      -- whatever it is
      pub going_on : (s' : List (Option ℤ)) → s' ≡ add_sum (pays h.kind (take h.len (drop h.start d))) s → Going d s₀ s' h.next
      going_on s' a =
          let v : List ℕ = take h.len (drop h.start d) in
          let off : (pays h.kind v ≡ none) → readable (payments_of (drop at d)) ≡ readable (payments_of (drop h.next d)) → Going d s₀ s' h.next =
          λ e q. rw (a, e) (going_pass q) in
          by_test (eqb h.kind 40)
          (λ i. let y : h.kind ≡ 40 = eqb-true h.kind 40 i in
          by_option (read_payment v)
          (λ e. off (pays-read h.kind v y ∙ e) (unread y e))
          (λ p e. rw (a, pays-read h.kind v y, e) (going_paid y p e)))
          (λ i. let n : h.kind ≡ 40 → ⊥ = eqb-false h.kind 40 i in off (pays-other h.kind v n) (ap readable (payments_pass d at h t n)))

    pub going_end : length d ≤ at → SumsGrow (publishing d ∷ []) s₀ s × Behind s₀ s
    going_end l =
        let e : payments_of (drop at d) ≡ [] = payments_end d at l in (
          record {
            sums = λ x i. sym (+ℤ_idr (sum_at s x)) ∙ ap (λ (z : ℤ). sum_at s x +ℤ z) (sym (tally-none (of_household x))) ∙ rw e at (g.sums x i)
                ∙ ap (λ (z : ℤ). sum_at s₀ x +ℤ z) (sym (total-alone d x));
            marks = λ x i. sym (or-false (paid_at s x)) ∙ rw (e, readable-none) at (g.marks x i) ∙ rw (payments_alone d);
          },
          g.behind,
        )

-- ---- node after node

pub totals-none : (s : List (Option ℤ)) → Cleared s → SumsAre [] s
unfolding payments_in
totals-none s c =
    record {
      sums = λ h i. ap (λ (o : Option ℤ). unwrap_or o (pos 0)) (c.each h i) ∙ sym (total-is h [] ∙ tally-none (of_household h));
      marks = λ h i. ap is_some (c.each h i) ∙ rw readable-none;
    }

paid-both : (ss us : List Statement) (h : ℕ) → paid_in (ss ++ us) h ≡ paid_in ss h || paid_in us h
paid-both ss us h =
    ap (λ (ts : List (List ℕ)). any (of_household h) (readable ts)) (payments_append ss us)
    ∙ ap (any (of_household h)) (readable_append (payments_in ss) (payments_in us)) ∙ any-joined (of_household h) (readable (payments_in ss)) (readable (payments_in us))

pub totals_then : (ss us : List Statement) (s : List (Option ℤ)) (s' : List (Option ℤ)) → SumsAre ss s → SumsGrow us s s' → SumsAre (ss ++ us) s'
totals_then ss us s s' t u =
    record {
      sums = λ h i. u.sums h i ∙ rw (t.sums h i) (sym (total-nodes h ss us));
      marks = λ h i. u.marks h i ∙ rw (t.marks h i) (sym (paid-both ss us h));
    }

-- only what a node publishes matters
pub summed-says : (d : List ℕ) (x : Statement) (s : List (Option ℤ)) (s' : List (Option ℤ)) → d ≡ x.node_data → SumsGrow (publishing d ∷ []) s s' → SumsGrow (x ∷ []) s s'
unfolding payments_in
summed-says d x s s' e u =
    record {
      sums = λ h i. u.sums h i ∙ rw (total-is h (publishing d ∷ []), total-is h (x ∷ []), e);
      marks = λ h i. u.marks h i ∙ rw e;
    }
