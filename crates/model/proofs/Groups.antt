-- Totals of groups: what nodes add up to is what those that a test picks and the others add up to; groups of the same nodes with the same payments add the
-- same. Assumes nothing.
use Rattle.std.proofs.Common.{◌≡◌, ℕ, ◌+◌, Bool, true, not, List, [], ◌∷◌, ◌++◌, map, ℤ, ◌+ℤ◌, sym, refl, ap, ◌∙◌, subst, arith}
use lib.IntN.{+ℤ_assoc}
use Rattle.base.specs.Lists.{keep, join_all, In}
use Rattle.base.specs.Sorted.{Ascending}
use Rattle.base.proofs.Tests.{by_test}
use Rattle.base.proofs.Lists.{in_keep, keep_in, in_map, map_in, map_append}
use Rattle.base.proofs.Signed.{add_across}
use Rattle.base.proofs.Sorted.{same-list, ascending-map, keep-ascending, keys_in, in_keys}
use Rattle.wire.specs.Payment.{Payment}
use Rattle.model.specs.Table.{Entry, id_of, statements}
use Rattle.model.specs.Totals.{payments_of, payments_in, unreadable}
use Rattle.model.proofs.Totals.{payments_append, unreadable_append, tally, tally-none, tally_append}

-- the payments of these entries
abbrev pub payments_among : List Entry → List (List ℕ)
payments_among es = payments_in (statements es)

pub among_append : (es fs : List Entry) → payments_among (es ++ fs) ≡ payments_among es ++ payments_among fs
among_append es fs = ap payments_in (map_append (λ (e : Entry). e.says) es fs) ∙ payments_append (statements es) (statements fs)

-- ---- those that a test picks, and the others

pub picked_value : (f : Payment → Bool) (g : Entry → Bool) (es : List Entry)
    → tally f (payments_among es) ≡ tally f (payments_among (keep g es)) +ℤ tally f (payments_among (keep (λ e. not (g e)) es))
unfolding payments_in
picked_value f g [] = rw (tally-none f)
picked_value f g (e ∷ es) =
    let t : ℤ = tally f (payments_of e.says.node_data) in
    let a : ℤ = tally f (payments_among (keep g es)) in
    let b : ℤ = tally f (payments_among (keep (λ e. not (g e)) es)) in
    let more : (l : List Entry) → tally f (payments_among (e ∷ l)) ≡ t +ℤ tally f (payments_among l) = λ l. tally_append f (payments_of e.says.node_data) (payments_among l) in
    more es ∙ ap (λ (x : ℤ). t +ℤ x) (picked_value f g es)
    ∙ by_test (g e) (λ y. rw (y, more (keep g es)) (sym (+ℤ_assoc t a b))) (λ n. rw (n, more (keep (λ e. not (g e)) es)) (add_across t a b))

pub picked_unread : (g : Entry → Bool) (es : List Entry) → unreadable (payments_among es) ≡ unreadable (payments_among (keep g es)) + unreadable (payments_among (keep (λ e. not (g e)) es))
unfolding payments_in unreadable
picked_unread g [] = refl
picked_unread g (e ∷ es) =
    let more : (l : List Entry) → unreadable (payments_among (e ∷ l)) ≡ unreadable (payments_of e.says.node_data) + unreadable (payments_among l) =
    λ l. unreadable_append (payments_of e.says.node_data) (payments_among l) in
    let ih = picked_unread g es in
    by_test (g e) (λ y. rw y (omega (arith, more es, more (keep g es), ih))) (λ n. rw n (omega (arith, more es, more (keep (λ e. not (g e)) es), ih)))

-- ---- the same nodes with the same payments add the same, whatever their sequence numbers and ages

-- what a node adds, and whose it is
record Share : Type 0 where
  node : ℕ
  paid : List (List ℕ)

abbrev share_of : Entry → Share
share_of e = record { node = id_of e; paid = payments_of e.says.node_data }

abbrev sharer : Share → ℕ
sharer x = x.node

shares_paid : (es : List Entry) → payments_among es ≡ join_all (map (λ (x : Share). x.paid) (map share_of es))
unfolding payments_in
shares_paid [] = refl
shares_paid (e ∷ es) = ap (λ (l : List (List ℕ)). payments_of e.says.node_data ++ l) (shares_paid es)

shares_ascend : (es : List Entry) → Ascending id_of es → Ascending sharer (map share_of es)
shares_ascend es p = subst (λ (T : Type 0). T) (sym (ascending-map share_of sharer es)) p

-- the nodes of es that are marked are those of a, each with the same payments
pub same-paid : (es a : List Entry) (f : ℕ → Bool) → Ascending id_of es → Ascending id_of a
    → ((n : ℕ) → In n (map id_of es) → f n ≡ true → In n (map id_of a)) → ((n : ℕ) → In n (map id_of a) → In n (map id_of es) × (f n ≡ true))
    → ((e g : Entry) → In e es → In g a → id_of e ≡ id_of g → payments_of e.says.node_data ≡ payments_of g.says.node_data)
    → payments_among (keep (λ e. f (id_of e)) es) ≡ payments_among a
same-paid es a f p q into back same = shares_paid picked ∙ ap (λ (l : List Share). join_all (map (λ (x : Share). x.paid) l)) alike ∙ sym (shares_paid a)
  where
    picked : List Entry
    picked = keep (λ e. f (id_of e)) es

    twin : (e g : Entry) → In e es → In g a → id_of e ≡ id_of g → share_of e ≡ share_of g
    twin e g i j k = let d = same e g i j k in λ h. record { node = k h; paid = d h }

    to : (x : Share) → In x (map share_of picked) → In x (map share_of a)
    to x m =
        let e = map_in share_of x picked m in
        let i = keep_in (λ e. f (id_of e)) e.0 es e.1 in
        let g = keys_in id_of (id_of e.0) a (into (id_of e.0) (in_keys id_of e.0 es i.0) i.1) in
        subst (λ (y : Share). In y (map share_of a)) (sym (twin e.0 g.0 i.0 g.1 (sym g.2)) ∙ e.2) (in_map share_of g.0 a g.1)

    from : (x : Share) → In x (map share_of a) → In x (map share_of picked)
    from x m =
        let g = map_in share_of x a m in
        let b = back (id_of g.0) (in_keys id_of g.0 a g.1) in
        let e = keys_in id_of (id_of g.0) es b.0 in
        let i : In e.0 picked = in_keep (λ e. f (id_of e)) e.0 es e.1 (ap f e.2 ∙ b.1) in
        subst (λ (y : Share). In y (map share_of picked)) (twin e.0 g.0 e.1 g.1 e.2 ∙ g.2) (in_map share_of e.0 picked i)

    alike : map share_of picked ≡ map share_of a
    alike = same-list sharer (map share_of picked) (map share_of a) (shares_ascend picked (keep-ascending id_of (λ e. f (id_of e)) es p)) (shares_ascend a q) to from
