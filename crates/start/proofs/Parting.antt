-- Our Peer and Keep-Alive TLVs stand together, and are cut out: the TLVs of good data ascend by type. Assumes nothing.
use mathlib.Core.Path.{◌≡◌, refl, sym, ap, ◌∙◌, subst}
use mathlib.Core.Bool.{Bool, true, not}
use mathlib.Core.List.{List, [], ◌∷◌, ◌++◌}
use Prim.Native.Nat.{ℕ, ◌+◌, ◌-◌, ◌≤◌, ◌<◌}
use native.Mathlib.Omega.{arith}
use lib.ListN.{length, drop}
use lib.Dec.{eqb}
use borrow.Author.Tests.{eqb-false, eq-eqb, ne_eqb}
use Rattle.base.specs.Bytes.{Bytes}
use Rattle.base.specs.Lists.{All, keep, join_all}
use Rattle.base.specs.Memory.{cut}
use Rattle.base.proofs.Tests.{by_test}
use Rattle.base.proofs.Lists.{keep_append, join_append}
use Rattle.wire.specs.Row.{type_of, tlvs}
use Rattle.wire.specs.Order.{good}
use Rattle.wire.proofs.Good.{good-row, tlvs-joined}
use Rattle.model.specs.Figures.{data_limit}
use Rattle.model.specs.Snapshot.{of_links, without_links}
use Rattle.reach.specs.Parts.{Parted}
use Rattle.reach.proofs.Fronts.{Rising, rising, rising_on, parted_above, front_bytes, all_left}

abbrev other : List ℕ → Bool
other t = not (of_links t)

lower_kept : (ts : List (List ℕ)) → All (λ t. type_of t < 8) ts → keep other ts ≡ ts
lower_kept [] h = refl
lower_kept (t ∷ ts) h = rw (ne_eqb (type_of t) 8 (λ z. omega (arith, h.0)), ne_eqb (type_of t) 9 (λ z. omega (arith, h.0)), lower_kept ts h.1)

higher_kept : (ts : List (List ℕ)) → All (λ t. 10 ≤ type_of t) ts → keep other ts ≡ ts
higher_kept [] h = refl
higher_kept (t ∷ ts) h = rw (ne_eqb (type_of t) 8 (λ z. omega (arith, h.0)), ne_eqb (type_of t) 9 (λ z. omega (arith, h.0)), higher_kept ts h.1)

links-out : (ts : List (List ℕ)) → All (λ t. 8 ≤ type_of t) ts → All (λ t. type_of t < 10) ts → keep other ts ≡ []
links-out [] h k = refl
links-out (t ∷ ts) h k =
    by_test (eqb (type_of t) 8) (λ b. rw (b, links-out ts h.1 k.1))
    (λ b. rw (b, eq-eqb (type_of t) 9 (omega (arith, h.0, k.0, eqb-false (type_of t) 8 b)), links-out ts h.1 k.1))

-- ---- these TLVs cut out

module _ (d : List ℕ) (g : good data_limit d ≡ true) (b : Bytes d) (p e : ℕ) (x : Parted d 0 8 p) (y : Parted d p 10 e) where
  abbrev lows : List (List ℕ)
  lows = x.passed.below

  abbrev links : List (List ℕ)
  links = y.passed.below

  ascends : Rising d 0
  ascends = rising data_limit d g b

  from_eight : All (λ t. 8 ≤ type_of t) links
  from_eight =
      all_left (λ t. 8 ≤ type_of t) links (tlvs (drop e d))
      (subst (All (λ t. 8 ≤ type_of t)) y.passed.parts (parted_above d 0 ascends 8 p x))

  from_ten : All (λ t. 10 ≤ type_of t) (tlvs (drop e d))
  from_ten = parted_above d p (rising_on d 0 ascends 8 p x.passed) 10 e y

  whole : tlvs d ≡ lows ++ (links ++ tlvs (drop e d))
  whole = x.passed.parts ∙ ap (λ (z : List (List ℕ)). lows ++ z) y.passed.parts

  others : keep other (tlvs d) ≡ lows ++ tlvs (drop e d)
  others =
      rw (
        whole,
        keep_append other lows (links ++ tlvs (drop e d)),
        keep_append other links (tlvs (drop e d)),
        lower_kept lows x.passed.low,
        links-out links from_eight y.passed.low,
        higher_kept (tlvs (drop e d)) from_ten,
      )

  pub links-cut : cut d p (e - p) ≡ without_links d
  links-cut =
      let r : p + (e - p) ≡ e = omega (arith, y.passed.onward) in
      rw (r, front_bytes d 8 p x.passed (good-row data_limit d g), others) (ap (λ (z : List ℕ). join_all lows ++ z) (sym (tlvs-joined (drop e d) y.passed.again)) ∙ sym (join_append lows (tlvs (drop e d))))

  pub links-within : p + (e - p) ≤ length d
  links-within = omega (arith, y.passed.onward, y.passed.within)
