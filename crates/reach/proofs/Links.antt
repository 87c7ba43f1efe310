-- Two nodes joined, as a search over the TLVs of the one and, for each, over those of the other. Assumes nothing.
use mathlib.Core.Path.{◌≡◌, refl, sym, ap, ◌∙◌}
use mathlib.Core.Bool.{Bool, true, false, ◌&&◌}
use mathlib.Core.List.{List}
use Prim.Native.Nat.{ℕ}
use native.Mathlib.Omega.{arith}
use lib.ListN.{length, drop, length-drop}
use borrow.Author.Tests.{ne_eqb}
use Rattle.base.specs.Lists.{any}
use Rattle.base.proofs.Tests.{and_no}
use Rattle.wire.specs.Row.{value_of, tlvs}
use Rattle.wire.specs.Answers.{tlv_of, Tells}
use Rattle.wire.specs.declared.row.Header.{Header}
use Rattle.wire.proofs.Rows.{tlvs_end}
use Rattle.model.specs.Reach.{Link as ModelLink, link_of, is_peer_tlv, links, matches, joined}
use Rattle.reach.specs.declared.link.Link.{Link}
use Rattle.base.proofs.Lists.{any-kept, any_same, any-never}
use Rattle.std.specs.Prelude.{Option, None, Some, MatchOption}
use Rattle.reach.specs.Marks.{link_in, joins, Holds}

-- whether a link is found that g asks for
pub found_by : (g : ModelLink → Bool) (t : List ℕ) (o : Option Link) (b : Bool) {P : Link → Type 0} → Holds t o → MatchOption o (b ≡ false) P
    → ((l : Link) → P l → b ≡ g (link_in l)) → b ≡ is_peer_tlv t && g (link_of (value_of t))
found_by g t None b h e f = rw h e
found_by g t (Some l) b h p f = rw (h.0, ← h.1) (f l p)

-- ---- the search

-- a TLV of node n is a Peer TLV that matches l, a link of node r
abbrev pub answers : ℕ → ℕ → ModelLink → List ℕ → Bool
answers r n l u = is_peer_tlv u && matches r n l (link_of (value_of u))

-- t is a Peer TLV of r, and one of the TLVs ys of n matches it
abbrev pub pairs : ℕ → ℕ → List (List ℕ) → List ℕ → Bool
pairs r n ys t = is_peer_tlv t && any (answers r n (link_of (value_of t))) ys

pub joins_paired : (r n : ℕ) (x y : List ℕ) → joins r x n y ≡ any (pairs r n (tlvs y)) (tlvs x)
unfolding joined links
joins_paired r n x y =
    any-kept (λ l. any (matches r n l) (links y)) (λ t. link_of (value_of t)) is_peer_tlv (tlvs x)
    ∙ any_same (λ t. is_peer_tlv t && any (matches r n (link_of (value_of t))) (links y)) (pairs r n (tlvs y)) (tlvs x)
    (λ t. ap (λ (b : Bool). is_peer_tlv t && b) (any-kept (matches r n (link_of (value_of t))) (λ u. link_of (value_of u)) is_peer_tlv (tlvs y)))

-- the TLVs of d from place i on, of which one that f picks is looked for
module _ (f : List ℕ → Bool) (d : List ℕ) (i : ℕ) where
  pub picked_end : i ≡ length d → any f (tlvs (drop i d)) ≡ false
  picked_end p = rw (tlvs_end (drop i d) (simp length-drop (omega arith)))

  module _ (h : Header) (k : Tells d i h) where
    pub picked_on : {b : Bool} → b ≡ f (tlv_of d i h) → b ≡ false → any f (tlvs (drop i d)) ≡ any f (tlvs (drop h.next d))
    picked_on e t = ap (any f) k.left ∙ rw (sym e ∙ t)

    pub picked-here : {b : Bool} → b ≡ f (tlv_of d i h) → b ≡ true → any f (tlvs (drop i d)) ≡ true
    picked-here e t = ap (any f) k.left ∙ rw (sym e ∙ t)

-- the same of the TLVs of r, of which one that ys have a match for is looked for; h tells that at place i
module _ (r n : ℕ) (ys : List (List ℕ)) (d : List ℕ) (i : ℕ) (h : Header) (k : Tells d i h) where
  -- the TLV at place i holds no link
  pub unlinked_on : Holds (tlv_of d h.at h) None → any (pairs r n ys) (tlvs (drop i d)) ≡ any (pairs r n ys) (tlvs (drop h.next d))
  unlinked_on t = picked_on (pairs r n ys) d i h k {b = false} (rw (← k.here, t)) refl

  module _ (l : Link) (t : Holds (tlv_of d h.at h) (Some l)) where
    linked : any (answers r n (link_in l)) ys ≡ pairs r n ys (tlv_of d i h)
    linked = rw (← k.here, t.0, ← t.1)

    -- its link l has no match
    pub unmatched_on : any (answers r n (link_in l)) ys ≡ false → any (pairs r n ys) (tlvs (drop i d)) ≡ any (pairs r n ys) (tlvs (drop h.next d))
    unmatched_on = picked_on (pairs r n ys) d i h k linked

    -- only a link that names n can have one
    pub unnamed_on : ¬ (l.peer ≡ n) → any (pairs r n ys) (tlvs (drop i d)) ≡ any (pairs r n ys) (tlvs (drop h.next d))
    unnamed_on e = unmatched_on (any-never (answers r n (link_in l)) ys (λ u. and_no (is_peer_tlv u) _ (rw (ne_eqb l.peer n e))))

    -- its link l has one
    pub matched-here : any (answers r n (link_in l)) ys ≡ true → any (pairs r n ys) (tlvs (drop i d)) ≡ true
    matched-here = picked-here (pairs r n ys) d i h k linked
