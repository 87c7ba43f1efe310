-- Our own data: Peer TLVs and payments put in, TLVs taken out. It stays good, and its Peer TLVs stay those of the peers. Assumes nothing.
use Rattle.std.proofs.Common.{◌≡◌, ℕ, ◌+◌, ◌<◌, ◌≤◌, Bool, true, false, not, ◌&&◌, eqb, List, [], ◌∷◌, ◌++◌, map, length, sym, refl, ap, ◌∙◌, subst, inl, inr, ⊎_elim, arith, length-append, eq-eqb, eqb-true}
use mathlib.Core.List.{map-append}
use Rattle.base.specs.Lists.{any, keep, join_all, In}
use Rattle.base.specs.Bytes.{u32_at, big32, same}
use Rattle.base.proofs.Tests.{no_way, by_test, and_left, and_right, no_not, not_no, or_left, or_right}
use Rattle.base.proofs.Lists.{in_append, in_left, in_right, in_keep, keep_in, any_in, in_any, in_map, map_in, any_append, any-keep, not-any, all_keep, all_append, keep-few}
use Rattle.wire.specs.Row.{is_row, type_of, value_of, tlvs}
use Rattle.wire.specs.Order.{before, good, place, among}
use Rattle.wire.specs.Payment.{Payment, payment_tlv}
use Rattle.wire.proofs.Ordering.{same-is, same_self}
use Rattle.wire.proofs.Rows.{tlvs_end}
use Rattle.wire.proofs.Good.{Whole, tlvs-joined, place-length, place-good, place-tlvs, keep-good, keep-tlvs, place_in, in_place, among_in}
use Rattle.wire.proofs.Encoded.{encode-whole, encode_type, encode-value, encode-length, payment-whole, payment_type}
use Rattle.model.specs.Figures.{data_limit, publish_limit, most_peers, peer_bytes}
use Rattle.model.specs.State.{Peer, Endpoint, peer_tlv, with_tlv, is_peer}
use Rattle.model.specs.Tick.{without_peers}
use Rattle.model.specs.KeepAlive.{keep_alives}
use Rattle.model.specs.Snapshot.{of_links, without_links}
use Rattle.model.specs.Invariant.{PeerFits, Once, PeersFit, Only, Linked, intervals_of, Chosen}

-- ---- a Peer TLV

module _ (p : Peer) where
  pub peer-whole : Whole (peer_tlv p)
  unfolding peer_tlv
  peer-whole = encode-whole 8 (big32 p.node ++ (big32 p.theirs ++ big32 p.ours))

  pub peer_type : type_of (peer_tlv p) ≡ 8
  unfolding peer_tlv
  peer_type = encode_type 8 (big32 p.node ++ (big32 p.theirs ++ big32 p.ours))

  pub peer-length : length (peer_tlv p) ≡ peer_bytes
  unfolding peer_tlv
  peer-length = encode-length 8 (big32 p.node ++ (big32 p.theirs ++ big32 p.ours))

  pub peer-value : value_of (peer_tlv p) ≡ big32 p.node ++ (big32 p.theirs ++ big32 p.ours)
  unfolding peer_tlv
  peer-value = encode-value 8 (big32 p.node ++ (big32 p.theirs ++ big32 p.ours))

  -- it says who the peer is
  pub peer-node : u32_at (value_of (peer_tlv p)) 0 ≡ p.node
  peer-node = rw peer-value (omega arith)

  pub peer-theirs : u32_at (value_of (peer_tlv p)) 4 ≡ p.theirs
  peer-theirs = rw peer-value (omega arith)

  pub peer-ours : u32_at (value_of (peer_tlv p)) 8 ≡ p.ours
  peer-ours = rw peer-value (omega arith)

-- two peers are one: node, its endpoint and ours
pub record OnePeer (p q : Peer) : Type 0 where
  pub node : p.node ≡ q.node
  pub theirs : p.theirs ≡ q.theirs
  pub ours : p.ours ≡ q.ours

pub peer-same : (p q : Peer) → peer_tlv p ≡ peer_tlv q → OnePeer p q
peer-same p q e =
    record {
      node = sym (peer-node p) ∙ ap (λ (t : List ℕ). u32_at (value_of t) 0) e ∙ peer-node q;
      theirs = sym (peer-theirs p) ∙ ap (λ (t : List ℕ). u32_at (value_of t) 4) e ∙ peer-theirs q;
      ours = sym (peer-ours p) ∙ ap (λ (t : List ℕ). u32_at (value_of t) 8) e ∙ peer-ours q;
    }

is-peer : (p q : Peer) → OnePeer p q → is_peer p.node p.theirs p.ours q ≡ true
is-peer p q o = rw (eq-eqb q.node p.node (sym o.node), eq-eqb q.theirs p.theirs (sym o.theirs), eq-eqb q.ours p.ours (sym o.ours))

peer-is : (p q : Peer) → is_peer p.node p.theirs p.ours q ≡ true → OnePeer p q
peer-is p q e =
    let a : eqb q.node p.node && eqb q.theirs p.theirs ≡ true = and_left _ _ e in
    record {
      node = sym (eqb-true q.node p.node (and_left _ _ a));
      theirs = sym (eqb-true q.theirs p.theirs (and_right (eqb q.node p.node) _ a));
      ours = sym (eqb-true q.ours p.ours (and_right (eqb q.node p.node && eqb q.theirs p.theirs) _ e));
    }

one-back : (p q : Peer) → OnePeer p q → OnePeer q p
one-back p q o = record { node = sym o.node; theirs = sym o.theirs; ours = sym o.ours }

-- ---- peers, each once

abbrev pub known : Peer → List Peer → Bool
known p ps = any (is_peer p.node p.theirs p.ours) ps

pub once-keep : (f : Peer → Bool) (ps : List Peer) → Once ps → Once (keep f ps)
once-keep f [] o = tt
once-keep f (p ∷ ps) o =
    by_test (f p) (λ b. rw b (any-keep (is_peer p.node p.theirs p.ours) f ps o.0, once-keep f ps o.1)) (λ b. rw b (once-keep f ps o.1))

-- a peer that is not known yet comes last
unknown-back : (p q : Peer) → is_peer p.node p.theirs p.ours q ≡ false → known q (p ∷ []) ≡ false
unknown-back p q e =
    by_test (is_peer q.node q.theirs q.ours p) (λ b. no_way (is_peer p.node p.theirs p.ours q) (is-peer p q (one-back q p (peer-is q p b))) e)
    (λ b. rw b)

once_new : (p : Peer) (ps : List Peer) → Once ps → known p ps ≡ false → Once (ps ++ (p ∷ []))
once_new p [] o n = (refl, tt)
once_new p (q ∷ ps) o n = (
  any_append (is_peer q.node q.theirs q.ours) ps (p ∷ []) o.0 (unknown-back p q (or_left (is_peer p.node p.theirs p.ours q) _ n)),
  once_new p ps o.1 (or_right (is_peer p.node p.theirs p.ours q) _ n),
)

-- of the peers, those that are one are the same
once-same : (p q : Peer) (ps : List Peer) → Once ps → In p ps → In q ps → OnePeer p q → p ≡ q
once-same p q [] o m n e = absurd m
once-same p q (x ∷ ps) o (inl a) (inl b) e = a ∙ sym b
once-same p q (x ∷ ps) o (inl a) (inr n) e =
    let h : OnePeer x q = subst (λ (y : Peer). OnePeer y q) a e in no_way (known x ps) (any_in (is_peer x.node x.theirs x.ours) q ps n (is-peer x q h)) o.0
once-same p q (x ∷ ps) o (inr m) (inl b) e =
    let h : OnePeer x p = one-back p x (subst (λ (y : Peer). OnePeer p y) b e) in no_way (known x ps) (any_in (is_peer x.node x.theirs x.ours) p ps m (is-peer x p h)) o.0
once-same p q (x ∷ ps) o (inr m) (inr n) e = once-same p q ps o.1 m n e

module _ {own clock : ℕ} (ps : List Peer) (h : PeersFit own clock ps) where
  pub peers_new : (p : Peer) → length ps < most_peers → known p ps ≡ false → PeerFits own clock p → PeersFit own clock (ps ++ (p ∷ []))
  peers_new p l n f =
      record {
        few = omega (arith, length-append ps (p ∷ []));
        once = once_new p ps h.once n;
        all = all_append (PeerFits own clock) ps (p ∷ []) h.all (f, tt);
      }

  pub peers_keep : (f : Peer → Bool) → PeersFit own clock (keep f ps)
  peers_keep f =
      let l : length ps ≤ most_peers = h.few in
      record { few = omega (arith, keep-few f ps); once = once-keep f ps h.once; all = all_keep (PeerFits own clock) f ps h.all }

-- ---- a TLV put in its place

-- what we publish is accepted
pub acceptable : {n : ℕ} → n ≤ publish_limit → n ≤ data_limit
acceptable p = omega (arith, p)

pub tlv-length : (t d : List ℕ) → is_row d ≡ true → length (with_tlv t d) ≡ length d + length t
unfolding with_tlv
tlv-length t d r = omega (arith, place-length t (tlvs d), ap length (tlvs-joined d r))

-- no bytes put in are none
none_placed : (us : List (List ℕ)) → join_all (place [] us) ≡ join_all us
unfolding place
none_placed [] = refl
none_placed (u ∷ us) = by_test (before [] u) (λ b. rw b) (λ b. rw b (ap (λ (d : List ℕ). u ++ d) (none_placed us)))

pub tlv-none : (d : List ℕ) → is_row d ≡ true → with_tlv [] d ≡ d
unfolding with_tlv
tlv-none d r = none_placed (tlvs d) ∙ tlvs-joined d r

module _ (t d : List ℕ) (w : Whole t) where
  pub put-good : good data_limit d ≡ true → among t (tlvs d) ≡ false → length d + length t ≤ data_limit → good data_limit (with_tlv t d) ≡ true
  unfolding with_tlv
  put-good g n l = place-good data_limit d t g w n l

  pub put-tlvs : tlvs (with_tlv t d) ≡ place t (tlvs d)
  unfolding with_tlv
  put-tlvs = place-tlvs t d w

  -- of another type
  pub put_other : (y : ℕ) (ts : List (List ℕ)) → Only y d ts → ¬ (type_of t ≡ y) → Only y (with_tlv t d) ts
  put_other y ts k ne u = rw put-tlvs (into, λ m. let r = (k u).1 m in (in_place t u (tlvs d) (inr r.0), r.1))
    where
      into : In u (place t (tlvs d)) × (type_of u ≡ y) → In u ts
      into (m, e) = ⊎_elim (λ q. absurd (ne (ap type_of (sym q) ∙ e))) (λ r. (k u).0 (r, e)) (place_in t u (tlvs d) m)

-- ---- TLVs taken out

module _ (f : List ℕ → Bool) (y : ℕ) (d : List ℕ) where
  -- none of this type
  pub keep-other : (ts : List (List ℕ)) → Only y d ts → ((t : List ℕ) → type_of t ≡ y → f t ≡ true) → Only y (join_all (keep f (tlvs d))) ts
  keep-other ts k h t =
      rw (keep-tlvs f d) (λ (m, e). (k t).0 ((keep_in f t (tlvs d) m).0, e), λ m. let r = (k t).1 m in (in_keep f t (tlvs d) r.0 (h t r.1), r.1))

  -- all of this type
  pub keep_none_of : ((t : List ℕ) → type_of t ≡ y → f t ≡ false) → Only y (join_all (keep f (tlvs d))) []
  keep_none_of h t = rw (keep-tlvs f d) (λ (m, e). no_way (f t) (keep_in f t (tlvs d) m).1 (h t e), λ m. absurd m)

-- a new peer's TLV
module _ (p : Peer) (d : List ℕ) (ps : List Peer) (k : Linked d ps) (u : known p ps ≡ false) where
  pub peer_new : among (peer_tlv p) (tlvs d) ≡ false
  peer_new = by_test (among (peer_tlv p) (tlvs d)) (λ b. absurd (met (map_in peer_tlv (peer_tlv p) ps ((k (peer_tlv p)).0 (among_in (peer_tlv p) (tlvs d) b, peer_type p))))) (λ b. b)
    where
      met : (q : Peer) × In q ps × (peer_tlv q ≡ peer_tlv p) → ⊥
      met (q, m, e) = no_way (is_peer p.node p.theirs p.ours q) (is-peer p q (peer-same p q (sym e))) (not-any (is_peer p.node p.theirs p.ours) q ps u m)

  module _ (g : good data_limit d ≡ true) (l : length d + peer_bytes ≤ data_limit) where
    fits : length d + length (peer_tlv p) ≤ data_limit
    fits = omega (arith, peer-length p)

    pub peer-good : good data_limit (with_tlv (peer_tlv p) d) ≡ true
    peer-good = put-good (peer_tlv p) d (peer-whole p) g peer_new fits

    pub peer-chosen : (es : List Endpoint) → Chosen d es → Chosen (with_tlv (peer_tlv p) d) es
    peer-chosen es h = put_other (peer_tlv p) d (peer-whole p) 9 (keep_alives 1 (intervals_of es)) h (λ e. omega (arith, peer_type p))

    pub peer_linked : Linked (with_tlv (peer_tlv p) d) (ps ++ (p ∷ []))
    peer_linked t = rw (put-tlvs (peer_tlv p) d (peer-whole p), map-append peer_tlv ps (p ∷ [])) (into, back)
      where
        into : In t (place (peer_tlv p) (tlvs d)) × (type_of t ≡ 8) → In t (map peer_tlv ps ++ (peer_tlv p ∷ []))
        into (m, e) =
            ⊎_elim (λ q. in_right t (map peer_tlv ps) (peer_tlv p ∷ []) (inl q)) (λ r. in_left t (map peer_tlv ps) (peer_tlv p ∷ []) ((k t).0 (r, e)))
            (place_in (peer_tlv p) t (tlvs d) m)

        back : In t (map peer_tlv ps ++ (peer_tlv p ∷ [])) → In t (place (peer_tlv p) (tlvs d)) × (type_of t ≡ 8)
        back m =
            ⊎_elim (λ r. let q = (k t).1 r in (in_place (peer_tlv p) t (tlvs d) (inr q.0), q.1))
            (⊎_elim (λ q. (in_place (peer_tlv p) t (tlvs d) (inl q), ap type_of q ∙ peer_type p)) (λ z. absurd z))
            (in_append t (map peer_tlv ps) (peer_tlv p ∷ []) m)

-- whether t is the Peer TLV of one of these peers
abbrev pub names : List Peer → List ℕ → Bool
names ps t = any (λ p. same (peer_tlv p) t) ps

-- the peers that f holds of go, the others stay
module _ (f : Peer → Bool) (ps : List Peer) (t : List ℕ) where
  stays : In t (map peer_tlv ps) → names (keep f ps) t ≡ false → In t (map peer_tlv (keep (λ p. not (f p)) ps))
  stays m b = of (map_in peer_tlv t ps m)
    where
      of : (q : Peer) × In q ps × (peer_tlv q ≡ t) → In t (map peer_tlv (keep (λ p. not (f p)) ps))
      of (q, n, a) =
          by_test (f q)
          (λ c. no_way (same (peer_tlv q) t) (rw (← a) (same_self (peer_tlv q))) (not-any (λ p. same (peer_tlv p) t) q (keep f ps) b (in_keep f q ps n c)))
          (λ c. rw (← a) (in_map peer_tlv q (keep (λ p. not (f p)) ps) (in_keep (λ p. not (f p)) q ps n (not_no (f q) c))))

  -- a peer that stays has no TLV of one that goes
  apart : Once ps → (q x : Peer) → In q (keep (λ p. not (f p)) ps) → In x (keep f ps) → ¬ (peer_tlv x ≡ peer_tlv q)
  apart o q x m n e =
      let r : In q ps × (not (f q) ≡ true) = keep_in (λ p. not (f p)) q ps m in
      let w : In x ps × (f x ≡ true) = keep_in f x ps n in
      no_way (f x) w.1 (ap f (once-same x q ps o w.0 r.0 (peer-same x q e)) ∙ no_not (f q) r.1)

  stayed : Once ps → In t (map peer_tlv (keep (λ p. not (f p)) ps)) → In t (map peer_tlv ps) × (names (keep f ps) t ≡ false)
  stayed o m = of (map_in peer_tlv t (keep (λ p. not (f p)) ps) m)
    where
      of : (q : Peer) × In q (keep (λ p. not (f p)) ps) × (peer_tlv q ≡ t) → In t (map peer_tlv ps) × (names (keep f ps) t ≡ false)
      of (q, n, a) = (
        rw (← a) (in_map peer_tlv q ps (keep_in (λ p. not (f p)) q ps n).0),
        by_test (names (keep f ps) t)
            (λ b. let r = in_any (λ p. same (peer_tlv p) t) (keep f ps) b in absurd (apart o q r.0 n r.1 (same-is (peer_tlv r.0) t r.2 ∙ sym a)))
            (λ b. b),
      )

-- our data without the Peer TLVs of those that go
module _ (f : Peer → Bool) (d : List ℕ) (ps : List Peer) (g : good data_limit d ≡ true) where
  pub gone-good : good data_limit (without_peers (keep f ps) d) ≡ true
  unfolding without_peers
  gone-good = keep-good (λ t. not (names (keep f ps) t)) data_limit d g

  -- their TLVs alone
  pub gone-chosen : (es : List Endpoint) → Chosen d es → Chosen (without_peers (keep f ps) d) es
  unfolding without_peers
  gone-chosen es h = keep-other (λ t. not (names (keep f ps) t)) 9 d (keep_alives 1 (intervals_of es)) h (λ t e. not_no (names (keep f ps) t) (unnamed t e))
    where
      unnamed : (t : List ℕ) → type_of t ≡ 9 → names (keep f ps) t ≡ false
      unnamed t e =
          by_test (names (keep f ps) t)
          (λ b. let r = in_any (λ p. same (peer_tlv p) t) (keep f ps) b in absurd (omega (arith, peer_type r.0, ap type_of (same-is (peer_tlv r.0) t r.2), e)))
          (λ b. b)

  pub gone_linked : Linked d ps → Once ps → Linked (without_peers (keep f ps) d) (keep (λ p. not (f p)) ps)
  unfolding without_peers
  gone_linked k o t = rw (keep-tlvs left d) (into, back)
    where
      left : List ℕ → Bool
      left u = not (names (keep f ps) u)

      into : In t (keep left (tlvs d)) × (type_of t ≡ 8) → In t (map peer_tlv (keep (λ p. not (f p)) ps))
      into (m, e) = let r : In t (tlvs d) × (left t ≡ true) = keep_in left t (tlvs d) m in stays f ps t ((k t).0 (r.0, e)) (no_not _ r.1)

      back : In t (map peer_tlv (keep (λ p. not (f p)) ps)) → In t (keep left (tlvs d)) × (type_of t ≡ 8)
      back m =
          let r : In t (map peer_tlv ps) × (names (keep f ps) t ≡ false) = stayed f ps t o m in
          let h : In t (tlvs d) × (type_of t ≡ 8) = (k t).1 r.0 in
          (in_keep left t (tlvs d) h.0 (not_no _ r.1), h.1)

-- no peers and no choices: every TLV about our links goes
module _ (d : List ℕ) where
  pub none-good : good data_limit d ≡ true → good data_limit (without_links d) ≡ true
  none-good g = keep-good (λ t. not (of_links t)) data_limit d g

  pub none_linked : Only 8 (without_links d) []
  none_linked = keep_none_of (λ t. not (of_links t)) 8 d (λ t e. rw e)

  pub none-chosen : Only 9 (without_links d) []
  none-chosen = keep_none_of (λ t. not (of_links t)) 9 d (λ t e. rw e)

pub empty-only : (y : ℕ) → Only y [] []
empty-only y t = rw (tlvs_end [] refl) (λ r. r.0, λ m. absurd m)

-- ---- a payment put in

module _ (p : Payment) (d : List ℕ) where
  pub paid-good : good data_limit d ≡ true → among (payment_tlv p) (tlvs d) ≡ false → length d + length (payment_tlv p) ≤ data_limit → good data_limit (with_tlv (payment_tlv p) d) ≡ true
  paid-good g n l = put-good (payment_tlv p) d (payment-whole p) g n l

  pub paid-only : (y : ℕ) (ts : List (List ℕ)) → ¬ (40 ≡ y) → Only y d ts → Only y (with_tlv (payment_tlv p) d) ts
  paid-only y ts ne k = put_other (payment_tlv p) d (payment-whole p) y ts k (λ e. ne (sym (payment_type p) ∙ e))
