-- A chosen interval: our Keep-Alive TLVs, our data with another in its place, and the invariant after the choice. Assumes nothing.
use Rattle.std.proofs.Common.{◌≡◌, ℕ, zero, suc, pred, ◌+◌, ◌<◌, ◌≤◌, true, false, not, ◌&&◌, eqb, leb, ◌⊎◌, List, [], ◌∷◌, ◌++◌, map, length, get_or, set, sym, refl, ap, ◌∙◌, subst, inl, inr, ⊎_elim, arith, length-set, get_or-set_other, get_or-set_same, ltb-false, eq-eqb, ne_eqb, eqb-true, leb-true}
use borrow.Author.Tests.{eqb-false, not-false}
use Rattle.base.specs.Lists.{first, keep, join_all, In, All}
use Rattle.base.specs.Bytes.{u32_at, big32, same}
use Rattle.base.proofs.Tests.{no_way, by_test, and_left, and_right, no_not, not_no}
use Rattle.base.proofs.Lists.{in_keep, keep_in, keep_same, by_first, all_set}
use Rattle.base.proofs.Options.{by_cond}
use Rattle.wire.specs.Row.{type_of, value_of, tlvs}
use Rattle.wire.specs.Order.{good, among, without}
use Rattle.wire.proofs.Ordering.{same-is, same_self}
use Rattle.wire.proofs.Good.{Whole, keep-good, keep-tlvs, place_in, in_place, among_in, good-row}
use Rattle.wire.proofs.Encoded.{encode-whole, encode_type, encode-value, encode-length}
use Rattle.model.specs.Figures.{data_limit, publish_limit, last_reading, usual_interval, most_keep_alive, keep_alive_bytes}
use Rattle.model.specs.Sequence.{advance}
use Rattle.model.specs.State.{State, Endpoint, no_endpoint, endpoint_at, with_endpoint, with_keep, own_seq, own_data, publish_as, publish, peer_tlv, with_tlv, settle}
use Rattle.model.specs.Refusals.{Row, late, back, no_such_endpoint, no_interval, small_table}
use Rattle.model.specs.Begin.{Done}
use Rattle.model.specs.Tick.{is_keep_alive, interval_for, all_endpoints, interval_in}
use Rattle.model.specs.KeepAlive.{keep_alive_tlv, keep_alives, without_keep_alive, with_keep_alive, with_choice, chosen, no_room, refusal_keep_alive, keep_alive}
use Rattle.model.specs.Invariant.{EndpointFits, Only, intervals_of, Chosen, Midway, Valid}
use Rattle.model.proofs.KeptParts.{none-applies, not_late, not_back, one_to_four, valid-midway, midway-own, publish-kept, advance-fits, endpoint-fits, settle_valid}
use Rattle.model.proofs.KeptData.{acceptable, tlv-length, put-good, put-tlvs}

-- ---- a Keep-Alive TLV of ours

module _ (i n : ℕ) where
  pub alive-whole : Whole (keep_alive_tlv i n)
  unfolding keep_alive_tlv
  alive-whole = encode-whole 9 (big32 i ++ big32 n)

  pub alive_type : type_of (keep_alive_tlv i n) ≡ 9
  unfolding keep_alive_tlv
  alive_type = encode_type 9 (big32 i ++ big32 n)

  pub alive-length : length (keep_alive_tlv i n) ≡ keep_alive_bytes
  unfolding keep_alive_tlv
  alive-length = encode-length 9 (big32 i ++ big32 n)

  alive-value : value_of (keep_alive_tlv i n) ≡ big32 i ++ big32 n
  unfolding keep_alive_tlv
  alive-value = encode-value 9 (big32 i ++ big32 n)

  -- it is of its endpoint and of no other
  pub alive-other : (j : ℕ) → ¬ (i ≡ j) → is_keep_alive j (keep_alive_tlv i n) ≡ false
  alive-other j ne = rw (alive_type, alive-value) (ne_eqb (u32_at (big32 i ++ big32 n) 0) j (λ q. ne (sym at ∙ q)))
    where
      at : u32_at (big32 i ++ big32 n) 0 ≡ i
      at = omega arith

  pub alive-is : is_keep_alive i (keep_alive_tlv i n) ≡ true
  alive-is = rw (alive_type, alive-value) (eq-eqb (u32_at (big32 i ++ big32 n) 0) i (omega arith))

-- a TLV for an endpoint is of type 9
pub alive_nine : (i : ℕ) (t : List ℕ) → is_keep_alive i t ≡ true → type_of t ≡ 9
alive_nine i t b = eqb-true (type_of t) 9 (and_left _ _ (and_left _ _ b))

-- ---- those of the endpoints es, numbered from i on: t is the one of the endpoint at place j

pub record Alive (i : ℕ) (es : List Endpoint) (t : List ℕ) : Type 0 where
  pub place : ℕ
  pub inside : place < length es
  pub other : ¬ ((get_or es place no_endpoint).keep ≡ usual_interval)
  pub is : t ≡ keep_alive_tlv (i + place) (get_or es place no_endpoint).keep

later : {i : ℕ} {e : Endpoint} {es : List Endpoint} {t : List ℕ} → Alive (i + 1) es t → Alive i (e ∷ es) t
later {i} {e} {es} {t} a =
    record {
      place = suc a.place;
      inside = omega (arith, a.inside);
      other = a.other;
      is = a.is ∙ ap (λ (k : ℕ). keep_alive_tlv k (get_or es a.place no_endpoint).keep) (omega arith);
    }

alive_of : (i : ℕ) (es : List Endpoint) (t : List ℕ) → In t (keep_alives i (intervals_of es)) → Alive i es t
unfolding keep_alives
alive_of i [] t m = absurd m
alive_of i (e ∷ es) t m =
    by_test (eqb e.keep usual_interval) (λ b. later (alive_of (i + 1) es t (rw b at m)))
    (λ b. ⊎_elim
    (λ q. record { place = 0; inside = omega arith; other = eqb-false e.keep usual_interval b; is = q ∙ ap (λ (k : ℕ). keep_alive_tlv k e.keep) (omega arith) })
    (λ r. later (alive_of (i + 1) es t r)) (rw b at m))

alive-at : (i : ℕ) (es : List Endpoint) (j : ℕ) → j < length es → ¬ ((get_or es j no_endpoint).keep ≡ usual_interval)
    → In (keep_alive_tlv (i + j) (get_or es j no_endpoint).keep) (keep_alives i (intervals_of es))
unfolding keep_alives
alive-at i [] j l ne = absurd (omega (arith, l))
alive-at i (e ∷ es) zero l ne = rw (ne_eqb e.keep usual_interval ne) (inl (ap (λ (k : ℕ). keep_alive_tlv k e.keep) (omega arith)))
alive-at i (e ∷ es) (suc j) l ne =
    let m : In (keep_alive_tlv (i + suc j) (get_or es j no_endpoint).keep) (keep_alives (i + 1) (intervals_of es))
    = subst (λ (k : ℕ). In (keep_alive_tlv k (get_or es j no_endpoint).keep) (keep_alives (i + 1) (intervals_of es))) (omega arith) (alive-at (i + 1) es j (omega (arith, l)) ne) in
    by_test (eqb e.keep usual_interval) (λ b. rw b m) (λ b. rw b (inr m))

of_alive : (i : ℕ) (es : List Endpoint) (t : List ℕ) → Alive i es t → In t (keep_alives i (intervals_of es))
of_alive i es t a = subst (λ (u : List ℕ). In u (keep_alives i (intervals_of es))) (sym a.is) (alive-at i es a.place a.inside a.other)

-- ---- in our data: the endpoint's, if it stands

module _ (d : List ℕ) (es : List Endpoint) (c : Chosen d es) (i : ℕ) (low : 1 ≤ i) (high : pred i < length es) where
  abbrev had : ℕ
  had = (get_or es (pred i) no_endpoint).keep

  back_one : 1 + pred i ≡ i
  back_one = omega arith

  -- it is the only one
  alive-only : (t : List ℕ) → In t (tlvs d) → is_keep_alive i t ≡ true → t ≡ keep_alive_tlv i had
  alive-only t m b = of (alive_of 1 es t ((c t).0 (m, alive_nine i t b)))
    where
      of : Alive 1 es t → t ≡ keep_alive_tlv i had
      of a =
          by_test (eqb (1 + a.place) i)
          (λ e. let p : a.place ≡ pred i = omega (arith, eqb-true (1 + a.place) i e) in
          a.is ∙ ap (λ (j : ℕ). keep_alive_tlv (1 + j) (get_or es j no_endpoint).keep) p ∙ ap (λ (k : ℕ). keep_alive_tlv k had) back_one)
          (λ e. no_way (is_keep_alive i t) b (rw a.is (alive-other (1 + a.place) (get_or es a.place no_endpoint).keep i (eqb-false (1 + a.place) i e))))

  -- none is for all endpoints
  alive-none : interval_for all_endpoints usual_interval (tlvs d) ≡ usual_interval
  alive-none =
      by_first (is_keep_alive all_endpoints) (tlvs d) (λ o. first (is_keep_alive all_endpoints) (tlvs d) ≡ o → interval_for all_endpoints usual_interval (tlvs d) ≡ usual_interval)
      (λ none e. rw e)
      (λ t m b e. let a : Alive 1 es t = alive_of 1 es t ((c t).0 (m, alive_nine all_endpoints t b)) in
      no_way (is_keep_alive all_endpoints t) b (rw a.is (alive-other (1 + a.place) (get_or es a.place no_endpoint).keep all_endpoints (omega arith)))) refl

  -- what is read for the endpoint is its interval
  pub alive-read : interval_in d i ≡ had
  unfolding interval_in
  alive-read =
      by_first (is_keep_alive i) (tlvs d) (λ o. first (is_keep_alive i) (tlvs d) ≡ o → interval_in d i ≡ had)
      (λ none e. rw (e, alive-none) (by_test (eqb had usual_interval) (λ b. sym (eqb-true had usual_interval b))
      (λ b. no_way (is_keep_alive i (keep_alive_tlv i had)) (alive-is i had) (none (keep_alive_tlv i had) (stands (eqb-false had usual_interval b))))))
      (λ t m b e. rw (e, alive-only t m b, alive-value i had) (omega arith)) refl
    where
      stands : ¬ (had ≡ usual_interval) → In (keep_alive_tlv i had) (tlvs d)
      stands ne =
          ((c (keep_alive_tlv i had)).1 (of_alive 1 es (keep_alive_tlv i had) (record { place = pred i; inside = high; other = ne; is = ap (λ (k : ℕ). keep_alive_tlv k had) (sym back_one) }))).0

  -- it goes, and nothing else
  pub without-one : without_keep_alive i d ≡ join_all (without (keep_alive_tlv i had) (tlvs d))
  unfolding without
  without-one = ap join_all (keep_same (λ t. not (is_keep_alive i t)) (λ t. not (same (keep_alive_tlv i had) t)) (tlvs d) (λ t m. ap not (agree t m)))
    where
      agree : (t : List ℕ) → In t (tlvs d) → is_keep_alive i t ≡ same (keep_alive_tlv i had) t
      agree t m =
          by_test (is_keep_alive i t) (λ b. b ∙ sym (subst (λ (u : List ℕ). same (keep_alive_tlv i had) u ≡ true) (sym (alive-only t m b)) (same_self (keep_alive_tlv i had))))
          (λ b. b ∙ sym (by_test (same (keep_alive_tlv i had) t)
          (λ q. no_way (is_keep_alive i t) (subst (λ (u : List ℕ). is_keep_alive i u ≡ true) (same-is (keep_alive_tlv i had) t q) (alive-is i had)) b) (λ q. q)))

-- ---- our data after the choice

module _ (i n : ℕ) (d : List ℕ) where
  pub kept-usual : n ≡ usual_interval → with_keep_alive i n d ≡ without_keep_alive i d
  unfolding with_keep_alive
  kept-usual e = rw e

  pub kept-other : ¬ (n ≡ usual_interval) → with_keep_alive i n d ≡ with_tlv (keep_alive_tlv i n) (without_keep_alive i d)
  unfolding with_keep_alive
  kept-other ne = rw (ne_eqb n usual_interval ne)

  pub with_length : good data_limit d ≡ true → ¬ (n ≡ usual_interval) → length (with_keep_alive i n d) ≡ length (without_keep_alive i d) + keep_alive_bytes
  with_length g ne =
      ap length (kept-other ne)
      ∙ omega (arith, alive-length i n, tlv-length (keep_alive_tlv i n) (without_keep_alive i d) (good-row data_limit (without_keep_alive i d) (keep-good (λ t. not (is_keep_alive i t)) data_limit d g)))

  none_left : among (keep_alive_tlv i n) (tlvs (without_keep_alive i d)) ≡ false
  none_left =
      by_test (among (keep_alive_tlv i n) (tlvs (without_keep_alive i d)))
      (λ b. let m : In (keep_alive_tlv i n) (keep (λ t. not (is_keep_alive i t)) (tlvs d))
      = subst (In (keep_alive_tlv i n)) (keep-tlvs (λ t. not (is_keep_alive i t)) d) (among_in (keep_alive_tlv i n) (tlvs (without_keep_alive i d)) b) in
      no_way (is_keep_alive i (keep_alive_tlv i n)) (alive-is i n) (no_not _ (keep_in (λ t. not (is_keep_alive i t)) (keep_alive_tlv i n) (tlvs d) m).1))
      (λ b. b)

  module _ (g : good data_limit d ≡ true) (l : length (with_keep_alive i n d) ≤ publish_limit) where
    without-good : good data_limit (without_keep_alive i d) ≡ true
    without-good = keep-good (λ t. not (is_keep_alive i t)) data_limit d g

    fits : ¬ (n ≡ usual_interval) → length (without_keep_alive i d) + length (keep_alive_tlv i n) ≤ data_limit
    fits ne = acceptable (omega (arith, l, with_length g ne, alive-length i n))

    pub with_good : good data_limit (with_keep_alive i n d) ≡ true
    with_good =
        by_test (eqb n usual_interval) (λ b. rw (kept-usual (eqb-true n usual_interval b)) without-good)
        (λ b. let ne : ¬ (n ≡ usual_interval) = eqb-false n usual_interval b in
        rw (kept-other ne) (put-good (keep_alive_tlv i n) (without_keep_alive i d) (alive-whole i n) without-good none_left (fits ne)))

    -- its TLVs: the new one, and those of d that are not the endpoint's
    pub with_in : (t : List ℕ) → In t (tlvs (with_keep_alive i n d)) → (¬ (n ≡ usual_interval) × (t ≡ keep_alive_tlv i n)) ⊎ (In t (tlvs d) × (is_keep_alive i t ≡ false))
    with_in t m =
        by_test (eqb n usual_interval) (λ b. inr (left (subst (λ (x : List ℕ). In t (tlvs x)) (kept-usual (eqb-true n usual_interval b)) m)))
        (λ b. let ne : ¬ (n ≡ usual_interval) = eqb-false n usual_interval b in
        ⊎_elim (λ q. inl (ne, q)) (λ r. inr (left r)) (place_in (keep_alive_tlv i n) t (tlvs (without_keep_alive i d))
        (subst (In t) (ap tlvs (kept-other ne) ∙ put-tlvs (keep_alive_tlv i n) (without_keep_alive i d) (alive-whole i n)) m)))
      where
        left : In t (tlvs (without_keep_alive i d)) → In t (tlvs d) × (is_keep_alive i t ≡ false)
        left k =
            let r = keep_in (λ u. not (is_keep_alive i u)) t (tlvs d) (subst (In t) (keep-tlvs (λ u. not (is_keep_alive i u)) d) k) in
            (r.0, no_not (is_keep_alive i t) r.1)

    pub in_with : (t : List ℕ) → (¬ (n ≡ usual_interval) × (t ≡ keep_alive_tlv i n)) ⊎ (In t (tlvs d) × (is_keep_alive i t ≡ false)) → In t (tlvs (with_keep_alive i n d))
    in_with t o =
        by_test (eqb n usual_interval)
        (λ b. let u : n ≡ usual_interval = eqb-true n usual_interval b in
        subst (λ (x : List ℕ). In t (tlvs x)) (sym (kept-usual u)) (⊎_elim (λ (ne, q). absurd (ne u)) right o))
        (λ b. let ne : ¬ (n ≡ usual_interval) = eqb-false n usual_interval b in
        subst (In t) (sym (ap tlvs (kept-other ne) ∙ put-tlvs (keep_alive_tlv i n) (without_keep_alive i d) (alive-whole i n)))
        (in_place (keep_alive_tlv i n) t (tlvs (without_keep_alive i d)) (⊎_elim (λ (z, q). inl q) (λ r. inr (right r)) o)))
      where
        right : In t (tlvs d) × (is_keep_alive i t ≡ false) → In t (tlvs (without_keep_alive i d))
        right (m, b) =
            subst (In t) (sym (keep-tlvs (λ u. not (is_keep_alive i u)) d)) (in_keep (λ u. not (is_keep_alive i u)) t (tlvs d) m (not_no (is_keep_alive i t) b))

    -- the Peer TLVs stay
    pub with_links : (ts : List (List ℕ)) → Only 8 d ts → Only 8 (with_keep_alive i n d) ts
    with_links ts k t = (into, back)
      where
        into : In t (tlvs (with_keep_alive i n d)) × (type_of t ≡ 8) → In t ts
        into (m, e) = ⊎_elim (λ (ne, q). absurd (omega (arith, alive_type i n, ap type_of q, e))) (λ r. (k t).0 (r.0, e)) (with_in t m)

        back : In t ts → In t (tlvs (with_keep_alive i n d)) × (type_of t ≡ 8)
        back m =
            let r : In t (tlvs d) × (type_of t ≡ 8) = (k t).1 m in
            (in_with t (inr (r.0, by_test (is_keep_alive i t) (λ b. absurd (omega (arith, alive_nine i t b, r.1))) (λ b. b))), r.1)

    -- the Keep-Alive TLVs are those of the intervals with the new one
    module _ (es : List Endpoint) (c : Chosen d es) (low : 1 ≤ i) (high : pred i < length es) (e : Endpoint) (q : e.keep ≡ n) where
      abbrev es' : List Endpoint
      es' = set es (pred i) e

      new_is : (get_or es' (pred i) no_endpoint).keep ≡ n
      new_is = ap (λ (x : Endpoint). x.keep) (get_or-set_same es (pred i) e no_endpoint high) ∙ q

      old-is : (j : ℕ) → ¬ (1 + j ≡ i) → get_or es' j no_endpoint ≡ get_or es j no_endpoint
      old-is j ne = get_or-set_other es (pred i) j e no_endpoint (λ z. ne (omega (arith, z)))

      long : length es' ≡ length es
      long = length-set es (pred i) e

      -- one that is not the endpoint's is the same in both lists
      into_new : (t : List ℕ) → is_keep_alive i t ≡ false → Alive 1 es t → Alive 1 es' t
      into_new t b a =
          let apart : ¬ (1 + a.place ≡ i)
          = λ z. no_way (is_keep_alive i t) (rw (a.is, z) (alive-is i (get_or es a.place no_endpoint).keep)) b in
          let s : get_or es a.place no_endpoint ≡ get_or es' a.place no_endpoint = sym (old-is a.place apart) in
          record {
            place = a.place;
            inside = omega (arith, a.inside, long);
            other = subst (λ (x : Endpoint). ¬ (x.keep ≡ usual_interval)) s a.other;
            is = a.is ∙ ap (λ (x : Endpoint). keep_alive_tlv (1 + a.place) x.keep) s;
          }

      from_new : (t : List ℕ) → Alive 1 es' t → (¬ (n ≡ usual_interval) × (t ≡ keep_alive_tlv i n)) ⊎ ((is_keep_alive i t ≡ false) × Alive 1 es t)
      from_new t a =
          by_test (eqb (1 + a.place) i)
          (λ z. let p : a.place ≡ pred i = omega (arith, eqb-true (1 + a.place) i z) in
          let k : (get_or es' a.place no_endpoint).keep ≡ n = ap (λ (j : ℕ). (get_or es' j no_endpoint).keep) p ∙ new_is in
          inl (subst (λ (x : ℕ). ¬ (x ≡ usual_interval)) k a.other, a.is ∙ ap (λ (x : ℕ). keep_alive_tlv (1 + a.place) x) k ∙ ap (λ (x : ℕ). keep_alive_tlv x n) (eqb-true (1 + a.place) i z)))
          (λ z. let apart : ¬ (1 + a.place ≡ i) = eqb-false (1 + a.place) i z in
          let s : get_or es' a.place no_endpoint ≡ get_or es a.place no_endpoint = old-is a.place apart in
          inr (
            rw a.is (alive-other (1 + a.place) (get_or es' a.place no_endpoint).keep i apart),
            record {
              place = a.place;
              inside = omega (arith, a.inside, long);
              other = subst (λ (x : Endpoint). ¬ (x.keep ≡ usual_interval)) s a.other;
              is = a.is ∙ ap (λ (x : Endpoint). keep_alive_tlv (1 + a.place) x.keep) s;
            },
          ))

      newest : ¬ (n ≡ usual_interval) → Alive 1 es' (keep_alive_tlv i n)
      newest ne =
          record {
            place = pred i;
            inside = omega (arith, high, long);
            other = subst (λ (x : ℕ). ¬ (x ≡ usual_interval)) (sym new_is) ne;
            is = ap (λ (x : ℕ). keep_alive_tlv x n) (omega arith) ∙ ap (λ (x : ℕ). keep_alive_tlv (1 + pred i) x) (sym new_is);
          }

      pub with_chosen : Chosen (with_keep_alive i n d) es'
      with_chosen t = (into, back)
        where
          into : In t (tlvs (with_keep_alive i n d)) × (type_of t ≡ 9) → In t (keep_alives 1 (intervals_of es'))
          into (m, y) =
              of_alive 1 es' t
              (⊎_elim (λ (ne, z). subst (Alive 1 es') (sym z) (newest ne)) (λ (k, b). into_new t b (alive_of 1 es t ((c t).0 (k, y)))) (with_in t m))

          back : In t (keep_alives 1 (intervals_of es')) → In t (tlvs (with_keep_alive i n d)) × (type_of t ≡ 9)
          back m =
              ⊎_elim (λ (ne, z). (in_with t (inl (ne, z)), ap type_of z ∙ alive_type i n))
              (λ (b, a). let r = (c t).1 (of_alive 1 es t a) in (in_with t (inr (r.0, b)), r.1)) (from_new t (alive_of 1 es' t m))

-- ---- the state after the choice

module _ (clock i n : ℕ) (s : State) (m : Midway clock s) (low : 1 ≤ i) (high : i ≤ 4) (least : 1 ≤ n) (most : n ≤ most_keep_alive)
    (l : length (with_keep_alive i n (own_data s)) ≤ publish_limit) where
  abbrev new : Endpoint
  new = with_keep n (endpoint_at i s)

  new_fits : EndpointFits clock new
  new_fits =
      let f : EndpointFits clock (endpoint_at i s) = endpoint-fits i low high s m in
      record { trickle = f.trickle; next = f.next; least = least; most = most; quiet = f.quiet }

  -- the interval and the data that says it, both at once
  changed_kept : Midway clock (with_endpoint i new (publish clock (with_keep_alive i n (own_data s)) s))
  unfolding publish_as
  changed_kept =
      let g : good data_limit (own_data s) ≡ true = (midway-own s m).fine in
      let k : pred i < length s.endpoints = omega (arith, m.endpoints.four) in
      publish-kept (advance (own_seq s) 1) (with_keep_alive i n (own_data s)) s.peers s m (advance-fits (own_seq s) 1) (with_good i n (own_data s) g l) m.peers
      (with_links i n (own_data s) g l (map peer_tlv s.peers) m.links) (set s.endpoints (pred i) new)
      (record { four = length-set s.endpoints (pred i) new ∙ m.endpoints.four; all = all_set (EndpointFits clock) s.endpoints (pred i) new m.endpoints.all new_fits })
      (with_chosen i n (own_data s) g l s.endpoints m.choices low k new refl)

  pub choice_kept : Midway clock (with_choice clock i n s)
  unfolding with_choice
  choice_kept = by_cond (Midway clock) (eqb (endpoint_at i s).keep n) s _ (λ b. m) (λ b. changed_kept)

  pub chosen_valid : (rs : List ℕ) → clock ≤ last_reading → Valid (chosen clock i n rs s)
  unfolding chosen
  chosen_valid rs late = settle_valid clock rs (with_choice clock i n s) choice_kept late

pub chosen-own : (clock i n : ℕ) (rs : List ℕ) (s : State) → (chosen clock i n rs s).own ≡ s.own
unfolding chosen with_choice publish_as settle
chosen-own clock i n rs s = by_cond (λ (r : State). r.own ≡ s.own) (eqb (endpoint_at i s).keep n) s _ (λ b. refl) (λ b. refl)

-- ---- the call

-- 12 does not apply
pub in_range : (n : ℕ) → (no_interval n).applies ≡ false → (1 ≤ n) × (n ≤ most_keep_alive)
in_range n e =
    let b : leb 1 n && leb n most_keep_alive ≡ true = not-false (leb 1 n && leb n most_keep_alive) e in
    (leb-true 1 n (and_left _ _ b), leb-true n most_keep_alive (and_right (leb 1 n) _ b))

module _ (clock i n : ℕ) (rs : List ℕ) (table : ℕ) (s : State) where
  abbrev rows_choice : List Row
  rows_choice = late clock ∷ back clock s ∷ no_such_endpoint i ∷ no_interval n ∷ small_table table ∷ no_room i n s ∷ []

  pub keep_alive_valid : Valid s → Valid (keep_alive clock i n rs table s).state
  unfolding keep_alive
  keep_alive_valid v =
      by_cond (λ (a : Done). Valid a.state) (eqb (refusal_keep_alive clock i n table s) 0) (record { number = 0; state = chosen clock i n rs s }) _
      (λ b. accepted (none-applies rows_choice (omega arith) b)) (λ b. v)
    where
      accepted : All (λ r. r.applies ≡ false) rows_choice → Valid (chosen clock i n rs s)
      accepted a =
          let e : (1 ≤ i) × (i ≤ 4) = one_to_four i a.1.1.0 in
          let k : (1 ≤ n) × (n ≤ most_keep_alive) = in_range n a.1.1.1.0 in
          chosen_valid clock i n s (valid-midway clock s v (not_back clock s a.1.0)) e.0 e.1 k.0 k.1
          (ltb-false publish_limit (length (with_keep_alive i n (own_data s))) a.1.1.1.1.1.0) rs (not_late clock a.0)

  pub keep_alive_own : (keep_alive clock i n rs table s).state.own ≡ s.own
  unfolding keep_alive
  keep_alive_own =
      by_cond (λ (a : Done). a.state.own ≡ s.own) (eqb (refusal_keep_alive clock i n table s) 0) (record { number = 0; state = chosen clock i n rs s }) _
      (λ b. chosen-own clock i n rs s) (λ b. refl)
