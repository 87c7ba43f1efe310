-- A chosen interval: where the endpoint's TLV stands, what our data come to, and the state once they are published. Assumes nothing.
use mathlib.Core.Path.{◌≡◌, refl, sym, ap, ◌∙◌, subst}
use mathlib.Core.Bool.{true, false, not, cond}
use mathlib.Core.List.{List, [], ◌∷◌}
use Prim.Native.Nat.{ℕ, ◌+◌, ◌-◌, ◌≤◌, ◌<◌}
use native.Mathlib.Omega.{arith}
use lib.ListN.{length, take, length-append, length-take, length-drop}
use lib.Seq.{take_all}
use lib.Dec.{eqb}
use borrow.Author.Tests.{eqb-true, eqb-false, eq-eqb, ne_eqb, lt-ltb, le-ltb}
use Rattle.base.specs.Lists.{join_all}
use Rattle.base.specs.Bytes.{same}
use Rattle.base.specs.Memory.{cut}
use Rattle.base.proofs.Tests.{by_test, not_no}
use Rattle.base.proofs.Lists.{keep-every}
use Rattle.wire.specs.Row.{is_row, tlvs}
use Rattle.wire.specs.Order.{ascending, good, among, without}
use Rattle.wire.proofs.Good.{good-row, good_rises, keep-good, tlvs-joined, not-among}
use Rattle.model.specs.Figures.{data_limit, publish_limit, usual_interval, most_keep_alive, keep_alive_bytes, last_reading}
use Rattle.model.specs.Sequence.{advance}
use Rattle.model.specs.State.{State as ModelState, Endpoint as ModelEndpoint, endpoint_at, with_endpoint, with_keep, own_seq, own_data, publish_as, publish, with_tlv, settle}
use Rattle.model.specs.Refusals.{first_of}
use Rattle.model.specs.Tick.{is_keep_alive}
use Rattle.model.specs.KeepAlive.{keep_alive_tlv, without_keep_alive, with_keep_alive, with_choice, chosen, no_room}
use Rattle.model.specs.Invariant.{Midway}
use Rattle.model.proofs.KeptParts.{midway-own}
use Rattle.model.proofs.KeptData.{acceptable, tlv-none}
use Rattle.model.proofs.KeptChoice.{alive-length, without-one, kept-usual, kept-other, with_length, choice_kept}
use Rattle.reach.specs.Marks.{Readable, Reaching}
use Rattle.reach.specs.declared.Reached.{Reached}
use Rattle.table.specs.View.{view}
use Rattle.node.specs.View.{endpoint_of, state_of, Rep, Held, Published, Settled}
use Rattle.node.specs.declared.State.{State}
use Rattle.node.specs.declared.Endpoint.{Endpoint}
use Rattle.node.proofs.Moves.{published-not, published_then}
use Rattle.node.proofs.Settling.{settled_moved}
use Rattle.node.specs.declared.publish.Span.{Span}
use Rattle.upkeep.specs.Choice.{KeepAliveStands}
use Rattle.upkeep.proofs.Leaving.{midway-readable}

-- ---- where it stands

-- what the search asks: our data have no other Keep-Alive TLV of the endpoint
module _ (clock i : ℕ) (s : ModelState) (mid : Midway clock s) (low : 1 ≤ i) (high : i ≤ 4) (n : ℕ) (q : n ≡ (endpoint_at i s).keep) where
  pub standing_asks : (d : List ℕ) → d ≡ own_data s
      → (is_row d ≡ true) × ((ascending (tlvs d) ≡ true) × (without_keep_alive i d ≡ join_all (without (keep_alive_tlv i n) (tlvs d))))
  standing_asks d e =
      let g : good data_limit (own_data s) ≡ true = (midway-own s mid).fine in
      rw e (
        good-row data_limit (own_data s) g,
        (
          good_rises data_limit (own_data s) g,
          without-one (own_data s) s.endpoints mid.choices i low (omega (arith, mid.endpoints.four)) ∙ ap (λ (x : ℕ). join_all (without (keep_alive_tlv i x) (tlvs (own_data s)))) (sym q),
        ),
      )

module _ (i n : ℕ) (d : List ℕ) (r : is_row d ≡ true) (one : without_keep_alive i d ≡ join_all (without (keep_alive_tlv i n) (tlvs d))) (t : List ℕ) (w : t ≡ keep_alive_tlv i n) where
  pub stands_not : among t (tlvs d) ≡ false → KeepAliveStands i d (record { start = 0; size = 0 })
  unfolding without
  stands_not h =
      let k : among (keep_alive_tlv i n) (tlvs d) ≡ false = rw (sym w) h in
      record {
        inside = omega arith;
        rest = sym (one ∙ ap join_all (keep-every _ (tlvs d) (λ u m. not_no (same (keep_alive_tlv i n) u) (not-among (keep_alive_tlv i n) u (tlvs d) k m))) ∙ tlvs-joined d r);
      }

-- the same data by another name
pub stands_in : (i : ℕ) (d x : List ℕ) (r : Span) → x ≡ d → KeepAliveStands i x r → KeepAliveStands i d r
stands_in i d x r e h = subst (λ (y : List ℕ). KeepAliveStands i y r) e h

-- ---- what our data come to

-- what says an interval is a Keep-Alive TLV, or nothing
size_small : (n size : ℕ) → size ≡ cond (eqb n usual_interval) 0 keep_alive_bytes → size ≤ keep_alive_bytes
size_small n size q = by_test (eqb n usual_interval) (λ b. omega (arith, rw b at q)) (λ b. omega (arith, rw b at q))

pub tlv-holds : (i n size : ℕ) (t : List ℕ) → size ≡ cond (eqb n usual_interval) 0 keep_alive_bytes → t ≡ keep_alive_tlv i n → size ≤ length t
tlv-holds i n size t q w = rw w (omega (arith, size_small n size q, alive-length i n))

module _ (i n : ℕ) (d : List ℕ) (g : good data_limit d ≡ true) (r : Span) (h : KeepAliveStands i d r) where
  rest-good : good data_limit (without_keep_alive i d) ≡ true
  rest-good = keep-good (λ t. not (is_keep_alive i t)) data_limit d g

  pub rest-row : is_row (cut d r.start r.size) ≡ true
  rest-row = ap is_row h.rest ∙ good-row data_limit (without_keep_alive i d) rest-good

  rest-length : length (without_keep_alive i d) ≡ length d - r.size
  rest-length = ap length (sym h.rest) ∙ simp (length-append, length-take, length-drop) (omega (arith, h.inside))

  module _ (size : ℕ) (q : size ≡ cond (eqb n usual_interval) 0 keep_alive_bytes) where
    pub come_to : length (with_keep_alive i n d) ≡ length d - r.size + size
    come_to =
        by_test (eqb n usual_interval)
        (λ b. let z : size ≡ 0 = rw b at q in ap length (kept-usual i n d (eqb-true n usual_interval b)) ∙ rest-length ∙ omega (arith, z))
        (λ b. let z : size ≡ keep_alive_bytes = rw b at q in with_length i n d g (eqb-false n usual_interval b) ∙ omega (arith, rest-length, z))

    pub new_data : (t : List ℕ) → t ≡ keep_alive_tlv i n → with_tlv (take size t) (cut d r.start r.size) ≡ with_keep_alive i n d
    new_data t w =
        by_test (eqb n usual_interval)
        (λ b. let z : size ≡ 0 = rw b at q in
        ap (λ (k : ℕ). with_tlv (take k t) (cut d r.start r.size)) z ∙ tlv-none (cut d r.start r.size) rest-row ∙ h.rest ∙ sym (kept-usual i n d (eqb-true n usual_interval b)))
        (λ b. let z : size ≡ keep_alive_bytes = rw b at q in
        ap (λ (k : ℕ). with_tlv (take k t) (cut d r.start r.size)) z ∙ ap (λ (x : List ℕ). with_tlv (take keep_alive_bytes x) (cut d r.start r.size)) w
        ∙ ap (λ (x : List ℕ). with_tlv x (cut d r.start r.size)) (take_all keep_alive_bytes (keep_alive_tlv i n) (omega (arith, alive-length i n)))
        ∙ ap (with_tlv (keep_alive_tlv i n)) h.rest ∙ sym (kept-other i n d (eqb-false n usual_interval b)))

-- their length, as it is worked out
module _ (clock i n : ℕ) (s : ModelState) (mid : Midway clock s) (r : Span) (d : List ℕ) (e : d ≡ own_data s) (h : KeepAliveStands i d r) (size : ℕ)
    (q : size ≡ cond (eqb n usual_interval) 0 keep_alive_bytes) where
  pub length-is : length d - r.size + size ≡ length (with_keep_alive i n (own_data s))
  length-is =
      ap (λ (x : List ℕ). length x - r.size + size) e ∙ sym (come_to i n (own_data s) (midway-own s mid).fine r (stands_in i (own_data s) d r e h) size q)

-- the number
module _ (i n : ℕ) (s : ModelState) (k : ℕ) (q : k ≡ length (with_keep_alive i n (own_data s))) where
  pub refused_full : publish_limit < k → 9 ≡ first_of (no_room i n s ∷ [])
  refused_full l = sym (rw (lt-ltb publish_limit (length (with_keep_alive i n (own_data s))) (omega (arith, q, l))))

  pub refused-not : k ≤ publish_limit → 0 ≡ first_of (no_room i n s ∷ [])
  refused-not l = sym (rw (le-ltb publish_limit (length (with_keep_alive i n (own_data s))) (omega (arith, q, l))))

-- ---- the choice

module _ (clock i n : ℕ) (s : State) (m : List ℕ) (k : Rep s m) where
  abbrev S : ModelState
  S = state_of s m

  pub choice_same : (endpoint_at i S).keep ≡ n → Published (with_choice clock i n S) s m s m
  unfolding with_choice
  choice_same e = rw (eq-eqb (endpoint_at i S).keep n e) (published-not s m k)

  module _ (mid : Midway clock S) (r : Span) (h : KeepAliveStands i (own_data S) r) (size : ℕ) (q : size ≡ cond (eqb n usual_interval) 0 keep_alive_bytes)
      (t : List ℕ) (w : t ≡ keep_alive_tlv i n) where
    abbrev new : List ℕ
    new = with_tlv (take size t) (cut (own_data S) r.start r.size)

    new_is : new ≡ with_keep_alive i n (own_data S)
    new_is = new_data i n (own_data S) (midway-own S mid).fine r h size q t w

    pub swap_asks : length (with_keep_alive i n (own_data S)) ≤ publish_limit
        → (r.start + r.size ≤ length (own_data S)) × ((is_row (cut (own_data S) r.start r.size) ≡ true) × (length new ≤ data_limit))
    swap_asks l = (h.inside, (rest-row i n (own_data S) (midway-own S mid).fine r h, subst (λ (x : List ℕ). length x ≤ data_limit) (sym new_is) (acceptable l)))

    pub choice_other : ¬ ((endpoint_at i S).keep ≡ n) → (old seq : ℕ) → old ≡ own_seq S → seq ≡ advance old 1 → (a : State) (m' : List ℕ)
        → Published (publish_as clock seq new S) s m a m' → (e : Endpoint) → endpoint_of e ≡ endpoint_at i S → (f : Endpoint) → endpoint_of f ≡ with_keep n (endpoint_of e)
        → (b : State) → Rep b m' → state_of b m' ≡ with_endpoint i (endpoint_of f) (state_of a m') → b.table ≡ a.table → Published (with_choice clock i n S) s m b m'
    unfolding with_choice
    choice_other ne old seq eo es a m' p e ee f ef b rep is tab =
        let once : Published (publish clock (with_keep_alive i n (own_data S)) S) s m a m'
        = subst (λ (x : ModelState). Published x s m a m')
        (ap (λ (x : List ℕ). publish_as clock seq x S) new_is ∙ ap (λ (x : ℕ). publish_as clock x (with_keep_alive i n (own_data S)) S) (es ∙ ap (λ (x : ℕ). advance x 1) eo)) p in
        rw (ne_eqb (endpoint_at i S).keep n ne)
        (published_then (with_endpoint i (with_keep n (endpoint_at i S))) once tab
        (record { rep = rep; is = is ∙ ap (λ (x : ModelEndpoint). with_endpoint i x (state_of a m')) (ef ∙ ap (with_keep n) ee); size = refl; beyond = refl }))

  -- and what stands last
  module _ (mid : Midway clock S) (low : 1 ≤ i) (high : i ≤ 4) (least : 1 ≤ n) (most : n ≤ most_keep_alive) (l : length (with_keep_alive i n (own_data S)) ≤ publish_limit)
      (a : State) (m' : List ℕ) (p : Published (with_choice clock i n S) s m a m') where
    pub chosen-readable : clock ≤ last_reading → Readable clock a.table m' × Held a m'
    chosen-readable t =
        midway-readable clock a m' (subst (Midway clock) (sym p.moved.is) (choice_kept clock i n S mid low high least most l)) p.moved.rep t

    pub chosen_settled : (rs : List ℕ) (x : Reached) (b : State) → Reaching a.own clock (view a.table m') x → Settled clock rs x.digest a b
        → Published (chosen clock i n rs S) s m b m'
    unfolding chosen
    chosen_settled rs x b c e = published_then (settle clock rs) p e.table (settled_moved clock rs x.digest a b m' e p.moved.rep c.digest)
