-- The decision on a received Node State: a law for each of its cases, in the model's terms and in the code's. Assumes nothing.
use mathlib.Core.Path.{◌≡◌, refl, sym, ap, ◌∙◌, subst}
use mathlib.Core.Bool.{Bool, true, false, not, ◌&&◌}
use mathlib.Core.List.{List, [], ◌∷◌}
use mathlib.Core.Option.{none, some}
use Rattle.std.specs.Prelude.{Ok, Err}
use Prim.Native.Nat.{ℕ, ◌-◌, ◌≤◌, ◌<◌}
use native.Mathlib.Omega.{arith}
use lib.Dec.{eqb}
use lib.Pointwise.{pointwise}
use lib.ListN.{length, take, drop}
use borrow.Author.Tests.{not-true, not-false, le-leb, lt-leb, eq-eqb, ne_eqb}
use Rattle.base.specs.Bytes.{u32_at, same}
use Rattle.base.specs.Lists.{is_some}
use Rattle.base.proofs.Tests.{no_way, by_test, and_left, and_right}
use Rattle.sha256.specs.Sha256.{hash16}
use Rattle.wire.specs.Order.{good}
use Rattle.base.proofs.Library.{same_equal}
use Rattle.wire.proofs.Ordering.{same-is}
use Rattle.wire.proofs.Good.{good-fits}
use Rattle.model.specs.Figures.{most_nodes, data_limit}
use Rattle.model.specs.Sequence.{older}
use Rattle.model.specs.Table.{Entry, look}
use Rattle.model.specs.Decide.{Received, Decision, carried_in, received_of, taken, with_data, without_data, wanted_new, wanted_held, differs, decide}
use Rattle.table.specs.View.{data_of, seen, view, Arranged, Kept, Read, Stands, Gap}
use Rattle.table.specs.declared.Table.{Table}
use Rattle.table.specs.declared.Version.{Version}
use Rattle.table.specs.declared.Entry.{Entry as Meta}
use Rattle.table.proofs.Tables.{look-stands, look_gap, view-length, meta_hashed}
use Rattle.decide.specs.Decided.{decision_of, Acts, Fine, Taken, Fields, Decides}
use Rattle.decide.specs.declared.Decision.{Decision as Answer}
use Rattle.base.proofs.Lists.{rest-is}
use Rattle.decide.specs.declared.Decision.TheVariants.{Ignored, Ask, TakeNumber, TakeAll, Dropped}

-- ---- two byte lists compared

-- `==` of the code is `same`
pub compared : {b : Bool} {x y z u : List ℕ} → b ≡ pointwise eqb x y → x ≡ z → y ≡ u → b ≡ same z u
compared {y = y} {z = z} {u = u} e p q = e ∙ ap (λ (v : List ℕ). pointwise eqb v y) p ∙ ap (pointwise eqb z) q ∙ same_equal z u

-- ---- the data carried

pub carries_none : (h d : List ℕ) → length d ≤ 0 → same h (hash16 d) ≡ is_some (carried_in h d)
carries_none h [] p = by_test (same h (hash16 [])) (λ e. rw e) (λ e. rw e)
carries_none h (x ∷ d) p = absurd (omega arith)

carried_some : (h d : List ℕ) → is_some (carried_in h d) ≡ true → carried_in h d ≡ some d
carried_some h [] e = by_test (same h (hash16 [])) (λ q. rw q) (λ q. no_way false (rw q at e) refl)
carried_some h (x ∷ d) e = refl

carried_none : (h d : List ℕ) → is_some (carried_in h d) ≡ false → carried_in h d ≡ none
carried_none h [] e = by_test (same h (hash16 [])) (λ q. no_way true refl (rw q at e)) (λ q. rw q)
carried_none h (x ∷ d) e = no_way true refl e

-- ---- the data d are good, and hashed as received

abbrev fine : List ℕ → List ℕ → Bool
fine h d = good data_limit d && same (hash16 d) h

-- ---- ours against the received one

module _ (x : Entry) (r : Received) (seq : ℕ) (o : Bool) (e : o ≡ older x.says.seq seq) (s : seq ≡ r.seq) where
  pub differs-older : o ≡ true → true ≡ differs x r
  unfolding differs
  differs-older p = rw (← s, ← e, p)

  module _ (p : o ≡ false) where
    pub differs_newer : ¬ (x.says.seq ≡ seq) → false ≡ differs x r
    unfolding differs
    differs_newer n = rw (← s, ← e, p, ne_eqb x.says.seq seq n)

    pub differs_equal : x.says.seq ≡ seq → (b : Bool) (ours hash : List ℕ) → ours ≡ hash16 x.says.node_data → hash ≡ r.hash → b ≡ same ours hash
        → not b ≡ differs x r
    unfolding differs
    differs_equal n b ours hash u h q = rw (← s, ← e, p, eq-eqb x.says.seq seq n, ← u, ← h, ← q)

-- ---- the model's decision

module _ (clock : ℕ) (t : List Entry) (r : Received) where
  module _ (x : Entry) (l : look r.node t ≡ some x) where
    held_unwanted : differs x r ≡ false → decide clock t r ≡ Decision.ignored
    unfolding decide
    held_unwanted w = rw (l, w)

    module _ (w : differs x r ≡ true) where
      held_all : (d : List ℕ) → r.carried ≡ some d → fine r.hash d ≡ true → decide clock t r ≡ Decision.take_all (taken clock r d)
      unfolding decide wanted_held with_data
      held_all d c f = rw (l, w, c, f)

      held_bad : (d : List ℕ) → r.carried ≡ some d → fine r.hash d ≡ false → decide clock t r ≡ Decision.ignored
      unfolding decide wanted_held with_data
      held_bad d c f = rw (l, w, c, f)

      module _ (c : r.carried ≡ none) where
        held_number : same (hash16 x.says.node_data) r.hash ≡ true → decide clock t r ≡ Decision.take_number (taken clock r x.says.node_data)
        unfolding decide wanted_held without_data
        held_number f = rw (l, w, c, f)

        held_ask : same (hash16 x.says.node_data) r.hash ≡ false → decide clock t r ≡ Decision.ask r.node
        unfolding decide wanted_held without_data
        held_ask f = rw (l, w, c, f)

  module _ (l : look r.node t ≡ none) where
    new_full : most_nodes ≤ length t → decide clock t r ≡ Decision.dropped
    unfolding decide
    new_full p = rw (l, le-leb most_nodes (length t) p)

    module _ (p : length t < most_nodes) where
      new_all : (d : List ℕ) → r.carried ≡ some d → fine r.hash d ≡ true → decide clock t r ≡ Decision.take_all (taken clock r d)
      unfolding decide wanted_new with_data
      new_all d c f = rw (l, lt-leb most_nodes (length t) p, c, f)

      new_bad : (d : List ℕ) → r.carried ≡ some d → fine r.hash d ≡ false → decide clock t r ≡ Decision.ignored
      unfolding decide wanted_new with_data
      new_bad d c f = rw (l, lt-leb most_nodes (length t) p, c, f)

      new_ask : r.carried ≡ none → decide clock t r ≡ Decision.ask r.node
      unfolding decide wanted_new
      new_ask c = rw (l, lt-leb most_nodes (length t) p, c)

-- ---- the code's decision, on a value v with these fields

abbrev fields_of : Version → List ℕ → List ℕ → Received
fields_of a h d = record { node = a.id; seq = a.seq; age = a.age; hash = h; carried = carried_in h d }

module _ (t : Table) (i : ℕ) (a : Version) (h d v : List ℕ) (k : Arranged t) (x : Fields v a h d) where
  fields_are : received_of v ≡ fields_of a h d
  unfolding received_of
  fields_are = rw (x.node_is, x.seq_is, x.age_is, x.hash_is, x.bytes_are)

  -- what is taken is good and short, its digest the one received
  fine-taken : fine h d ≡ true → Fine v
  fine-taken f =
      rw (← x.hash_is, ← x.bytes_are)
      (good-fits data_limit d (and_left (good data_limit d) (same (hash16 d) h) f), sym (same-is (hash16 d) h (and_right (good data_limit d) (same (hash16 d) h) f)))

  decides : (r : Answer) → Acts t r → Taken t v r
      → ((m : List ℕ) → Kept t m → decide a.since (view t m) (fields_of a h d) ≡ decision_of t m v r) → Decides a.since t v r
  decides r p b e = record { acts = p; taken = b; is = λ m g. sym (ap (decide a.since (view t m)) fields_are ∙ e m g) }

  -- about a node held, its entry at place i
  module _ (e₀ : Meta) (s : Stands t a.id i) (o : Read t i e₀) where
    held : (m : List ℕ) → look a.id (view t m) ≡ some (seen m e₀)
    held m = look-stands t k a.id i m s ∙ ap (λ (e : Meta). some (seen m e)) (sym o.same)

    hashed : (m : List ℕ) → Kept t m → e₀.hash ≡ hash16 (data_of m e₀)
    hashed m g = subst (λ (e : Meta). e.hash ≡ hash16 (data_of m e)) (sym o.same) (meta_hashed t m i g s.at)

    -- w tells whether it is wanted
    module _ (w : Bool)
        (f : (m u : List ℕ) → e₀.hash ≡ hash16 (data_of m e₀) → a.seq ≡ (received_of u).seq → h ≡ (received_of u).hash → w ≡ differs (seen m e₀) (received_of u)) where
      differ : (m : List ℕ) → Kept t m → differs (seen m e₀) (fields_of a h d) ≡ w
      differ m g = rw (← fields_are) (sym (f m v (hashed m g) (rw fields_are) (rw fields_are)))

      pub unwanted : not w ≡ true → Decides a.since t v Ignored
      unwanted p = decides Ignored tt tt (λ m g. held_unwanted a.since (view t m) (fields_of a h d) (seen m e₀) (held m) (differ m g ∙ not-true w p))

      -- b tells whether data are carried
      module _ (p : not w ≡ false) (b : Bool) (e : b ≡ is_some (carried_in h d)) where
        module _ (q : b ≡ true) (y : Bool) (z : y ≡ fine h d) where
          pub replaces : y ≡ true → Decides a.since t v (TakeAll (Ok i) a)
          replaces c =
              decides (TakeAll (Ok i) a) s (tt, fine-taken (sym z ∙ c))
              (λ m g. rw (← x.bytes_are)
              (held_all a.since (view t m) (fields_of a h d) (seen m e₀) (held m) (differ m g ∙ not-false w p) d (carried_some h d (sym e ∙ q)) (sym z ∙ c)))

          pub bad_held : y ≡ false → Decides a.since t v Ignored
          bad_held c =
              decides Ignored tt tt
              (λ m g. held_bad a.since (view t m) (fields_of a h d) (seen m e₀) (held m) (differ m g ∙ not-false w p) d (carried_some h d (sym e ∙ q)) (sym z ∙ c))

        module _ (q : b ≡ false) (y : Bool) (z : y ≡ same e₀.hash h) where
          equal : (m : List ℕ) → Kept t m → same (hash16 (data_of m e₀)) h ≡ y
          equal m g = rw (← hashed m g) (sym z)

          pub renumbers : y ≡ true → Decides a.since t v (TakeNumber i a)
          renumbers c =
              decides (TakeNumber i a) s tt
              (λ m g. rw (← o.same)
              (held_number a.since (view t m) (fields_of a h d) (seen m e₀) (held m) (differ m g ∙ not-false w p) (carried_none h d (sym e ∙ q)) (equal m g ∙ c)))

          pub asks_held : y ≡ false → Decides a.since t v (Ask a.id)
          asks_held c =
              decides (Ask a.id) tt tt
              (λ m g. held_ask a.since (view t m) (fields_of a h d) (seen m e₀) (held m) (differ m g ∙ not-false w p) (carried_none h d (sym e ∙ q)) (equal m g ∙ c))

  -- about a node not held, which would stand at place i
  module _ (s : Gap t a.id i) where
    pub no_room : most_nodes ≤ t.count → Decides a.since t v Dropped
    no_room p = decides Dropped tt tt (λ m g. new_full a.since (view t m) (fields_of a h d) (look_gap t k a.id i m s) (rw (view-length t k m) p))

    module _ (p : t.count < most_nodes) (b : Bool) (e : b ≡ is_some (carried_in h d)) where
      pub asks_new : not b ≡ true → Decides a.since t v (Ask a.id)
      asks_new q =
          decides (Ask a.id) tt tt
          (λ m g. new_ask a.since (view t m) (fields_of a h d) (look_gap t k a.id i m s) (rw (view-length t k m) p) (carried_none h d (sym e ∙ not-true b q)))

      module _ (q : not b ≡ false) (y : Bool) (z : y ≡ fine h d) where
        pub inserts : y ≡ true → Decides a.since t v (TakeAll (Err i) a)
        inserts c =
            decides (TakeAll (Err i) a) s (p, fine-taken (sym z ∙ c))
            (λ m g. rw (← x.bytes_are)
            (new_all a.since (view t m) (fields_of a h d) (look_gap t k a.id i m s) (rw (view-length t k m) p) d
            (carried_some h d (sym e ∙ not-false b q)) (sym z ∙ c)))

        pub bad_new : y ≡ false → Decides a.since t v Ignored
        bad_new c =
            decides Ignored tt tt
            (λ m g. new_bad a.since (view t m) (fields_of a h d) (look_gap t k a.id i m s) (rw (view-length t k m) p) d
            (carried_some h d (sym e ∙ not-false b q)) (sym z ∙ c))

-- ---- the whole, from the fields that were read

module _ (t : Table) (v : List ℕ) (h : Version) (n : h.id ≡ u32_at v 0) (s : h.seq ≡ u32_at v 4) (a : h.age ≡ u32_at v 8) where
  pub decided : (r : Answer) → ((u : List ℕ) → Fields u h (take 16 (drop 12 v)) (take (length v - 28) (drop 28 v)) → Decides h.since t u r)
      → (m : List ℕ) → Kept t m → Acts t r × (Taken t v r × (decision_of t m v r ≡ decide h.since (view t m) (received_of v)))
  decided r f m g =
      let e : Decides h.since t v r = f v (record { node_is = n; seq_is = s; age_is = a; hash_is = refl; bytes_are = rest-is v 28 }) in
      (e.acts, (e.taken, e.is m g))
