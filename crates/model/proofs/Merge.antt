-- The newest statement of each node wins, in whatever order they come. Assumes nothing.
use Rattle.std.proofs.Common.{◌≡◌, ℕ, ◌<◌, ◌≤◌, true, false, cond, eqb, ltb, List, [], ◌∷◌, ◌++◌, map, length, sym, refl, ap, ◌∙◌, subst, inl, inr, ⊎_elim, arith, ltb-false, ltb-true, lt-ltb, eqb-true}
use mathlib.Core.Option.{none, some}
use lib.ListN.{length-map}
use borrow.Author.Tests.{eqb-false}
use Rattle.base.specs.Lists.{or_else, In}
use Rattle.base.specs.Sorted.{find, insert, Ascending}
use Rattle.base.proofs.Tests.{by_test}
use Rattle.base.proofs.Lists.{in_append, in_left, in_right, in_map, map_in}
use Rattle.base.proofs.Sorted.{insert-ascending, insert_has, insert_keeps, insert_cases, insert-length, find-some, find_none, by_find, one_each, same-list, no_longer, keys_in, in_keys, keys_ascending, ascending-map}
use Rattle.model.specs.Figures.{most_nodes}
use Rattle.model.specs.Sequence.{offset, older}
use Rattle.model.specs.Table.{Statement, Entry, id_of, statements}
use Rattle.model.specs.Delivery.{distinct, Close, Holds}
use Rattle.model.proofs.Circle.{older-offset, offset-same}

abbrev pub node_of : Statement → ℕ
node_of x = x.node

abbrev pub says_of : Entry → Statement
says_of e = e.says

abbrev pub Sorted : List Statement → Type 0
Sorted l = Ascending node_of l

abbrev pub Within : List Statement → List Statement → Type 0
Within l all = (x : Statement) → In x l → In x all

-- a statement is taken unless one of its node stands that is no older
unfoldable pub absorb : Statement → List Statement → List Statement
absorb x l = or_else (find node_of x.node l) (insert node_of x l) (λ g. cond (older g.seq x.seq) (insert node_of x l) l)

-- x is newer than every statement of its node in l
abbrev Newer : Statement → List Statement → Type 0
Newer x l = (g : Statement) → In g l → g.node ≡ x.node → older g.seq x.seq ≡ true

module _ (x : Statement) (l : List Statement) where
  pub absorb_new : find node_of x.node l ≡ none → absorb x l ≡ insert node_of x l
  unfolding absorb
  absorb_new n = rw n

  pub absorb_newer : (g : Statement) → find node_of x.node l ≡ some g → older g.seq x.seq ≡ true → absorb x l ≡ insert node_of x l
  unfolding absorb
  absorb_newer g n o = rw (n, o)

  pub absorb-old : (g : Statement) → find node_of x.node l ≡ some g → older g.seq x.seq ≡ false → absorb x l ≡ l
  unfolding absorb
  absorb-old g n o = rw (n, o)

  -- by cases: x is newer, or a statement of its node is no older
  by_absorb : (P : List Statement → Type 0) → Sorted l → (Newer x l → P (insert node_of x l))
      → ((g : Statement) → In g l → g.node ≡ x.node → older g.seq x.seq ≡ false → P l) → P (absorb x l)
  by_absorb P s new old =
      by_find node_of x.node l (λ n. rw (absorb_new n) (new (λ g m q. absurd (find_none node_of x.node g l n m q))))
      (λ f n. let r = find-some node_of x.node f l n in
      by_test (older f.seq x.seq)
      (λ o. rw (absorb_newer f n o) (new (λ g m q. rw (one_each node_of g f l s m r.0 (q ∙ sym r.1)) o)))
      (λ o. rw (absorb-old f n o) (old f r.0 r.1 o)))

-- ---- how many nodes there are

abbrev itself : ℕ → ℕ
itself k = k

distinct_in : (n : ℕ) (ns : List ℕ) → In n ns → In n (distinct ns)
distinct_in n [] m = m
distinct_in n (k ∷ ns) m =
    by_test (eqb n k) (λ b. rw (eqb-true n k b) (insert_has itself k (distinct ns)))
    (λ b. let ne : ¬ (n ≡ k) = eqb-false n k b in
    insert_keeps itself k n (distinct ns) ne (distinct_in n ns (⊎_elim (λ e. absurd (ne e)) (λ r. r) m)))

distinct-ascending : (ns : List ℕ) → Ascending itself (distinct ns)
distinct-ascending [] = tt
distinct-ascending (k ∷ ns) = insert-ascending itself k (distinct ns) (distinct-ascending ns)

pub more_distinct : (ns ms : List ℕ) → ((n : ℕ) → In n ns → In n ms) → length (distinct ns) ≤ length (distinct ms)
more_distinct ns ms w =
    no_longer itself (distinct ns) (distinct ms) (distinct-ascending ns) (distinct-ascending ms) (λ n m. distinct_in n ms (w n (in_distinct n ns m)))
  where
    in_distinct : (n : ℕ) (ns : List ℕ) → In n (distinct ns) → In n ns
    in_distinct n [] m = m
    in_distinct n (k ∷ ns) m = ⊎_elim inl (λ r. inr (in_distinct n ns r.0)) (insert_cases itself k n (distinct ns) (distinct-ascending ns) m)

-- sorted statements are no more than the nodes that they are of
pub no_more : (l : List Statement) (ns : List ℕ) → Sorted l → ((x : Statement) → In x l → In x.node ns) → length l ≤ length (distinct ns)
no_more l ns s w =
    rw (sym (length-map l node_of))
    (no_longer itself (map node_of l) (distinct ns) (keys_ascending node_of l s) (distinct-ascending ns)
    (λ n m. let r = keys_in node_of n l m in distinct_in n ns (rw (sym r.2) (w r.0 r.1))))

-- ---- all the statements of an exchange

-- what the demand asks of them
pub record Agreed (all : List Statement) : Type 0 where
  pub few : length (distinct (map node_of all)) ≤ most_nodes
  pub close : (n : ℕ) → Close all n
  pub single : (x y : Statement) → In x all → In y all → x.node ≡ y.node → x.seq ≡ y.seq → x.node_data ≡ y.node_data

-- l has room for x, and no other data with its number
pub record Welcome (x : Statement) (l : List Statement) : Type 0 where
  pub room : find node_of x.node l ≡ none → length l < most_nodes
  pub single : (g : Statement) → In g l → g.node ≡ x.node → g.seq ≡ x.seq → g.node_data ≡ x.node_data

module _ (all : List Statement) (a : Agreed all) where
  -- where x lies in the stretch of node n
  abbrev pub rank : ℕ → Statement → ℕ
  rank n x = offset (a.close n).start x.seq

  module _ (n : ℕ) (x y : Statement) (mx : In x all) (my : In y all) (qx : x.node ≡ n) (qy : y.node ≡ n) where
    -- statements of one node are older as their ranks say, and the same where these are
    ranked : older x.seq y.seq ≡ ltb (rank n x) (rank n y)
    ranked = let c = a.close n in older-offset c.start x.seq y.seq c.small (c.near x mx qx) (c.near y my qy)

    rank_same : rank n x ≡ rank n y → x ≡ y
    rank_same e =
        let c = a.close n in
        let p : x.node ≡ y.node = qx ∙ sym qy in
        let q : x.seq ≡ y.seq = offset-same c.start x.seq y.seq c.small (c.near x mx qx) (c.near y my qy) e in
        let d : x.node_data ≡ y.node_data = a.single x y mx my p q in
        λ i. record { node = p i; seq = q i; node_data = d i }

  -- a statement of x's node stands in l that is no older
  pub record Covered (x : Statement) (l : List Statement) : Type 0 where
    pub by : Statement
    pub stands : In by l
    pub node : by.node ≡ x.node
    pub newer : rank x.node x ≤ rank x.node by

  -- l holds exactly the nodes of ys, each with its newest statement
  pub record Newest (ys l : List Statement) : Type 0 where
    pub sorted : Sorted l
    pub from : Within l ys
    pub covers : (x : Statement) → In x ys → Covered x l

  pub held : (l : List Statement) → Sorted l → Newest l l
  held l s = record { sorted = s; from = λ x m. m; covers = λ x m. record { by = x; stands = m; node = refl; newer = omega arith } }

  -- ---- one more statement comes in

  module _ (x : Statement) (ys l : List Statement) (mx : In x all) (w : Within ys all) (h : Newest ys l) where
    stood : Within l all
    stood y m = w y (h.from y m)

    pub welcome : Welcome x l
    welcome = record { room = room; single = λ g m. a.single g x (stood g m) mx }
      where
        within : Within (insert node_of x l) all
        within y m = ⊎_elim (λ e. rw e mx) (λ r. stood y r.0) (insert_cases node_of x y l h.sorted m)

        room : find node_of x.node l ≡ none → length l < most_nodes
        room n = omega (arith, no_more (insert node_of x l) (map node_of all) (insert-ascending node_of x l h.sorted) (λ y m. in_keys node_of y all (within y m)), insert-length node_of x l n, a.few)

    comes_from : (y : Statement) → In y (absorb x l) → In y (ys ++ (x ∷ []))
    comes_from y =
        by_absorb x l (λ k. In y k → In y (ys ++ (x ∷ []))) h.sorted
        (λ n m. ⊎_elim (λ e. in_right y ys (x ∷ []) (inl e)) (λ r. in_left y ys (x ∷ []) (h.from y r.0)) (insert_cases node_of x y l h.sorted m))
        (λ g m q o k. in_left y ys (x ∷ []) (h.from y k))

    covers_new : Covered x (absorb x l)
    covers_new =
        by_absorb x l (Covered x) h.sorted (λ n. record { by = x; stands = insert_has node_of x l; node = refl; newer = omega arith })
        (λ g m q o. record {
          by = g;
          stands = m;
          node = q;
          newer = ltb-false (rank x.node g) (rank x.node x) (sym (ranked x.node g x (stood g m) mx q refl) ∙ o);
        })

    covers_still : (y : Statement) → Covered y l → Covered y (absorb x l)
    covers_still y c =
        by_absorb x l (Covered y) h.sorted (λ n. by_test (eqb c.by.node x.node) (taken n) other) (λ g m q o. c)
      where
        taken : Newer x l → eqb c.by.node x.node ≡ true → Covered y (insert node_of x l)
        taken n b =
            let q : c.by.node ≡ x.node = eqb-true c.by.node x.node b in
            let p : x.node ≡ y.node = sym q ∙ c.node in
            let r : rank y.node c.by < rank y.node x = ltb-true (rank y.node c.by) (rank y.node x)
            (sym (ranked y.node c.by x (stood c.by c.stands) mx c.node p) ∙ n c.by c.stands q) in
            record { by = x; stands = insert_has node_of x l; node = p; newer = omega arith }

        other : eqb c.by.node x.node ≡ false → Covered y (insert node_of x l)
        other b =
            record {
              by = c.by;
              stands = insert_keeps node_of x c.by l (eqb-false c.by.node x.node b) c.stands;
              node = c.node;
              newer = c.newer;
            }

    pub absorbed : Newest (ys ++ (x ∷ [])) (absorb x l)
    absorbed =
        record {
          sorted = by_absorb x l Sorted h.sorted (λ n. insert-ascending node_of x l h.sorted) (λ g m q o. h.sorted);
          from = comes_from;
          covers = λ y m. ⊎_elim (λ k. covers_still y (h.covers y k)) (⊎_elim (λ e. rw e covers_new) (λ z. absurd z)) (in_append y ys (x ∷ []) m);
        }

  -- ---- what is held then depends on the statements alone

  -- the one that stands for a node is no older than any of that node
  tops : (ys l : List Statement) → Newest ys l → (n : ℕ) (e x : Statement) → In e l → In x ys → e.node ≡ n → x.node ≡ n → rank n x ≤ rank n e
  tops ys l h n e x me mx qe qx =
      let c = h.covers x mx in
      rw (one_each node_of e c.by l h.sorted me c.stands (qe ∙ sym qx ∙ sym c.node))
      (subst (λ (i : ℕ). rank i x ≤ rank i c.by) qx c.newer)

  newest_within : (ys zs l k : List Statement) → Newest ys l → Newest zs k → Within ys zs → Within zs ys → Within ys all → Within l k
  newest_within ys zs l k h j f g w x m =
      let y = h.from x m in
      let c = j.covers x (f x y) in
      let b = g c.by (j.from c.by c.stands) in
      let p : rank x.node c.by ≤ rank x.node x = tops ys l h x.node x c.by m b refl c.node in
      let q : rank x.node x ≤ rank x.node c.by = c.newer in
      rw (rank_same x.node x c.by (w x y) (w c.by b) refl c.node (omega arith)) c.stands

  pub newest_same : (ys zs l k : List Statement) → Newest ys l → Newest zs k → Within ys zs → Within zs ys → Within ys all → l ≡ k
  newest_same ys zs l k h j f g w =
      same-list node_of l k h.sorted j.sorted (newest_within ys zs l k h j f g w) (newest_within zs ys k l j h g f (λ x m. w x (g x m)))

  -- ---- a table of such statements, in the demand's own words

  pub holds : (ys : List Statement) (t : List Entry) → Within ys all → Newest ys (statements t) → Holds (λ x. In x ys) t
  holds ys t w h =
      record {
        ascending = rw (ascending-map says_of node_of t) at h.sorted;
        from = λ e m. h.from e.says (in_map says_of e t m);
        newest = newest;
        each = λ x m. let c = h.covers x m in let r = map_in says_of c.by t c.stands in (r.0, r.1, ap node_of r.2 ∙ c.node);
      }
    where
      newest : (e : Entry) (x : Statement) → In e t → In x ys → x.node ≡ id_of e → ¬ (x.seq ≡ e.says.seq) → older x.seq e.says.seq ≡ true
      newest e x m mx q ne =
          let me = in_map says_of e t m in
          let ye = w e.says (h.from e.says me) in
          let l : rank (id_of e) x ≤ rank (id_of e) e.says = tops ys (statements t) h (id_of e) e.says x me mx refl q in
          let d : ¬ (rank (id_of e) x ≡ rank (id_of e) e.says) = λ z. ne (ap (λ (y : Statement). y.seq) (rank_same (id_of e) x e.says (w x mx) ye q refl z)) in
          ranked (id_of e) x e.says (w x mx) ye q refl ∙ lt-ltb (rank (id_of e) x) (rank (id_of e) e.says) (omega arith)
