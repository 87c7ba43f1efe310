-- Entries' data laid in the memory one after the other, each in its node's slot, and slots that stay. Assumes nothing.
use mathlib.Core.Path.{◌≡◌, refl, sym, ap, ◌∙◌}
use mathlib.Core.Bool.{true}
use mathlib.Core.List.{List, [], ◌∷◌, ◌++◌, map}
use mathlib.Core.Option.{Option, none, some}
use mathlib.Core.Logic.{◌⊎◌, inl, inr, ⊎_elim}
use Prim.Native.Nat.{ℕ, ◌+◌, ◌-◌, ◌*◌, ◌≤◌}
use native.Mathlib.Omega.{arith}
use lib.ListN.{length}
use lib.Dec.{eqb}
use borrow.Author.Tests.{eqb-true, eqb-false}
use Rattle.base.specs.Lists.{is_some, In, All}
use Rattle.base.specs.Memory.{part, written}
use Rattle.base.proofs.Tests.{by_test, by_order}
use Rattle.base.proofs.Lists.{all_in, all_append}
use Rattle.base.proofs.Options.{by_option}
use Rattle.base.proofs.Sorted.{find-some, insert_has, one_each}
use Rattle.base.proofs.Written.{part_length, written_self, written-length, written_outside, other-part, other-slot}
use Rattle.model.specs.Figures.{data_limit, table_bytes}
use Rattle.model.specs.Table.{Entry, id_of, put}
use Rattle.table.specs.View.{meta_id, live, meta_at, data_of, seen, view, OnlySlot, Free, Apart, FitMeta, Arranged, Kept, meta_of, laid, SlotsStay, Housed, Lays, Wrote, Stored}
use Rattle.table.specs.declared.Table.{Table}
use Rattle.table.specs.declared.Entry.{Entry as Meta}
use Rattle.table.proofs.Tables.{meta_found, stands-found, view-ascending}

-- ---- slots that stay

pub stays_self : (t : Table) → SlotsStay t t
stays_self t n x h = (x, h, refl)

pub stays_then : (t r q : Table) → SlotsStay t r → SlotsStay r q → SlotsStay t q
stays_then t r q a b n x h =
    let y = a n x h in
    let z = b n y.0 y.1 in
    (z.0, z.1, z.2 ∙ y.2)

-- ---- laid one after the other

pub laid-held : (t : Table) (e : Entry) (es : List Entry) (m : List ℕ) (x : Meta) → meta_of t (id_of e) ≡ some x
    → laid t (e ∷ es) m ≡ laid t es (written m (x.slot * data_limit) e.says.node_data)
unfolding laid
laid-held t e es m x h = rw h

laid_missing : (t : Table) (e : Entry) (es : List Entry) (m : List ℕ) → meta_of t (id_of e) ≡ none → laid t (e ∷ es) m ≡ laid t es m
unfolding laid
laid_missing t e es m h = rw h

pub laid_append : (t : Table) (es fs : List Entry) (m : List ℕ) → laid t (es ++ fs) m ≡ laid t fs (laid t es m)
unfolding laid
laid_append t [] fs m = refl
laid_append t (e ∷ es) fs m = laid_append t es fs _

held-some : (o : Option Meta) → is_some o ≡ true → (x : Meta) × (o ≡ some x)
held-some none h = absurd (let z : ◌≡◌ {A = ℕ} 0 1 = cc in omega arith)
held-some (some x) h = (x, refl)

module _ (t r : Table) (s : SlotsStay t r) where
  -- with the table that follows they are laid in the same slots
  laid-stays : (es : List Entry) → All (Housed t) es → (m : List ℕ) → laid r es m ≡ laid t es m
  unfolding laid
  laid-stays [] h m = refl
  laid-stays (e ∷ es) h m =
      let x = held-some (meta_of t (id_of e)) h.0.0 in
      let y = s (id_of e) x.0 x.1 in
      laid-held r e es m y.0 y.1 ∙ ap (λ (k : ℕ). laid r es (written m (k * data_limit) e.says.node_data)) y.2
      ∙ laid-stays es h.1 (written m (x.0.slot * data_limit) e.says.node_data) ∙ sym (laid-held t e es m x.0 x.1)

  housed-stays : (es : List Entry) → All (Housed t) es → All (Housed r) es
  housed-stays [] h = tt
  housed-stays (e ∷ es) h =
      let x = held-some (meta_of t (id_of e)) h.0.0 in
      ((ap is_some (s (id_of e) x.0 x.1).1, h.0.1), housed-stays es h.1)

-- ---- one writing, and the next

pub wrote_none : (t : Table) (m : List ℕ) → Wrote t m [] t m
unfolding laid
wrote_none t m = record { slots = stays_self t; lays = record { housed = tt; memory = refl } }

lays_still : (r q : Table) (m : List ℕ) (es : List Entry) (m' : List ℕ) → Lays m es r m' → SlotsStay r q → Lays m es q m'
lays_still r q m es m' w s = record { housed = housed-stays r q s es w.housed; memory = w.memory ∙ sym (laid-stays r q s es w.housed m) }

pub lays_then : (r q : Table) (m : List ℕ) (es : List Entry) (m' : List ℕ) (fs : List Entry) (m'' : List ℕ) → Lays m es r m' → Wrote r m' fs q m'' → Lays m (es ++ fs) q m''
lays_then r q m es m' fs m'' w v =
    let k : Lays m es q m' = lays_still r q m es m' w v.slots in
    record {
      housed = all_append (Housed q) es fs k.housed v.lays.housed;
      memory = v.lays.memory ∙ ap (laid q fs) k.memory ∙ sym (laid_append q es fs m);
    }

-- a table whose slots stayed comes before, or after
pub wrote_later : (t r q : Table) (m : List ℕ) (es : List Entry) (m' : List ℕ) → SlotsStay t r → Wrote r m es q m' → Wrote t m es q m'
wrote_later t r q m es m' s w = record { slots = stays_then t r q s w.slots; lays = w.lays }

pub wrote_still : (t r q : Table) (m : List ℕ) (es : List Entry) (m' : List ℕ) → Wrote t m es r m' → SlotsStay r q → Wrote t m es q m'
wrote_still t r q m es m' w s = record { slots = stays_then t r q w.slots s; lays = lays_still r q m es m' w.lays s }

pub wrote_then : (t r q : Table) (m : List ℕ) (es : List Entry) (m' : List ℕ) (fs : List Entry) (m'' : List ℕ) → Wrote t m es r m' → Wrote r m' fs q m'' → Wrote t m (es ++ fs) q m''
wrote_then t r q m es m' fs m'' w v = record { slots = stays_then t r q w.slots v.slots; lays = lays_then r q m es m' fs m'' w.lays v }

-- ---- data that stand there already

-- the entry's data stand at the start of its node's slot
record Lies (t : Table) (m : List ℕ) (e : Entry) : Type 0 where
  short : length e.says.node_data ≤ data_limit
  there : (x : Meta) → meta_of t (id_of e) ≡ some x → part m (x.slot * data_limit) (length e.says.node_data) ≡ e.says.node_data

module _ (t : Table) (m : List ℕ) (k : Arranged t) (room : table_bytes ≤ length m) where
  -- written once more, they leave the memory as it is
  written-again : (e : Entry) (x : Meta) → Lies t m e → meta_of t (id_of e) ≡ some x → written m (x.slot * data_limit) e.says.node_data ≡ m
  written-again e x l h =
      let f : FitMeta x = all_in FitMeta x (live t) k.fit (find-some meta_id (id_of e) x (live t) h).0 in
      ap (written m (x.slot * data_limit)) (sym (l.there x h)) ∙ written_self m (x.slot * data_limit) (length e.says.node_data) (omega (arith, f.0, l.short, room))

  laid-again : (e : Entry) (es : List Entry) → Lies t m e → laid t (e ∷ es) m ≡ laid t es m
  laid-again e es l =
      by_option (meta_of t (id_of e)) (laid_missing t e es m) (λ x h. laid-held t e es m x h ∙ ap (laid t es) (written-again e x l h))

  laid_self : (es : List Entry) → All (Lies t m) es → laid t es m ≡ m
  unfolding laid
  laid_self [] h = refl
  laid_self (e ∷ es) h = laid-again e es h.0 ∙ laid_self es h.1

  seen_lies : (l : List Meta) → ((x : Meta) → In x l → In x (live t)) → All (Lies t m) (map (seen m) l)
  seen_lies [] f = tt
  seen_lies (x ∷ l) f =
      let g : FitMeta x = all_in FitMeta x (live t) k.fit (f x (inl refl)) in
      let n : length (data_of m x) ≡ x.len = part_length m (x.slot * data_limit) x.len (omega (arith, g.0, g.1, room)) in (
        record {
          short = omega (arith, g.1, n);
          there = λ y h. let q : y ≡ x = cc (meta_found t k x (f x (inl refl))) in rw (q, n);
        },
        seen_lies l (λ z i. f z (inr i)),
      )

  view_lies : All (Lies t m) (view t m)
  unfolding view
  view_lies = seen_lies (live t) (λ x i. i)

  seen_housed : (l : List Meta) → ((x : Meta) → In x l → In x (live t)) → All (Lies t m) (map (seen m) l) → All (Housed t) (map (seen m) l)
  seen_housed [] f h = tt
  seen_housed (x ∷ l) f h = ((ap is_some (meta_found t k x (f x (inl refl))), h.0.short), seen_housed l (λ z i. f z (inr i)) h.1)

  view_housed : All (Housed t) (view t m)
  unfolding view
  view_housed = seen_housed (live t) (λ x i. i) view_lies

-- a table that follows with no byte written: its entries lie there already
pub kept-wrote : (t r : Table) (m : List ℕ) → SlotsStay t r → Kept r m → Wrote t m (view r m) r m
kept-wrote t r m s k =
    record {
      slots = s;
      lays = record {
        housed = view_housed r m k.arranged k.room;
        memory = sym (laid_self r m k.arranged k.room (view r m) (view_lies r m k.arranged k.room));
      };
    }

-- a table that is written once more, each entry in its slot, is there already
pub wrote-again : (t r : Table) (m m' : List ℕ) → Kept t m → Wrote t m (view t m) r m' → m' ≡ m
wrote-again t r m m' k w =
    let v : Wrote t m (view t m) t m = kept-wrote t t m (stays_self t) k in
    w.lays.memory ∙ laid-stays t r w.slots (view t m) v.lays.housed m ∙ sym v.lays.memory

-- ---- an entry stored

-- two nodes have two slots
apart_in : (l : List Meta) → Apart l → (x y : Meta) → In x l → In y l → ¬ (x.id ≡ y.id) → ¬ (x.slot ≡ y.slot)
apart_in [] a x y i j n e = absurd i
apart_in (z ∷ l) a x y (inl p) (inl q) n e = n (ap meta_id (p ∙ sym q))
apart_in (z ∷ l) a x y (inl p) (inr j) n e = all_in (λ (w : Meta). ¬ (w.slot ≡ z.slot)) y l a.0 j (sym e ∙ ap (λ (w : Meta). w.slot) p)
apart_in (z ∷ l) a x y (inr i) (inl q) n e = all_in (λ (w : Meta). ¬ (w.slot ≡ z.slot)) x l a.0 i (e ∙ ap (λ (w : Meta). w.slot) q)
apart_in (z ∷ l) a x y (inr i) (inr j) n e = apart_in l a.1 x y i j n e

module _ (e : Entry) (t r : Table) (m m' : List ℕ) (i : ℕ) (k : Kept t m) (s : Stored e t m i r m') where
  here : meta_of r (id_of e) ≡ some (meta_at r i)
  here = stands-found r (id_of e) i s.kept.arranged s.stands

  lie : All (Lies r m') (view r m')
  lie = view_lies r m' s.kept.arranged s.kept.room

  among : In e (view r m')
  unfolding put
  among = rw s.viewed (insert_has id_of e (view t m))

  fit : FitMeta (meta_at r i)
  fit = all_in FitMeta (meta_at r i) (live r) s.kept.arranged.fit (find-some meta_id (id_of e) (meta_at r i) (live r) here).0

  only : OnlySlot (meta_at r i).slot m m'
  only =
      rw s.memory
      (written_outside m e.says.node_data ((meta_at r i).slot * data_limit) data_limit (omega (arith, fit.0, k.room)) (all_in (Lies r m') e (view r m') lie among).short)

  -- the others' data lay there before
  others_lie : (f : Entry) → Lies r m' f → ¬ (id_of f ≡ id_of e) → Lies r m f
  others_lie f l n =
      record {
        short = l.short;
        there = λ y h.
            let a = find-some meta_id (id_of f) y (live r) h in
            let b = find-some meta_id (id_of e) (meta_at r i) (live r) here in
            sym (other-slot m m' data_limit (meta_at r i).slot y.slot (length f.says.node_data) only l.short
            (apart_in (live r) s.kept.arranged.apart y (meta_at r i) a.0 b.0 (λ p. n (sym a.1 ∙ p ∙ b.1))))
            ∙ l.there y h;
      }

  laid_put : (es : List Entry) → All (Lies r m') es → ((f : Entry) → In f es → id_of f ≡ id_of e → f ≡ e) → In e es → laid r es m ≡ m'
  laid_put [] h u j = absurd j
  laid_put (f ∷ es) h u j =
      by_test (eqb (id_of f) (id_of e))
      (λ b. let q : f ≡ e = u f (inl refl) (eqb-true (id_of f) (id_of e) b) in
      ap (λ (g : Entry). laid r (g ∷ es) m) q ∙ laid-held r e es m (meta_at r i) here ∙ ap (laid r es) (sym s.memory)
      ∙ laid_self r m' s.kept.arranged s.kept.room es h.1)
      (λ b. let n : ¬ (id_of f ≡ id_of e) = eqb-false (id_of f) (id_of e) b in
      laid-again r m s.kept.arranged k.room f es (others_lie f h.0 n)
      ∙ laid_put es h.1 (λ g i. u g (inr i)) (⊎_elim (λ q. absurd (n (ap id_of (sym q)))) (λ p. p) j))

  -- the entry alone
  pub stored_one : Wrote t m (e ∷ []) r m'
  unfolding laid
  stored_one =
      record {
        slots = s.slots;
        lays = record { housed = ((ap is_some here, (all_in (Lies r m') e (view r m') lie among).short), tt); memory = s.memory ∙ sym (laid-held r e [] m (meta_at r i) here) };
      }

  -- all that the table then holds is laid: where it lay before, nothing changes
  pub stored_wrote : Wrote t m (view r m') r m'
  stored_wrote =
      record {
        slots = s.slots;
        lays = record {
          housed = view_housed r m' s.kept.arranged s.kept.room;
          memory = sym (laid_put (view r m') lie (λ f j p. one_each id_of f e (view r m') (view-ascending r s.kept.arranged m') j among p) among);
        };
      }

-- ---- what is laid leaves all else as it was

-- bytes that none of the data written cover
module _ (t : Table) (k : Arranged t) (a n : ℕ) where
  abbrev Clear : List Entry → Type 0
  Clear es = (e : Entry) → In e es → (x : Meta) → meta_of t (id_of e) ≡ some x → (a + n ≤ x.slot * data_limit) ⊎ (x.slot * data_limit + length e.says.node_data ≤ a)

  laid_clear : (es : List Entry) → All (Housed t) es → Clear es → (m : List ℕ) → table_bytes ≤ length m → part (laid t es m) a n ≡ part m a n
  unfolding laid
  laid_clear [] h f m room = refl
  laid_clear (e ∷ es) h f m room =
      let x = held-some (meta_of t (id_of e)) h.0.0 in
      let g : FitMeta x.0 = all_in FitMeta x.0 (live t) k.fit (find-some meta_id (id_of e) x.0 (live t) x.1).0 in
      let at : ℕ = x.0.slot * data_limit in
      let d : List ℕ = e.says.node_data in
      let fits : x.0.slot * data_limit + length e.says.node_data ≤ length m = omega (arith, g.0, h.0.1, room) in
      ap (λ (y : List ℕ). part y a n) (laid-held t e es m x.0 x.1)
      ∙ laid_clear es h.1 (λ e' i. f e' (inr i)) (written m at d) (rw (written-length m d at fits) room)
      ∙ other-part m (written m at d) at (length d) a n (written_outside m d at (length d) fits (omega arith)) (f e (inl refl) x.0 x.1)

-- a slot that no node has
pub lays-free : (t : Table) (m : List ℕ) (es : List Entry) (m' : List ℕ) → Arranged t → table_bytes ≤ length m → Lays m es t m' → (j : ℕ) → Free j (live t)
    → part m' (j * data_limit) data_limit ≡ part m (j * data_limit) data_limit
lays-free t m es m' k room w j f =
    ap (λ (y : List ℕ). part y (j * data_limit) data_limit) w.memory
    ∙ laid_clear t k (j * data_limit) data_limit es w.housed
    (λ e i x h.
    let n : ¬ (x.slot ≡ j) = all_in (λ (y : Meta). ¬ (y.slot ≡ j)) x (live t) f (find-some meta_id (id_of e) x (live t) h).0 in
    let l : length e.says.node_data ≤ data_limit = (all_in (Housed t) e es w.housed i).1 in
    by_order j x.slot (λ p. inl (omega arith)) (λ p. absurd (n (sym p))) (λ p. inr (omega arith)))
    m room

-- the end of a node's slot, behind all data written there
pub lays-behind : (t : Table) (m : List ℕ) (es : List Entry) (m' : List ℕ) → Arranged t → table_bytes ≤ length m → Lays m es t m' → (n b : ℕ) (y : Meta) → meta_of t n ≡ some y
    → ((e : Entry) → In e es → id_of e ≡ n → length e.says.node_data ≤ b) → b ≤ data_limit
    → part m' (y.slot * data_limit + b) (data_limit - b) ≡ part m (y.slot * data_limit + b) (data_limit - b)
lays-behind t m es m' k room w n b y q f low =
    ap (λ (z : List ℕ). part z (y.slot * data_limit + b) (data_limit - b)) w.memory
    ∙ laid_clear t k (y.slot * data_limit + b) (data_limit - b) es w.housed
    (λ e i x h.
    let l : length e.says.node_data ≤ data_limit = (all_in (Housed t) e es w.housed i).1 in
    by_test (eqb (id_of e) n)
    (λ c. let z : id_of e ≡ n = eqb-true (id_of e) n c in
    let p : x ≡ y = cc (ap (meta_of t) z) in
    let s : x.slot ≡ y.slot = ap (λ (v : Meta). v.slot) p in
    let u : length e.says.node_data ≤ b = f e i z in inr (omega arith))
    (λ c. let ex = find-some meta_id (id_of e) x (live t) h in
    let ey = find-some meta_id n y (live t) q in
    let s : ¬ (x.slot ≡ y.slot) = apart_in (live t) k.apart x y ex.0 ey.0 (λ p. eqb-false (id_of e) n c (sym ex.1 ∙ p ∙ ey.1)) in
    by_order x.slot y.slot (λ p. inr (omega arith)) (λ p. absurd (s p)) (λ p. inl (omega arith))))
    m room
