-- The entries of the table against the model's table. Assumes nothing.
use Prim.Native.Nat.{ℕ, zero, suc, ◌+◌, ◌-◌, ◌*◌, ◌≤◌, ◌<◌, zero-le, suc-le-suc}
use mathlib.Core.Path.{◌≡◌, refl, sym, ap, ◌∙◌, subst}
use mathlib.Core.Bool.{Bool, true, false}
use mathlib.Core.List.{List, [], ◌∷◌, ◌++◌, map, append-nil, append_assoc}
use mathlib.Core.Option.{none, some}
use native.Mathlib.Nat.{not-suc-le-zero, le_of_suc-le-suc}
use native.Mathlib.Omega.{arith}
use lib.ListN.{length, get_or, take, drop, set, length-take, length-drop, length-append, length-set, length-map, get_or-map, get_or-append}
use native.Mathlib.Numerals.{add-one}
use lib.Dec.{eqb}
use borrow.Author.Tests.{eqb-true, eqb-false}
use lib.Seq.{get_or-take, get_or_at, get_or-set_same, take-set-lt, take_at, length-take-le, take-suc, set_at, take-append-add}
use mathlib.Core.Logic.{◌⊎◌, inl, inr}
use Rattle.base.specs.Lists.{keep_by, In, All}
use Rattle.base.specs.Memory.{part, written, spliced, cut}
use Rattle.base.specs.Sorted.{find, insert, Above, Ascending}
use Rattle.base.proofs.Tests.{by_test, by_order}
use Rattle.base.proofs.Lists.{all_keep_by, in_keep_by}
use Rattle.base.proofs.Sorted.{above_less, insert_lt, insert_eq, insert_gt, insert-ascending, find_no, find_none, find-some, by_find, one_each, ascending-map, find-map, find-inserted, find-other, all_insert}
use Rattle.base.proofs.Places.{above_at, find_at, insert-over, insert-between, all-at, pigeons}
use Rattle.base.proofs.Written.{part_length, part-there, spliced-length, cut-length, other-slot, written_outside, same_outside, written-above, written-there, written-length}
use Rattle.std.specs.Prelude.{Result, Ok, Err}
use Rattle.std.specs.List.{copy_within}
use Rattle.std.specs.List.Sorted.{IsSearchInRange, IsBinarySearchResult, IsNonDecreasingBy}
use Rattle.std.specs.Ordering.{nat_cmp, ordering_index}
use Rattle.std.proofs.lemmas.Cmp.{ranked}
use Rattle.std.proofs.lemmas.List.Sorted.{IsNonDecreasingBy-from_default}
use Rattle.std.proofs.lemmas.Bool.Decides.{nat_tests}
use Rattle.sha256.specs.Sha256.{hash16}
use Rattle.model.specs.Figures.{most_nodes, data_limit, table_bytes}
use Rattle.model.specs.Table.{Entry, entry_of, id_of, put, look, stamp, anew}
use Rattle.table.specs.View.{no_meta, meta_id, live, meta_at, data_of, seen, view, OnlySlot, Free, Apart, FitMeta, Fit, Hashed, Arranged, Kept, meta_of, SlotsStay, Stands, Gap, Finding, Read, Stored, with_meta, inserted, Renumbered, SlotUsed, Purged, version_of, version_anew, entry_in}
use Rattle.table.specs.declared.Table.{Table}
use Rattle.table.specs.declared.Entry.{Entry as Meta}
use Rattle.table.specs.declared.Version.{Version}

-- ---- seen in the model

pub seen-ascending : (m : List ℕ) (l : List Meta) → Ascending meta_id l → Ascending id_of (map (seen m) l)
seen-ascending m l h = rw (ascending-map (seen m) id_of l) h

seen_meta : (m m' : List ℕ) (e : Meta) → data_of m' e ≡ data_of m e → seen m' e ≡ seen m e
seen_meta m m' e q = ap (λ (d : List ℕ). entry_of e.id e.seq d (stamp e.age e.since)) q

seen-others : (m m' : List ℕ) (s : ℕ) → OnlySlot s m m' → (l : List Meta) → Fit l → Free s l → map (seen m') l ≡ map (seen m) l
seen-others m m' s o [] f g = refl
seen-others m m' s o (e ∷ l) f g =
    let q : seen m' e ≡ seen m e = seen_meta m m' e (other-slot m m' data_limit s e.slot e.len o f.0.1 g.0) in
    let r : map (seen m') l ≡ map (seen m) l = seen-others m m' s o l f.1 g.1 in
    cc

-- ---- an entry put in over the entry of its node, or where its slot is free

-- an entry of another node has another slot
abbrev pub Clear : Meta → List Meta → Type 0
Clear e [] = Unit {0}
Clear e (x ∷ l) = (¬ (x.id ≡ e.id) → ¬ (x.slot ≡ e.slot)) × Clear e l

clear_free : (e : Meta) (l : List Meta) → Above meta_id e.id l → Clear e l → Free e.slot l
clear_free e [] a h = tt
clear_free e (x ∷ l) a h = (h.0 (omega arith), clear_free e l a.1 h.1)

pub free_clear : (e : Meta) (s : ℕ) (l : List Meta) → e.slot ≡ s → Free s l → Clear e l
free_clear e s [] q h = tt
free_clear e s (x ∷ l) q h = ((λ n k. h.0 (k ∙ q)), free_clear e s l q h.1)

pub stands_clear : (e : Meta) (l : List Meta) (i : ℕ) → Apart l → i < length l → (get_or l i no_meta).id ≡ e.id → (get_or l i no_meta).slot ≡ e.slot → Clear e l
stands_clear e [] i a p q r = tt
stands_clear e (x ∷ l) zero a p q r = ((λ n. absurd (n q)), free_clear e x.slot l (sym r) a.0)
stands_clear e (x ∷ l) (suc i) a p q r =
    ((λ n k. all-at (λ (e : Meta). ¬ (e.slot ≡ x.slot)) no_meta l i a.0 (le_of_suc-le-suc p) (r ∙ sym k)), stands_clear e l i a.1 (le_of_suc-le-suc p) q r)

apart-put : (e : Meta) (l : List Meta) → Ascending meta_id l → Clear e l → Apart l → Apart (insert meta_id e l)
unfolding insert
apart-put e [] a c h = (tt, tt)
apart-put e (x ∷ l) a c h =
    by_order e.id x.id
    (λ lt. rw (insert_lt meta_id e x l lt) (clear_free e (x ∷ l) (lt, above_less meta_id l (omega arith) a.0) c, h))
    (λ eq. rw (insert_eq meta_id e x l eq) (clear_free e l (above_less meta_id l (omega arith) a.0) c.1, h.1))
    (λ gt. rw (insert_gt meta_id e x l gt) (all_insert (λ (y : Meta). ¬ (y.slot ≡ x.slot)) meta_id e l (λ k. c.0 (omega arith) (sym k)) h.0, apart-put e l a.1 c.1 h.1))

seen-put : (m m' : List ℕ) (e : Meta) (l : List Meta) → OnlySlot e.slot m m' → Ascending meta_id l → Fit l → Clear e l
    → map (seen m') (insert meta_id e l) ≡ insert id_of (seen m' e) (map (seen m) l)
unfolding insert
seen-put m m' e [] o a f c = refl
seen-put m m' e (x ∷ l) o a f c =
    by_order e.id x.id
    (λ lt. rw (insert_lt meta_id e x l lt, insert_lt id_of (seen m' e) (seen m x) (map (seen m) l) lt)
    (ap (λ (r : List Entry). seen m' e ∷ r) (seen-others m m' e.slot o (x ∷ l) f (clear_free e (x ∷ l) (lt, above_less meta_id l (omega arith) a.0) c))))
    (λ eq. rw (insert_eq meta_id e x l eq, insert_eq id_of (seen m' e) (seen m x) (map (seen m) l) eq)
    (ap (λ (r : List Entry). seen m' e ∷ r) (seen-others m m' e.slot o l f.1 (clear_free e l (above_less meta_id l (omega arith) a.0) c.1))))
    (λ gt. rw (insert_gt meta_id e x l gt, insert_gt id_of (seen m' e) (seen m x) (map (seen m) l) gt)
    (let q : seen m' x ≡ seen m x = seen_meta m m' x (other-slot m m' data_limit e.slot x.slot x.len o f.0.1 (c.0 (omega arith))) in
    let r : map (seen m') (insert meta_id e l) ≡ insert id_of (seen m' e) (map (seen m) l) = seen-put m m' e l o a.1 f.1 c.1 in
    cc))

-- ---- found

pub live-length : (t : Table) → Arranged t → length (live t) ≡ t.count
live-length t k = simp length-take (omega arith)

live_at : (t : Table) (i : ℕ) → i < t.count → get_or (live t) i no_meta ≡ meta_at t i
live_at t i p = get_or-take t.count t.entries i no_meta p

-- the identifiers ascend from place to place
ids-rise : (l : List Meta) (i j : ℕ) → Ascending meta_id l → i < j → j < length l → (get_or l i no_meta).id < (get_or l j no_meta).id
ids-rise [] i j a p q = absurd (not-suc-le-zero q)
ids-rise (x ∷ l) i zero a p q = absurd (not-suc-le-zero p)
ids-rise (x ∷ l) zero (suc j) a p q = above_at meta_id no_meta x.id l j a.0 (le_of_suc-le-suc q)
ids-rise (x ∷ l) (suc i) (suc j) a p q = ids-rise l i j a.1 (le_of_suc-le-suc p) (le_of_suc-le-suc q)

module _ (t : Table) (k : Arranged t) (id : ℕ) where
  -- so do the answers of their comparisons with one identifier, as a binary search asks
  comparisons-rise : IsNonDecreasingBy (λ (e : Meta). ordering_index (nat_cmp e.id id)) (live t)
  comparisons-rise = IsNonDecreasingBy-from_default (λ (e : Meta). ordering_index (nat_cmp e.id id)) (live t) no_meta
      (λ i j p q.
      let r : (get_or (live t) i no_meta).id ≤ (get_or (live t) j no_meta).id =
      by_order i j (λ l. let s = ids-rise (live t) i j k.ascending l q in omega arith) (λ e. rw e (omega arith)) (λ g. absurd (omega arith)) in
      grind (arith, nat_tests))

  -- the binary search ends at the node, or where it would stand
  pub finding : (r : Result ℕ ℕ) → IsSearchInRange r (length (live t)) → IsBinarySearchResult (λ (e : Meta). nat_cmp e.id id) (live t) r → Finding t id r
  finding (Ok i) b e =
      let p : i < t.count = rw (live-length t k) at b in
      record { at = p; named = rw (live_at t i p) at (ranked _ id _ (sym (e no_meta))) }
  finding (Err i) b e =
      let p : i ≤ t.count = rw (live-length t k) at b in
      let parted = e comparisons-rise in
      record {
        at = p;
        below = λ j l. rw (live_at t j (omega arith)) at (ranked _ id _ (sym (parted.0 j no_meta (omega (arith, b)) l)));
        above = λ l. rw (live_at t i l) at (ranked _ id _ (sym (parted.1 i no_meta (omega arith) (rw (live-length t k) l))));
      }

-- ---- digests

hashed_meta : (m m' : List ℕ) (e : Meta) → data_of m' e ≡ data_of m e → e.hash ≡ hash16 (data_of m e) → e.hash ≡ hash16 (data_of m' e)
hashed_meta m m' e q h = h ∙ ap hash16 (sym q)

hashed-others : (m m' : List ℕ) (s : ℕ) → OnlySlot s m m' → (l : List Meta) → Fit l → Free s l → Hashed m l → Hashed m' l
hashed-others m m' s o [] f g h = tt
hashed-others m m' s o (e ∷ l) f g h =
    (hashed_meta m m' e (other-slot m m' data_limit s e.slot e.len o f.0.1 g.0) h.0, hashed-others m m' s o l f.1 g.1 h.1)

hashed-put : (m m' : List ℕ) (e : Meta) (l : List Meta) → OnlySlot e.slot m m' → Ascending meta_id l → Fit l → Clear e l → e.hash ≡ hash16 (data_of m' e) → Hashed m l
    → Hashed m' (insert meta_id e l)
unfolding insert
hashed-put m m' e [] o a f c q h = (q, tt)
hashed-put m m' e (x ∷ l) o a f c q h =
    by_order e.id x.id
    (λ lt. rw (insert_lt meta_id e x l lt)
    (q, hashed-others m m' e.slot o (x ∷ l) f (clear_free e (x ∷ l) (lt, above_less meta_id l (omega arith) a.0) c) h))
    (λ eq. rw (insert_eq meta_id e x l eq)
    (q, hashed-others m m' e.slot o l f.1 (clear_free e l (above_less meta_id l (omega arith) a.0) c.1) h.1))
    (λ gt. rw (insert_gt meta_id e x l gt)
    (hashed_meta m m' x (other-slot m m' data_limit e.slot x.slot x.len o f.0.1 (c.0 (omega arith))) h.0, hashed-put m m' e l o a.1 f.1 c.1 q h.1))

-- ---- where an entry goes in

-- what is known of a node that is held
pub meta_found : (t : Table) → Arranged t → (x : Meta) → In x (live t) → meta_of t x.id ≡ some x
meta_found t k x m =
    by_find meta_id x.id (live t) (λ h. absurd (find_none meta_id x.id x (live t) h m refl))
    (λ y h. let r = find-some meta_id x.id y (live t) h in h ∙ ap some (one_each meta_id y x (live t) k.ascending r.0 m r.1))

pub stands-found : (t : Table) (id i : ℕ) → Arranged t → Stands t id i → meta_of t id ≡ some (meta_at t i)
stands-found t id i k s =
    find_at meta_id no_meta id (live t) i k.ascending (rw (live-length t k) s.at) (ap meta_id (live_at t i s.at) ∙ s.named) ∙ ap some (live_at t i s.at)

above-none : (n : ℕ) (l : List Meta) → Above meta_id n l → find meta_id n l ≡ none
unfolding find
above-none n [] h = refl
above-none n (x ∷ l) h = find_no meta_id n x l (omega arith) ∙ above-none n l h.1

gap_none : (n : ℕ) (l : List Meta) (i : ℕ) → Ascending meta_id l → ((j : ℕ) → j < i → j < length l → (get_or l j no_meta).id < n) → (i < length l → n < (get_or l i no_meta).id) → find meta_id n l ≡ none
unfolding find
gap_none n [] i a f g = refl
gap_none n (x ∷ l) zero a f g =
    let p : n < x.id = g (suc-le-suc zero-le) in
    find_no meta_id n x l (omega arith) ∙ above-none n l (above_less meta_id l (omega arith) a.0)
gap_none n (x ∷ l) (suc i) a f g =
    let p : x.id < n = f 0 (suc-le-suc zero-le) (suc-le-suc zero-le) in
    find_no meta_id n x l (omega arith) ∙ gap_none n l i a.1 (λ j q r. f (suc j) (suc-le-suc q) (suc-le-suc r)) (λ q. g (suc-le-suc q))

gap_found : (t : Table) (id i : ℕ) → Arranged t → Gap t id i → meta_of t id ≡ none
gap_found t id i k g =
    gap_none id (live t) i k.ascending (λ j p q. rw (live_at t j (rw (live-length t k) at q)) (g.below j p))
    (λ p. rw (live_at t i (rw (live-length t k) at p)) (g.above (rw (live-length t k) at p)))

pub live-over : (t : Table) (i : ℕ) (e : Meta) → Arranged t → Stands t e.id i → live (with_meta t i e) ≡ insert meta_id e (live t)
live-over t i e k s =
    take-set-lt t.count t.entries i e s.at
    ∙ sym (insert-over meta_id no_meta e (live t) i k.ascending (rw (live-length t k) s.at) (ap meta_id (live_at t i s.at) ∙ s.named))

take-insert : {A : Type 0} (l : List A) (i n : ℕ) (e : A) → i ≤ n → take (suc n) (take i l ++ (e ∷ drop i l)) ≡ take i (take n l) ++ (e ∷ drop i (take n l))
take-insert l zero n e p = refl
take-insert l (suc i) zero e p = absurd (not-suc-le-zero p)
take-insert [] (suc i) (suc n) e p = refl
take-insert (x ∷ l) (suc i) (suc n) e p = ap (λ (z : List _). x ∷ z) (take-insert l i n e (le_of_suc-le-suc p))

pub live_new : (t : Table) (i : ℕ) (e : Meta) → Arranged t → t.count < 32 → Gap t e.id i → live (inserted t i e) ≡ insert meta_id e (live t)
live_new t i e k l g =
    let n : length (take (t.count + 1) (take i t.entries ++ (e ∷ drop i t.entries))) ≡ t.count + 1 = ins_long in
    take_at (take (t.count + 1) (take i t.entries ++ (e ∷ drop i t.entries))) (drop (t.count + 1) t.entries) (t.count + 1) n
    ∙ rw add-one (take-insert t.entries i t.count e g.at)
    ∙ sym (insert-between meta_id no_meta e (live t) i (rw (live-length t k) g.at)
    (λ j p. rw (live_at t j (omega (arith, g.at))) (g.below j p)) (λ p. rw (live_at t i (rw (live-length t k) at p)) (g.above (rw (live-length t k) at p))))
  where
    ins_long : length (take (t.count + 1) (take i t.entries ++ (e ∷ drop i t.entries))) ≡ t.count + 1
    ins_long = let w : length t.entries ≡ 32 = k.wide in let p : i ≤ t.count = g.at in simp (length-take, length-append, length-drop) (omega arith)

-- ---- an entry put in: the invariant and the view

module _ (t r : Table) (e : Meta) (k : Arranged t) (most : r.count ≤ most_nodes) (wide : length r.entries ≡ most_nodes) (q : live r ≡ insert meta_id e (live t)) (f : FitMeta e) (c : Clear e (live t)) where
  pub arranged-put : Arranged r
  arranged-put =
      record {
        most = most;
        wide = wide;
        ascending = rw q (insert-ascending meta_id e (live t) k.ascending);
        fit = rw q (all_insert FitMeta meta_id e (live t) f k.fit);
        apart = rw q (apart-put e (live t) k.ascending c k.apart);
      }

  pub view_put : (m m' : List ℕ) → OnlySlot e.slot m m' → view r m' ≡ put (seen m' e) (view t m)
  unfolding view put
  view_put m m' o = rw q (seen-put m m' e (live t) o k.ascending k.fit c)

  pub hashes_put : (m m' : List ℕ) → OnlySlot e.slot m m' → e.hash ≡ hash16 (data_of m' e) → Hashed m (live t) → Hashed m' (live r)
  hashes_put m m' o h g = rw q (hashed-put m m' e (live t) o k.ascending k.fit c h g)

-- the others keep their slots, and its own node the one that it had
slots-put : (t r : Table) (e : Meta) → live r ≡ insert meta_id e (live t) → ((x : Meta) → meta_of t e.id ≡ some x → e.slot ≡ x.slot) → SlotsStay t r
slots-put t r e q u n x h =
    by_test (eqb e.id n)
    (λ b. let p : e.id ≡ n = eqb-true e.id n b in (e, rw (← p, q) (find-inserted meta_id e (live t)), u x (rw p h)))
    (λ b. (x, rw q (find-other meta_id n e (live t) (eqb-false e.id n b)) ∙ h, refl))

-- written into its slot
module _ (t r : Table) (m : List ℕ) (e : Meta) (d : List ℕ) (i : ℕ) (k : Kept t m) (most : r.count ≤ most_nodes) (wide : length r.entries ≡ most_nodes)
    (q : live r ≡ insert meta_id e (live t)) (f : FitMeta e) (c : Clear e (live t)) (n : e.len ≡ length d) (h : e.hash ≡ hash16 d) (b : i < r.count) (s : meta_at r i ≡ e)
    (u : (x : Meta) → meta_of t e.id ≡ some x → e.slot ≡ x.slot) where
  there : data_of (written m (e.slot * data_limit) d) e ≡ d
  there = rw n (written-there m d (e.slot * data_limit) (omega (arith, f.0, f.1, k.room)))

  pub stored : Stored (entry_of e.id e.seq d (stamp e.age e.since)) t m i r (written m (e.slot * data_limit) d)
  stored =
      let o : OnlySlot e.slot m (written m (e.slot * data_limit) d) = written_outside m d (e.slot * data_limit) data_limit (omega (arith, f.0, k.room)) (omega (arith, f.1)) in
      record {
        kept =
            record {
              arranged = arranged-put t r e k.arranged most wide q f c;
              room = rw (written-length m d (e.slot * data_limit) (omega (arith, f.0, f.1, k.room))) k.room;
              hashed = hashes_put t r e k.arranged most wide q f c m (written m (e.slot * data_limit) d) o (h ∙ ap hash16 (sym there)) k.hashed;
            };
        viewed = view_put t r e k.arranged most wide q f c m (written m (e.slot * data_limit) d) o ∙ ap (λ (z : List ℕ). put (entry_of e.id e.seq z (stamp e.age e.since)) (view t m)) there;
        stands = record { at = b; named = ap meta_id s };
        memory = ap (λ (z : Meta). written m (z.slot * data_limit) d) (sym s);
        slots = slots-put t r e q u;
        beyond = written-above m d (e.slot * data_limit) (omega (arith, f.0, f.1, k.room)) table_bytes (omega (arith, f.0, f.1));
      }

-- what is known of the node of the entry at place i has that entry's slot
slot_had : (t : Table) (e : Meta) (i : ℕ) → Arranged t → Stands t e.id i → e.slot ≡ (meta_at t i).slot → (x : Meta) → meta_of t e.id ≡ some x → e.slot ≡ x.slot
slot_had t e i k s q x h = let z : meta_at t i ≡ x = cc (stands-found t e.id i k s) in q ∙ ap (λ (y : Meta). y.slot) z

-- over the entry of its node
pub stored-over : (t : Table) (m : List ℕ) (e : Meta) (d : List ℕ) (i : ℕ) → Kept t m → Stands t e.id i → e.slot ≡ (meta_at t i).slot → e.len ≡ length d → length d ≤ data_limit → e.hash ≡ hash16 d
    → Stored (entry_of e.id e.seq d (stamp e.age e.since)) t m i (with_meta t i e) (written m (e.slot * data_limit) d)
stored-over t m e d i k s q n l h =
    let b : i < length (live t) = rw (live-length t k.arranged) s.at in
    let w : i < length t.entries = omega (arith, k.arranged.wide, k.arranged.most, s.at) in
    let f : FitMeta (meta_at t i) = rw (live_at t i s.at) at (all-at FitMeta no_meta (live t) i k.arranged.fit b) in
    stored t (with_meta t i e) m e d i k k.arranged.most (length-set t.entries i e ∙ k.arranged.wide) (live-over t i e k.arranged s) (omega (arith, f.0), omega arith)
    (stands_clear e (live t) i k.arranged.apart b (ap meta_id (live_at t i s.at) ∙ s.named) (ap (λ (x : Meta). x.slot) (live_at t i s.at) ∙ sym q)) n h
    s.at (get_or-set_same t.entries i e no_meta w) (slot_had t e i k.arranged s q)

-- a new one, in a free slot
pub stored_new : (t : Table) (m : List ℕ) (e : Meta) (d : List ℕ) (i : ℕ) → Kept t m → t.count < 32 → Gap t e.id i → e.slot < 32 → Free e.slot (live t) → e.len ≡ length d → length d ≤ data_limit → e.hash ≡ hash16 d
    → Stored (entry_of e.id e.seq d (stamp e.age e.since)) t m i (inserted t i e) (written m (e.slot * data_limit) d)
stored_new t m e d i k p g s free n l h =
    stored t (inserted t i e) m e d i k (omega arith) long (live_new t i e k.arranged p g) (s, omega arith) (free_clear e e.slot (live t) refl free) n h (omega (arith, g.at)) there
    (λ x q. let z : ◌≡◌ {A = ℕ} 0 1 = cc (gap_found t e.id i k.arranged g) in omega arith)
  where
    long : length (inserted t i e).entries ≡ 32
    long = let w : length t.entries ≡ 32 = k.arranged.wide in let b : i ≤ t.count = g.at in simp (length-append, length-take, length-drop) (omega arith)

    there : get_or (inserted t i e).entries i no_meta ≡ e
    there =
        let w : length t.entries ≡ 32 = k.arranged.wide in let b : i ≤ t.count = g.at in
        get_or-append (take (t.count + 1) (take i t.entries ++ (e ∷ drop i t.entries))) (drop (t.count + 1) t.entries) no_meta i (simp (length-append, length-take, length-drop) (omega arith))
        ∙ get_or-take (t.count + 1) (take i t.entries ++ (e ∷ drop i t.entries)) i no_meta (omega arith)
        ∙ get_or_at (take i t.entries) e (drop i t.entries) no_meta i (length-take-le i t.entries (omega arith))

-- with the data as they were
pub renumbered : (t : Table) (e : Meta) (i : ℕ) → Arranged t → Stands t e.id i → e.slot ≡ (meta_at t i).slot → e.len ≡ (meta_at t i).len → e.hash ≡ (meta_at t i).hash
    → Renumbered e.id e.seq e.age e.since t i (with_meta t i e)
renumbered t e i k s q n h =
    record {
      arranged = arranged-put t (with_meta t i e) e k k.most wide (live-over t i e k s) f c;
      kept = λ m g.
          record {
            arranged = arranged-put t (with_meta t i e) e k k.most wide (live-over t i e k s) f c;
            room = g.room;
            hashed = hashes_put t (with_meta t i e) e k k.most wide (live-over t i e k s) f c m m (same_outside m (e.slot * data_limit) data_limit) (h ∙ hashed_at m g ∙ ap hash16 (sym (same m))) g.hashed;
          };
      viewed = λ m.
          view_put t (with_meta t i e) e k k.most wide (live-over t i e k s) f c m m (same_outside m (e.slot * data_limit) data_limit)
          ∙ ap (λ (z : List ℕ). put (entry_of e.id e.seq z (stamp e.age e.since)) (view t m)) (same m);
      slots = slots-put t (with_meta t i e) e (live-over t i e k s) (slot_had t e i k s q);
    }
  where
    b : i < length (live t)
    b = rw (live-length t k) s.at

    wide : length (set t.entries i e) ≡ 32
    wide = length-set t.entries i e ∙ k.wide

    f : FitMeta e
    f = let g : FitMeta (meta_at t i) = rw (live_at t i s.at) at (all-at FitMeta no_meta (live t) i k.fit b) in (omega (arith, g.0), omega (arith, g.1))

    c : Clear e (live t)
    c = stands_clear e (live t) i k.apart b (ap meta_id (live_at t i s.at) ∙ s.named) (ap (λ (x : Meta). x.slot) (live_at t i s.at) ∙ sym q)

    same : (m : List ℕ) → data_of m e ≡ data_of m (meta_at t i)
    same m = rw (q, n)

    hashed_at : (m : List ℕ) → Kept t m → (meta_at t i).hash ≡ hash16 (data_of m (meta_at t i))
    hashed_at m g = rw (live_at t i s.at) at (all-at (λ (e : Meta). e.hash ≡ hash16 (data_of m e)) no_meta (live t) i g.hashed b)

-- ---- one entry read, one carried up

pub meta_read : (t : Table) (i : ℕ) → Arranged t → i < t.count → Read t i (meta_at t i)
meta_read t i k p =
    let f : FitMeta (meta_at t i) = rw (live_at t i p) at (all-at FitMeta no_meta (live t) i k.fit (rw (live-length t k) p)) in
    record { same = refl; long = refl; low = f.0; short = f.1 }

-- ---- what the functions leave

module _ (t r : Table) (m m' d : List ℕ) (i : ℕ) (v : Version) (e : Meta) (slot at : ℕ) (hash : List ℕ) (k : Kept t m) (l : length d ≤ data_limit) (h : hash ≡ hash16 d)
    (q : e ≡ entry_in v slot (length d) hash) (a : at ≡ e.slot * data_limit) (w : m' ≡ written m at d) where
  pub replaced : (old : Meta) → Read t i old → slot ≡ old.slot → Stands t v.id i → r ≡ with_meta t i e → Stored (version_of v d) t m i r m'
  replaced old o p s x =
      rw (w, a, x, q) (stored-over t m (entry_in v slot (length d) hash) d i k s (p ∙ ap (λ (x : Meta). x.slot) o.same) refl l h)

  pub added : t.count < 32 → Gap t v.id i → slot < 32 → Free slot (live t) → r ≡ inserted t i e → Stored (version_of v d) t m i r m'
  added p g s f x = rw (w, a, x, q) (stored_new t m (entry_in v slot (length d) hash) d i k p g s f refl l h)

-- data changed in place, and the digest taken from there
pub edited : (t r : Table) (m m' : List ℕ) (i : ℕ) (v : Version) (e : Meta) (len at : ℕ) (hash : List ℕ) (old : Meta) → Kept t m → Stands t v.id i → Read t i old → at ≡ old.slot * data_limit
    → hash ≡ hash16 (take (at + len - at) (drop at m')) → e ≡ entry_in v old.slot len hash → r ≡ with_meta t i e
    → (d : List ℕ) → length d ≡ len → len ≤ data_limit → m' ≡ written m ((meta_at t i).slot * data_limit) d → Stored (version_of v d) t m i r m'
edited t r m m' i v e len at hash old k s o a h f x d n l w =
    let u : m' ≡ written m at d = w ∙ ap (λ (x : Meta). written m (x.slot * data_limit) d) (sym o.same) ∙ ap (λ (x : ℕ). written m x d) (sym a) in
    replaced t r m m' d i v e old.slot at hash k (omega arith)
    (h ∙ ap hash16 (part-there m m' d at (at + len - at) u (omega arith) (omega (arith, o.low, k.room))))
    (f ∙ ap (λ (x : ℕ). entry_in v old.slot x hash) (sym n)) (a ∙ ap (λ (x : Meta). x.slot * data_limit) (sym f)) u old o refl s x

-- bytes put in, or taken out: what is published then
module _ (t r : Table) (m m' : List ℕ) (i : ℕ) (v : Version) (p at len : ℕ) (old : Meta) (k : Kept t m) (o : Read t i old) (a : at ≡ old.slot * data_limit) (l : len ≡ old.len) where
  abbrev Publishes : ℕ → Type 0
  Publishes n = (x d : List ℕ) → Kept t x → length d ≡ n → m' ≡ written x ((meta_at t i).slot * data_limit) d → Stored (version_of v d) t x i r m'

  -- in the terms of the entry that was read
  in_place : (f : List ℕ → List ℕ) (n : ℕ) → length (f (part m (old.slot * data_limit) old.len)) ≡ n
      → m' ≡ written m at (f (part m at len)) → Publishes n
      → Stored (version_of v (f (data_of m (meta_at t i)))) t m i r m'
  in_place f n h w e =
      subst (λ (x : Meta). Stored (version_of v (f (data_of m x))) t m i r m') o.same
      (e m (f (part m (old.slot * data_limit) old.len)) k h
      (w ∙ ap (λ (x : ℕ). written m at (f (part m at x))) l ∙ ap (λ (x : ℕ). written m x (f (part m x old.len))) a ∙ ap (λ (x : Meta). written m (x.slot * data_limit) (f (part m (old.slot * data_limit) old.len))) o.same))

  pub spliced_in : (b : List ℕ) → p ≤ (meta_at t i).len → m' ≡ written m at (spliced (part m at len) p b)
      → Publishes (len + length b) → Stored (version_of v (spliced (data_of m (meta_at t i)) p b)) t m i r m'
  spliced_in b q w =
      in_place (λ (d : List ℕ). spliced d p b) (len + length b)
      (rw l (spliced-length m (old.slot * data_limit) old.len p (omega (arith, o.low, o.short, k.room)) b (omega (arith, o.long)))) w

  pub cut_out : (n : ℕ) → p + n ≤ (meta_at t i).len → m' ≡ written m at (cut (part m at len) p n)
      → Publishes (len - n) → Stored (version_of v (cut (data_of m (meta_at t i)) p n)) t m i r m'
  cut_out n q w =
      in_place (λ (d : List ℕ). cut d p n) (len - n)
      (rw l (cut-length m (old.slot * data_limit) old.len p (omega (arith, o.low, o.short, k.room)) n (omega (arith, o.long)))) w

pub renumbered_by : (t r : Table) (i id seq age since : ℕ) (old : Meta) → Arranged t → Stands t id i → Read t i old
    → r ≡ with_meta t i (record { id = id; seq = seq; age = age; len = old.len; slot = old.slot; since = since; hash = old.hash }) → Renumbered id seq age since t i r
renumbered_by t r i id seq age since old k s o e =
    rw e
    (renumbered t (record { id = id; seq = seq; age = age; len = old.len; slot = old.slot; since = since; hash = old.hash }) i k s
    (ap (λ (x : Meta). x.slot) o.same) (ap (λ (x : Meta). x.len) o.same) (ap (λ (x : Meta). x.hash) o.same))

pub length_mapped : {X Y : Type 0} (f : X → Y) (l : List X) (n : ℕ) → length (map f l) ≡ n → length l ≡ n
length_mapped f l n p = sym (length-map l f) ∙ p

-- ---- a free slot

In-at : (l : List Meta) (k : ℕ) → k < length l → In (get_or l k no_meta).slot (map (λ (e : Meta). e.slot) l)
In-at [] k p = absurd (not-suc-le-zero p)
In-at (e ∷ l) zero p = inl refl
In-at (e ∷ l) (suc k) p = inr (In-at l k (le_of_suc-le-suc p))

pub all-used : (t : Table) (n : ℕ) → Arranged t → t.count < n → ((u : ℕ) → u < n → SlotUsed t u true) → ⊥
all-used t n k p f =
    let l : n ≤ length (map (λ (e : Meta). e.slot) (live t)) =
    pigeons n (map (λ (e : Meta). e.slot) (live t))
    (λ u q. let w = f u q in
    subst (λ (z : ℕ). In z (map (λ (e : Meta). e.slot) (live t))) (ap (λ (e : Meta). e.slot) (live_at t w.0 w.1.0) ∙ w.1.1) (In-at (live t) w.0 (rw (live-length t k) w.1.0))) in
    omega (arith, length-map (live t) (λ (e : Meta). e.slot), live-length t k)

free-from : (s : ℕ) (l : List Meta) → ((k : ℕ) → k < length l → ¬ ((get_or l k no_meta).slot ≡ s)) → Free s l
free-from s [] f = tt
free-from s (e ∷ l) f = (f 0 (suc-le-suc zero-le), free-from s l (λ k p. f (suc k) (suc-le-suc p)))

pub unused_free : (t : Table) (s : ℕ) → Arranged t → SlotUsed t s false → Free s (live t)
unused_free t s k f = free-from s (live t) (λ j p. let q : j < t.count = rw (live-length t k) at p in rw (live_at t j q) (f j q))

-- the entries from a place on moved up, and one put in there
pub moved_up : (l : List Meta) (i n : ℕ) (e : Meta) → i ≤ n → n < length l → set (copy_within l i n (i + 1)) i e ≡ take (n + 1) (take i l ++ (e ∷ drop i l)) ++ drop (n + 1) l
moved_up l i n e p q = ap (λ (x : List Meta). set x i e) before ∙ set_at (take i l) (get_or l i no_meta) _ e i long ∙ sym after
  where
    long : length (take i l) ≡ i
    long = length-take-le i l (omega arith)

    before : copy_within l i n (i + 1) ≡ take i l ++ (get_or l i no_meta ∷ (take (n - i) (drop i l) ++ drop (n + 1) l))
    before =
        let w : i + 1 + (n - i) ≡ n + 1 = omega arith in
        rw (w, add-one i, take-suc l i no_meta (omega arith))
        (append_assoc (take i l ++ (get_or l i no_meta ∷ [])) (take (n - i) (drop i l)) (drop (n + 1) l) ∙ append_assoc (take i l) (get_or l i no_meta ∷ []) (take (n - i) (drop i l) ++ drop (n + 1) l))

    after : take (n + 1) (take i l ++ (e ∷ drop i l)) ++ drop (n + 1) l ≡ take i l ++ (e ∷ (take (n - i) (drop i l) ++ drop (n + 1) l))
    after =
        let w : n + 1 ≡ length (take i l) + suc (n - i) = rw long (omega arith) in
        ap (λ (x : List Meta). x ++ drop (n + 1) l) (ap (λ (k : ℕ). take k (take i l ++ (e ∷ drop i l))) w ∙ take-append-add (take i l) (e ∷ drop i l) (suc (n - i)))
        ∙ append_assoc (take i l) (e ∷ take (n - i) (drop i l)) (drop (n + 1) l)

-- ---- entries kept by mark

above-keep : (n : ℕ) (bs : List Bool) (l : List Meta) → Above meta_id n l → Above meta_id n (keep_by bs l)
above-keep n [] l h = tt
above-keep n (b ∷ bs) [] h = tt
above-keep n (true ∷ bs) (e ∷ l) h = (h.0, above-keep n bs l h.1)
above-keep n (false ∷ bs) (e ∷ l) h = above-keep n bs l h.1

ascending-keep : (bs : List Bool) (l : List Meta) → Ascending meta_id l → Ascending meta_id (keep_by bs l)
ascending-keep [] l h = tt
ascending-keep (b ∷ bs) [] h = tt
ascending-keep (true ∷ bs) (e ∷ l) h = (above-keep e.id bs l h.0, ascending-keep bs l h.1)
ascending-keep (false ∷ bs) (e ∷ l) h = ascending-keep bs l h.1

apart-keep : (bs : List Bool) (l : List Meta) → Apart l → Apart (keep_by bs l)
apart-keep [] l h = tt
apart-keep (b ∷ bs) [] h = tt
apart-keep (true ∷ bs) (e ∷ l) h = (all_keep_by (λ (y : Meta). ¬ (y.slot ≡ e.slot)) bs l h.0, apart-keep bs l h.1)
apart-keep (false ∷ bs) (e ∷ l) h = apart-keep bs l h.1

seen-keep : (m : List ℕ) (bs : List Bool) (l : List Meta) → map (seen m) (keep_by bs l) ≡ keep_by bs (map (seen m) l)
seen-keep m [] l = refl
seen-keep m (b ∷ bs) [] = refl
seen-keep m (true ∷ bs) (e ∷ l) = ap (λ (z : List Entry). seen m e ∷ z) (seen-keep m bs l)
seen-keep m (false ∷ bs) (e ∷ l) = seen-keep m bs l

pub purged : (bs : List Bool) (t r : Table) → Arranged t → r.count ≤ 32 → length r.entries ≡ 32 → live r ≡ keep_by bs (live t) → Purged bs t r
unfolding view
purged bs t r k most wide q =
    record {
      slots = λ n x h. let w = find-some meta_id n x (live r) h in (x, ap (meta_of t) (sym w.1) ∙ meta_found t k x (in_keep_by bs (live t) x (rw (← q) w.0)), refl);
      arranged = arranged;
      kept = λ m g. record { arranged = arranged; room = g.room; hashed = rw q (all_keep_by (λ (e : Meta). e.hash ≡ hash16 (data_of m e)) bs (live t) g.hashed) };
      viewed = viewed;
    }
  where
    arranged : Arranged r
    arranged =
        record {
          most = most;
          wide = wide;
          ascending = rw q (ascending-keep bs (live t) k.ascending);
          fit = rw q (all_keep_by FitMeta bs (live t) k.fit);
          apart = rw q (apart-keep bs (live t) k.apart);
        }

    viewed : (m : List ℕ) → view r m ≡ keep_by bs (view t m)
    viewed m = rw q (seen-keep m bs (live t))

-- none is left
pub keep_end : (ns : List Meta) (j : ℕ) (bs : List Bool) (l : List Meta) → (length l ≡ 0) ⊎ (length bs ≡ 0) → take j ns ++ keep_by bs l ≡ take j ns
keep_end ns j [] l h = append-nil (take j ns)
keep_end ns j (b ∷ bs) [] h = append-nil (take j ns)
keep_end ns j (b ∷ bs) (e ∷ l) (inl p) = absurd (omega arith)
keep_end ns j (b ∷ bs) (e ∷ l) (inr p) = absurd (omega arith)

-- ---- found, in the model

module _ (t : Table) (k : Arranged t) where
  pub look_gap : (id i : ℕ) (m : List ℕ) → Gap t id i → look id (view t m) ≡ none
  unfolding look view
  look_gap id i m g = find-map (seen m) id_of id (live t) ∙ rw (gap_found t id i k g)

  pub look-stands : (id i : ℕ) (m : List ℕ) → Stands t id i → look id (view t m) ≡ some (seen m (meta_at t i))
  unfolding look view
  look-stands id i m s =
      let b : i < length (live t) = rw (live-length t k) s.at in
      let l : i < length (map (seen m) (live t)) = rw (length-map (live t) (seen m)) b in
      let e : get_or (map (seen m) (live t)) i (seen m no_meta) ≡ seen m (meta_at t i) = get_or-map (seen m) (live t) i no_meta ∙ ap (seen m) (live_at t i s.at) in
      find_at id_of (seen m no_meta) id (map (seen m) (live t)) i (seen-ascending m (live t) k.ascending) l (ap id_of e ∙ s.named) ∙ ap some e

  pub view-length : (m : List ℕ) → length (view t m) ≡ t.count
  unfolding view
  view-length m = length-map (live t) (seen m) ∙ live-length t k

  pub view-at : (m : List ℕ) (i : ℕ) → i < t.count → get_or (view t m) i (seen m no_meta) ≡ seen m (meta_at t i)
  unfolding view
  view-at m i p = get_or-map (seen m) (live t) i no_meta ∙ ap (seen m) (live_at t i p)

  -- what holds of every entry holds of the one at place i
  pub view-each : (P : Entry → Type 0) (m : List ℕ) (i : ℕ) → All P (view t m) → i < t.count → P (seen m (meta_at t i))
  view-each P m i h p = subst P (view-at m i p) (all-at P (seen m no_meta) (view t m) i h (rw (view-length m) p))

  pub view-ascending : (m : List ℕ) → Ascending id_of (view t m)
  unfolding view
  view-ascending m = seen-ascending m (live t) k.ascending

pub data_length : (t : Table) (m : List ℕ) (i : ℕ) → Kept t m → i < t.count → (length (data_of m (meta_at t i)) ≡ (meta_at t i).len) × ((meta_at t i).len ≤ data_limit)
data_length t m i k p =
    let f : Read t i (meta_at t i) = meta_read t i k.arranged p in
    (part_length m ((meta_at t i).slot * data_limit) (meta_at t i).len (omega (arith, f.low, f.short, k.room)), f.short)

-- an empty table
pub none-held : (m : List ℕ) (l : List Meta) → table_bytes ≤ length m → length l ≡ most_nodes → Kept (record { count = 0; entries = l }) m × (view (record { count = 0; entries = l }) m ≡ [])
unfolding view
none-held m l h n =
    (record { arranged = record { most = omega arith; wide = n; ascending = tt; fit = tt; apart = tt }; room = h; hashed = tt }, refl)

-- the first entry, with no data
pub begun : (own clock : ℕ) (hash m : List ℕ) (e : Meta) (l : List Meta) → table_bytes ≤ length m → hash ≡ hash16 [] → e ≡ entry_in (version_anew own 0 clock) 0 0 hash → length l ≡ 31
    → Kept (record { count = 1; entries = e ∷ l }) m × (view (record { count = 1; entries = e ∷ l }) m ≡ entry_of own 0 [] (anew clock) ∷ [])
unfolding view
begun own clock hash m e l r h q n =
    rw q (record { arranged = record { most = omega arith; wide = omega arith; ascending = (tt, tt); fit = ((omega arith, omega arith), tt); apart = (tt, tt) }; room = r; hashed = (h, tt) }, refl)

-- what holds of every entry of the model's table
pub all-stored : (P : Entry → Type 0) (e : Entry) (t r : Table) (m m' : List ℕ) (i : ℕ) → Stored e t m i r m' → P e → All P (view t m) → All P (view r m')
unfolding put
all-stored P e t r m m' i s p h = rw s.viewed (all_insert P id_of e (view t m) p h)

-- the digest kept with an entry is that of its data
pub meta_hashed : (t : Table) (m : List ℕ) (i : ℕ) → Kept t m → i < t.count → (meta_at t i).hash ≡ hash16 (data_of m (meta_at t i))
meta_hashed t m i k p =
    subst (λ (e : Meta). e.hash ≡ hash16 (data_of m e)) (live_at t i p)
    (all-at (λ (e : Meta). e.hash ≡ hash16 (data_of m e)) no_meta (live t) i k.hashed (rw (live-length t k.arranged) p))
