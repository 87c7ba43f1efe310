-- Loading entry by entry: the judgement of the whole, and the table as it fills. Assumes nothing.
use mathlib.Core.Path.{◌≡◌, refl, sym, ap, ◌∙◌, subst}
use mathlib.Core.Bool.{Bool, true, false, cond, ◌&&◌, ◌||◌, and-true, and-false, or-false, or-true}
use mathlib.Core.List.{List, [], ◌∷◌, ◌++◌}
use mathlib.Core.Option.{Option, none, some}
use Prim.Native.Nat.{ℕ, ◌+◌, ◌-◌, ◌≤◌, ◌<◌}
use native.Mathlib.Omega.{arith}
use lib.ListN.{length, take, drop, length-take, length-drop, length-append}
use lib.Dec.{eqb}
use borrow.Author.Tests.{eqb-true, eqb-false}
use Rattle.std.specs.Prelude.{Some}
use Rattle.base.specs.Lists.{or_else, cons_to, is_some, All}
use Rattle.base.specs.Sorted.{find}
use Rattle.base.proofs.Tests.{no_way, by_test, by_order}
use Rattle.base.proofs.Lists.{all_more}
use Rattle.base.proofs.Sorted.{find_yes, find_no, insert-last}
use Rattle.model.specs.Figures.{data_limit, table_bytes}
use Rattle.model.specs.Table.{Entry, entry_of, id_of, look, put, stamp}
use Rattle.model.specs.Snapshot.{load_entries, holds_own, load}
use Rattle.model.proofs.Snapshots.{last_end, last_more, onto, onto-start, onto-next, onto_end}
use Rattle.table.specs.declared.Table.{Table}
use Rattle.table.specs.View.{meta_at, view, Kept, Lays, Gap, Stored}
use Rattle.table.proofs.Tables.{view-length, view-each, all-stored}
use Rattle.table.proofs.Laying.{stays_self, kept-wrote, lays_then, stored_one}
use Rattle.snapshot.specs.declared.read.Saved.{Saved}
use Rattle.snapshot.specs.declared.read.Head.{Head}
use Rattle.snapshot.specs.declared.read.Cursor.{Cursor}
use Rattle.snapshot.specs.Answers.{entry_from, EntryAt, Stops, Went, Heads, Holds}

-- ---- one entry, with a number of entries that are left: one fewer after it, or nothing loads

module _ (s : List ℕ) (at low : ℕ) (clock count k : ℕ) (p : k < count) where
  left_on : (e : Saved) → EntryAt s at low e
      → load_entries clock (count - k) low (drop at s) ≡ cons_to (entry_from clock s e) (load_entries clock (count - (k + 1)) (e.node + 1) (drop (e.start + e.size) s))
  left_on e x = let q : count - k ≡ count - (k + 1) + 1 = omega arith in rw q (x.loads clock (count - (k + 1)))

  left_stops : Stops s at low → load_entries clock (count - k) low (drop at s) ≡ none
  left_stops x = let e : count - k ≡ count - (k + 1) + 1 = omega arith in rw e (x clock (count - (k + 1)))

-- none is left: the end, or more bytes
module _ (s : List ℕ) (at low : ℕ) (clock count k : ℕ) (p : count ≤ k) where
  left_end : length s ≤ at → load_entries clock (count - k) low (drop at s) ≡ some []
  left_end h = let e : count - k ≡ 0 = omega arith in rw e (last_end clock low (drop at s) (simp length-drop (omega arith)))

  left_more : at < length s → load_entries clock (count - k) low (drop at s) ≡ none
  left_more h = let e : count - k ≡ 0 = omega arith in rw e (last_more clock low (drop at s) (simp length-drop (omega arith)))

-- ---- the judgement

-- entries load, and our own node is among them if it was not before
unfoldable pub judged : ℕ → Bool → Option (List Entry) → Bool
judged own held none = false
judged own held (some t) = held || is_some (look own t)

some-cond : {X : Type 0} (b : Bool) (x : X) → b ≡ is_some (cond b (some x) none)
some-cond true x = refl
some-cond false x = refl

judged-whole : (own : ℕ) (o : Option (List Entry)) → judged own false o ≡ is_some (or_else o none (holds_own own))
unfolding judged
judged-whole own none = refl
judged-whole own (some t) = some-cond (is_some (look own t)) (record { own = own; entries = t })

judged-none : (own : ℕ) (held : Bool) → judged own held (some []) ≡ held
unfolding judged look find
judged-none own held = or-false held

-- past an entry, of our own node or of another
judged_on : (own : ℕ) (held : Bool) (e : Entry) (o : Option (List Entry)) → judged own held (cons_to e o) ≡ judged own (held || eqb (id_of e) own) o
unfolding judged look
judged_on own held e none = refl
judged_on own held e (some t) =
    by_test (eqb (id_of e) own)
    (λ y. rw (find_yes id_of own e t (eqb-true (id_of e) own y), y, or-true held) refl)
    (λ n. rw (find_no id_of own e t (eqb-false (id_of e) own n), n, or-false held) refl)

-- k entries from place at on are read, up to place `place`; what is left, with what was held so far, is judged as the whole
pub record Judging (s : List ℕ) (at count own place low : ℕ) (held : Bool) (k : ℕ) : Type 0 where
  pub inside : place ≤ length s
  pub same : (clock : ℕ) → judged own held (load_entries clock (count - k) low (drop place s)) ≡ judged own false (load_entries clock count 0 (drop at s))

-- what the code answers
abbrev pub Judged : List ℕ → ℕ → ℕ → ℕ → Bool → Type 0
Judged s at count own r = (clock : ℕ) → r ≡ is_some (or_else (load_entries clock count 0 (drop at s)) none (holds_own own))

pub judging_start : (s : List ℕ) (at count own : ℕ) → at ≤ length s → Judging s at count own at 0 false 0
judging_start s at count own h = record { inside = h; same = λ clock. let e : count - 0 ≡ count = omega arith in rw e }

module _ (s : List ℕ) (at count own place low : ℕ) (held : Bool) (k : ℕ) (j : Judging s at count own place low held k) where
  answer : (b : Bool) → ((clock : ℕ) → judged own held (load_entries clock (count - k) low (drop place s)) ≡ b) → Judged s at count own b
  answer b f clock = sym (f clock) ∙ j.same clock ∙ judged-whole own (load_entries clock count 0 (drop at s))

  pub judged_stops : k < count → Stops s place low → Judged s at count own false
  unfolding judged
  judged_stops p x = answer false (λ clock. ap (judged own held) (left_stops s place low clock count k p x))

  pub judged_end : count ≤ k → Judged s at count own (held && eqb place (length s))
  unfolding judged
  judged_end p =
      by_test (eqb place (length s))
      (λ y. rw (y, and-true held) (answer held (λ clock. ap (judged own held) (left_end s place low clock count k p (omega (arith, eqb-true place (length s) y))) ∙ judged-none own held)))
      (λ n. rw (n, and-false held) (answer false (λ clock. ap (judged own held) (left_more s place low clock count k p (omega (arith, eqb-false place (length s) n, j.inside))))))

  pub judging_next : k < count → (e : Saved) (c : Cursor) → Went s (record { place = place; low = low }) (Some e) c → Judging s at count own c.place c.low (held || eqb e.node own) (k + 1)
  judging_next p e c x =
      rw (x.1.0, x.1.1)
      (record {
        inside = x.0.within;
        same = λ clock.
            sym (judged_on own held (entry_from clock s e) (load_entries clock (count - (k + 1)) (e.node + 1) (drop (e.start + e.size) s)))
            ∙ ap (judged own held) (sym (left_on s place low clock count k p e x.0)) ∙ j.same clock;
      })

-- ---- the table as it fills

-- k entries from place at on are read, up to place `place`, and the table t with its memory m holds them: what it holds, before what is left, is what loads
pub record Filling (clock : ℕ) (s : List ℕ) (at count : ℕ) (m₀ : List ℕ) (t : Table) (m : List ℕ) (place low k : ℕ) : Type 0 where
  pub inside : place ≤ length s
  pub kept : Kept t m
  pub full : t.count ≡ k
  pub below : All (λ e. id_of e < low) (view t m)
  pub same : onto (view t m) (load_entries clock (count - k) low (drop place s)) ≡ load_entries clock count 0 (drop at s)
  pub size : length m ≡ length m₀
  pub beyond : drop table_bytes m ≡ drop table_bytes m₀
  pub lays : Lays m₀ (view t m) t m

pub filling_start : (clock : ℕ) (s : List ℕ) (at count : ℕ) (m : List ℕ) (t : Table) → at ≤ length s → Kept t m × (view t m ≡ []) → Filling clock s at count m t m at 0 0
filling_start clock s at count m t p h =
    let e : count - 0 ≡ count = omega arith in
    record {
      inside = p;
      kept = h.0;
      full = sym (view-length t h.0.arranged m) ∙ ap length h.1;
      below = rw h.1 tt;
      same = rw (h.1, e) (onto-start (load_entries clock count 0 (drop at s)));
      size = refl;
      beyond = refl;
      lays = (kept-wrote t t m (stays_self t) h.0).lays;
    }

module _ (clock : ℕ) (s : List ℕ) (at count : ℕ) (m₀ : List ℕ) (t : Table) (m : List ℕ) (place low k : ℕ) (f : Filling clock s at count m₀ t m place low k) where
  -- the next entry goes in at the end
  module _ (p : k < count) (e : Saved) (c : Cursor) (x : Went s (record { place = place; low = low }) (Some e) c) where
    pub next_gap : Gap t e.node k
    next_gap = record { at = omega (arith, f.full); below = under; above = λ q. absurd (omega (arith, f.full)) }
      where
        under : (j : ℕ) → j < k → (meta_at t j).id < e.node
        under j q =
            let i : j < t.count = omega (arith, f.full) in
            let n : (meta_at t j).id < low = view-each t f.kept.arranged (λ y. id_of y < low) m j f.below i in
            omega (arith, x.0.high)

    next_size : c.place - e.start ≡ e.size
    next_size = omega (arith, x.1.0)

    pub next_short : length (take (c.place - e.start) (drop e.start s)) ≤ data_limit
    next_short = rw next_size (omega (arith, length-take e.size (drop e.start s), x.0.short))

    module _ (r : Table) (m' : List ℕ) (st : Stored (entry_of e.node e.seq (take (c.place - e.start) (drop e.start s)) (stamp e.age clock)) t m k r m') (l : length m' ≡ length m) where
      abbrev new : Entry
      new = entry_from clock s e

      stored_new : Stored new t m k r m'
      stored_new = subst (λ (i : ℕ). Stored (entry_of e.node e.seq (take i (drop e.start s)) (stamp e.age clock)) t m k r m') next_size st

      under_node : (b : ℕ) → e.node ≤ b → All (λ y. id_of y < b) (view t m)
      under_node b q = all_more (λ y. id_of y < low) (λ y. id_of y < b) (λ y n. omega (arith, x.0.high)) (view t m) f.below

      grown : view r m' ≡ view t m ++ (new ∷ [])
      unfolding put
      grown = stored_new.viewed ∙ insert-last id_of new (view t m) (under_node e.node (omega arith))

      laid_on : Lays m₀ (view r m') r m'
      laid_on =
          subst (λ (es : List Entry). Lays m₀ es r m') (sym grown)
          (lays_then t r m₀ (view t m) m (new ∷ []) m' f.lays (stored_one new t r m m' k f.kept stored_new))

      pub filling_next : Filling clock s at count m₀ r m' c.place c.low (k + 1)
      filling_next =
          rw (x.1.0, x.1.1)
          (record {
            inside = x.0.within;
            kept = st.kept;
            full =
                let g = length-append (view t m) (new ∷ []) in
                let i : length (view r m') ≡ length (view t m) + 1 = ap length grown ∙ g in
                omega (arith, view-length r st.kept.arranged m', view-length t f.kept.arranged m, f.full);
            below = all-stored (λ y. id_of y < e.node + 1) new t r m m' k stored_new (omega arith) (under_node (e.node + 1) (omega arith));
            same =
                rw grown
                (sym (onto-next (view t m) new (load_entries clock (count - (k + 1)) (e.node + 1) (drop (e.start + e.size) s)))
                ∙ ap (onto (view t m)) (sym (left_on s place low clock count k p e x.0)) ∙ f.same);
            size = l ∙ f.size;
            beyond = st.beyond ∙ f.beyond;
            lays = laid_on;
          })

  -- what was judged whole does not stop on the way, and ends with the last entry
  module _ (whole : is_some (load_entries clock count 0 (drop at s)) ≡ true) where
    never : {X : Type 0} → load_entries clock (count - k) low (drop place s) ≡ none → X
    never e = no_way (is_some (load_entries clock count 0 (drop at s))) whole (ap is_some (sym f.same ∙ ap (onto (view t m)) e))

    pub never_stops : {X : Type 0} → k < count → Stops s place low → X
    never_stops p x = never (left_stops s place low clock count k p x)

    pub filled : count ≤ k
        → Kept t m × ((load_entries clock count 0 (drop at s) ≡ some (view t m)) × ((length m ≡ length m₀) × ((drop table_bytes m ≡ drop table_bytes m₀) × Lays m₀ (view t m) t m)))
    filled p = (f.kept, (by_order place (length s) (λ q. never (left_more s place low clock count k p q)) (λ q. ends (omega arith)) (λ q. ends (omega arith)), (f.size, (f.beyond, f.lays))))
      where
        ends : length s ≤ place → load_entries clock count 0 (drop at s) ≡ some (view t m)
        ends q = sym f.same ∙ ap (onto (view t m)) (left_end s place low clock count k p q) ∙ onto_end (view t m)

-- ---- the whole

some-not : {X : Type 0} (o : Option X) → is_some o ≡ false → o ≡ none
some-not none e = refl
some-not (some x) e = no_way true refl e

some-before : {X Y : Type 0} (o : Option X) (f : X → Option Y) → is_some (or_else o none f) ≡ true → is_some o ≡ true
some-before none f e = e
some-before (some x) f e = refl

some-chosen : {X : Type 0} (b : Bool) (x : X) → is_some (cond b (some x) none) ≡ true → cond b (some x) none ≡ some x
some-chosen true x e = refl
some-chosen false x e = no_way false e refl

-- what the judgement b of the entries behind the numbers says
module _ (clock : ℕ) (s : List ℕ) (x : Head) (h : Heads s x) (b : Bool) (j : Judged s x.next x.count x.own b) where
  pub judged_no : b ≡ false → load clock s ≡ none
  judged_no e = h.loads clock ∙ some-not (or_else (load_entries clock x.count 0 (drop x.next s)) none (holds_own x.own)) (sym (j clock) ∙ e)

  module _ (e : b ≡ true) where
    pub judged_yes : is_some (load_entries clock x.count 0 (drop x.next s)) ≡ true
    judged_yes = some-before (load_entries clock x.count 0 (drop x.next s)) (holds_own x.own) (sym (j clock) ∙ e)

    module _ (m : List ℕ) (t : Table) (m' : List ℕ)
        (f : Kept t m' × ((load_entries clock x.count 0 (drop x.next s) ≡ some (view t m')) × ((length m' ≡ length m) × ((drop table_bytes m' ≡ drop table_bytes m) × Lays m (view t m') t m')))) where
      loads : load clock s ≡ some (record { own = x.own; entries = view t m' })
      loads =
          let q : or_else (load_entries clock x.count 0 (drop x.next s)) none (holds_own x.own) ≡ holds_own x.own (view t m') = rw f.1.0 in
          h.loads clock ∙ q ∙ some-chosen (is_some (look x.own (view t m'))) (record { own = x.own; entries = view t m' }) (ap is_some (sym q) ∙ sym (j clock) ∙ e)

      pub loaded : Holds clock s m (record { own = x.own; table = t }) m'
      loaded = record { kept = f.0; loads = loads; lays = f.1.1.1.1; size = f.1.1.0; beyond = f.1.1.1.0 }
