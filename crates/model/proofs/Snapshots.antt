-- Saving and loading: what is saved loads again, a snapshot fits its room, and whatever loads was written so. Assumes nothing.
use Rattle.std.proofs.Common.{◌≡◌, ℕ, zero, suc, ◌+◌, ◌-◌, ◌*◌, ◌<◌, ◌≤◌, min, true, false, cond, ◌&&◌, eqb, ltb, leb, List, [], ◌∷◌, ◌++◌, map, length, get_or, take, drop, sym, refl, ap, ◌∙◌, subst, append_assoc, append-nil, add-one, arith, length-append, length-drop, take-append-drop, length-take-le, take-suc, drop-drop, ltb-false, ltb-true, le-ltb, lt-ltb, ne_eqb, eqb-true, le-leb, leb-true}
use mathlib.Core.Option.{Option, none, some, some-injective}
use lib.Seq.{take-append_seam, drop-append_seam}
use borrow.Author.Tests.{lt-leb}
use Rattle.base.specs.Lists.{join_all, or_else, cons_to, is_some, All}
use Rattle.base.specs.Bytes.{Bytes, most_u32}
use Rattle.base.specs.Memory.{written}
use Rattle.base.specs.Sorted.{find, Above, Ascending}
use Rattle.base.proofs.Tests.{no_way, and_left, and_right, and_no, by_test}
use Rattle.base.proofs.Bytes.{bytes_right, bytes_drop}
use Rattle.wire.specs.Order.{good}
use Rattle.wire.specs.Groups.{groups, read_groups}
use Rattle.wire.proofs.Varints.{got, read-written, read-once, groups-length, read-most}
use Rattle.wire.proofs.Good.{good-fits}
use Rattle.model.specs.Figures.{most_nodes, data_limit, most_age, snapshot_bytes}
use Rattle.model.specs.Sequence.{circle}
use Rattle.model.specs.Table.{Entry, entry_of, id_of, age_at, look, stamp}
use Rattle.model.specs.State.{State}
use Rattle.model.specs.Invariant.{EntryFits, SnapshotFits, Valid}
use Rattle.model.specs.Snapshot.{Snapshot, save_entry, saved, reads, load_entries, holds_own, load}
use Rattle.base.proofs.Options.{nothing, cond_yes, cond_no, or_else_some}
use Rattle.base.proofs.Lists.{map_append, join_append, all_take}
use Rattle.base.proofs.Written.{written_five}
use Rattle.model.specs.Theorems.{capped, Snapshots}

-- ---- a number is read, and what is made of it

module _ {X : Type 0} (most : ℕ) (s : List ℕ) (f : ℕ → List ℕ → Option X) where
  pub reads_bad : read_groups most s ≡ none → reads most s f ≡ none
  unfolding reads
  reads_bad e = rw e

  pub reads_on : (n : ℕ) (r : List ℕ) → read_groups most s ≡ got n r → reads most s f ≡ f n r
  unfolding reads
  reads_on n r e = rw e

  reads-some : {Y : Type 0} (x : X) → reads most s f ≡ some x → ((n : ℕ) (r : List ℕ) → read_groups most s ≡ got n r → n ≤ most → f n r ≡ some x → Y) → Y
  unfolding reads
  reads-some x e g = or_else_some (read_groups most s) (λ r. f r.number r.rest) x e (λ r p q. g r.number r.rest p (read-most most s r p) q)

-- ---- the next entry, number by number: what loading makes of it once its identifier, its sequence number, its age and its size are read

unfoldable pub after_size : ℕ → ℕ → ℕ → ℕ → ℕ → ℕ → List ℕ → Option (List Entry)
after_size clock n node seq age size d =
    cond (leb size (length d) && good data_limit (take size d))
    (cons_to (entry_of node seq (take size d) (stamp age clock)) (load_entries clock n (node + 1) (drop size d)))
    none

unfoldable pub after_age : ℕ → ℕ → ℕ → ℕ → ℕ → List ℕ → Option (List Entry)
after_age clock n node seq age s = reads data_limit s (after_size clock n node seq age)

unfoldable pub after_seq : ℕ → ℕ → ℕ → ℕ → List ℕ → Option (List Entry)
after_seq clock n node seq s = reads most_age s (after_age clock n node seq)

unfoldable pub after_node : ℕ → ℕ → ℕ → ℕ → List ℕ → Option (List Entry)
after_node clock n low node s = cond (ltb node low) none (reads most_u32 s (after_seq clock n node))

next-is : (clock n low : ℕ) (s : List ℕ) → load_entries clock (suc n) low s ≡ reads most_u32 s (after_node clock n low)
unfolding load_entries after_node after_seq after_age after_size
next-is clock n low s = refl

-- the identifier is unreadable, or too low for its place
module _ (clock n low : ℕ) (s : List ℕ) where
  pub next_bad : read_groups most_u32 s ≡ none → load_entries clock (suc n) low s ≡ none
  next_bad e = next-is clock n low s ∙ reads_bad most_u32 s (after_node clock n low) e

  pub next_on : (node : ℕ) (r : List ℕ) → read_groups most_u32 s ≡ got node r → load_entries clock (suc n) low s ≡ after_node clock n low node r
  next_on node r e = next-is clock n low s ∙ reads_on most_u32 s (after_node clock n low) node r e

module _ (clock n low node : ℕ) (s : List ℕ) where
  pub node-low : node < low → after_node clock n low node s ≡ none
  unfolding after_node
  node-low h = rw (lt-ltb node low h)

  node-high : low ≤ node → after_node clock n low node s ≡ reads most_u32 s (after_seq clock n node)
  unfolding after_node
  node-high h = rw (le-ltb node low h)

  pub node_bad : read_groups most_u32 s ≡ none → after_node clock n low node s ≡ none
  node_bad e = by_test (ltb node low) (λ b. node-low (ltb-true node low b)) (λ b. node-high (ltb-false node low b) ∙ reads_bad most_u32 s (after_seq clock n node) e)

  pub node_on : (seq : ℕ) (r : List ℕ) → low ≤ node → read_groups most_u32 s ≡ got seq r → after_node clock n low node s ≡ after_seq clock n node seq r
  node_on seq r h e = node-high h ∙ reads_on most_u32 s (after_seq clock n node) seq r e

module _ (clock n node seq : ℕ) (s : List ℕ) where
  pub seq_bad : read_groups most_age s ≡ none → after_seq clock n node seq s ≡ none
  unfolding after_seq
  seq_bad e = reads_bad most_age s (after_age clock n node seq) e

  pub seq_on : (age : ℕ) (r : List ℕ) → read_groups most_age s ≡ got age r → after_seq clock n node seq s ≡ after_age clock n node seq age r
  unfolding after_seq
  seq_on age r e = reads_on most_age s (after_age clock n node seq) age r e

-- the size is unreadable, which it is when it is too large
module _ (clock n node seq age : ℕ) (s : List ℕ) where
  pub age_bad : read_groups data_limit s ≡ none → after_age clock n node seq age s ≡ none
  unfolding after_age
  age_bad e = reads_bad data_limit s (after_size clock n node seq age) e

  pub age_on : (size : ℕ) (r : List ℕ) → read_groups data_limit s ≡ got size r → after_age clock n node seq age s ≡ after_size clock n node seq age size r
  unfolding after_age
  age_on size r e = reads_on data_limit s (after_size clock n node seq age) size r e

-- fewer bytes are left than the size, the data is not good, or all is fine
module _ (clock n node seq age size : ℕ) (d : List ℕ) where
  pub size-cut : length d < size → after_size clock n node seq age size d ≡ none
  unfolding after_size
  size-cut h = rw (lt-leb size (length d) h)

  pub size_bad : good data_limit (take size d) ≡ false → after_size clock n node seq age size d ≡ none
  unfolding after_size
  size_bad e = rw (and_no (leb size (length d)) (good data_limit (take size d)) e)

  pub size-fine : size ≤ length d → good data_limit (take size d) ≡ true
      → after_size clock n node seq age size d ≡ cons_to (entry_of node seq (take size d) (stamp age clock)) (load_entries clock n (node + 1) (drop size d))
  unfolding after_size
  size-fine h e = rw (le-leb size (length d) h, e)

-- after the last entry nothing may follow
module _ (clock low : ℕ) where
  pub last_end : (s : List ℕ) → length s ≡ 0 → load_entries clock 0 low s ≡ some []
  unfolding load_entries
  last_end [] e = refl
  last_end (b ∷ s) e = absurd (omega arith)

  pub last_more : (s : List ℕ) → 0 < length s → load_entries clock 0 low s ≡ none
  unfolding load_entries
  last_more [] h = absurd (omega arith)
  last_more (b ∷ s) h = refl

-- what a loop over the entries keeps: those loaded so far, before what the rest loads to
abbrev pub onto : List Entry → Option (List Entry) → Option (List Entry)
onto t none = none
onto t (some u) = some (t ++ u)

pub onto-start : (o : Option (List Entry)) → onto [] o ≡ o
onto-start none = refl
onto-start (some u) = refl

pub onto-next : (t : List Entry) (e : Entry) (o : Option (List Entry)) → onto t (cons_to e o) ≡ onto (t ++ (e ∷ [])) o
onto-next t e none = refl
onto-next t e (some u) = rw (append_assoc t (e ∷ []) u)

pub onto_end : (t : List Entry) → onto t (some []) ≡ some t
onto_end t = rw (append-nil t)

-- ---- a fine entry stands at the head of s: its four numbers, and what follows each of them

pub record Next (low : ℕ) (s : List ℕ) : Type 0 where
  pub node : ℕ
  pub seq : ℕ
  pub age : ℕ
  pub size : ℕ
  pub past_node : List ℕ
  pub past_seq : List ℕ
  pub past_age : List ℕ
  pub body : List ℕ
  pub first : read_groups most_u32 s ≡ got node past_node
  pub second : read_groups most_u32 past_node ≡ got seq past_seq
  pub third : read_groups most_age past_seq ≡ got age past_age
  pub fourth : read_groups data_limit past_age ≡ got size body
  pub high : low ≤ node
  pub within : size ≤ length body
  pub fine : good data_limit (take size body) ≡ true

abbrev pub entry_read : {low : ℕ} {s : List ℕ} → ℕ → Next low s → Entry
entry_read clock x = entry_of x.node x.seq (take x.size x.body) (stamp x.age clock)

abbrev pub past_entry : {low : ℕ} {s : List ℕ} → Next low s → List ℕ
past_entry x = drop x.size x.body

-- it is loaded, and the rest after it
pub next-fine : (clock n low : ℕ) (s : List ℕ) (x : Next low s) → load_entries clock (suc n) low s ≡ cons_to (entry_read clock x) (load_entries clock n (x.node + 1) (past_entry x))
next-fine clock n low s x =
    next_on clock n low s x.node x.past_node x.first
    ∙ node_on clock n low x.node x.past_node x.seq x.past_seq x.high x.second
    ∙ seq_on clock n x.node x.seq x.past_seq x.age x.past_age x.third
    ∙ age_on clock n x.node x.seq x.age x.past_age x.size x.body x.fourth
    ∙ size-fine clock n x.node x.seq x.age x.size x.body x.within x.fine

-- the same where code has read the numbers of s from place at on, each up to the place where the next begins
module _ (clock n low : ℕ) (s : List ℕ) (at node a1 seq a2 age a3 size a4 : ℕ)
    (e1 : read_groups most_u32 (drop at s) ≡ got node (drop a1 s)) (e2 : read_groups most_u32 (drop a1 s) ≡ got seq (drop a2 s))
    (e3 : read_groups most_age (drop a2 s) ≡ got age (drop a3 s)) (e4 : read_groups data_limit (drop a3 s) ≡ got size (drop a4 s)) where
  pub next-at : low ≤ node → a4 + size ≤ length s → good data_limit (take size (drop a4 s)) ≡ true
      → load_entries clock (suc n) low (drop at s) ≡ cons_to (entry_of node seq (take size (drop a4 s)) (stamp age clock)) (load_entries clock n (node + 1) (drop (a4 + size) s))
  next-at h w g =
      next-fine clock n low (drop at s)
      (record {
        node = node;
        seq = seq;
        age = age;
        size = size;
        past_node = drop a1 s;
        past_seq = drop a2 s;
        past_age = drop a3 s;
        body = drop a4 s;
        first = e1;
        second = e2;
        third = e3;
        fourth = e4;
        high = h;
        within = simp length-drop (omega arith);
        fine = g;
      })
      ∙ rw (drop-drop size a4 s)

cons_some : {X : Type 0} (e : Entry) (o : Option (List Entry)) (t : List Entry) → cons_to e o ≡ some t → ((u : List Entry) → o ≡ some u → t ≡ e ∷ u → X) → X
cons_some e none t p f = nothing t p
cons_some e (some u) t p f = f u refl (let q : t ≡ e ∷ u = cc in q)

-- and whatever loads begins with one
next-some : {X : Type 0} (clock n low : ℕ) (s : List ℕ) (t : List Entry) → load_entries clock (suc n) low s ≡ some t
    → ((x : Next low s) (u : List Entry) → load_entries clock n (x.node + 1) (past_entry x) ≡ some u → t ≡ entry_read clock x ∷ u → X) → X
unfolding after_node after_seq after_age after_size
next-some clock n low s t e f =
    reads-some most_u32 s (after_node clock n low) t (sym (next-is clock n low s) ∙ e)
    (λ node s1 e1 m1 k1. cond_no (ltb node low) (reads most_u32 s1 (after_seq clock n node)) t k1
    (λ h k. reads-some most_u32 s1 (after_seq clock n node) t k
    (λ seq s2 e2 m2 k2. reads-some most_age s2 (after_age clock n node seq) t k2
    (λ age s3 e3 m3 k3. reads-some data_limit s3 (after_size clock n node seq age) t k3
    (λ size d e4 m4 k4. cond_yes (leb size (length d) && good data_limit (take size d)) (cons_to (entry_of node seq (take size d) (stamp age clock)) (load_entries clock n (node + 1) (drop size d))) t k4
    (λ g k5. cons_some (entry_of node seq (take size d) (stamp age clock)) (load_entries clock n (node + 1) (drop size d)) t k5
    (f (record {
      node = node;
      seq = seq;
      age = age;
      size = size;
      past_node = s1;
      past_seq = s2;
      past_age = s3;
      body = d;
      first = e1;
      second = e2;
      third = e3;
      fourth = e4;
      high = ltb-false node low h;
      within = leb-true size (length d) (and_left (leb size (length d)) (good data_limit (take size d)) g);
      fine = and_right (leb size (length d)) (good data_limit (take size d)) g;
    }))))))))

-- ---- loading, number by number: the edition, our identifier, the count, and then the entries

unfoldable pub after_count : ℕ → ℕ → ℕ → List ℕ → Option Snapshot
after_count clock own n s = cond (leb 1 n) (or_else (load_entries clock n 0 s) none (holds_own own)) none

unfoldable pub after_own : ℕ → ℕ → List ℕ → Option Snapshot
after_own clock own s = reads most_nodes s (after_count clock own)

unfoldable pub after_edition : ℕ → ℕ → List ℕ → Option Snapshot
after_edition clock edition s = cond (eqb edition 1) (reads most_u32 s (after_own clock)) none

load_is : (clock : ℕ) (s : List ℕ) → load clock s ≡ reads 1 s (after_edition clock)
unfolding load after_edition after_own after_count
load_is clock s = refl

module _ (clock : ℕ) (s : List ℕ) where
  pub load_bad : read_groups 1 s ≡ none → load clock s ≡ none
  load_bad e = load_is clock s ∙ reads_bad 1 s (after_edition clock) e

  pub load_on : (edition : ℕ) (r : List ℕ) → read_groups 1 s ≡ got edition r → load clock s ≡ after_edition clock edition r
  load_on edition r e = load_is clock s ∙ reads_on 1 s (after_edition clock) edition r e

  -- another edition
  pub edition-other : (edition : ℕ) → (edition ≡ 1 → ⊥) → after_edition clock edition s ≡ none
  unfolding after_edition
  edition-other edition h = rw (ne_eqb edition 1 h)

  pub edition_bad : read_groups most_u32 s ≡ none → after_edition clock 1 s ≡ none
  unfolding after_edition
  edition_bad e = reads_bad most_u32 s (after_own clock) e

  pub edition_on : (own : ℕ) (r : List ℕ) → read_groups most_u32 s ≡ got own r → after_edition clock 1 s ≡ after_own clock own r
  unfolding after_edition
  edition_on own r e = reads_on most_u32 s (after_own clock) own r e

  -- the count is unreadable, which it is above 32, or 0
  pub own_bad : (own : ℕ) → read_groups most_nodes s ≡ none → after_own clock own s ≡ none
  unfolding after_own
  own_bad own e = reads_bad most_nodes s (after_count clock own) e

  pub own_on : (own n : ℕ) (r : List ℕ) → read_groups most_nodes s ≡ got n r → after_own clock own s ≡ after_count clock own n r
  unfolding after_own
  own_on own n r e = reads_on most_nodes s (after_count clock own) n r e

  pub count_none : (own n : ℕ) → n < 1 → after_count clock own n s ≡ none
  unfolding after_count
  count_none own n h = rw (lt-leb 1 n h)

  pub count-fine : (own n : ℕ) (t : List Entry) → 1 ≤ n → load_entries clock n 0 s ≡ some t → is_some (look own t) ≡ true
      → after_count clock own n s ≡ some (record { own = own; entries = t })
  unfolding after_count
  count-fine own n t l e h = rw (le-leb 1 n l, e, h)

-- ---- what is saved, entry by entry

abbrev pub saved_entries : ℕ → List Entry → List ℕ
saved_entries clock t = join_all (map (save_entry clock) t)

-- the numbers before the entries
abbrev pub saved_head : ℕ → ℕ → List ℕ
saved_head own n = groups 1 ++ (groups own ++ groups n)

pub saved-is : (own clock : ℕ) (t : List Entry) → saved own clock t ≡ saved_head own (length t) ++ saved_entries clock t
unfolding saved
saved-is own clock t = simp append_assoc

pub entries_append : (clock : ℕ) (t u : List Entry) → saved_entries clock (t ++ u) ≡ saved_entries clock t ++ saved_entries clock u
entries_append clock t u = rw (map_append (save_entry clock) t u) (join_append (map (save_entry clock) t) (map (save_entry clock) u))

-- a loop over the entries: one more
pub entries_next : (clock : ℕ) (t : List Entry) (i : ℕ) (e : Entry) → i < length t → saved_entries clock (take (i + 1) t) ≡ saved_entries clock (take i t) ++ save_entry clock (get_or t i e)
entries_next clock t i e h =
    rw (add-one, take-suc t i e h) (entries_append clock (take i t) (get_or t i e ∷ []) ∙ ap (λ (x : List ℕ). saved_entries clock (take i t) ++ x) (append-nil (save_entry clock (get_or t i e))))

-- the five pieces of an entry, written one after the other
module _ (d : List ℕ) (at clock : ℕ) (e : Entry) (d1 d2 d3 d4 d5 : List ℕ) (a1 a2 a3 a4 : ℕ)
    (e1 : d1 ≡ written d at (groups (id_of e))) (q1 : a1 ≡ at + length (groups (id_of e)))
    (e2 : d2 ≡ written d1 a1 (groups e.says.seq)) (q2 : a2 ≡ a1 + length (groups e.says.seq))
    (e3 : d3 ≡ written d2 a2 (groups (min (age_at clock e) most_age))) (q3 : a3 ≡ a2 + length (groups (min (age_at clock e) most_age)))
    (e4 : d4 ≡ written d3 a3 (groups (length e.says.node_data))) (q4 : a4 ≡ a3 + length (groups (length e.says.node_data)))
    (e5 : d5 ≡ written d4 a4 e.says.node_data) (fits : a4 + length e.says.node_data ≤ length d) where
  pub entry_end : a4 + length e.says.node_data ≡ at + length (save_entry clock e)
  unfolding save_entry
  entry_end = simp length-append (omega arith)

  pub entry-put : d5 ≡ written d at (save_entry clock e)
  unfolding save_entry
  entry-put =
      written_five d at (groups (id_of e)) (groups e.says.seq) (groups (min (age_at clock e) most_age)) (groups (length e.says.node_data)) e.says.node_data
      d1 d2 d3 d4 d5 a1 a2 a3 a4 e1 q1 e2 q2 e3 q3 e4 q4 e5 fits

-- bytes of an entry, and of the numbers before the entries, at most
abbrev pub entry_bytes : ℕ
entry_bytes = 17 + data_limit

abbrev pub head_bytes : ℕ
head_bytes = 7

pub head_short : (own n : ℕ) → own < circle → n ≤ most_nodes → length (saved_head own n) ≤ head_bytes
head_short own n h k = simp length-append (omega (arith, groups-length 0 1 (omega arith), groups-length 4 own (omega arith), groups-length 0 n (omega arith)))

pub entry-short : (clock last : ℕ) (e : Entry) → EntryFits last e → length (save_entry clock e) ≤ entry_bytes
unfolding save_entry
entry-short clock last e h =
    let n : id_of e < circle = h.node in
    let s : e.says.seq < circle = h.seq in
    let l : length e.says.node_data ≤ data_limit = good-fits data_limit e.says.node_data h.fine in
    simp length-append
    (omega (arith, groups-length 4 (id_of e) (omega arith), groups-length 4 e.says.seq (omega arith), groups-length 4 (min (age_at clock e) most_age) (omega arith), groups-length 1 (length e.says.node_data) (omega arith)))

pub entries-short : (clock last : ℕ) (t : List Entry) → All (EntryFits last) t → length (saved_entries clock t) ≤ entry_bytes * length t
entries-short clock last [] h = omega arith
entries-short clock last (e ∷ t) h =
    simp length-append (omega (arith, entry-short clock last e h.0, entries-short clock last t h.1))

pub save-short : (clock last : ℕ) (t : List Entry) (i : ℕ) → All (EntryFits last) t → i ≤ length t → length (saved_entries clock (take i t)) ≤ entry_bytes * i
save-short clock last t i h l = omega (arith, entries-short clock last (take i t) (all_take (EntryFits last) i t h), length-take-le i t l)

room : (s : State) (clock : ℕ) → Valid s → length (saved s.own clock s.table) ≤ snapshot_bytes
room s clock v =
    let n : length s.table ≤ most_nodes = v.inside.table.nodes in
    let l = length-append (saved_head s.own (length s.table)) (saved_entries clock s.table) in
    rw (saved-is s.own clock s.table)
    (omega (arith, head_short s.own (length s.table) v.inside.own v.inside.table.nodes, entries-short clock s.last s.table v.inside.table.entries))

-- ---- saved, and loaded again

above_from : (n : ℕ) (t : List Entry) → Above id_of n t → All (λ e. n + 1 ≤ id_of e) t
above_from n [] h = tt
above_from n (e ∷ t) h = (omega (arith, h.0), above_from n t h.1)

all_from : (t : List Entry) → All (λ e. 0 ≤ id_of e) t
all_from [] = tt
all_from (e ∷ t) = (omega arith, all_from t)

own-capped : (own clock later : ℕ) (t : List Entry) → is_some (look own t) ≡ true → is_some (look own (map (capped clock later) t)) ≡ true
unfolding look find
own-capped own clock later [] e = e
own-capped own clock later (x ∷ t) e = by_test (eqb (id_of x) own) (λ b. rw b) (λ b. rw b (own-capped own clock later t (rw b at e)))

some-held : (own : ℕ) (t : List Entry) → is_some (look own t) ≡ true → 1 ≤ length t
unfolding look find
some-held own [] e = no_way false e refl
some-held own (x ∷ t) e = omega arith

entry_spelt : (clock : ℕ) (e : Entry) (r : List ℕ)
    → save_entry clock e ++ r ≡ groups (id_of e) ++ (groups e.says.seq ++ (groups (min (age_at clock e) most_age) ++ (groups (length e.says.node_data) ++ (e.says.node_data ++ r))))
unfolding save_entry
entry_spelt clock e r = simp append_assoc

saved-next : (clock last low : ℕ) (e : Entry) (r : List ℕ) → EntryFits last e → low ≤ id_of e
    → Next low (groups (id_of e) ++ (groups e.says.seq ++ (groups (min (age_at clock e) most_age) ++ (groups (length e.says.node_data) ++ (e.says.node_data ++ r)))))
saved-next clock last low e r h l =
    let s4 : List ℕ = e.says.node_data ++ r in
    let s3 : List ℕ = groups (length e.says.node_data) ++ s4 in
    let s2 : List ℕ = groups (min (age_at clock e) most_age) ++ s3 in
    let s1 : List ℕ = groups e.says.seq ++ s2 in
    let n : id_of e < circle = h.node in
    let s : e.says.seq < circle = h.seq in
    record {
      node = id_of e;
      seq = e.says.seq;
      age = min (age_at clock e) most_age;
      size = length e.says.node_data;
      past_node = s1;
      past_seq = s2;
      past_age = s3;
      body = s4;
      first = read-written most_u32 (id_of e) s1 (omega arith);
      second = read-written most_u32 e.says.seq s2 (omega arith);
      third = read-written most_age (min (age_at clock e) most_age) s3 (omega arith);
      fourth = read-written data_limit (length e.says.node_data) s4 (good-fits data_limit e.says.node_data h.fine);
      high = l;
      within = omega (arith, length-append e.says.node_data r);
      fine = rw (take-append_seam e.says.node_data r) h.fine;
    }

load-entry : (clock later last n low : ℕ) (e : Entry) (r : List ℕ) → EntryFits last e → low ≤ id_of e
    → load_entries later (suc n) low (save_entry clock e ++ r) ≡ cons_to (capped clock later e) (load_entries later n (id_of e + 1) r)
unfolding saved-next
load-entry clock later last n low e r h l =
    rw (entry_spelt clock e r)
    (next-fine later n low _ (saved-next clock last low e r h l) ∙ rw (take-append_seam e.says.node_data r, drop-append_seam e.says.node_data r))

load-entries : (clock later last low : ℕ) (t : List Entry) → All (EntryFits last) t → All (λ e. low ≤ id_of e) t → Ascending id_of t
    → load_entries later (length t) low (saved_entries clock t) ≡ some (map (capped clock later) t)
load-entries clock later last low [] h k a = last_end later low [] refl
load-entries clock later last low (e ∷ t) h k a =
    load-entry clock later last (length t) low e (saved_entries clock t) h.0 k.0
    ∙ ap (cons_to (capped clock later e)) (load-entries clock later last (id_of e + 1) t h.1 (above_from (id_of e) t a.0) a.1)

back : (s : State) (clock later : ℕ) → Valid s → load later (saved s.own clock s.table) ≡ some (record { own = s.own; entries = map (capped clock later) s.table })
unfolding saved
back s clock later v =
    let o : s.own < circle = v.inside.own in
    let e : List ℕ = saved_entries clock s.table in
    let n : List ℕ = groups (length s.table) ++ e in
    load_on later (groups 1 ++ (groups s.own ++ n)) 1 (groups s.own ++ n) (read-written 1 1 (groups s.own ++ n) (omega arith))
    ∙ edition_on later (groups s.own ++ n) s.own n (read-written most_u32 s.own n (omega arith))
    ∙ own_on later n s.own (length s.table) e (read-written most_nodes (length s.table) e v.inside.table.nodes)
    ∙ count-fine later e s.own (length s.table) (map (capped clock later) s.table) (some-held s.own s.table v.inside.table.held)
    (load-entries clock later s.last 0 s.table v.inside.table.entries (all_from s.table) v.inside.table.ascending) (own-capped s.own clock later s.table v.inside.table.held)

-- ---- whatever loads fits the invariant, and was written so

-- n entries, from low on
abbrev Loaded : ℕ → ℕ → ℕ → List Entry → Type 0
Loaded clock n low t = (length t ≡ n) × All (λ e. low ≤ id_of e) t × Ascending id_of t × All (EntryFits clock) t

from-above : (n : ℕ) (t : List Entry) → All (λ e. n + 1 ≤ id_of e) t → Above id_of n t
from-above n [] h = tt
from-above n (e ∷ t) h = (omega (arith, h.0), from-above n t h.1)

from_less : (m n : ℕ) (t : List Entry) → m ≤ n → All (λ e. n ≤ id_of e) t → All (λ e. m ≤ id_of e) t
from_less m n [] l h = tt
from_less m n (e ∷ t) l h = (omega (arith, h.0), from_less m n t l h.1)

pub next_fits : (clock low : ℕ) (s : List ℕ) (x : Next low s) → EntryFits clock (entry_read clock x)
next_fits clock low s x =
    let n : x.node ≤ most_u32 = read-most most_u32 s (record { number = x.node; rest = x.past_node }) x.first in
    let q : x.seq ≤ most_u32 = read-most most_u32 x.past_node (record { number = x.seq; rest = x.past_seq }) x.second in
    record {
      node = omega arith;
      seq = omega arith;
      fine = x.fine;
      age = read-most most_age x.past_seq (record { number = x.age; rest = x.past_age }) x.third;
      since = omega arith;
    }

entries_fit : (clock n low : ℕ) (s : List ℕ) (t : List Entry) → load_entries clock n low s ≡ some t → Loaded clock n low t
entries_fit clock zero low [] t e = let q : [] ≡ t = cc (last_end clock low [] refl) in rw (← q) (refl, tt, tt, tt)
entries_fit clock zero low (b ∷ s) t e = nothing t (sym (last_more clock low (b ∷ s) (omega arith)) ∙ e)
entries_fit clock (suc n) low s t e =
    next-some clock n low s t e
    (λ x u k q. let r : Loaded clock n (x.node + 1) u = entries_fit clock n (x.node + 1) (past_entry x) u k in
    rw q (ap suc r.0, (x.high, from_less low (x.node + 1) u (omega (arith, x.high)) r.1), (from-above x.node u r.1, r.2), (next_fits clock low s x, r.3)))

-- the numbers before the entries, and the entries
record Loads (clock : ℕ) (s : List ℕ) (b : Snapshot) : Type 0 where
  count : ℕ
  past_edition : List ℕ
  past_own : List ℕ
  past_count : List ℕ
  first : read_groups 1 s ≡ got 1 past_edition
  second : read_groups most_u32 past_edition ≡ got b.own past_own
  third : read_groups most_nodes past_own ≡ got count past_count
  fourth : load_entries clock count 0 past_count ≡ some b.entries
  held : is_some (look b.own b.entries) ≡ true

load-some : (clock : ℕ) (s : List ℕ) (b : Snapshot) → load clock s ≡ some b → Loads clock s b
unfolding after_edition after_own after_count
load-some clock s b e =
    reads-some 1 s (after_edition clock) b (sym (load_is clock s) ∙ e)
    (λ n1 s1 e1 m1 k1. cond_yes (eqb n1 1) (reads most_u32 s1 (after_own clock)) b k1
    (λ h1 k. reads-some most_u32 s1 (after_own clock) b k
    (λ own s2 e2 m2 k2. reads-some most_nodes s2 (after_count clock own) b k2
    (λ n s3 e3 m3 k3. cond_yes (leb 1 n) (or_else (load_entries clock n 0 s3) none (holds_own own)) b k3
    (λ h3 k4. or_else_some (load_entries clock n 0 s3) (holds_own own) b k4
    (λ t e4 k5. cond_yes (is_some (look own t)) (some (record { own = own; entries = t })) b k5
    (λ h q. let z : record { own = own; entries = t } ≡ b = some-injective _ _ q in
    let w : n1 ≡ 1 = eqb-true n1 1 h1 in
    subst (Loads clock s) z
    (record {
      count = n;
      past_edition = s1;
      past_own = s2;
      past_count = s3;
      first = rw w at e1;
      second = e2;
      third = e3;
      fourth = e4;
      held = h;
    }))))))))

pub load_fits : (clock : ℕ) (s : List ℕ) (b : Snapshot) → load clock s ≡ some b → SnapshotFits clock b
load_fits clock s b e =
    let x : Loads clock s b = load-some clock s b e in
    let r : Loaded clock x.count 0 b.entries = entries_fit clock x.count 0 x.past_count b.entries x.fourth in
    let o : b.own ≤ most_u32 = read-most most_u32 x.past_edition (record { number = b.own; rest = x.past_own }) x.second in
    let m : x.count ≤ most_nodes = read-most most_nodes x.past_own (record { number = x.count; rest = x.past_count }) x.third in
    record { own = omega arith; table = record { ascending = r.2; held = x.held; nodes = omega (arith, r.0); entries = r.3 } }

-- a number that is read of bytes stands there as it is written, and bytes follow
spelt : {X : Type 0} (most n : ℕ) (s r : List ℕ) → Bytes s → read_groups most s ≡ got n r → (s ≡ groups n ++ r → Bytes r → X) → X
spelt most n s r b e f =
    let q : s ≡ groups n ++ r = read-once most s (record { number = n; rest = r }) b e in
    f q (bytes_right (groups n) r (subst Bytes q b))

next-once : {X : Type 0} (clock low : ℕ) (s : List ℕ) (x : Next low s) → Bytes s → (s ≡ save_entry clock (entry_read clock x) ++ past_entry x → Bytes (past_entry x) → X) → X
unfolding save_entry
next-once clock low s x b f =
    spelt most_u32 x.node s x.past_node b x.first
    (λ q1 b1. spelt most_u32 x.seq x.past_node x.past_seq b1 x.second
    (λ q2 b2. spelt most_age x.age x.past_seq x.past_age b2 x.third
    (λ q3 b3. spelt data_limit x.size x.past_age x.body b3 x.fourth
    (λ q4 b4.
    let m : x.age ≤ most_age = read-most most_age x.past_seq (record { number = x.age; rest = x.past_age }) x.third in
    let a : min (x.age + (clock - clock)) most_age ≡ x.age = omega arith in
    let l : length (take x.size x.body) ≡ x.size = length-take-le x.size x.body x.within in
    let w : (groups x.node ++ (groups x.seq ++ (groups x.age ++ (groups x.size ++ take x.size x.body)))) ++ past_entry x
    ≡ groups x.node ++ (groups x.seq ++ (groups x.age ++ (groups x.size ++ x.body))) = simp append_assoc (rw (take-append-drop x.size x.body)) in
    f (q1 ∙ rw (q2, q3, q4, a, l) (sym w)) (bytes_drop x.size x.body b4)))))

entries-once : (clock n low : ℕ) (s : List ℕ) (t : List Entry) → Bytes s → load_entries clock n low s ≡ some t → s ≡ saved_entries clock t
entries-once clock zero low [] t b e = let q : [] ≡ t = cc (last_end clock low [] refl) in rw (← q)
entries-once clock zero low (x ∷ s) t b e = nothing t (sym (last_more clock low (x ∷ s) (omega arith)) ∙ e)
entries-once clock (suc n) low s t b e =
    next-some clock n low s t e
    (λ x u k q. next-once clock low s x b
    (λ w c. rw q (w ∙ ap (λ (y : List ℕ). save_entry clock (entry_read clock x) ++ y) (entries-once clock n (x.node + 1) (past_entry x) u c k))))

once : (clock : ℕ) (bytes : List ℕ) (b : Snapshot) → Bytes bytes → load clock bytes ≡ some b → bytes ≡ saved b.own clock b.entries
unfolding saved
once clock s b k e =
    let x : Loads clock s b = load-some clock s b e in
    let r : Loaded clock x.count 0 b.entries = entries_fit clock x.count 0 x.past_count b.entries x.fourth in
    spelt 1 1 s x.past_edition k x.first
    (λ q1 b1. spelt most_u32 b.own x.past_edition x.past_own b1 x.second
    (λ q2 b2. spelt most_nodes x.count x.past_own x.past_count b2 x.third
    (λ q3 b3. q1 ∙ rw (q2, q3, entries-once clock x.count 0 x.past_count b.entries b3 x.fourth, r.0))))

pub snapshots : Snapshots
snapshots = record { back = back; room = room; once = once; fits = load_fits }
