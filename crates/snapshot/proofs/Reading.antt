-- Reading a snapshot number by number: what the code's answers say of loading. Assumes nothing.
use mathlib.Core.Path.{◌≡◌, sym, ◌∙◌}
use mathlib.Core.Bool.{Bool, true, false}
use mathlib.Core.List.{List}
use mathlib.Core.Option.{none}
use Rattle.std.specs.Prelude.{Some, None}
use Prim.Native.Nat.{ℕ, ◌+◌, ◌-◌, ◌≤◌, ◌<◌}
use native.Mathlib.Omega.{arith}
use native.Mathlib.Numerals.{add-one}
use lib.ListN.{length, take, drop, length-drop}
use borrow.Author.Tests.{le-leb}
use Rattle.base.specs.Bytes.{most_u32}
use Rattle.wire.specs.declared.groups.Groups.{Groups}
use Rattle.wire.specs.Order.{good}
use Rattle.wire.specs.Groups.{read_groups}
use Rattle.wire.specs.Answers.{as_read, Inside}
use Rattle.wire.proofs.Varints.{got}
use Rattle.model.specs.Figures.{most_nodes, data_limit, most_age}
use Rattle.model.specs.Snapshot.{load_entries, load}
use Rattle.model.proofs.Snapshots.{after_node, after_age, after_size, after_own, after_count, next_bad, next_on, node-low, node_bad, node_on, seq_bad, seq_on, age_bad, age_on, size-cut, size_bad, next-at, load_bad, load_on, edition-other, edition_bad, edition_on, own_bad, own_on, count_none}
use Rattle.snapshot.specs.declared.read.Numbers.{Numbers}
use Rattle.snapshot.specs.Answers.{EntryAt, Stops, Heads}
use Rattle.snapshot.specs.Numbers.{Numbered}

-- ---- what the group reader answers

-- the number that g tells, at most `most`, stands in s at place at
abbrev pub Got : List ℕ → ℕ → ℕ → Groups → Type 0
Got s at most g = (as_read s (Some g) ≡ read_groups most (drop at s)) × Inside s at most (Some g)

-- none does
abbrev pub Unread : List ℕ → ℕ → ℕ → Type 0
Unread s at most = as_read s None ≡ read_groups most (drop at s)

-- ---- one entry

module _ (s : List ℕ) (at low : ℕ) where
  pub node-unread : Unread s at most_u32 → Stops s at low
  node-unread e clock n = rw add-one (next_bad clock n low (drop at s) (sym e))

  module _ (node : Groups) (g1 : Got s at most_u32 node) where
    node-read : (clock n : ℕ) → load_entries clock (n + 1) low (drop at s) ≡ after_node clock n low node.number (drop node.next s)
    node-read clock n = rw add-one (next_on clock n low (drop at s) node.number (drop node.next s) (sym g1.0))

    pub node-below : node.number < low → Stops s at low
    node-below h clock n = node-read clock n ∙ node-low clock n low node.number (drop node.next s) h

    pub seq-unread : Unread s node.next most_u32 → Stops s at low
    seq-unread e clock n = node-read clock n ∙ node_bad clock n low node.number (drop node.next s) (sym e)

    module _ (seq : Groups) (g2 : Got s node.next most_u32 seq) (high : low ≤ node.number) where
      pub age-unread : Unread s seq.next most_age → Stops s at low
      age-unread e clock n =
          node-read clock n ∙ node_on clock n low node.number (drop node.next s) seq.number (drop seq.next s) high (sym g2.0) ∙ seq_bad clock n node.number seq.number (drop seq.next s) (sym e)

      pub numbered : (age : Groups) → Got s seq.next most_age age → Numbered s at low (record { node = node.number; seq = seq.number; age = age.number; next = age.next })
      numbered age g3 =
          record {
            past_node = node.next;
            past_seq = seq.next;
            first = sym g1.0;
            second = sym g2.0;
            third = sym g3.0;
            high = high;
            node_fits = g1.1.2;
            seq_fits = g2.1.2;
            age_fits = g3.1.2;
            onward = omega (arith, g1.1.0, g2.1.0, g3.1.0);
            within = g3.1.1;
          }

-- its numbers stand there, and now its size and its data
module _ (s : List ℕ) (at low : ℕ) (x : Numbers) (h : Numbered s at low x) where
  numbers_read : (clock n : ℕ) → load_entries clock (n + 1) low (drop at s) ≡ after_age clock n x.node x.seq x.age (drop x.next s)
  numbers_read clock n =
      rw add-one
      (next_on clock n low (drop at s) x.node (drop h.past_node s) h.first
      ∙ node_on clock n low x.node (drop h.past_node s) x.seq (drop h.past_seq s) h.high h.second
      ∙ seq_on clock n x.node x.seq (drop h.past_seq s) x.age (drop x.next s) h.third)

  pub size-unread : Unread s x.next data_limit → Stops s at low
  size-unread e clock n = numbers_read clock n ∙ age_bad clock n x.node x.seq x.age (drop x.next s) (sym e)

  module _ (last : Groups) (g : Got s x.next data_limit last) where
    size-read : (clock n : ℕ) → load_entries clock (n + 1) low (drop at s) ≡ after_size clock n x.node x.seq x.age last.number (drop last.next s)
    size-read clock n = numbers_read clock n ∙ age_on clock n x.node x.seq x.age (drop x.next s) last.number (drop last.next s) (sym g.0)

    pub data_cut : length s - last.next < last.number → Stops s at low
    data_cut l clock n = size-read clock n ∙ size-cut clock n x.node x.seq x.age last.number (drop last.next s) (simp length-drop l)

    module _ (b : Bool) (e : b ≡ good data_limit (take (last.next + last.number - last.next) (drop last.next s))) where
      judged : good data_limit (take last.number (drop last.next s)) ≡ b
      judged = let k : last.next + last.number - last.next ≡ last.number = omega arith in sym (rw k at e)

      pub data_bad : b ≡ false → Stops s at low
      data_bad f clock n = size-read clock n ∙ size_bad clock n x.node x.seq x.age last.number (drop last.next s) (judged ∙ f)

      pub entry-stands : b ≡ true → last.next + last.number ≤ length s → EntryAt s at low (record { node = x.node; seq = x.seq; age = x.age; start = last.next; size = last.number })
      entry-stands f w =
          record {
            high = h.high;
            node_fits = h.node_fits;
            seq_fits = h.seq_fits;
            age_fits = h.age_fits;
            onward = omega (arith, h.onward, g.1.0);
            within = w;
            short = g.1.2;
            fine = judged ∙ f;
            loads = λ clock n. rw add-one (next-at clock n low s at x.node h.past_node x.seq h.past_seq x.age x.next last.number last.next h.first h.second h.third (sym g.0) h.high w (judged ∙ f));
          }

-- ---- the numbers before the entries

module _ (s : List ℕ) where
  pub edition-unread : Unread s 0 1 → (clock : ℕ) → load clock s ≡ none
  edition-unread e clock = load_bad clock s (sym e)

  module _ (edition : Groups) (g1 : Got s 0 1 edition) where
    pub edition_wrong : ¬ (edition.number ≡ 1) → (clock : ℕ) → load clock s ≡ none
    edition_wrong h clock = load_on clock s edition.number (drop edition.next s) (sym g1.0) ∙ edition-other clock (drop edition.next s) edition.number h

    module _ (first : edition.number ≡ 1) where
      edition-read : read_groups 1 s ≡ got 1 (drop edition.next s)
      edition-read = rw first at (sym g1.0)

      pub own-unread : Unread s edition.next most_u32 → (clock : ℕ) → load clock s ≡ none
      own-unread e clock = load_on clock s 1 (drop edition.next s) edition-read ∙ edition_bad clock (drop edition.next s) (sym e)

      module _ (own : Groups) (g2 : Got s edition.next most_u32 own) where
        own_read : (clock : ℕ) → load clock s ≡ after_own clock own.number (drop own.next s)
        own_read clock = load_on clock s 1 (drop edition.next s) edition-read ∙ edition_on clock (drop edition.next s) own.number (drop own.next s) (sym g2.0)

        pub count-unread : Unread s own.next most_nodes → (clock : ℕ) → load clock s ≡ none
        count-unread e clock = own_read clock ∙ own_bad clock (drop own.next s) own.number (sym e)

        module _ (count : Groups) (g3 : Got s own.next most_nodes count) where
          count-read : (clock : ℕ) → load clock s ≡ after_count clock own.number count.number (drop count.next s)
          count-read clock = own_read clock ∙ own_on clock (drop own.next s) own.number count.number (drop count.next s) (sym g3.0)

          pub count-zero : count.number < 1 → (clock : ℕ) → load clock s ≡ none
          count-zero h clock = count-read clock ∙ count_none clock (drop count.next s) own.number count.number h

          pub head_stands : 1 ≤ count.number → Heads s (record { own = own.number; count = count.number; next = count.next })
          unfolding after_count
          head_stands h = record { some = h; few = g3.1.2; within = g3.1.1; loads = λ clock. count-read clock ∙ rw (le-leb 1 count.number h) }
