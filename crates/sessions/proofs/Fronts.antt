-- The table stands in the first bytes of its memory: memories with the same front serve alike. Assumes nothing.
use mathlib.Core.Path.{◌≡◌, refl, sym, ap, subst, ◌∙◌}
use mathlib.Core.List.{List, [], ◌∷◌, ◌++◌, map}
use Prim.Native.Nat.{ℕ, ◌*◌, ◌≤◌, ◌<◌}
use native.Mathlib.Omega.{arith}
use lib.ListN.{length, take, drop, take-append-drop}
use lib.Seq.{take-take, take-append-le, take-append_seam, length-take-le}
use lib.Dec.{ltb}
use borrow.Author.Tests.{ltb-true, ltb-false}
use Rattle.base.proofs.Tests.{by_test}
use Rattle.base.proofs.Lists.{take_drop_take}
use Rattle.sha256.specs.Sha256.{hash16}
use Rattle.model.specs.Figures.{data_limit, table_bytes}
use Rattle.model.specs.Table.{Entry, entry_of, stamp}
use Rattle.model.specs.Invariant.{Valid}
use Rattle.table.specs.declared.Table.{Table}
use Rattle.table.specs.declared.Entry.{Entry as Meta}
use Rattle.table.specs.View.{live, data_of, seen, view, FitMeta, Fit, Arranged, Hashed}
use Rattle.node.specs.declared.State.{State}
use Rattle.node.specs.View.{state_of}
use Rattle.ledger.specs.Promises.{AsLeft}
use Rattle.sessions.specs.Kept.{Goes}

-- a slot ends within the table's bytes
data_front : (m : List ℕ) (e : Meta) → FitMeta e → data_of (take table_bytes m) e ≡ data_of m e
data_front m e f = take_drop_take e.len (e.slot * data_limit) table_bytes m (omega (arith, f.0, f.1))

module _ (m m' : List ℕ) (e : take table_bytes m ≡ take table_bytes m') where
  data_same : (r : Meta) → FitMeta r → data_of m r ≡ data_of m' r
  data_same r f = sym (data_front m r f) ∙ ap (λ (x : List ℕ). data_of x r) e ∙ data_front m' r f

  seen_same : (l : List Meta) → Fit l → map (seen m) l ≡ map (seen m') l
  seen_same [] f = refl
  seen_same (r ∷ l) f =
      ap (λ (d : List ℕ). entry_of r.id r.seq d (stamp r.age r.since) ∷ map (seen m) l) (data_same r f.0)
      ∙ ap (λ (x : List Entry). seen m' r ∷ x) (seen_same l f.1)

  hashed-same : (l : List Meta) → Fit l → Hashed m l → Hashed m' l
  hashed-same [] f h = h
  hashed-same (r ∷ l) f h = (h.0 ∙ ap hash16 (data_same r f.0), hashed-same l f.1 h.1)

  view-same : (t : Table) → Arranged t → view t m ≡ view t m'
  unfolding view
  view-same t k = seen_same (live t) k.fit

  state-same : (s : State) → Arranged s.table → state_of s m ≡ state_of s m'
  unfolding state_of
  state-same s k = rw (view-same s.table k)

-- the premise goes over to a memory with the same front
left-same : (s : State) (m m' : List ℕ) → (table_bytes ≤ length m' → (table_bytes ≤ length m) × (take table_bytes m ≡ take table_bytes m')) → AsLeft s m → AsLeft s m'
left-same s m m' h l =
    record {
      arranged = l.arranged;
      peers = l.peers;
      four = l.four;
      digest = l.digest;
      hashed = λ room. hashed-same m m' (h room).1 (live s.table) l.arranged.fit (l.hashed (h room).0);
      valid = λ room. subst Valid (state-same m m' (h room).1 s l.arranged) (l.valid (h room).0);
    }

-- to the part that is lent
pub left-part : (s : State) (m : List ℕ) (t : ℕ) → t ≤ length m → AsLeft s m → AsLeft s (take t m)
left-part s m t h l =
    left-same s m (take t m)
    (λ room. let k : table_bytes ≤ t = rw (length-take-le t m h) at room in (omega arith, sym (take-take table_bytes t m k)))
    l

-- and back from it, once a call has changed it
pub left-whole : (s r : State) (m w : List ℕ) (t : ℕ) → t ≤ length m → AsLeft s m → Goes s (take t m) r w → AsLeft r (w ++ drop t m)
left-whole s r m w t h l g =
    by_test (ltb t table_bytes)
    (λ b.
    let n : length (take t m) < table_bytes = rw (length-take-le t m h) (ltb-true t table_bytes b) in
    rw ((g.small n).0, (g.small n).1, take-append-drop t m) l)
    (λ b.
    let k : table_bytes ≤ length w = rw (g.size, length-take-le t m h) (ltb-false t table_bytes b) in
    left-same r w (w ++ drop t m) (λ room. (k, sym (take-append-le table_bytes w (drop t m) k))) g.left)

-- the call is then one on the front of the whole
pub goes-front : (s r : State) (m w : List ℕ) (t : ℕ) → t ≤ length m → Goes s (take t m) r w → Goes s (take t m) r (take t (w ++ drop t m))
goes-front s r m w t h g =
    let k : length w ≡ t = g.size ∙ length-take-le t m h in
    let e : take t (w ++ drop t m) ≡ w = subst (λ (n : ℕ). take n (w ++ drop t m) ≡ w) k (take-append_seam w (drop t m)) in
    subst (λ (x : List ℕ). Goes s (take t m) r x) (sym e) g
