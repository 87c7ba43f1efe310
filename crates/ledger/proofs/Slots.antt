-- What a call leaves of the table memory: all that it does not write. Assumes nothing.
use mathlib.Core.Path.{◌≡◌, refl, sym, ap, ◌∙◌}
use mathlib.Core.Bool.{true, false, not}
use mathlib.Core.List.{List, [], ◌++◌}
use mathlib.Core.Option.{Option, none, some}
use mathlib.Core.Logic.{◌⊎◌, inl, inr, ⊎_elim}
use Prim.Native.Nat.{ℕ, ◌+◌, ◌-◌, ◌*◌, ◌≤◌}
use lib.ListN.{length, drop}
use lib.Dec.{eqb}
use borrow.Author.Tests.{eqb-true, eqb-false, not-false}
use Rattle.base.specs.Lists.{or_else, is_some}
use Rattle.base.specs.Memory.{part}
use Rattle.base.proofs.Tests.{no_way, by_test}
use Rattle.base.proofs.Lists.{all_in}
use Rattle.base.proofs.Sorted.{find-some}
use Rattle.base.proofs.Written.{parts_same}
use Rattle.model.specs.Figures.{most_bytes, data_limit, table_bytes}
use Rattle.model.specs.Snapshot.{Snapshot, load, resumed}
use Rattle.table.specs.declared.Table.{Table}
use Rattle.table.specs.declared.Entry.{Entry as Meta}
use Rattle.table.specs.View.{no_meta, meta_id, live, FitMeta, Arranged, meta_of, SlotsStay, Lays}
use Rattle.table.proofs.Laying.{stays_self, wrote_none, lays-free, lays-behind}
use Rattle.node.specs.declared.State.{State}
use Rattle.node.specs.declared.answers.Done.{Done}
use Rattle.ledger.specs.Promises.{Resumes}
use Rattle.ledger.specs.Calls.{PublicCall, Promised, state_after, memory_after, number_of, starts_anew, written_by}
use Rattle.ledger.specs.Demands.{MemoryKept}
use Rattle.ledger.proofs.Left.{not-small, not_small_room}
use Rattle.ledger.proofs.Calls.{numbers_exact, refusals_leave_all}

pub size : (x : PublicCall) (s : State) (m : List ℕ) → Promised x s m → length (memory_after x m) ≡ length m
size (PublicCall.begins own clock rs r) s m h = refl
size (PublicCall.resumes bytes clock rs r m') s m h = h.0.size
size (PublicCall.receives datagram clock endpoint unicast rs q r m' q') s m h = h.size
size (PublicCall.ticks clock endpoint rs q r m' q') s m h = h.size
size (PublicCall.chooses clock endpoint interval rs r m') s m h = h.0.size
size (PublicCall.pays clock p rs r m') s m h = h.0.size
size (PublicCall.purges clock rs r) s m h = refl
size (PublicCall.looks x) s m h = refl

beyond : (x : PublicCall) (s : State) (m : List ℕ) → Promised x s m → drop table_bytes (memory_after x m) ≡ drop table_bytes m
beyond (PublicCall.begins own clock rs r) s m h = refl
beyond (PublicCall.resumes bytes clock rs r m') s m h = h.0.beyond
beyond (PublicCall.receives datagram clock endpoint unicast rs q r m' q') s m h = h.beyond
beyond (PublicCall.ticks clock endpoint rs q r m' q') s m h = h.beyond
beyond (PublicCall.chooses clock endpoint interval rs r m') s m h = h.0.beyond
beyond (PublicCall.pays clock p rs r m') s m h = h.0.beyond
beyond (PublicCall.purges clock rs r) s m h = refl
beyond (PublicCall.looks x) s m h = refl

-- ---- refused, the memory is as it was; accepted, what the call writes was laid in it

-- refused or not
by_number : {X : Type 0} (n : ℕ) → (¬ (n ≡ 0) → X) → (n ≡ 0 → X) → X
by_number n f g = by_test (eqb n 0) (λ b. g (eqb-true n 0 b)) (λ b. f (eqb-false n 0 b))

-- an accepted resume has a snapshot
lays_loaded : (bytes : List ℕ) (clock : ℕ) (rs : List ℕ) (r : Done) (m' : List ℕ) (s : State) (m : List ℕ) → Resumes bytes clock rs s m r m' → r.number ≡ 0
    → (o : Option Snapshot) → load clock bytes ≡ o → not (is_some (load clock bytes)) ≡ false
    → Lays m (or_else (load clock bytes) [] (λ b. b.entries ++ (resumed clock rs b).table)) r.state.table m'
lays_loaded bytes clock rs r m' s m h z none e i = no_way (is_some (load clock bytes)) (not-false (is_some (load clock bytes)) i) (ap is_some e)
lays_loaded bytes clock rs r m' s m h z (some b) e i = rw e (h.1 z b e)

exactly : (x : PublicCall) (s : State) (m : List ℕ) → Promised x s m → number_of x s m ≡ 0 → Lays m (written_by x s m) (state_after x s).table (memory_after x m)
exactly (PublicCall.begins own clock rs r) s m h z = (wrote_none r.state.table m).lays
exactly (PublicCall.resumes bytes clock rs r m') s m h z =
    lays_loaded bytes clock rs r m' s m h z (load clock bytes) refl ((numbers_exact.number (PublicCall.resumes bytes clock rs r m') s m h).none.0 z).1.1.0
exactly (PublicCall.receives datagram clock endpoint unicast rs q r m' q') s m h z = (h.wrote z).lays
exactly (PublicCall.ticks clock endpoint rs q r m' q') s m h z = (h.wrote z).lays
exactly (PublicCall.chooses clock endpoint interval rs r m') s m h z = (h.1 z).lays
exactly (PublicCall.pays clock p rs r m') s m h z = (h.1 z).lays
exactly (PublicCall.purges clock rs r) s m h z = (wrote_none r.state.table m).lays
exactly (PublicCall.looks x) s m h z = (wrote_none s.table m).lays

-- what the laws of laying ask of the table, and of the memory where something was written
record Placed (x : PublicCall) (s : State) (m : List ℕ) : Type 0 where
  room : table_bytes ≤ length m
  arranged : Arranged (state_after x s).table
  lays : Lays m (written_by x s m) (state_after x s).table (memory_after x m)

outcome : (x : PublicCall) (s : State) (m : List ℕ) → Promised x s m → (memory_after x m ≡ m) ⊎ Placed x s m
outcome x s m h = by_number (number_of x s m) (λ n. inl (refusals_leave_all.refused x s m h n).1.0) (accepted x s m h)
  where
    accepted : (x : PublicCall) (s : State) (m : List ℕ) → Promised x s m → number_of x s m ≡ 0 → (memory_after x m ≡ m) ⊎ Placed x s m
    accepted (PublicCall.begins own clock rs r) s m h z = inl refl
    accepted (PublicCall.resumes bytes clock rs r m') s m h z =
        inr (record {
          room = not-small (length m) ((numbers_exact.number (PublicCall.resumes bytes clock rs r m') s m h).none.0 z).1.0;
          arranged = h.0.left.arranged;
          lays = exactly (PublicCall.resumes bytes clock rs r m') s m h z;
        })
    accepted (PublicCall.receives datagram clock endpoint unicast rs q r m' q') s m h z =
        inr (record {
          room = (not_small_room (length m) (length q) most_bytes ((numbers_exact.number (PublicCall.receives datagram clock endpoint unicast rs q r m' q') s m h).none.0 z).1.1.1.0).0;
          arranged = h.left.arranged;
          lays = (h.wrote z).lays;
        })
    accepted (PublicCall.ticks clock endpoint rs q r m' q') s m h z =
        inr (record {
          room = (not_small_room (length m) (length q) most_bytes ((numbers_exact.number (PublicCall.ticks clock endpoint rs q r m' q') s m h).none.0 z).1.1.1.0).0;
          arranged = h.left.arranged;
          lays = (h.wrote z).lays;
        })
    accepted (PublicCall.chooses clock endpoint interval rs r m') s m h z =
        inr (record {
          room = not-small (length m) ((numbers_exact.number (PublicCall.chooses clock endpoint interval rs r m') s m h).none.0 z).1.1.1.1.0;
          arranged = h.0.left.arranged;
          lays = (h.1 z).lays;
        })
    accepted (PublicCall.pays clock p rs r m') s m h z =
        inr (record {
          room = not-small (length m) ((numbers_exact.number (PublicCall.pays clock p rs r m') s m h).none.0 z).1.1.0;
          arranged = h.0.left.arranged;
          lays = (h.1 z).lays;
        })
    accepted (PublicCall.purges clock rs r) s m h z = inl refl
    accepted (PublicCall.looks x) s m h z = inl refl

-- ---- a node keeps its slot

-- found twice, it is one
one_found : (t : Table) (n : ℕ) (x y : Meta) → meta_of t n ≡ some x → meta_of t n ≡ some y → x ≡ y
one_found t n x y e f = ap (λ (o : Option Meta). or_else o no_meta (λ z. z)) (sym e ∙ f)

stay-slots : (t r : Table) → SlotsStay t r → (n : ℕ) (y z : Meta) → meta_of t n ≡ some y → meta_of r n ≡ some z → z.slot ≡ y.slot
stay-slots t r k n y z e f = let w = k n y e in ap (λ (x : Meta). x.slot) (one_found r n z w.0 f w.1) ∙ w.2

slots : (x : PublicCall) (s : State) (m : List ℕ) → Promised x s m → starts_anew x ≡ false
    → (n : ℕ) (y z : Meta) → meta_of s.table n ≡ some y → meta_of (state_after x s).table n ≡ some z → z.slot ≡ y.slot
slots x s m h f n y z e g =
    by_number (number_of x s m)
    (λ k. ap (λ (w : Meta). w.slot) (one_found s.table n z y (ap (λ (v : State). meta_of v.table n) (sym (refusals_leave_all.refused x s m h k).0) ∙ g) e))
    (λ k. accepted x s m h f k n y z e g)
  where
    accepted : (x : PublicCall) (s : State) (m : List ℕ) → Promised x s m → starts_anew x ≡ false → number_of x s m ≡ 0
        → (n : ℕ) (y z : Meta) → meta_of s.table n ≡ some y → meta_of (state_after x s).table n ≡ some z → z.slot ≡ y.slot
    accepted (PublicCall.begins own clock rs r) s m h f k = no_way true refl f
    accepted (PublicCall.resumes bytes clock rs r m') s m h f k = no_way true refl f
    accepted (PublicCall.receives datagram clock endpoint unicast rs q r m' q') s m h f k = stay-slots s.table r.state.table (h.wrote k).slots
    accepted (PublicCall.ticks clock endpoint rs q r m' q') s m h f k = stay-slots s.table r.state.table (h.wrote k).slots
    accepted (PublicCall.chooses clock endpoint interval rs r m') s m h f k = stay-slots s.table r.state.table (h.1 k).slots
    accepted (PublicCall.pays clock p rs r m') s m h f k = stay-slots s.table r.state.table (h.1 k).slots
    accepted (PublicCall.purges clock rs r) s m h f k = λ n y z e g. sym (stay-slots r.state.table s.table h.1 n z y g e)
    accepted (PublicCall.looks x) s m h f k = stay-slots s.table s.table (stays_self s.table)

pub memory_kept : MemoryKept
memory_kept =
    record {
      exactly = exactly;
      size = size;
      beyond = beyond;
      free = λ x s m h j f.
          ⊎_elim (λ e. ap (λ (y : List ℕ). part y (j * data_limit) data_limit) e)
          (λ o. lays-free (state_after x s).table m (written_by x s m) (memory_after x m) o.arranged o.room o.lays j f) (outcome x s m h);
      behind = λ x s m h n k y e f low.
          ⊎_elim (λ o. ap (λ (z : List ℕ). part z (y.slot * data_limit + k) (data_limit - k)) o)
          (λ o. lays-behind (state_after x s).table m (written_by x s m) (memory_after x m) o.arranged o.room o.lays n k y e f low) (outcome x s m h);
      same = λ x s m h n y e d f.
          ⊎_elim (λ o. ap (λ (z : List ℕ). part z (y.slot * data_limit) data_limit) o)
          (λ o. let low : y.len ≤ data_limit = (all_in FitMeta y (live (state_after x s).table) o.arranged.fit (find-some meta_id n y (live (state_after x s).table) e).0).1 in
          parts_same m (memory_after x m) (y.slot * data_limit) y.len data_limit low d
          (lays-behind (state_after x s).table m (written_by x s m) (memory_after x m) o.arranged o.room o.lays n y.len y e f low)) (outcome x s m h);
      slots = slots;
    }
