-- What `save` answers: the snapshot at the front of the room. Assumes nothing.
use mathlib.Core.Path.{◌≡◌, refl, sym, ap, ◌∙◌}
use mathlib.Core.List.{List, []}
use Prim.Native.Nat.{ℕ, ◌+◌, ◌≤◌}
use native.Mathlib.Omega.{arith}
use lib.ListN.{length, drop, length-append, length-drop}
use Rattle.base.specs.Memory.{written}
use Rattle.base.proofs.Written.{part-there, written-above}
use Rattle.model.specs.Figures.{snapshot_bytes}
use Rattle.model.specs.Numbers.{number}
use Rattle.model.specs.declared.numbers.Refusal.{Refusal}
use Rattle.model.specs.State.{State as ModelState}
use Rattle.model.specs.Snapshot.{Saved as ModelSaved, saved, refusal_save, save}
use Rattle.model.specs.Invariant.{TableFits}
use Rattle.table.specs.View.{view, Kept}
use Rattle.snapshot.specs.Answers.{SavedTo}
use Rattle.node.specs.declared.State.{State}
use Rattle.node.specs.View.{state_of}
use Rattle.node.proofs.Parts.{state-last}
use Rattle.ledger.specs.Promises.{AsLeft, SavesTo}
use Rattle.ledger.proofs.Left.{left-rep, left-midway, room-accepted}
use Rattle.ledger.proofs.Answering.{refused, as_refused, as_accepted}

abbrev answer : ℕ → List ℕ → ModelSaved
answer k d = record { number = k; bytes = d }

-- bytes that were stored at the front of a room of the same size
module _ (d q q' : List ℕ) (r : ℕ) (h : SavedTo d q q' r) (same : length q' ≡ length q) where
  fits : 0 + length d ≤ length q
  fits =
      let e : length q' ≡ length (written q 0 d) = ap length h.front in
      omega (arith, simp (length-append, length-drop) at e)

  stored : (a : ModelSaved) → answer 0 d ≡ a → SavesTo a q (record { number = 0; length = r }) q'
  stored a e =
      record {
        is = ap (answer 0) (part-there q q' d 0 r h.front h.size fits) ∙ e;
        within = omega (arith, h.size, fits);
        room = same;
        rest = ap (drop r) h.front ∙ written-above q d 0 fits r (omega (arith, h.size));
      }

module _ (clock room : ℕ) {s : State} {m : List ℕ} (l : AsLeft s m) where
  pub save-refused : (n : Refusal) → ((v : ModelState) → v.last ≡ s.last → number n ≡ refusal_save clock (length m) room v) → (q : List ℕ)
      → SavesTo (save clock (length m) room (state_of s m)) q (record { number = number n; length = 0 }) q
  unfolding save
  save-refused n f q =
      record {
        is = as_refused (number n) (refusal_save clock (length m) room (state_of s m)) (f (state_of s m) (state-last s m)) (answer 0 (saved (state_of s m).own clock (state_of s m).table)) (λ k. answer k []) (refused n);
        within = omega arith;
        room = refl;
        rest = refl;
      }

  -- a call that is not refused
  module _ (f : (v : ModelState) → v.last ≡ s.last → 0 ≡ refusal_save clock (length m) room v) where
    accepted : answer 0 (saved s.own clock (view s.table m)) ≡ save clock (length m) room (state_of s m)
    unfolding save state_of
    accepted =
        as_accepted 0 (refusal_save clock (length m) room (state_of s m)) (f (state_of s m) (state-last s m)) (answer 0 (saved (state_of s m).own clock (state_of s m).table)) (λ k. answer k []) refl

    pub save_accepted : (q q' : List ℕ) (r : ℕ) → SavedTo (saved s.own clock (view s.table m)) q q' r → length q' ≡ length q
        → SavesTo (save clock (length m) room (state_of s m)) q (record { number = 0; length = r }) q'
    save_accepted q q' r h same = stored (saved s.own clock (view s.table m)) q q' r h same (save clock (length m) room (state_of s m)) accepted

    pub save_ready : Kept s.table m × (TableFits s.own clock (view s.table m) × (snapshot_bytes ≤ room))
    unfolding state_of
    save_ready =
        let a = room-accepted clock (state_of s m) (length m) room snapshot_bytes (sym (f (state_of s m) (state-last s m))) in
        ((left-rep l a.1.1.0).table, ((left-midway l a.1.1.0 clock a.1.0).table, a.1.1.1))
