-- Resuming: what was loaded, published once more without the Peer and Keep-Alive TLVs, and the digest worked out last. Assumes nothing.
use mathlib.Core.Path.{◌≡◌, refl, sym, ap, ◌∙◌, subst}
use mathlib.Core.Bool.{true}
use mathlib.Core.List.{List, ◌++◌}
use Prim.Native.Nat.{ℕ, ◌≤◌}
use lib.ListN.{length}
use Rattle.base.specs.Lists.{is_some}
use Rattle.base.specs.Memory.{cut}
use Rattle.wire.specs.Order.{good}
use Rattle.model.specs.Figures.{data_limit, last_reading}
use Rattle.model.specs.Sequence.{advance}
use Rattle.model.specs.Table.{Entry, look}
use Rattle.model.specs.State.{State as ModelState, own_entry, own_seq, own_data, publish_as}
use Rattle.model.specs.Begin.{started}
use Rattle.model.specs.Snapshot.{Snapshot, without_links, republished, resumed}
use Rattle.model.specs.Invariant.{TableFits, SnapshotFits}
use Rattle.model.proofs.Snapshots.{load_fits}
use Rattle.model.proofs.KeptCalls.{before-good, resumed-valid}
use Rattle.table.specs.declared.Table.{Table}
use Rattle.table.specs.View.{view, Kept, Lays, Wrote}
use Rattle.table.proofs.Laying.{lays_then}
use Rattle.reach.specs.Marks.{Readable}
use Rattle.snapshot.specs.declared.load.Loaded.{Loaded}
use Rattle.snapshot.specs.Answers.{Holds}
use Rattle.node.specs.declared.State.{State}
use Rattle.node.specs.View.{state_of, Rep, Held, Moved, Published}
use Rattle.node.proofs.Parts.{state-held, state-table}
use Rattle.start.specs.Started.{undigested, digested, unlinked, Resumes}
use Rattle.start.proofs.Starting.{then_digested, table_readable}

-- ---- our data published once more

module _ (clock : ℕ) (s : State) (m d : List ℕ) (e : d ≡ own_data (state_of s m)) where
  -- their place lies in the data that is cut
  pub unlinked-within : (n : ℕ) → n ≤ length d → n ≤ length (own_data (state_of s m))
  unlinked-within n h = subst (λ (x : List ℕ). n ≤ length x) e h

  pub unlinked-published : (p k q n : ℕ) → cut d p k ≡ without_links d → q ≡ own_seq (state_of s m) → n ≡ advance q 1 → (r : State) (m' : List ℕ)
      → Published (publish_as clock n (cut (own_data (state_of s m)) p k) (state_of s m)) s m r m' → Published (unlinked clock (state_of s m)) s m r m'
  unfolding unlinked
  unlinked-published p k q n w f g r m' h =
      subst (λ (z : ModelState). Published z s m r m')
      (ap (λ (x : List ℕ). publish_as clock n x (state_of s m)) (ap (λ (x : List ℕ). cut x p k) (sym e) ∙ w ∙ ap without_links e)
      ∙ ap (λ (x : ℕ). publish_as clock x (without_links (own_data (state_of s m))) (state_of s m)) (g ∙ ap (λ (x : ℕ). advance x 1) f)) h

-- ---- the model's state step by step

module _ (clock : ℕ) (rs : List ℕ) (b : Snapshot) (f : SnapshotFits clock b) where
  -- started from the entries as they were saved, and as they are once our own is published again
  abbrev before : ModelState
  before = undigested b.own clock rs b.entries

  abbrev after : ModelState
  after = undigested b.own clock rs (republished clock b)

  before-held : is_some (look before.own before.table) ≡ true
  unfolding undigested
  before-held = f.table.held

  before-fine : good data_limit (own_data before) ≡ true
  unfolding undigested own_entry
  before-fine = before-good clock rs b f

  -- the one publishing of the code is the one in the model's table
  then_after : unlinked clock before ≡ after
  unfolding unlinked undigested publish_as own_entry republished
  then_after = refl

  after-fits : clock ≤ last_reading → length rs ≡ 4 → TableFits after.own clock after.table
  unfolding undigested resumed started
  after-fits l r = (resumed-valid clock rs b f l r).inside.table

  then_resumed : digested clock after ≡ resumed clock rs b
  unfolding resumed
  then_resumed = then_digested b.own clock rs (republished clock b)

-- ---- and the code's

module _ (clock : ℕ) (bytes rs m : List ℕ) (x : Loaded) (m₁ : List ℕ) (g : Holds clock bytes m x m₁) where
  abbrev taken : Snapshot
  taken = record { own = x.own; entries = view x.table m₁ }

  -- so every number is in range and all data good
  taken-fits : SnapshotFits clock taken
  taken-fits = load_fits clock bytes taken g.loads

  module _ (s : State) (w : ((k : List ℕ) → Kept x.table k → Rep s k × (state_of s k ≡ undigested x.own clock rs (view x.table k))) × (s.table ≡ x.table)) where
    loaded_is : state_of s m₁ ≡ before clock rs taken taken-fits
    loaded_is = (w.0 m₁ g.kept).1

    -- what publishing once more asks
    pub resume_ready : Rep s m₁ × (Held s m₁ × (good data_limit (own_data (state_of s m₁)) ≡ true))
    resume_ready = (
      (w.0 m₁ g.kept).0,
      (
        state-held s m₁ (subst (λ (z : ModelState). is_some (look z.own z.table) ≡ true) (sym loaded_is) (before-held clock rs taken taken-fits)),
        subst (λ (z : ModelState). good data_limit (own_data z) ≡ true) (sym loaded_is) (before-fine clock rs taken taken-fits),
      ),
    )

    module _ (l : clock ≤ last_reading) (four : length rs ≡ 4) (r : State) (m₂ : List ℕ) (u : Published (unlinked clock (state_of s m₁)) s m₁ r m₂) where
      again-is : state_of r m₂ ≡ after clock rs taken taken-fits
      again-is = u.moved.is ∙ ap (unlinked clock) loaded_is ∙ then_after clock rs taken taken-fits

      -- what the digest asks
      pub resume-readable : Rep r m₂ × (Readable clock r.table m₂ × Held r m₂)
      resume-readable = (u.moved.rep, table_readable clock r m₂ u.moved.rep (after clock rs taken taken-fits) again-is (after-fits clock rs taken taken-fits l four) l)

      resumed-from : (q : State) → Moved (digested clock (state_of r m₂)) m₂ q m₂ → Moved (resumed clock rs taken) m q m₂
      resumed-from q d =
          record {
            rep = d.rep;
            is = d.is ∙ ap (digested clock) again-is ∙ then_resumed clock rs taken taken-fits;
            size = u.moved.size ∙ g.size;
            beyond = u.moved.beyond ∙ g.beyond;
          }

      -- the snapshot's entries are laid, then those of the table that is left
      resumed_laid : (q : State) → Moved (digested clock (state_of r m₂)) m₂ q m₂ → q.table ≡ r.table → Lays m (taken.entries ++ (resumed clock rs taken).table) q.table m₂
      resumed_laid q d e =
          let b : Wrote x.table m₁ (view r.table m₂) r.table m₂ = subst (λ (z : Table). Wrote z m₁ (view r.table m₂) r.table m₂) w.1 u.wrote in
          let v : view r.table m₂ ≡ (resumed clock rs taken).table =
          ap (λ (z : Table). view z m₂) (sym e) ∙ sym (state-table q m₂) ∙ ap (λ (z : ModelState). z.table) (resumed-from q d).is in
          subst (λ (z : Table). Lays m (taken.entries ++ (resumed clock rs taken).table) z m₂) (sym e)
          (subst (λ (es : List Entry). Lays m (taken.entries ++ es) r.table m₂) v
          (lays_then x.table r.table m (view x.table m₁) m₁ (view r.table m₂) m₂ g.lays b))

      pub resume_done : (q : State) → Moved (digested clock (state_of r m₂)) m₂ q m₂ × (q.table ≡ r.table) → Resumes clock bytes rs m q m₂
      resume_done q d = record { snapshot = taken; loads = g.loads; resumes = resumed-from q d.0; lays = resumed_laid q d.0 d.1 }
