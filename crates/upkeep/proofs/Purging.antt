-- Only the reachable nodes stay: what the marking then asks of the table, and the state as it is left. Assumes nothing.
use mathlib.Core.Path.{sym, ap, subst}
use mathlib.Core.List.{List}
use Prim.Native.Nat.{ℕ, ◌≤◌}
use Rattle.model.specs.Figures.{last_reading}
use Rattle.model.specs.Table.{Entry}
use Rattle.model.specs.Reach.{reached}
use Rattle.model.specs.State.{with_table, settle}
use Rattle.model.specs.Pay.{purged}
use Rattle.model.specs.Invariant.{Midway}
use Rattle.model.proofs.KeptCalls.{reached-kept}
use Rattle.table.specs.declared.Table.{Table}
use Rattle.table.specs.View.{view, SlotsStay, Purged}
use Rattle.reach.specs.declared.Reached.{Reached}
use Rattle.reach.specs.Marks.{Readable, Reaching}
use Rattle.reach.proofs.Reaching.{reached_by}
use Rattle.node.specs.declared.State.{State}
use Rattle.node.specs.View.{state_of, Rep, Held, Moved, Settled}
use Rattle.node.proofs.Parts.{put_table}
use Rattle.node.proofs.Moves.{moved_to, moved_then, purged_moved}
use Rattle.node.proofs.Settling.{settled_moved}
use Rattle.upkeep.proofs.Leaving.{midway-readable}

module _ (clock : ℕ) (s : State) (m : List ℕ) (k : Rep s m) (x : Reached) (g : Reaching s.own clock (view s.table m) x) (t : Table) (o : Purged x.marks s.table t) where
  purged_by : Moved (with_table (reached (state_of s m).own clock (state_of s m).table) (state_of s m)) m (put_table t s) m
  unfolding state_of
  purged_by = moved_to (purged_moved s m k t x.marks o) (ap (λ (l : List Entry). with_table l (state_of s m)) (reached_by s.own clock (view s.table m) x.marks g.marks))

  pub purged-readable : Midway clock (state_of s m) → clock ≤ last_reading → Readable clock t m × Held (put_table t s) m
  purged-readable w l = midway-readable clock (put_table t s) m (subst (Midway clock) (sym purged_by.is) (reached-kept clock (state_of s m) w)) purged_by.rep l

  -- and what stands last
  pub purged_settled : (rs : List ℕ) (y : Reached) (q : State) → Reaching s.own clock (view t m) y → Settled clock rs y.digest (put_table t s) q
      → Moved (purged clock rs (state_of s m)) m q m × SlotsStay q.table s.table
  unfolding purged
  purged_settled rs y q f e = (
    moved_then purged_by (settle clock rs) (settled_moved clock rs y.digest (put_table t s) q m e purged_by.rep f.digest),
    subst (λ (z : Table). SlotsStay z s.table) (sym e.table) o.slots,
  )
