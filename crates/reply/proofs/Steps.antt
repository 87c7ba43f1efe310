-- Steps on the work: the model's work by its parts, and how one step follows another. Layers above cite these laws and open no `work_of`.
-- Assumes nothing.
use mathlib.Core.Path.{◌≡◌, refl, sym, ap, ◌∙◌, subst}
use mathlib.Core.List.{List, ◌++◌}
use mathlib.Core.Option.{none, some}
use Rattle.std.specs.Prelude.{Option as Answer, Some, None}
use Prim.Native.Nat.{ℕ, ◌+◌, ◌-◌, ◌≤◌}
use native.Mathlib.Omega.{arith}
use lib.ListN.{length, take, length-set}
use lib.Seq.{length-take-le, get_or-set_same, set-set}
use Rattle.base.specs.Memory.{written}
use Rattle.base.proofs.Lists.{drop_later}
use Rattle.base.proofs.Written.{written-length, written-taken, written-left}
use Rattle.model.specs.Figures.{most_bytes}
use Rattle.model.specs.Table.{Entry}
use Rattle.model.specs.State.{State as ModelState, endpoint_at, with_endpoint}
use Rattle.model.specs.Handle.{Work as ModelWork, with_state, with_sender, with_out, omit_one, drop_one}
use Rattle.model.specs.Invariant.{Midway}
use Rattle.table.specs.View.{view, SlotsStay, Wrote}
use Rattle.table.specs.declared.Table.{Table}
use Rattle.table.proofs.Laying.{stays_self, wrote_later, wrote_still, kept-wrote}
use Rattle.reach.specs.declared.Reached.{Reached}
use Rattle.reach.specs.Marks.{Reaching}
use Rattle.node.specs.declared.State.{State}
use Rattle.node.specs.declared.Endpoint.{Endpoint}
use Rattle.node.specs.declared.peers.Peers.{Peers}
use Rattle.node.specs.View.{endpoint_of, state_of, Rep, Moved, Published}
use Rattle.node.proofs.Parts.{state-own, state-table, state-endpoint, pred-is, put_endpoints}
use Rattle.node.proofs.Moves.{endpoint_moved}
use Rattle.reply.specs.declared.Context.{Context}
use Rattle.reply.specs.declared.Sender.{Sender}
use Rattle.reply.specs.declared.Progress.{Progress}
use Rattle.reply.specs.Updates.{with_local, with_reached}
use Rattle.reply.specs.View.{Work, gather, work_of, Sound, most_counted, Ready, Stepped, Markable, Open}

-- ---- the model's work by its parts

module _ (w : Work) (m r : List ℕ) where
  pub work_state : (work_of w m r).state ≡ state_of w.state m
  unfolding work_of
  work_state = refl

  pub work_own : (work_of w m r).state.own ≡ w.state.own
  unfolding work_of state_of
  work_own = refl

  pub work_table : (work_of w m r).state.table ≡ view w.state.table m
  unfolding work_of state_of
  work_table = refl

  pub work_known : (f : Sender) → w.sender ≡ Some f → (work_of w m r).sender ≡ some (record { node = f.node; endpoint = f.endpoint })
  unfolding work_of
  work_known f e = rw e

  pub work_unknown : w.sender ≡ None → (work_of w m r).sender ≡ none
  unfolding work_of
  work_unknown e = rw e

  pub work_out : (work_of w m r).out ≡ take w.used r
  unfolding work_of
  work_out = refl

  pub work_omitted : (work_of w m r).omitted ≡ w.omitted
  unfolding work_of
  work_omitted = refl

  pub work_dropped : (work_of w m r).dropped ≡ w.dropped
  unfolding work_of
  work_dropped = refl

  -- as many bytes are written as are used
  pub work_length : {clock : ℕ} → Sound clock w m r → length (work_of w m r).out ≡ w.used
  work_length s = rw work_out (length-take-le w.used r (omega (arith, s.used, s.room)))

-- ---- the work with another part

-- the state; `g` are marks and digest, if they are still those of its table
abbrev pub put_state : State → Answer Reached → Work → Work
put_state s g w = record { state = s; sender = w.sender; used = w.used; omitted = w.omitted; dropped = w.dropped; reached = g }

abbrev pub put_sender : Sender → Work → Work
put_sender f w = record { state = w.state; sender = Some f; used = w.used; omitted = w.omitted; dropped = w.dropped; reached = w.reached }

abbrev pub put_used : ℕ → Work → Work
put_used n w = record { state = w.state; sender = w.sender; used = n; omitted = w.omitted; dropped = w.dropped; reached = w.reached }

abbrev pub put_omitted : ℕ → Work → Work
put_omitted n w = record { state = w.state; sender = w.sender; used = w.used; omitted = n; dropped = w.dropped; reached = w.reached }

abbrev pub put_dropped : ℕ → Work → Work
put_dropped n w = record { state = w.state; sender = w.sender; used = w.used; omitted = w.omitted; dropped = n; reached = w.reached }

-- marks and digest, worked out
abbrev pub put_reached : Reached → Work → Work
put_reached g w = record { state = w.state; sender = w.sender; used = w.used; omitted = w.omitted; dropped = w.dropped; reached = Some g }

module _ (w : Work) (m r : List ℕ) where
  pub state-put : (s : State) (g : Answer Reached) (m' : List ℕ) → work_of (put_state s g w) m' r ≡ with_state (state_of s m') (work_of w m r)
  unfolding work_of
  state-put s g m' = refl

  -- the sender that stands in the Node Endpoint TLV
  pub sender-put : (f : Sender) → work_of (put_sender f w) m r ≡ with_sender (record { node = f.node; endpoint = f.endpoint }) (work_of w m r)
  unfolding work_of
  sender-put f = refl

  pub used-put : (n : ℕ) (r' : List ℕ) → work_of (put_used n w) m r' ≡ with_out (take n r') (work_of w m r)
  unfolding work_of
  used-put n r' = refl

  pub omitted-put : work_of (put_omitted (w.omitted + 1) w) m r ≡ omit_one (work_of w m r)
  unfolding work_of
  omitted-put = refl

  pub dropped-put : work_of (put_dropped (w.dropped + 1) w) m r ≡ drop_one (work_of w m r)
  unfolding work_of
  dropped-put = refl

  pub reached-put : (g : Reached) → work_of (put_reached g w) m r ≡ work_of w m r
  unfolding work_of
  reached-put g = refl

-- ---- the representation with another part

module _ {clock : ℕ} {w : Work} {m r : List ℕ} (h : Sound clock w m r) where
  -- another state over the same table: marks and digest stay
  pub sound-state : (s : State) → Rep s m → s.own ≡ w.state.own → s.table ≡ w.state.table → Sound clock (put_state s w.reached w) m r
  sound-state s k o t = record { rep = k; used = h.used; room = h.room; cached = λ g f. rw (o, t) (h.cached g f) }

  -- another table: they are to be worked out anew
  pub sound-anew : (s : State) (m' : List ℕ) → Rep s m' → Sound clock (put_state s None w) m' r
  sound-anew s m' k = record { rep = k; used = h.used; room = h.room; cached = λ g f. cc }

  pub sound-sender : (f : Sender) → Sound clock (put_sender f w) m r
  sound-sender f = record { rep = h.rep; used = h.used; room = h.room; cached = h.cached }

  pub sound-omitted : (n : ℕ) → Sound clock (put_omitted n w) m r
  sound-omitted n = record { rep = h.rep; used = h.used; room = h.room; cached = h.cached }

  pub sound-dropped : (n : ℕ) → Sound clock (put_dropped n w) m r
  sound-dropped n = record { rep = h.rep; used = h.used; room = h.room; cached = h.cached }

  pub sound-used : (n : ℕ) (r' : List ℕ) → n ≤ most_bytes → length r' ≡ length r → Sound clock (put_used n w) m r'
  sound-used n r' p e = record { rep = h.rep; used = p; room = rw e h.room; cached = h.cached }

  pub sound-reached : (g : Reached) → Reaching w.state.own clock (view w.state.table m) g → Sound clock (put_reached g w) m r
  sound-reached g k = record { rep = h.rep; used = h.used; room = h.room; cached = λ x f. let e : g ≡ x = cc in subst (Reaching w.state.own clock (view w.state.table m)) e k }

-- ---- one step, and the next

module _ {c : Context} {w : Work} {m r : List ℕ} where
  -- a step that leaves memory and room as they were
  pub stepped_still : (k : ℕ) (f : ModelWork → ModelWork) (v : Work) → work_of v m r ≡ f (work_of w m r) → Sound c.clock v m r
      → v.omitted ≤ w.omitted + k → v.dropped ≤ w.dropped + k → v.used ≡ w.used → v.state.table ≡ w.state.table → Stepped c k f w m r v m r
  stepped_still k f v e h p q u t =
      record {
        is = e;
        sound = h;
        omitted = p;
        dropped = q;
        wrote = kept-wrote w.state.table v.state.table m (subst (SlotsStay w.state.table) (sym t) (stays_self w.state.table)) h.rep.table;
        size = refl;
        beyond = refl;
        room = refl;
        onward = omega arith;
        rest = refl;
      }

  -- a step that does nothing
  pub stepped_none : Sound c.clock w m r → Stepped c 0 (λ x. x) w m r w m r
  stepped_none h = stepped_still 0 (λ x. x) w refl h (omega arith) (omega arith) refl refl

  module _ {k : ℕ} {f : ModelWork → ModelWork} {v : Work} {m' r' : List ℕ} (h : Stepped c k f w m r v m' r') where
    -- the model's step is another's at this work
    pub stepped_to : (g : ModelWork → ModelWork) → f (work_of w m r) ≡ g (work_of w m r) → Stepped c k g w m r v m' r'
    stepped_to g e =
        record { is = h.is ∙ e; sound = h.sound; omitted = h.omitted; dropped = h.dropped; wrote = h.wrote; size = h.size; beyond = h.beyond; room = h.room; onward = h.onward; rest = h.rest }

    -- a larger bound
    pub stepped_more : (n : ℕ) → k ≤ n → Stepped c n f w m r v m' r'
    stepped_more n p =
        record { is = h.is; sound = h.sound; omitted = omega (arith, h.omitted); dropped = omega (arith, h.dropped); wrote = h.wrote; size = h.size; beyond = h.beyond; room = h.room; onward = h.onward; rest = h.rest }

    -- the state afterwards is the model's
    pub stepped_state : state_of v.state m' ≡ (f (work_of w m r)).state
    stepped_state = sym (work_state v m' r') ∙ ap (λ (x : ModelWork). x.state) h.is

    -- one step after the other, their bounds added; w says what both write
    stepped_both : {j : ℕ} {g : ModelWork → ModelWork} {u : Work} {m'' r'' : List ℕ} → Stepped c j g v m' r' u m'' r''
        → Wrote w.state.table m (view u.state.table m'') u.state.table m'' → Stepped c (k + j) (λ x. g (f x)) w m r u m'' r''
    stepped_both {g = g} {u = u} n x =
        record {
          wrote = x;
          is = n.is ∙ ap g h.is;
          sound = n.sound;
          omitted = omega (arith, h.omitted, n.omitted);
          dropped = omega (arith, h.dropped, n.dropped);
          size = n.size ∙ h.size;
          beyond = n.beyond ∙ h.beyond;
          room = n.room ∙ h.room;
          onward = omega (arith, h.onward, n.onward);
          rest = n.rest ∙ drop_later r r' v.used u.used n.onward h.rest;
        }

    -- the second leaves memory and entries as the first left them
    pub stepped_last : {j : ℕ} {g : ModelWork → ModelWork} {u : Work} {r'' : List ℕ} → Stepped c j g v m' r' u m' r'' → view u.state.table m' ≡ view v.state.table m'
        → Stepped c (k + j) (λ x. g (f x)) w m r u m' r''
    stepped_last {u = u} n e =
        stepped_both n
        (subst (λ (es : List Entry). Wrote w.state.table m es u.state.table m') (sym e)
        (wrote_still w.state.table v.state.table u.state.table m (view v.state.table m') m' h.wrote n.wrote.slots))

    -- after a step that keeps the invariant the next one can come
    pub ready_next : Ready c w m r → Midway c.clock (f (work_of w m r)).state → v.omitted ≤ most_counted → v.dropped ≤ most_counted → Ready c v m' r'
    ready_next g i p q =
        record { sound = h.sound; midway = rw stepped_state i; clock = g.clock; first = g.first; fourth = g.fourth; omitted = p; dropped = q }

-- one step after another that left the memory alone
pub stepped_then : {c : Context} {w : Work} {m r : List ℕ} {k : ℕ} {f : ModelWork → ModelWork} {v : Work} {r' : List ℕ} → Stepped c k f w m r v m r'
    → {j : ℕ} {g : ModelWork → ModelWork} {u : Work} {m'' r'' : List ℕ} → Stepped c j g v m r' u m'' r'' → Stepped c (k + j) (λ x. g (f x)) w m r u m'' r''
stepped_then {w = w} {m = m} {v = v} h {u = u} {m'' = m''} n =
    stepped_both h n (wrote_later w.state.table v.state.table u.state.table m (view u.state.table m'') m'' h.wrote.slots n.wrote)

-- ---- steps on one part

module _ {c : Context} {w : Work} {m r : List ℕ} (h : Sound c.clock w m r) (f : ModelWork → ModelWork) where
  -- the state, its table as it was
  pub stepped_kept : (a : ModelState) (s : State) → Moved a m s m → s.own ≡ w.state.own → s.table ≡ w.state.table
      → f (work_of w m r) ≡ with_state a (work_of w m r) → Stepped c 0 f w m r (put_state s w.reached w) m r
  stepped_kept a s k o t e =
      stepped_still 0 f (put_state s w.reached w) (state-put w m r s w.reached m ∙ ap (λ (x : ModelState). with_state x (work_of w m r)) k.is ∙ sym e)
      (sound-state h s k.rep o t) (omega arith) (omega arith) refl t

  -- the state with its table
  pub stepped-anew : (a : ModelState) (s : State) (m' : List ℕ) → Published a w.state m s m'
      → f (work_of w m r) ≡ with_state a (work_of w m r) → Stepped c 0 f w m r (put_state s None w) m' r
  stepped-anew a s m' k e =
      record {
        is = state-put w m r s None m' ∙ ap (λ (x : ModelState). with_state x (work_of w m r)) k.moved.is ∙ sym e;
        sound = sound-anew h s m' k.moved.rep;
        omitted = omega arith;
        dropped = omega arith;
        wrote = k.wrote;
        size = k.moved.size;
        beyond = k.moved.beyond;
        room = refl;
        onward = omega arith;
        rest = refl;
      }

  -- the sender
  pub stepped_sender : (s : Sender) → f (work_of w m r) ≡ with_sender (record { node = s.node; endpoint = s.endpoint }) (work_of w m r)
      → Stepped c 0 f w m r (put_sender s w) m r
  stepped_sender s e =
      stepped_still 0 f (put_sender s w) (sender-put w m r s ∙ sym e) (sound-sender h s) (omega arith) (omega arith) refl refl

  -- a reply left out
  pub stepped_omitted : f (work_of w m r) ≡ omit_one (work_of w m r) → Stepped c 1 f w m r (put_omitted (w.omitted + 1) w) m r
  stepped_omitted e =
      stepped_still 1 f (put_omitted (w.omitted + 1) w) (omitted-put w m r ∙ sym e) (sound-omitted h (w.omitted + 1)) (omega arith) (omega arith) refl refl

  -- a TLV dropped for room
  pub stepped_dropped : f (work_of w m r) ≡ drop_one (work_of w m r) → Stepped c 1 f w m r (put_dropped (w.dropped + 1) w) m r
  stepped_dropped e =
      stepped_still 1 f (put_dropped (w.dropped + 1) w) (dropped-put w m r ∙ sym e) (sound-dropped h (w.dropped + 1)) (omega arith) (omega arith) refl refl

  -- the bytes x written to the room
  pub stepped_written : (x r' : List ℕ) (n : ℕ) → r' ≡ written r w.used x → n ≡ w.used + length x → n ≤ most_bytes
      → f (work_of w m r) ≡ with_out ((work_of w m r).out ++ x) (work_of w m r) → Stepped c 0 f w m r (put_used n w) m r'
  stepped_written x r' n k q p e =
      let l : w.used + length x ≤ length r = omega (arith, h.room) in
      let z : length r' ≡ length r = rw k (written-length r x w.used l) in
      record {
        is = used-put w m r n r' ∙ ap (λ (o : List ℕ). with_out o (work_of w m r)) (rw (q, work_out w m r) (written-taken r r' x w.used k l)) ∙ sym e;
        sound = sound-used h n r' p z;
        omitted = omega arith;
        dropped = omega arith;
        wrote = kept-wrote w.state.table w.state.table m (stays_self w.state.table) h.rep.table;
        size = refl;
        beyond = refl;
        room = z;
        onward = omega arith;
        rest = rw q (written-left r r' x w.used k l);
      }

-- ---- the parts

-- the state that the parts stand for
abbrev pub gathered : Context → State → Table → Peers → Progress → State
gathered c b t p d = (gather c b t p d).state

module _ (c : Context) (b : State) (t : Table) (p : Peers) (d : Progress) (m : List ℕ) (k : Rep (gathered c b t p d) m) (low : 1 ≤ c.endpoint) (high : c.endpoint ≤ 4) where
  four : length b.endpoints ≡ 4
  four = sym (length-set b.endpoints (c.endpoint - 1) d.local) ∙ k.four

  -- the endpoint of the call
  pub local-is : endpoint_of d.local ≡ endpoint_at c.endpoint (state_of (gathered c b t p d) m)
  local-is =
      sym
      (state-endpoint (gathered c b t p d) m c.endpoint (c.endpoint - 1) d.local k.four (pred-is c.endpoint) (omega arith)
      ∙ ap endpoint_of (get_or-set_same b.endpoints (c.endpoint - 1) d.local d.local (omega (arith, four))))

  -- another in its place
  pub local-moved : (e : Endpoint) → Moved (with_endpoint c.endpoint (endpoint_of e) (state_of (gathered c b t p d) m)) m (gathered c b t p (with_local e d)) m
  local-moved e =
      subst (λ (es : List Endpoint). Moved (with_endpoint c.endpoint (endpoint_of e) (state_of (gathered c b t p d) m)) m (put_endpoints es (gathered c b t p d)) m)
      (set-set b.endpoints (c.endpoint - 1) d.local e)
      (endpoint_moved (gathered c b t p d) m k c.endpoint (c.endpoint - 1) e (pred-is c.endpoint))

-- what a TLV may rely on holds of the parts
pub ready_open : {c : Context} (b : State) {t : Table} (p : Peers) {d : Progress} {m r : List ℕ} → Ready c (gather c b t p d) m r → Open c t d m r
ready_open {c} b {t} p {d} {m} h =
    record {
      marks = record { kept = h.sound.rep.table; fits = rw (state-own (gathered c b t p d) m, state-table (gathered c b t p d) m) at h.midway.table; clock = h.clock; cached = h.sound.cached };
      writable = record { used = h.sound.used; room = h.sound.room };
      omitted = h.omitted;
      dropped = h.dropped;
      first = h.first;
      fourth = h.fourth;
    }

-- ---- marks and digest worked out

module _ {c : Context} {t : Table} {d : Progress} {m : List ℕ} (g : Reached) (h : Reaching c.own c.clock (view t m) g) where
  -- the representation is kept
  pub refreshed_marks : Markable c t d m → Markable c t (with_reached g d) m
  refreshed_marks k =
      record { kept = k.kept; fits = k.fits; clock = k.clock; cached = λ x f. let e : g ≡ x = cc in subst (Reaching c.own c.clock (view t m)) e h }

  pub refreshed_open : (r : List ℕ) → Open c t d m r → Open c t (with_reached g d) m r
  refreshed_open r k =
      record {
        marks = refreshed_marks k.marks;
        writable = record { used = k.writable.used; room = k.writable.room };
        omitted = k.omitted;
        dropped = k.dropped;
        first = k.first;
        fourth = k.fourth;
      }

-- the model's work is the same
module _ {c : Context} {t : Table} (d : Progress) {m : List ℕ} (g : Reached) (h : Reaching c.own c.clock (view t m) g) where
  pub refreshed_stepped : (b : State) (p : Peers) (r : List ℕ) → Sound c.clock (gather c b t p d) m r
      → Stepped c 0 (λ x. x) (gather c b t p d) m r (gather c b t p (with_reached g d)) m r
  refreshed_stepped b p r k =
      stepped_still 0 (λ x. x) (gather c b t p (with_reached g d)) (reached-put (gather c b t p d) m r g) (sound-reached k g h) (omega arith) (omega arith) refl refl
