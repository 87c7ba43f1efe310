-- The answers to requests: which node is served, and the states one after the other. Assumes nothing.
use mathlib.Core.Path.{◌≡◌, refl, sym, ap, ◌∙◌}
use mathlib.Core.Bool.{Bool, true, false, cond}
use mathlib.Core.List.{List, ◌∷◌, map}
use Prim.Native.Nat.{ℕ, ◌+◌, ◌≤◌, ◌<◌}
use native.Mathlib.Omega.{arith}
use lib.ListN.{length, get_or, drop}
use Rattle.base.specs.Bytes.{most_u32}
use Rattle.base.specs.Lists.{keep_by}
use Rattle.base.proofs.Places.{get_d_any}
use Rattle.model.specs.Figures.{most_bytes, most_nodes}
use Rattle.model.specs.Table.{Entry, id_of}
use Rattle.model.specs.Reach.{in_reach}
use Rattle.model.specs.State.{no_entry, State as ModelState}
use Rattle.model.specs.Messages.{network_tlv, short_state, whole_state}
use Rattle.model.specs.Handle.{reply, replies, digest_now, reached_now, on_request_network, on_request_node}
use Rattle.model.proofs.Cases.{request_network, request_node_unreachable, request_node_unknown, request_node_reached, replies-none, replies-next}
use Rattle.model.proofs.Sent.{digest-length}
use Rattle.table.specs.declared.Table.{Table}
use Rattle.table.specs.View.{no_meta, meta_at, seen, view, Arranged, Stands, Gap}
use Rattle.table.proofs.Tables.{look-stands, look_gap, view-length, view-at}
use Rattle.std.specs.Prelude.{Some}
use Rattle.reach.specs.declared.Reached.{Reached}
use Rattle.reach.specs.Marks.{Readable, Marking, Reaching}
use Rattle.base.proofs.Marks.{keep_by_end, keep_by_next}
use Rattle.reach.proofs.Reaching.{reached_by}
use Rattle.node.specs.declared.State.{State}
use Rattle.node.specs.declared.peers.Peers.{Peers}
use Rattle.node.proofs.Parts.{state-own, state-table}
use Rattle.reply.specs.declared.Context.{Context}
use Rattle.reply.specs.declared.Progress.{Progress}
use Rattle.reply.specs.View.{context_of, Work, gather, work_of, Sound, Stepped, Markable, Writable, Open, Writes, Answers, Lists}
use Rattle.reply.proofs.Steps.{work_own, work_table, stepped_none, stepped_to, stepped_more, stepped_then}
use Rattle.reply.proofs.Replies.{replied-state}

-- ---- what the marking asks

module _ {c : Context} {t : Table} {d : Progress} {m : List ℕ} (h : Markable c t d m) where
  pub markable_readable : Readable c.clock t m
  markable_readable = record { kept = h.kept; entries = h.fits.entries; reading = h.clock }

pub digest_wide : {own clock : ℕ} {es : List Entry} {g : Reached} → Reaching own clock es g → length g.digest ≡ 16
digest_wide {own} {clock} {es} h = ap length h.digest ∙ digest-length own clock es

-- ---- one node's state

-- the mark at a node's place tells whether it is reachable
mark_at_lem : (own clock : ℕ) (t : Table) (m : List ℕ) (marks : List Bool) (node i : ℕ) → Arranged t → Marking own clock (view t m) marks → Stands t node i
    → get_or marks i false ≡ in_reach own clock (view t m) node
mark_at_lem own clock t m marks node i k g s =
    let p : i < length (view t m) = rw (view-length t k m) s.at in
    g.each i p ∙ ap (in_reach own clock (view t m)) (ap id_of (get_d_any (view t m) i no_entry (seen m no_meta) p ∙ view-at t k m i s.at) ∙ s.named)

module _ (c : Context) (w : Work) (m r : List ℕ) (h : Sound c.clock w m r) (g : Reached) (f : w.reached ≡ Some g) (node i : ℕ) where
  reaching : Marking w.state.own c.clock (view w.state.table m) g.marks
  reaching = (h.cached g f).marks

  nothing-done : on_request_node (context_of c) node (work_of w m r) ≡ work_of w m r → Stepped c 1 (on_request_node (context_of c) node) w m r w m r
  nothing-done e = stepped_more (stepped_to (stepped_none h) (on_request_node (context_of c) node) (sym e)) 1 (omega arith)

  -- a node that is not held
  pub unknown-asked : Gap w.state.table node i → Stepped c 1 (on_request_node (context_of c) node) w m r w m r
  unknown-asked k =
      nothing-done (request_node_unknown (context_of c) (work_of w m r) node (rw (work_table w m r) (look_gap w.state.table h.rep.table.arranged node i m k)))

  module _ (s : Stands w.state.table node i) where
    mark_is : {b : Bool} → get_or g.marks i false ≡ b → in_reach (work_of w m r).state.own c.clock (work_of w m r).state.table node ≡ b
    mark_is e =
        rw (work_own w m r, work_table w m r)
        (sym (mark_at_lem w.state.own c.clock w.state.table m g.marks node i h.rep.table.arranged reaching s) ∙ e)

    -- one that is not reachable
    pub unreachable_asked : get_or g.marks i false ≡ false → Stepped c 1 (on_request_node (context_of c) node) w m r w m r
    unreachable_asked e = nothing-done (request_node_unreachable (context_of c) (work_of w m r) node (mark_is e))

    -- one that is
    pub reached-asked : {v : Work} {r' : List ℕ} → get_or g.marks i false ≡ true
        → Stepped c 1 (reply (context_of c) (whole_state c.clock (seen m (meta_at w.state.table i)))) w m r v m r'
        → Stepped c 1 (on_request_node (context_of c) node) w m r v m r'
    reached-asked e k =
        stepped_to k (on_request_node (context_of c) node)
        (sym (request_node_reached (context_of c) (work_of w m r) node (mark_is e) (seen m (meta_at w.state.table i))
        (rw (work_table w m r) (look-stands w.state.table h.rep.table.arranged node i m s))))

-- ---- the states of all that are reachable

-- the places below i are done: what is left, from here, gives the whole answer
pub record Listed (c : Context) (t : Table) (marks : List Bool) (w : Work) (m r : List ℕ) (i : ℕ) (v : Work) (r' : List ℕ) : Type 0 where
  pub stepped : Stepped c i (λ x. work_of v m r') w m r v m r'
  pub within : i ≤ t.count
  pub left : replies (context_of c) (map (short_state c.clock) (keep_by marks (view t m))) (work_of w m r)
      ≡ replies (context_of c) (map (short_state c.clock) (keep_by (drop i marks) (drop i (view t m)))) (work_of v m r')

module _ (c : Context) (t : Table) (marks : List Bool) (w : Work) (m r : List ℕ) (k : Arranged t) where
  pub list-start : Sound c.clock w m r → Listed c t marks w m r 0 w r
  list-start h = record { stepped = stepped_to (stepped_none h) (λ x. work_of w m r) refl; within = omega arith; left = refl }

  module _ (i : ℕ) (v : Work) (r' : List ℕ) (l : Listed c t marks w m r i v r') where
    module _ (p : i < t.count) where
      here : keep_by (drop i marks) (drop i (view t m))
          ≡ cond (get_or marks i false) (seen m (meta_at t i) ∷ keep_by (drop (i + 1) marks) (drop (i + 1) (view t m))) (keep_by (drop (i + 1) marks) (drop (i + 1) (view t m)))
      here = keep_by_next (seen m no_meta) marks (view t m) i (rw (view-length t k m) p) ∙ rw (view-at t k m i p)

      -- a node that is not reachable
      pub list-stay : get_or marks i false ≡ false → Listed c t marks w m r (i + 1) v r'
      list-stay b =
          record { stepped = stepped_more l.stepped (i + 1) (omega arith); within = omega arith; left = l.left ∙ rw (here, b) }

      -- one that is
      pub list_on : get_or marks i false ≡ true → (u : Work) (r'' : List ℕ) → Stepped c 1 (reply (context_of c) (short_state c.clock (seen m (meta_at t i)))) v m r' u m r''
          → Listed c t marks w m r (i + 1) u r''
      list_on b u r'' s =
          record {
            stepped = stepped_to (stepped_then l.stepped s) (λ x. work_of u m r'') (sym s.is);
            within = omega arith;
            left = l.left ∙ rw (here, b)
                (replies-next (context_of c) (work_of v m r') (short_state c.clock (seen m (meta_at t i))) (map (short_state c.clock) (keep_by (drop (i + 1) marks) (drop (i + 1) (view t m))))
                ∙ ap (replies (context_of c) (map (short_state c.clock) (keep_by (drop (i + 1) marks) (drop (i + 1) (view t m))))) (sym s.is));
          }

    -- all of them are done
    pub list_end : t.count ≤ i → t ≡ w.state.table → Marking w.state.own c.clock (view t m) marks
        → Stepped c 32 (replies (context_of c) (map (short_state c.clock) (reached_now (context_of c) (work_of w m r)))) w m r v m r'
    list_end p q g =
        stepped_more
        (stepped_to l.stepped (replies (context_of c) (map (short_state c.clock) (reached_now (context_of c) (work_of w m r))))
        (sym
        (ap (λ (es : List Entry). replies (context_of c) (map (short_state c.clock) es) (work_of w m r)) reached_is ∙ l.left
        ∙ rw (keep_by_end marks (view t m) i (rw (view-length t k m) p)) (replies-none (context_of c) (work_of v m r')))))
        32 (omega (arith, l.within, k.most))
      where
        reached_is : reached_now (context_of c) (work_of w m r) ≡ keep_by marks (view t m)
        reached_is = rw (work_own w m r, work_table w m r, ← q) (sym (reached_by w.state.own c.clock (view t m) marks g))

-- as a step on the progress, whatever state and peers there are
pub record Listing (c : Context) (t : Table) (marks : List Bool) (d : Progress) (m r : List ℕ) (i : ℕ) (v : Progress) (r' : List ℕ) : Type 0 where
  pub within : i ≤ t.count
  pub sender : v.sender ≡ d.sender
  pub used : v.used ≤ most_bytes
  pub omitted : v.omitted ≤ d.omitted + i
  pub room : length r' ≡ length r
  pub listed : (b : State) (p : Peers) → Sound c.clock (gather c b t p d) m r → Listed c t marks (gather c b t p d) m r i (gather c b t p v) r'

module _ (c : Context) (t : Table) (marks : List Bool) (d : Progress) (m r : List ℕ) (k : Arranged t) where
  pub listing_start : d.used ≤ most_bytes → Listing c t marks d m r 0 d r
  listing_start u =
      record { within = omega arith; sender = refl; used = u; omitted = omega arith; room = refl; listed = λ b p h. list-start c t marks (gather c b t p d) m r k h }

  module _ (i : ℕ) (v : Progress) (r' : List ℕ) (l : Listing c t marks d m r i v r') where
    pub listing_stay : i < t.count → get_or marks i false ≡ false → Listing c t marks d m r (i + 1) v r'
    listing_stay q e =
        record {
          within = omega arith;
          sender = l.sender;
          used = l.used;
          omitted = omega (arith, l.omitted);
          room = l.room;
          listed = λ b p h. list-stay c t marks (gather c b t p d) m r k i (gather c b t p v) r' (l.listed b p h) q e;
        }

    pub listing_on : i < t.count → get_or marks i false ≡ true → (u : Progress) (r'' : List ℕ)
        → Writes c 1 (reply (context_of c) (short_state c.clock (seen m (meta_at t i)))) v r' u r'' → Listing c t marks d m r (i + 1) u r''
    listing_on q e u r'' s =
        record {
          within = omega arith;
          sender = s.sender ∙ l.sender;
          used = s.used;
          omitted = omega (arith, l.omitted, s.omitted);
          room = s.room ∙ l.room;
          listed = λ b p h. list_on c t marks (gather c b t p d) m r k i (gather c b t p v) r' (l.listed b p h) q e (gather c b t p u) r'' (s.is b t p m (l.listed b p h).stepped.sound);
        }

    pub listing_end : t.count ≤ i → Marking c.own c.clock (view t m) marks → Lists c t d m r v r'
    listing_end q g =
        record { sender = l.sender; is = λ b p h. list_end c t marks (gather c b t p d) m r k i (gather c b t p v) r' (l.listed b p h) q refl g }

-- ---- the network's state: our digest, and then all of them

module _ (c : Context) (w : Work) (m r : List ℕ) (h : Sound c.clock w m r) (g : Reached) (f : w.reached ≡ Some g) (t : List ℕ) (v : Work) (r' : List ℕ)
    (s : Stepped c 1 (reply (context_of c) t) w m r v m r') where
  same-own : v.state.own ≡ w.state.own
  same-own = sym (state-own v.state m) ∙ ap (λ (x : ModelState). x.own) (replied-state t s) ∙ state-own w.state m

  same_view : view v.state.table m ≡ view w.state.table m
  same_view = sym (state-table v.state m) ∙ ap (λ (x : ModelState). x.table) (replied-state t s) ∙ state-table w.state m

  network_answered : t ≡ network_tlv g.digest → {u : Work} {r'' : List ℕ}
      → Stepped c 32 (replies (context_of c) (map (short_state c.clock) (reached_now (context_of c) (work_of v m r')))) v m r' u m r''
      → Stepped c 33 (on_request_network (context_of c)) w m r u m r''
  network_answered e n =
      stepped_to (stepped_then s n) (on_request_network (context_of c))
      (sym
      (request_network (context_of c) (work_of w m r)
      ∙ replies-next (context_of c) (work_of w m r) (network_tlv (digest_now (context_of c) (work_of w m r))) (map (short_state c.clock) (reached_now (context_of c) (work_of w m r)))
      ∙ ap (λ (x : List ℕ). replies (context_of c) (map (short_state c.clock) (reached_now (context_of c) (work_of w m r))) (reply (context_of c) x (work_of w m r))) (ap network_tlv (sym digest-is) ∙ sym e)
      ∙ ap (λ (es : List Entry). replies (context_of c) (map (short_state c.clock) es) (reply (context_of c) t (work_of w m r))) same-reached))
    where
      digest-is : g.digest ≡ digest_now (context_of c) (work_of w m r)
      digest-is = rw (work_own w m r, work_table w m r) (h.cached g f).digest

      same-reached : reached_now (context_of c) (work_of w m r) ≡ reached_now (context_of c) (work_of v m r')
      same-reached = rw (work_own w m r, work_table w m r, work_own v m r', work_table v m r', same-own, same_view)

-- as the code does it, once marks and digest are worked out
module _ {c : Context} {t : Table} {u : Progress} {m r : List ℕ} {v : Progress} {r' : List ℕ} (g : Reached) (x : List ℕ) (s : Writes c 1 (reply (context_of c) x) u r v r') where
  -- what the states ask of the progress after the digest
  pub states-asked : Open c t u m r → u.reached ≡ Some g
      → Readable c.clock t m × (Marking c.own c.clock (view t m) g.marks × (Writable v r' × (v.omitted + most_nodes ≤ most_u32)))
  states-asked h f = (
    markable_readable h.marks,
    ((h.marks.cached g f).marks, (record { used = s.used; room = omega (arith, h.writable.room, s.room) }, omega (arith, s.omitted, h.omitted))),
  )

  pub network_listed : u.reached ≡ Some g → x ≡ network_tlv g.digest → {w : Progress} {r'' : List ℕ} → Lists c t v m r' w r''
      → Answers c 33 (on_request_network (context_of c)) t u m r w r''
  network_listed f e l =
      record {
        sender = l.sender ∙ s.sender;
        is = λ b p h. network_answered c (gather c b t p u) m r h g f x (gather c b t p v) r' (s.is b t p m h) e (l.is b p (s.is b t p m h).sound);
      }
