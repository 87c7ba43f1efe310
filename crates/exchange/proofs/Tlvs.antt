-- TLVs as steps: by the type, over unicast or multicast, and one after the other. Assumes nothing.
use mathlib.Core.Path.{◌≡◌, refl, sym, ap, ◌∙◌, subst}
use mathlib.Core.Bool.{true}
use mathlib.Core.List.{List, [], ◌++◌, append-nil, append_assoc}
use Prim.Native.Nat.{ℕ, ◌+◌, ◌*◌, ◌≤◌, ◌<◌}
use native.Mathlib.Omega.{arith}
use lib.ListN.{length, take, drop, length-drop}
use Rattle.base.specs.Bytes.{Bytes, u32_at}
use Rattle.base.proofs.Lists.{drop_later}
use Rattle.base.proofs.Bytes.{bytes_take, bytes_drop}
use Rattle.wire.specs.Row.{value_of, is_row, tlvs}
use Rattle.wire.specs.Answers.{tlv_of, Tells}
use Rattle.wire.specs.declared.row.Header.{Header}
use Rattle.wire.proofs.Rows.{tlvs_end}
use Rattle.model.specs.Figures.{most_bytes, table_bytes}
use Rattle.model.specs.Table.{Entry}
use Rattle.model.specs.Decide.{received_of}
use Rattle.model.specs.Handle.{Work as ModelWork, on_request_network, on_request_node, on_endpoint, on_network, on_state, on_tlv, one_tlv, all_tlvs, each_table}
use Rattle.model.specs.Invariant.{Midway}
use Rattle.model.proofs.Cases.{on_request_network_lem, on_request_node_lem, on_request_node_short, on_endpoint_lem, on_endpoint_short, on_network_lem, on_network_short, on_state_lem, on_state_short, on_other, all_tlvs_none, all_tlvs_next, each_table_none, each_table_next}
use Rattle.model.proofs.KeptSteps.{one_holds}
use Rattle.model.proofs.KeptReceive.{steps-kept}
use Rattle.table.specs.declared.Table.{Table}
use Rattle.table.specs.View.{view, Wrote}
use Rattle.table.proofs.Laying.{wrote_none, wrote_then}
use Rattle.node.specs.declared.peers.Peers.{Peers}
use Rattle.reply.specs.declared.Context.{Context}
use Rattle.reply.specs.declared.Progress.{Progress}
use Rattle.reply.specs.View.{context_of, Work, gather, work_of, Ready, Stepped}
use Rattle.exchange.specs.declared.Step.{Step}
use Rattle.exchange.specs.Datagram.{Ran}
use Rattle.exchange.specs.Told.{still_at, Told}
use Rattle.reply.proofs.Steps.{work_state, work_table, stepped_none, stepped_to, stepped_more, ready_next}
use Rattle.exchange.proofs.Telling.{told_still, told_to}

-- ---- the type decides

module _ (c : Context) (t : Table) (p : Peers) (d : Progress) (m : List ℕ) (kind : ℕ) (x : List ℕ) where
  -- the step that the type asks for
  abbrev Handles : Step → Type 0
  Handles y = Told c 33 (on_tlv (context_of c) kind x) x t p d m y

  -- passed over: too short, or another type
  passed_over : ((w : ModelWork) → on_tlv (context_of c) kind x w ≡ w) → Handles (still_at d)
  passed_over e =
      told_still x (λ r o. o) (λ b r h. stepped_more (stepped_to (stepped_none h) (on_tlv (context_of c) kind x) (sym (e (work_of (gather c b t p d) m r)))) 33 (omega arith))

  pub short-node : kind ≡ 2 → length x < 4 → Handles (still_at d)
  short-node e l = passed_over (λ w. on_request_node_short (context_of c) w kind x e l)

  pub short-endpoint : kind ≡ 3 → length x < 8 → Handles (still_at d)
  short-endpoint e l = passed_over (λ w. on_endpoint_short (context_of c) w kind x e l)

  pub short_network : kind ≡ 4 → length x < 16 → Handles (still_at d)
  short_network e l = passed_over (λ w. on_network_short (context_of c) w kind x e l)

  pub short-state : kind ≡ 5 → length x < 28 → Handles (still_at d)
  short-state e l = passed_over (λ w. on_state_short (context_of c) w kind x e l)

  pub other_type : ¬ (kind ≡ 1) → ¬ (kind ≡ 2) → ¬ (kind ≡ 3) → ¬ (kind ≡ 4) → ¬ (kind ≡ 5) → Handles (still_at d)
  other_type n1 n2 n3 n4 n5 = passed_over (λ w. on_other (context_of c) w kind x n1 n2 n3 n4 n5)

  -- handled
  module _ {y : Step} where
    handled_as : {k : ℕ} (f : ModelWork → ModelWork) → k ≤ 33 → ((w : ModelWork) → on_tlv (context_of c) kind x w ≡ f w) → Told c k f x t p d m y → Handles y
    handled_as f l e s = told_to x s 33 (on_tlv (context_of c) kind x) l (λ b r h. sym (e (work_of (gather c b t p d) m r)))

    pub network_asked : kind ≡ 1 → Told c 33 (on_request_network (context_of c)) x t p d m y → Handles y
    network_asked e = handled_as (on_request_network (context_of c)) (omega arith) (λ w. on_request_network_lem (context_of c) w kind x e)

    pub node-asked : kind ≡ 2 → 4 ≤ length x → (n : ℕ) → n ≡ u32_at x 0 → Told c 1 (on_request_node (context_of c) n) x t p d m y → Handles y
    node-asked e l n q =
        handled_as (on_request_node (context_of c) n) (omega arith)
        (λ w. on_request_node_lem (context_of c) w kind x e l ∙ ap (λ (i : ℕ). on_request_node (context_of c) i w) (sym q))

    pub endpoint-met : kind ≡ 3 → 8 ≤ length x → (n i : ℕ) → n ≡ u32_at x 0 → i ≡ u32_at x 4
        → Told c 1 (on_endpoint (context_of c) (record { node = n; endpoint = i })) x t p d m y → Handles y
    endpoint-met e l n i a z =
        handled_as (on_endpoint (context_of c) (record { node = n; endpoint = i })) (omega arith)
        (λ w. on_endpoint_lem (context_of c) w kind x e l
        ∙ ap (λ (j : ℕ). on_endpoint (context_of c) (record { node = j; endpoint = u32_at x 4 }) w) (sym a)
        ∙ ap (λ (j : ℕ). on_endpoint (context_of c) (record { node = n; endpoint = j }) w) (sym z))

    pub network_met : kind ≡ 4 → 16 ≤ length x → (g : List ℕ) → g ≡ take 16 x → Told c 1 (on_network (context_of c) g) x t p d m y → Handles y
    network_met e l g q =
        handled_as (on_network (context_of c) g) (omega arith) (λ w. on_network_lem (context_of c) w kind x e l ∙ ap (λ (j : List ℕ). on_network (context_of c) j w) (sym q))

    pub state-met : kind ≡ 5 → 28 ≤ length x → Told c 1 (on_state (context_of c) (received_of x)) x t p d m y → Handles y
    state-met e l = handled_as (on_state (context_of c) (received_of x)) (omega arith) (λ w. on_state_lem (context_of c) w kind x e l)

-- ---- the TLVs of a datagram one after the other

-- the TLVs before `at` are done, and `done` are the entries of the tables that they left: what is left, from here, gives the whole answer; nine for each
-- byte is more than 33 for each TLV
pub record Through (c : Context) (d : List ℕ) (w : Work) (m r : List ℕ) (at : ℕ) (v : Work) (m' r' : List ℕ) : Type 0 where
  pub ready : Ready c v m' r'
  pub omitted : v.omitted ≤ w.omitted + 9 * at
  pub dropped : v.dropped ≤ w.dropped + 9 * at
  pub done : List Entry
  pub wrote : Wrote w.state.table m done v.state.table m'
  pub size : length m' ≡ length m
  pub beyond : drop table_bytes m' ≡ drop table_bytes m
  pub room : length r' ≡ length r
  pub rest : drop v.used r' ≡ drop v.used r
  pub within : at ≤ length d
  pub row : is_row (drop at d) ≡ true
  pub left : all_tlvs (context_of c) (tlvs d) (work_of w m r) ≡ all_tlvs (context_of c) (tlvs (drop at d)) (work_of v m' r')
  pub each : each_table (context_of c) (tlvs d) (work_of w m r) ≡ done ++ each_table (context_of c) (tlvs (drop at d)) (work_of v m' r')

module _ (c : Context) (d : List ℕ) (w : Work) (m r : List ℕ) where
  pub through_start : Ready c w m r → is_row d ≡ true → Through c d w m r 0 w m r
  through_start h e =
      record {
        ready = h;
        omitted = omega arith;
        dropped = omega arith;
        done = [];
        wrote = wrote_none w.state.table m;
        size = refl;
        beyond = refl;
        room = refl;
        rest = refl;
        within = omega arith;
        row = e;
        left = refl;
        each = refl;
      }

  module _ (at : ℕ) (v : Work) (m' r' : List ℕ) (l : Through c d w m r at v m' r') where
    -- one more
    module _ (h : Header) (k : Tells d at h) (b : Bytes d) (few : length d ≤ most_bytes) (o : w.omitted ≡ 0) (g : w.dropped ≡ 0)
        (u : Work) (m'' r'' : List ℕ) (s : Stepped c 33 (one_tlv (context_of c) (tlv_of d at h)) v m' r' u m'' r'') where
      -- the invariant after it
      still_midway : Midway c.clock (one_tlv (context_of c) (tlv_of d at h) (work_of v m' r')).state
      still_midway =
          one_holds (context_of c) (Midway c.clock) (tlv_of d at h) (work_of v m' r')
          (steps-kept (context_of c) l.ready.first l.ready.fourth (value_of (tlv_of d at h)) (rw k.value (bytes_take h.len (drop h.start d) (bytes_drop h.start d b))))
          (rw (work_state v m' r') l.ready.midway)

      -- the table that it leaves
      its_table : (one_tlv (context_of c) (tlv_of d at h) (work_of v m' r')).state.table ≡ view u.state.table m''
      its_table = ap (λ (x : ModelWork). x.state.table) (sym s.is) ∙ work_table u m'' r''

      each_next : each_table (context_of c) (tlvs (drop at d)) (work_of v m' r') ≡ view u.state.table m'' ++ each_table (context_of c) (tlvs (drop h.next d)) (work_of u m'' r'')
      each_next =
          ap (λ (ts : List (List ℕ)). each_table (context_of c) ts (work_of v m' r')) k.left
          ∙ each_table_next (context_of c) (work_of v m' r') (tlv_of d at h) (tlvs (drop h.next d))
          ∙ ap (λ (x : List Entry). x ++ each_table (context_of c) (tlvs (drop h.next d)) (one_tlv (context_of c) (tlv_of d at h) (work_of v m' r'))) its_table
          ∙ ap (λ (x : ModelWork). view u.state.table m'' ++ each_table (context_of c) (tlvs (drop h.next d)) x) (sym s.is)

      pub through_on : Through c d w m r h.next u m'' r''
      through_on =
          let p : u.omitted ≤ w.omitted + 9 * h.next = omega (arith, l.omitted, s.omitted, k.start, k.inside) in
          let q : u.dropped ≤ w.dropped + 9 * h.next = omega (arith, l.dropped, s.dropped, k.start, k.inside) in
          record {
            ready = ready_next s l.ready still_midway (omega (arith, p, k.within)) (omega (arith, q, k.within));
            omitted = p;
            dropped = q;
            done = l.done ++ view u.state.table m'';
            wrote = wrote_then w.state.table v.state.table u.state.table m l.done m' (view u.state.table m'') m'' l.wrote s.wrote;
            size = s.size ∙ l.size;
            beyond = s.beyond ∙ l.beyond;
            room = s.room ∙ l.room;
            rest = s.rest ∙ drop_later r r' v.used u.used s.onward l.rest;
            within = k.within;
            row = k.again;
            left =
                l.left ∙ ap (λ (ts : List (List ℕ)). all_tlvs (context_of c) ts (work_of v m' r')) k.left
                ∙ all_tlvs_next (context_of c) (work_of v m' r') (tlv_of d at h) (tlvs (drop h.next d))
                ∙ ap (all_tlvs (context_of c) (tlvs (drop h.next d))) (sym s.is);
            each =
                l.each ∙ ap (λ (x : List Entry). l.done ++ x) each_next
                ∙ sym (append_assoc l.done (view u.state.table m'') (each_table (context_of c) (tlvs (drop h.next d)) (work_of u m'' r'')));
          }

    -- all of them
    pub through_end : length d ≤ at → Ran c (tlvs d) w m r v m' r'
    through_end p =
        let e : tlvs (drop at d) ≡ [] = tlvs_end (drop at d) (simp length-drop (omega arith)) in
        record {
          is = sym (l.left ∙ rw e (all_tlvs_none (context_of c) (work_of v m' r')));
          sound = l.ready.sound;
          wrote = subst (λ (es : List Entry). Wrote w.state.table m es v.state.table m')
              (sym (l.each ∙ rw (e, each_table_none (context_of c) (work_of v m' r')) (append-nil l.done))) l.wrote;
          size = l.size;
          beyond = l.beyond;
          room = l.room;
          rest = l.rest;
        }
