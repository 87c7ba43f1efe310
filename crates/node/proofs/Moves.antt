-- Steps on the state: from what the parts ensure to the state of the model after the step. Assumes nothing.
use mathlib.Core.Path.{◌≡◌, refl, sym, ap, ◌∙◌, subst}
use mathlib.Core.Bool.{Bool}
use mathlib.Core.List.{List}
use Prim.Native.Nat.{ℕ, pred, ◌≤◌}
use native.Mathlib.Omega.{arith}
use lib.ListN.{length, drop, set, length-drop}
use Rattle.base.specs.Lists.{join_all, keep_by}
use Rattle.base.specs.Memory.{spliced, cut}
use Rattle.wire.specs.Row.{tlvs}
use Rattle.wire.specs.Order.{place}
use Rattle.model.specs.Figures.{table_bytes}
use Rattle.model.specs.Table.{Entry, entry_of, put, stamp, anew}
use Rattle.model.specs.State.{State as ModelState, Peer as ModelPeer, with_table, with_peers, with_endpoint, own_data, publish_as, with_tlv}
use Rattle.table.specs.View.{view, data_of, meta_at, Kept, Stands, Stored, Renumbered, Purged, Wrote}
use Rattle.table.specs.declared.Table.{Table}
use Rattle.table.proofs.Laying.{stays_self, kept-wrote, stored_wrote}
use Rattle.node.specs.View.{endpoint_of, peers_of, state_of, PeersRep, Rep, Moved, Published}
use Rattle.node.specs.declared.State.{State}
use Rattle.node.specs.declared.Endpoint.{Endpoint}
use Rattle.node.specs.declared.peers.Peers.{Peers}
use Rattle.node.proofs.Parts.{state-own, state-table, put_table, put_peers, put_endpoints, table-put, peers-put, endpoint-put, endpoint-rep}
use Rattle.node.proofs.Own.{own_data_lem}

-- ---- one step, and the next

pub moved-not : (s : State) (m : List ℕ) → Rep s m → Moved (state_of s m) m s m
moved-not s m k = record { rep = k; is = refl; size = refl; beyond = refl }

module _ {a : ModelState} {m : List ℕ} {r : State} {m' : List ℕ} (h : Moved a m r m') where
  pub moved_to : {b : ModelState} → a ≡ b → Moved b m r m'
  moved_to e = record { rep = h.rep; is = h.is ∙ e; size = h.size; beyond = h.beyond }

  pub moved_then : (f : ModelState → ModelState) {q : State} {m'' : List ℕ} → Moved (f (state_of r m')) m' q m'' → Moved (f a) m q m''
  moved_then f k = record { rep = k.rep; is = k.is ∙ ap f h.is; size = k.size ∙ h.size; beyond = k.beyond ∙ h.beyond }

pub published-not : (s : State) (m : List ℕ) → Rep s m → Published (state_of s m) s m s m
published-not s m k = record { moved = moved-not s m k; wrote = kept-wrote s.table s.table m (stays_self s.table) k.table }

-- what is published, and then a step that leaves the table alone
pub published_then : (f : ModelState → ModelState) {a : ModelState} {s : State} {m : List ℕ} {r : State} {m' : List ℕ} → Published a s m r m'
    → {q : State} → q.table ≡ r.table → Moved (f (state_of r m')) m' q m' → Published (f a) s m q m'
published_then f {s = s} {m = m} {m' = m'} h e k =
    record {
      moved = moved_then h.moved f k;
      wrote = subst (λ (t : Table). Wrote s.table m (view t m') t m') (sym e) h.wrote;
    }

-- ---- another part

-- memories that have room for the table and are the same past it are of one length
same_size : (m m' : List ℕ) → table_bytes ≤ length m → table_bytes ≤ length m' → drop table_bytes m' ≡ drop table_bytes m → length m' ≡ length m
same_size m m' p q e =
    let l : length (drop table_bytes m') ≡ length (drop table_bytes m) = ap length e in
    omega (arith, length-drop table_bytes m, length-drop table_bytes m')

module _ (s : State) (m : List ℕ) (k : Rep s m) where
  pub table-moved : (t : Table) (m' : List ℕ) (es : List Entry) → Kept t m' → view t m' ≡ es → drop table_bytes m' ≡ drop table_bytes m
      → Moved (with_table es (state_of s m)) m (put_table t s) m'
  table-moved t m' es g v b =
      record {
        rep = record { table = g; peers = k.peers; four = k.four; digest = k.digest };
        is = table-put s m t m' ∙ ap (λ (z : List Entry). with_table z (state_of s m)) v;
        size = same_size m m' k.table.room g.room b;
        beyond = b;
      }

  pub peers_moved : (p : Peers) (ps : List ModelPeer) → PeersRep p → peers_of p ≡ ps → Moved (with_peers ps (state_of s m)) m (put_peers p s) m
  peers_moved p ps g v =
      record {
        rep = record { table = k.table; peers = g; four = k.four; digest = k.digest };
        is = peers-put s m p ∙ ap (λ (z : List ModelPeer). with_peers z (state_of s m)) v;
        size = refl;
        beyond = refl;
      }

  pub endpoint_moved : (n i : ℕ) (e : Endpoint) → pred n ≡ i → Moved (with_endpoint n (endpoint_of e) (state_of s m)) m (put_endpoints (set s.endpoints i e) s) m
  endpoint_moved n i e q = record { rep = endpoint-rep s m i e k; is = endpoint-put s m n i e q; size = refl; beyond = refl }

  -- an entry put in, one renumbered, those without a mark left out
  module _ (t : Table) where
    pub stored-put : (e : Entry) (m' : List ℕ) (i : ℕ) → Stored e s.table m i t m'
        → Published (with_table (put e (state_of s m).table) (state_of s m)) s m (put_table t s) m'
    stored-put e m' i o =
        record {
          moved = rw (state-table s m) (table-moved t m' (put e (view s.table m)) o.kept o.viewed o.beyond);
          wrote = stored_wrote e s.table t m m' i k.table o;
        }

    pub renumbered_put : (id seq age since i : ℕ) → Renumbered id seq age since s.table i t
        → Published (with_table (put (entry_of id seq (data_of m (meta_at s.table i)) (stamp age since)) (state_of s m).table) (state_of s m)) s m (put_table t s) m
    renumbered_put id seq age since i o =
        record {
          moved = rw (state-table s m)
              (table-moved t m (put (entry_of id seq (data_of m (meta_at s.table i)) (stamp age since)) (view s.table m)) (o.kept m k.table) (o.viewed m) refl);
          wrote = kept-wrote s.table t m o.slots (o.kept m k.table);
        }

    pub purged_moved : (marks : List Bool) → Purged marks s.table t → Moved (with_table (keep_by marks (state_of s m).table) (state_of s m)) m (put_table t s) m
    purged_moved marks o = rw (state-table s m) (table-moved t m (keep_by marks (view s.table m)) (o.kept m k.table) (o.viewed m) refl)

-- ---- published

module _ (s : State) (m : List ℕ) (i : ℕ) (k : Rep s m) (h : Stands s.table s.own i) (clock seq : ℕ) (t : Table) where
  -- our own entry put in is a publishing, its data as the model has them
  own_put : (d d' m' : List ℕ) → d ≡ d' → Published (with_table (put (entry_of s.own seq d (anew clock)) (state_of s m).table) (state_of s m)) s m (put_table t s) m'
      → Published (publish_as clock seq d' (state_of s m)) s m (put_table t s) m'
  unfolding publish_as
  own_put d d' m' e =
      subst (λ (a : ModelState). Published a s m (put_table t s) m')
      (ap (λ (n : ℕ). with_table (put (entry_of n seq d (anew clock)) (state_of s m).table) (state_of s m)) (sym (state-own s m))
      ∙ ap (λ (z : List ℕ). publish_as clock seq z (state_of s m)) e)

  pub renumber_published : Renumbered s.own seq 0 clock s.table i t → Published (publish_as clock seq (own_data (state_of s m)) (state_of s m)) s m (put_table t s) m
  renumber_published o = own_put (data_of m (meta_at s.table i)) (own_data (state_of s m)) m (sym (own_data_lem s m i k h)) (renumbered_put s m k t s.own seq 0 clock i o)

  pub stored-published : (d d' m' : List ℕ) → d ≡ d' → Stored (entry_of s.own seq d (anew clock)) s.table m i t m' → Published (publish_as clock seq d' (state_of s m)) s m (put_table t s) m'
  stored-published d d' m' e o = own_put d d' m' e (stored-put s m k t (entry_of s.own seq d (anew clock)) m' i o)

  pub insert-published : (m' : List ℕ) (p : ℕ) (tlv d : List ℕ) → d ≡ data_of m (meta_at s.table i) → spliced d p tlv ≡ join_all (place tlv (tlvs d))
      → Stored (entry_of s.own seq (spliced (data_of m (meta_at s.table i)) p tlv) (anew clock)) s.table m i t m'
      → Published (publish_as clock seq (with_tlv tlv (own_data (state_of s m))) (state_of s m)) s m (put_table t s) m'
  unfolding with_tlv
  insert-published m' p tlv d q w =
      stored-published (spliced (data_of m (meta_at s.table i)) p tlv) (with_tlv tlv (own_data (state_of s m))) m'
      (ap (λ (z : List ℕ). spliced z p tlv) (sym q) ∙ w ∙ ap (with_tlv tlv) (q ∙ sym (own_data_lem s m i k h)))

  pub remove_published : (m' : List ℕ) (p n : ℕ) → Stored (entry_of s.own seq (cut (data_of m (meta_at s.table i)) p n) (anew clock)) s.table m i t m'
      → Published (publish_as clock seq (cut (own_data (state_of s m)) p n) (state_of s m)) s m (put_table t s) m'
  remove_published m' p n =
      stored-published (cut (data_of m (meta_at s.table i)) p n) (cut (own_data (state_of s m)) p n) m' (ap (λ (z : List ℕ). cut z p n) (sym (own_data_lem s m i k h)))
