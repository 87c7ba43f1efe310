-- Beginning, resuming, paying and purging keep the invariant. Assumes nothing.
use Rattle.std.proofs.Common.{◌≡◌, ℕ, ◌+◌, ◌<◌, ◌≤◌, Bool, true, false, eqb, List, [], ◌∷◌, ◌++◌, map, length, sym, refl, ap, ◌∙◌, subst, inl, arith, ltb-false, eq-eqb}
use mathlib.Core.Option.{Option, some}
use lib.ListN.{length-map}
use Rattle.base.specs.Lists.{join_all, or_else, is_some, In, All}
use Rattle.base.proofs.Lists.{in_left, in_keep, any_in, in_map, all_in, all_keep, keep-few}
use Rattle.base.proofs.Sorted.{find_yes, find-some, keep-ascending, find-keep}
use Rattle.wire.specs.Order.{ascending, good, among}
use Rattle.wire.specs.Row.{tlvs}
use Rattle.wire.specs.Payment.{Payment, payment_tlv}
use Rattle.wire.proofs.Good.{good_made}
use Rattle.model.specs.Figures.{data_limit, publish_limit, last_reading, least_interval}
use Rattle.model.specs.Sequence.{circle, advance}
use Rattle.model.specs.Table.{Entry, id_of, entry_of, under_age, look, put, anew}
use Rattle.model.specs.Reach.{Vertex, vertices, is_node, level0, levels, met, marked, in_reach, reached}
use Rattle.model.specs.State.{State, with_table, no_entry, own_entry, own_seq, own_data, publish_as, publish, peer_tlv, with_tlv, settle}
use Rattle.model.specs.Refusals.{Row, late, back, small_table, no_household, paid_already, full}
use Rattle.model.specs.KeepAlive.{keep_alives}
use Rattle.model.specs.Begin.{Done, fresh_endpoints, started, begun, blank, refusal_begin, begin}
use Rattle.model.specs.Snapshot.{Snapshot, load, without_links, republished, resumed, no_snapshot, refusal_resume, resume}
use Rattle.model.specs.Pay.{paid, refusal_pay, pay, purged, refusal_purge, purge}
use Rattle.model.specs.Invariant.{EntryFits, EndpointFits, Valid, TableFits, Only, Linked, Chosen, intervals_of, Midway}
use Rattle.model.proofs.Snapshots.{load_fits}
use Rattle.model.specs.Invariant.{SnapshotFits}
use Rattle.model.proofs.KeptParts.{none-applies, not_late, not_back, found, valid-midway, midway-held, midway-own, look-put, put-fits, publish-kept, advance-fits, fresh-fits, settle_valid}
use Rattle.base.proofs.Options.{by_cond, by_or_else}
use Rattle.model.proofs.KeptData.{acceptable, none-good, none_linked, none-chosen, empty-only, paid-good, paid-only}

-- ---- a state that is started: no peers, so no Peer TLV of ours

fresh-all : (clock : ℕ) (rs : List ℕ) → All (EndpointFits clock) (fresh_endpoints clock rs)
fresh-all clock [] = tt
fresh-all clock (r ∷ rs) =
    (record { trickle = fresh-fits clock least_interval r (inl refl); next = omega arith; least = omega arith; most = omega arith; quiet = omega arith }, fresh-all clock rs)

-- every interval is the usual one, so there is no Keep-Alive TLV of ours
fresh-choices : (clock i : ℕ) (rs : List ℕ) → keep_alives i (intervals_of (fresh_endpoints clock rs)) ≡ []
unfolding keep_alives
fresh-choices clock i [] = refl
fresh-choices clock i (r ∷ rs) = fresh-choices clock (i + 1) rs

module _ (own clock : ℕ) (rs : List ℕ) (t : List Entry) (e : Entry) where
  started-valid : own < circle → clock ≤ last_reading → length rs ≡ 4 → TableFits own clock t → look own t ≡ some e → Only 8 e.says.node_data []
      → Only 9 e.says.node_data [] → Valid (started own clock rs t)
  unfolding started own_entry
  started-valid o l r h q k c =
      record {
        inside = record {
          own = o;
          table = h;
          peers = record { few = omega arith; once = tt; all = tt };
          links = subst (λ (x : Option Entry). Linked (or_else x no_entry (λ f. f)).says.node_data []) (sym q) k;
          choices = rw (fresh-choices clock 1 rs) (subst (λ (x : Option Entry). Only 9 (or_else x no_entry (λ f. f)).says.node_data []) (sym q) c);
          endpoints = record { four = length-map rs _ ∙ r; all = fresh-all clock rs };
        };
        last = l;
        digest = refl;
      }

-- ---- beginning

pub empty-good : good data_limit [] ≡ true
unfolding ascending
empty-good = good_made data_limit [] tt refl (omega arith)

pub begun-valid : (own clock : ℕ) (rs : List ℕ) → own < circle → clock ≤ last_reading → length rs ≡ 4 → Valid (begun own clock rs)
unfolding begun look
begun-valid own clock rs o l r =
    let q : look own (entry_of own 0 [] (anew clock) ∷ []) ≡ some (entry_of own 0 [] (anew clock)) = find_yes id_of own (entry_of own 0 [] (anew clock)) [] refl in
    started-valid own clock rs (entry_of own 0 [] (anew clock) ∷ []) (entry_of own 0 [] (anew clock)) o l r
    (record {
      ascending = (tt, tt);
      held = ap is_some q;
      nodes = omega arith;
      entries = (record { node = o; seq = omega arith; fine = empty-good; age = omega arith; since = omega arith }, tt);
    })
    q (empty-only 8) (empty-only 9)

pub blank-valid : Valid blank
unfolding blank
blank-valid = begun-valid 0 0 (0 ∷ 0 ∷ 0 ∷ 0 ∷ []) (omega arith) (omega arith) refl

module _ (own clock : ℕ) (rs : List ℕ) (table : ℕ) (s : State) where
  abbrev rows_begin : List Row
  rows_begin = late clock ∷ small_table table ∷ []

  pub begin-valid : own < circle → length rs ≡ 4 → Valid s → Valid (begin own clock rs table s).state
  unfolding begin
  begin-valid o r v =
      by_cond (λ (a : Done). Valid a.state) (eqb (refusal_begin clock table) 0) (record { number = 0; state = begun own clock rs }) _
      (λ b. begun-valid own clock rs o (not_late clock (none-applies rows_begin (omega arith) b).0) r) (λ b. v)

-- ---- resuming

module _ (clock : ℕ) (rs : List ℕ) (b : Snapshot) (f : SnapshotFits clock b) where
  -- our entry as it was saved, and as it is published again
  abbrev before : Entry
  before = or_else (look b.own b.entries) no_entry (λ e. e)

  abbrev again : Entry
  again = entry_of b.own (advance before.says.seq 1) (without_links before.says.node_data) (anew clock)

  before-held : look b.own b.entries ≡ some before
  before-held = found (look b.own b.entries) f.table.held

  pub before-good : good data_limit before.says.node_data ≡ true
  unfolding look
  before-good = (all_in (EntryFits clock) before b.entries f.table.entries (find-some id_of b.own before b.entries before-held).0).fine

  again-fits : TableFits b.own clock (put again b.entries)
  again-fits =
      put-fits again b.entries f.table
      (record { node = f.own; seq = advance-fits before.says.seq 1; fine = none-good before.says.node_data before-good; age = omega arith; since = omega arith })
      (λ z. let y : ◌≡◌ {A = ℕ} 0 1 = cc before-held in absurd (omega arith))

  pub resumed-valid : clock ≤ last_reading → length rs ≡ 4 → Valid (resumed clock rs b)
  unfolding resumed republished
  resumed-valid l r =
      started-valid b.own clock rs (put again b.entries) again f.own l r again-fits (look-put again b.entries) (none_linked before.says.node_data) (none-chosen before.says.node_data)

module _ (clock : ℕ) (bytes rs : List ℕ) (table : ℕ) (s : State) where
  abbrev rows_resume : List Row
  rows_resume = late clock ∷ small_table table ∷ no_snapshot clock bytes ∷ []

  pub resume-valid : length rs ≡ 4 → Valid s → Valid (resume clock bytes rs table s).state
  unfolding resume
  resume-valid r v =
      by_cond (λ (a : Done). Valid a.state) (eqb (refusal_resume clock bytes table) 0) _ _
      (λ b. by_or_else Valid (load clock bytes) s (resumed clock rs) (λ e. v) (λ k e. resumed-valid clock rs k (load_fits clock bytes k e) (not_late clock (none-applies rows_resume (omega arith) b).0) r)) (λ b. v)

-- ---- paying

-- our data with the payment, published under the number after ours
module _ (clock : ℕ) (p : Payment) (s : State) where
  pub published-midway : Midway clock s → among (payment_tlv p) (tlvs (own_data s)) ≡ false → length (own_data s) + length (payment_tlv p) ≤ publish_limit
      → Midway clock (publish clock (with_tlv (payment_tlv p) (own_data s)) s)
  unfolding publish_as
  published-midway m n room =
      let g : good data_limit (own_data s) ≡ true = (midway-own s m).fine in
      publish-kept (advance (own_seq s) 1) (with_tlv (payment_tlv p) (own_data s)) s.peers s m (advance-fits (own_seq s) 1)
      (paid-good p (own_data s) g n (acceptable room)) m.peers (paid-only p (own_data s) 8 (map peer_tlv s.peers) (omega arith) m.links) s.endpoints m.endpoints
      (paid-only p (own_data s) 9 (keep_alives 1 (intervals_of s.endpoints)) (omega arith) m.choices)

module _ (clock : ℕ) (p : Payment) (rs : List ℕ) (s : State) where
  pub paid-valid : Midway clock s → among (payment_tlv p) (tlvs (own_data s)) ≡ false → length (own_data s) + length (payment_tlv p) ≤ publish_limit → clock ≤ last_reading → Valid (paid clock p rs s)
  unfolding paid
  paid-valid m n room l = settle_valid clock rs (publish clock (with_tlv (payment_tlv p) (own_data s)) s) (published-midway clock p s m n room) l

  pub paid-own : (paid clock p rs s).own ≡ s.own
  unfolding paid publish_as settle
  paid-own = refl

module _ (clock : ℕ) (p : Payment) (rs : List ℕ) (table : ℕ) (s : State) where
  abbrev rows_pay : List Row
  rows_pay = late clock ∷ back clock s ∷ small_table table ∷ no_household p.household ∷ paid_already p s ∷ full p s ∷ []

  pub pay-valid : Valid s → Valid (pay clock p rs table s).state
  unfolding pay
  pay-valid v =
      by_cond (λ (a : Done). Valid a.state) (eqb (refusal_pay clock p table s) 0) (record { number = 0; state = paid clock p rs s }) _
      (λ b. accepted (none-applies rows_pay (omega arith) b)) (λ b. v)
    where
      accepted : All (λ r. r.applies ≡ false) rows_pay → Valid (paid clock p rs s)
      accepted a =
          paid-valid clock p rs s (valid-midway clock s v (not_back clock s a.1.0)) a.1.1.1.1.0
          (ltb-false publish_limit (length (own_data s) + length (payment_tlv p)) a.1.1.1.1.1.0) (not_late clock a.0)

  pub pay-own : (pay clock p rs table s).state.own ≡ s.own
  unfolding pay
  pay-own =
      by_cond (λ (a : Done). a.state.own ≡ s.own) (eqb (refusal_pay clock p table s) 0) (record { number = 0; state = paid clock p rs s }) _ (λ b. paid-own clock p rs s) (λ b. refl)

-- ---- purging: our own node is reachable, and so stays

pub node-reached : (own clock : ℕ) (t : List Entry) (e : Entry) → In e t → id_of e ≡ own → in_reach own clock t own ≡ true
unfolding in_reach marked met
node-reached own clock t e m q =
    any_in (is_node own) v (level0 own (vertices clock t) ++ join_all (levels own (vertices clock t)))
    (in_left v (level0 own (vertices clock t)) (join_all (levels own (vertices clock t))) (in_keep (is_node own) v (vertices clock t) (in_map _ e t m) b)) b
  where
    v : Vertex
    v = record { says = e.says; young = under_age clock e }

    b : is_node own v ≡ true
    b = eq-eqb e.says.node own q

module _ (clock : ℕ) (s : State) (m : Midway clock s) where
  abbrev inside : Entry → Bool
  inside e = in_reach s.own clock s.table (id_of e)

  pub reached-held : look s.own (reached s.own clock s.table) ≡ some (own_entry s)
  unfolding reached look
  reached-held =
      let r : In (own_entry s) s.table × (id_of (own_entry s) ≡ s.own) = find-some id_of s.own (own_entry s) s.table (midway-held s m) in
      find-keep id_of inside s.own (own_entry s) s.table (midway-held s m)
      (rw r.1 (node-reached s.own clock s.table (own_entry s) r.0 r.1))

  pub reached-kept : Midway clock (with_table (reached s.own clock s.table) s)
  unfolding reached own_entry
  reached-kept =
      record {
        own = m.own;
        table = record {
          ascending = keep-ascending id_of inside s.table m.table.ascending;
          held = ap is_some reached-held;
          nodes = omega (arith, keep-few inside s.table, m.table.nodes);
          entries = all_keep (EntryFits clock) inside s.table m.table.entries;
        };
        peers = m.peers;
        links = subst (λ (x : Option Entry). Linked (or_else x no_entry (λ f. f)).says.node_data s.peers) (sym reached-held) m.links;
        choices = subst (λ (x : Option Entry). Chosen (or_else x no_entry (λ f. f)).says.node_data s.endpoints) (sym reached-held) m.choices;
        endpoints = m.endpoints;
      }

module _ (clock : ℕ) (rs : List ℕ) (table : ℕ) (s : State) where
  abbrev rows_purge : List Row
  rows_purge = late clock ∷ back clock s ∷ small_table table ∷ []

  pub purge-valid : Valid s → Valid (purge clock rs table s).state
  unfolding purge purged
  purge-valid v =
      by_cond (λ (a : Done). Valid a.state) (eqb (refusal_purge clock table s) 0) (record { number = 0; state = purged clock rs s }) _
      (λ b. accepted (none-applies rows_purge (omega arith) b)) (λ b. v)
    where
      accepted : All (λ r. r.applies ≡ false) rows_purge → Valid (settle clock rs (with_table (reached s.own clock s.table) s))
      accepted a =
          settle_valid clock rs (with_table (reached s.own clock s.table) s) (reached-kept clock s (valid-midway clock s v (not_back clock s a.1.0))) (not_late clock a.0)
