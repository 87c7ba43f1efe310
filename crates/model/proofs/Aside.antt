-- What calls do to the entries of the other nodes: a Node State about one of them is decided by the newest, all else leaves them as they are.
-- Assumes nothing.
use Rattle.std.proofs.Common.{◌≡◌, ℕ, Bool, true, false, cond, not, ◌&&◌, ◌||◌, eqb, leb, ◌⊎◌, List, [], ◌∷◌, map, length, take, sym, refl, ap, ◌∙◌, inl, inr, ⊎_elim, eq-eqb, ne_eqb, eqb-true}
use mathlib.Core.Option.{Option, none, some}
use borrow.Author.Tests.{eqb-false}
use Rattle.base.specs.Lists.{or_else, keep, In}
use Rattle.base.specs.Bytes.{u32_at, same}
use Rattle.base.specs.Sorted.{find, insert, Ascending}
use Rattle.base.proofs.Tests.{no_way, and_right, by_test, by_order}
use Rattle.base.proofs.Options.{by_cond}
use Rattle.base.proofs.Lists.{in_keep, keep_in}
use Rattle.base.proofs.Sorted.{insert_lt, insert_eq, insert_gt, insert-ascending, insert_has, insert_keeps, insert_cases, insert-map, find_yes, find_no, find-map, by_find, same-list, keep-ascending}
use Rattle.sha256.specs.Sha256.{hash16}
use Rattle.wire.specs.Row.{type_of, value_of}
use Rattle.wire.specs.Order.{good}
use Rattle.wire.specs.Payment.{Payment}
use Rattle.model.specs.Figures.{most_nodes, data_limit, refresh_age}
use Rattle.model.specs.Sequence.{older, advance}
use Rattle.model.specs.Table.{Statement, Entry, id_of, entry_of, age_at, look, put, statements, anew}
use Rattle.model.specs.Reach.{in_reach}
use Rattle.model.specs.State.{State, with_peers, own_entry, own_data, own_seq, publish_as, publish, with_tlv, settle, endpoint_at}
use Rattle.model.specs.Messages.{request_network_tlv, network_tlv, short_state, whole_state}
use Rattle.model.specs.Decide.{Received, Decision, received_of, taken, with_data, without_data, wanted_new, wanted_held, differs, decide, after}
use Rattle.model.specs.Handle.{Context, Sender, Work, with_sender, fits, reply, replies, may_ask, ask_network, touch, digest_now, reached_now, on_request_network, on_request_node, room_for_peer, add_peer, greet, knows, on_stranger, on_endpoint, on_equal, on_network, on_own_state, on_state, on_tlv, one_tlv}
use Rattle.model.specs.Receive.{about_other}
use Rattle.model.specs.Tick.{Sent, goes, some_of, without_peers, drop_silent, ticked, refusal_tick, tick}
use Rattle.model.specs.Begin.{Done}
use Rattle.model.specs.KeepAlive.{with_keep_alive, with_choice, chosen, refusal_keep_alive, keep_alive}
use Rattle.model.specs.Pay.{paid, refusal_pay, pay}
use Rattle.model.specs.Delivery.{saying}
use Rattle.model.specs.Traffic.{said_in}
use Rattle.model.proofs.Merge.{node_of, says_of, Sorted, Welcome, absorb, absorb_new, absorb_newer, absorb-old}
use Rattle.model.proofs.OneCall.{Carries, seen, touch-seen, reply-seen, decided}

-- ---- the statements of nodes other than our own

abbrev foreign : ℕ → Statement → Bool
foreign own x = not (eqb x.node own)

abbrev pub apart : ℕ → List Statement → List Statement
apart own l = keep (foreign own) l

mine : (own : ℕ) (x : Statement) → x.node ≡ own → foreign own x ≡ false
mine own x e = ap not (eq-eqb x.node own e)

pub theirs : (own : ℕ) (x : Statement) → ¬ (x.node ≡ own) → foreign own x ≡ true
theirs own x n = ap not (ne_eqb x.node own n)

pub apart-not : (own : ℕ) (x : Statement) (l : List Statement) → In x (apart own l) → In x l × ¬ (x.node ≡ own)
apart-not own x l m =
    let r = keep_in (foreign own) x l m in
    (r.0, λ e. no_way (foreign own x) r.1 (mine own x e))

-- what our own node publishes is not among them
apart-own : (own : ℕ) (x : Statement) (l : List Statement) → x.node ≡ own → apart own (insert node_of x l) ≡ apart own l
unfolding insert
apart-own own x [] e = rw (mine own x e)
apart-own own x (y ∷ l) e =
    by_order x.node y.node (λ p. rw (insert_lt node_of x y l p, mine own x e))
    (λ p. rw (insert_eq node_of x y l p, mine own x e, mine own y (sym p ∙ e)))
    (λ p. rw (insert_gt node_of x y l p) (by_test (foreign own y) (λ b. rw (b, apart-own own x l e)) (λ b. rw (b, apart-own own x l e))))

module _ (own : ℕ) (x : Statement) (n : ¬ (x.node ≡ own)) where
  apart-insert : (l : List Statement) → Sorted l → apart own (insert node_of x l) ≡ insert node_of x (apart own l)
  apart-insert l s =
      let k : Sorted (apart own l) = keep-ascending node_of (foreign own) l s in
      same-list node_of (apart own (insert node_of x l)) (insert node_of x (apart own l))
      (keep-ascending node_of (foreign own) (insert node_of x l) (insert-ascending node_of x l s)) (insert-ascending node_of x (apart own l) k)
      (λ y m. let r = keep_in (foreign own) y (insert node_of x l) m in
      ⊎_elim (λ q. rw q (insert_has node_of x (apart own l))) (λ q. insert_keeps node_of x y (apart own l) q.1 (in_keep (foreign own) y l q.0 r.1)) (insert_cases node_of x y l s r.0))
      (λ y m. ⊎_elim (λ q. rw q (in_keep (foreign own) x (insert node_of x l) (insert_has node_of x l) (theirs own x n)))
      (λ q. let r = keep_in (foreign own) y l q.0 in in_keep (foreign own) y (insert node_of x l) (insert_keeps node_of x y l q.1 r.0) r.1)
      (insert_cases node_of x y (apart own l) k m))

  apart-find : (l : List Statement) → find node_of x.node (apart own l) ≡ find node_of x.node l
  apart-find [] = refl
  apart-find (y ∷ l) =
      by_test (eqb y.node x.node)
      (λ b. let e : y.node ≡ x.node = eqb-true y.node x.node b in
      rw (theirs own y (λ q. n (sym e ∙ q))) (find_yes node_of x.node y (apart own l) e ∙ sym (find_yes node_of x.node y l e)))
      (λ b. let e : ¬ (y.node ≡ x.node) = eqb-false y.node x.node b in
      by_test (foreign own y) (λ f. rw f (find_no node_of x.node y (apart own l) e ∙ apart-find l ∙ sym (find_no node_of x.node y l e)))
      (λ f. rw f (apart-find l ∙ sym (find_no node_of x.node y l e))))

  pub apart-absorb : (l : List Statement) → Sorted l → apart own (absorb x l) ≡ absorb x (apart own l)
  apart-absorb l s =
      by_find node_of x.node l
      (λ f. rw (absorb_new x l f, absorb_new x (apart own l) (apart-find l ∙ f)) (apart-insert l s))
      (λ g f. by_test (older g.seq x.seq)
      (λ o. rw (absorb_newer x l g f o, absorb_newer x (apart own l) g (apart-find l ∙ f) o) (apart-insert l s))
      (λ o. rw (absorb-old x l g f o, absorb-old x (apart own l) g (apart-find l ∙ f) o)))

-- ---- a Node State about another node

-- it says nothing and changes nothing, or says one thing, which is taken by the newest
abbrev pub Outcome : ℕ → List Entry → Received → Type 0
Outcome clock t r =
    ((said_in t r ≡ []) × (statements (after (decide clock t r) t) ≡ statements t))
    ⊎ ((x : Statement) × (said_in t r ≡ x ∷ []) × (x.node ≡ r.node) × (Welcome x (statements t) → statements (after (decide clock t r) t) ≡ absorb x (statements t)))

module _ (clock : ℕ) (t : List Entry) (n q a : ℕ) (h : List ℕ) where
  abbrev full : List ℕ → Received
  full d = record { node = n; seq = q; age = a; hash = h; carried = some d }

  abbrev bare : Received
  bare = record { node = n; seq = q; age = a; hash = h; carried = none }

  -- with data
  carries : (d : List ℕ) → good data_limit d && same (hash16 d) h ≡ true → Carries (full d) d
  unfolding with_data
  carries d b = record { hashed = and_right (good data_limit d) (same (hash16 d) h) b; takes = λ clock z. rw b }

  bad_data : (d : List ℕ) → good data_limit d && same (hash16 d) h ≡ false → after (decide clock t (full d)) t ≡ t
  unfolding decide look wanted_new wanted_held with_data after
  bad_data d b =
      by_find id_of n t (λ l. by_test (leb most_nodes (length t)) (λ m. rw (l, m)) (λ m. rw (l, m, b)))
      (λ g l. by_test (differs g (full d)) (λ m. rw (l, m, b)) (λ m. rw (l, m)))

  -- without
  unknown : find id_of n t ≡ none → after (decide clock t bare) t ≡ t
  unfolding decide look wanted_new after
  unknown l = by_test (leb most_nodes (length t)) (λ m. rw (l, m)) (λ m. rw (l, m))

  module _ (g : Entry) (l : find id_of n t ≡ some g) where
    held-says : find node_of n (statements t) ≡ some g.says
    held-says = find-map says_of node_of n t ∙ rw l

    other-hash : same (hash16 g.says.node_data) h ≡ false → after (decide clock t bare) t ≡ t
    unfolding decide look wanted_held without_data after
    other-hash b = by_test (differs g bare) (λ m. rw (l, m, b)) (λ m. rw (l, m))

    module _ (b : same (hash16 g.says.node_data) h ≡ true) where
      renumbered : older g.says.seq q ≡ true → statements (after (decide clock t bare) t) ≡ insert node_of (saying bare g.says.node_data) (statements t)
      unfolding decide look differs wanted_held without_data after put
      renumbered o = rw (l, o, b) (insert-map says_of node_of (taken clock bare g.says.node_data) t)

      not_newer : older g.says.seq q ≡ false → after (decide clock t bare) t ≡ t
      unfolding decide look differs after
      not_newer o = by_test (eqb g.says.seq q) (λ m. rw (l, o, m, b)) (λ m. rw (l, o, m))

      same-hash : statements (after (decide clock t bare) t) ≡ absorb (saying bare g.says.node_data) (statements t)
      same-hash =
          by_test (older g.says.seq q)
          (λ o. renumbered o ∙ sym (absorb_newer (saying bare g.says.node_data) (statements t) g.says held-says o))
          (λ o. ap statements (not_newer o) ∙ sym (absorb-old (saying bare g.says.node_data) (statements t) g.says held-says o))

  outcome_by : (o : Option (List ℕ)) → Outcome clock t (record { node = n; seq = q; age = a; hash = h; carried = o })
  unfolding look
  outcome_by (some d) =
      by_test (good data_limit d && same (hash16 d) h) (λ b. inr (saying (full d) d, rw b, refl, decided clock t (full d) d (carries d b)))
      (λ b. inl (rw b, ap statements (bad_data d b)))
  outcome_by none =
      by_find id_of n t (λ l. inl (rw l, ap statements (unknown l)))
      (λ g l. by_test (same (hash16 g.says.node_data) h) (λ b. inr (saying bare g.says.node_data, rw (l, b), refl, λ k. same-hash g l b))
      (λ b. inl (rw (l, b), ap statements (other-hash g l b))))

pub outcome : (clock : ℕ) (t : List Entry) (r : Received) → Outcome clock t r
outcome clock t r = outcome_by clock t r.node r.seq r.age r.hash r.carried

pub after_sorted : (d : Decision) (t : List Entry) → Ascending id_of t → Ascending id_of (after d t)
unfolding after put
after_sorted Decision.ignored t a = a
after_sorted (Decision.ask n) t a = a
after_sorted (Decision.take_number e) t a = insert-ascending id_of e t a
after_sorted (Decision.take_all e) t a = insert-ascending id_of e t a
after_sorted Decision.dropped t a = a

-- ---- all else: our identifier stays, and the other nodes' statements

pub record Aside (s r : State) : Type 0 where
  pub own : r.own ≡ s.own
  pub others : apart s.own (statements r.table) ≡ apart s.own (statements s.table)
  pub sorted : Ascending id_of s.table → Ascending id_of r.table

still : (s r : State) → r.own ≡ s.own → r.table ≡ s.table → Aside s r
still s r o e = record { own = o; others = ap (λ (t : List Entry). apart s.own (statements t)) e; sorted = λ a. rw e a }

onward : (s r v : State) → Aside s r → v.own ≡ r.own → v.table ≡ r.table → Aside s v
onward s r v a o e =
    record { own = o ∙ a.own; others = ap (λ (t : List Entry). apart s.own (statements t)) e ∙ a.others; sorted = λ h. rw e (a.sorted h) }

published : (clock n : ℕ) (d : List ℕ) (s : State) → Aside s (publish_as clock n d s)
unfolding publish_as put
published clock n d s =
    record {
      own = refl;
      others = ap (apart s.own) (insert-map says_of node_of (entry_of s.own n d (anew clock)) s.table) ∙ apart-own s.own (entry_of s.own n d (anew clock)).says (statements s.table) refl;
      sorted = insert-ascending id_of (entry_of s.own n d (anew clock)) s.table;
    }

-- ---- TLVs

record Beside (w v : Work) : Type 0 where
  state : Aside w.state v.state

by_seen : {w v : Work} → seen v.state ≡ seen w.state → Beside w v
by_seen {w} {v} e =
    record { state = still w.state v.state (ap (λ (p : ℕ × List Entry). p.0) e) (ap (λ (p : ℕ × List Entry). p.1) e) }

next : {w v x : Work} → Beside w v → seen x.state ≡ seen v.state → Beside w x
next {w} {v} {x} a e =
    record { state = onward w.state v.state x.state a.state (ap (λ (p : ℕ × List Entry). p.0) e) (ap (λ (p : ℕ × List Entry). p.1) e) }

either : (b : Bool) {w v x : Work} → Beside w v → Beside w x → Beside w (cond b v x)
either true p q = p
either false p q = q

module _ (c : Context) where
  replies-seen : (ts : List (List ℕ)) (w : Work) → seen (replies c ts w).state ≡ seen w.state
  unfolding replies
  replies-seen [] w = refl
  replies-seen (t ∷ ts) w = replies-seen ts (reply c t w) ∙ reply-seen c t w

  ask_beside : (w : Work) → Beside w (ask_network c w)
  unfolding ask_network
  ask_beside w =
      let r : Beside w (reply c request_network_tlv w) = by_seen (reply-seen c request_network_tlv w) in
      either (may_ask c w) (either (fits c request_network_tlv w) (by_seen refl) r) (by_seen refl)

  greet_beside : (f : Sender) (v : Work) → Beside v (greet c f v)
  unfolding greet add_peer
  greet_beside f v =
      either (room_for_peer v.state) (record { state = onward v.state (publish c.clock (with_tlv _ (own_data v.state)) v.state) _ (published c.clock (advance (own_seq v.state) 1) (with_tlv _ (own_data v.state)) v.state) refl refl })
      (by_seen refl)

  endpoint_beside : (f : Sender) (w : Work) → Beside w (on_endpoint c f w)
  unfolding on_endpoint on_stranger
  endpoint_beside f w =
      either (eqb f.node w.state.own) (by_seen refl)
      (either (knows c f w.state) (by_seen refl) (either c.unicast (record { state = (greet_beside f (with_sender f w)).state }) (record { state = (ask_beside (with_sender f w)).state })))

  network_beside : (d : List ℕ) (w : Work) → Beside w (on_network c d w)
  unfolding on_network on_equal
  network_beside d w =
      either (same (digest_now c w) d) (either c.unicast (by_seen (touch-seen c w)) (by_seen (touch-seen c w))) (either c.others (by_seen refl) (ask_beside w))

  own_beside : (r : Received) (w : Work) → Beside w (on_own_state c r w)
  unfolding on_own_state
  own_beside r w = either (differs (own_entry w.state) r) (record { state = published c.clock _ (own_data w.state) w.state }) (by_seen refl)

  request_beside : (w : Work) → Beside w (on_request_network c w)
  unfolding on_request_network
  request_beside w = by_seen (replies-seen (network_tlv (digest_now c w) ∷ map (short_state c.clock) (reached_now c w)) w)

  node_beside : (n : ℕ) (w : Work) → Beside w (on_request_node c n w)
  unfolding on_request_node
  node_beside n w = either (in_reach w.state.own c.clock w.state.table n) (go (look n w.state.table)) (by_seen refl)
    where
      go : (o : Option Entry) → Beside w (or_else o w (λ e. reply c (whole_state c.clock e) w))
      go none = by_seen refl
      go (some e) = by_seen (reply-seen c (whole_state c.clock e) w)

  -- a Node State of length 28 or more is about our own node
  state_beside : (y : ℕ) (v : List ℕ) (w : Work) → (eqb y 5 && leb 28 (length v)) && not (eqb (u32_at v 0) w.state.own) ≡ false
      → Beside w (cond (eqb y 5) (cond (leb 28 (length v)) (on_state c (received_of v) w) w) w)
  unfolding on_state received_of
  state_beside y v w h =
      by_test (eqb y 5)
      (λ p. by_test (leb 28 (length v))
      (λ q. by_test (eqb (u32_at v 0) w.state.own) (λ r. rw (p, q, r) (own_beside (received_of v) w)) (λ r. no_way true refl (rw (p, q, r) at h)))
      (λ q. rw (p, q) (by_seen refl)))
      (λ p. rw p (by_seen refl))

  tlv_beside : (y : ℕ) (v : List ℕ) (w : Work) → (eqb y 5 && leb 28 (length v)) && not (eqb (u32_at v 0) w.state.own) ≡ false → Beside w (on_tlv c y v w)
  unfolding on_tlv
  tlv_beside y v w h =
      let nothing : Beside w w = by_seen refl in
      either (eqb y 1) (request_beside w)
      (either (eqb y 2) (either (leb 4 (length v)) (node_beside (u32_at v 0) w) nothing)
      (either (eqb y 3) (either (leb 8 (length v)) (endpoint_beside (record { node = u32_at v 0; endpoint = u32_at v 4 }) w) nothing)
      (either (eqb y 4) (either (leb 16 (length v)) (network_beside (take 16 v) w) nothing) (state_beside y v w h))))

  pub one-aside : (t : List ℕ) (w : Work) → about_other w.state.own t ≡ false → Aside w.state (one_tlv c t w).state
  unfolding one_tlv
  one-aside t w h =
      let a : Beside w (on_tlv c (type_of t) (value_of t) w) = tlv_beside (type_of t) (value_of t) w h in
      let b : Beside w (cond c.unicast (touch c (on_tlv c (type_of t) (value_of t) w)) (on_tlv c (type_of t) (value_of t) w)) =
      either c.unicast (next a (touch-seen c (on_tlv c (type_of t) (value_of t) w))) a in
      b.state

-- ---- ticks, choices and payments

module _ (clock : ℕ) (s : State) where
  silent-aside : (i : ℕ) → Aside s (drop_silent clock i s)
  unfolding drop_silent
  silent-aside i =
      by_cond (Aside s) (some_of (keep (goes clock i s.table) s.peers) || leb refresh_age (age_at clock (own_entry s)))
      (with_peers (keep (λ p. not (goes clock i s.table p)) s.peers) (publish clock (without_peers (keep (goes clock i s.table) s.peers) (own_data s)) s)) s
      (λ b. onward s (publish clock (without_peers (keep (goes clock i s.table) s.peers) (own_data s)) s) _ (published clock (advance (own_seq s) 1) (without_peers (keep (goes clock i s.table) s.peers) (own_data s)) s) refl refl)
      (λ b. still s s refl refl)

  ticked-aside : (i : ℕ) (rs : List ℕ) → Aside s (ticked clock i rs s).state
  unfolding ticked settle
  ticked-aside i rs = onward s (drop_silent clock i s) _ (silent-aside i) refl refl

  pub tick-aside : (i : ℕ) (rs : List ℕ) (table room : ℕ) → Aside s (tick clock i rs table room s).state
  unfolding tick
  tick-aside i rs table room =
      by_cond (λ (a : Sent). Aside s a.state) (eqb (refusal_tick clock i table room s) 0) (ticked clock i rs s) _ (λ b. ticked-aside i rs) (λ b. still s s refl refl)

  with_choice_aside : (i n : ℕ) → Aside s (with_choice clock i n s)
  unfolding with_choice
  with_choice_aside i n =
      by_cond (Aside s) (eqb (endpoint_at i s).keep n) s _ (λ b. still s s refl refl)
      (λ b. onward s (publish clock (with_keep_alive i n (own_data s)) s) _ (published clock (advance (own_seq s) 1) (with_keep_alive i n (own_data s)) s) refl refl)

  chosen-aside : (i n : ℕ) (rs : List ℕ) → Aside s (chosen clock i n rs s)
  unfolding chosen settle
  chosen-aside i n rs = onward s (with_choice clock i n s) _ (with_choice_aside i n) refl refl

  pub choice_aside : (i n : ℕ) (rs : List ℕ) (table : ℕ) → Aside s (keep_alive clock i n rs table s).state
  unfolding keep_alive
  choice_aside i n rs table =
      by_cond (λ (a : Done). Aside s a.state) (eqb (refusal_keep_alive clock i n table s) 0) (record { number = 0; state = chosen clock i n rs s }) _ (λ b. chosen-aside i n rs)
      (λ b. still s s refl refl)

  paid-aside : (p : Payment) (rs : List ℕ) → Aside s (paid clock p rs s)
  unfolding paid settle
  paid-aside p rs = onward s (publish clock (with_tlv _ (own_data s)) s) _ (published clock (advance (own_seq s) 1) (with_tlv _ (own_data s)) s) refl refl

  pub pay-aside : (p : Payment) (rs : List ℕ) (table : ℕ) → Aside s (pay clock p rs table s).state
  unfolding pay
  pay-aside p rs table =
      by_cond (λ (a : Done). Aside s a.state) (eqb (refusal_pay clock p table s) 0) (record { number = 0; state = paid clock p rs s }) _ (λ b. paid-aside p rs) (λ b. still s s refl refl)
