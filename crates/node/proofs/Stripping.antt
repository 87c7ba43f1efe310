-- Peers that go: a search among those marked, their Peer TLVs taken out of our data in one pass, and those that stay. Assumes nothing.
use mathlib.Core.Path.{◌≡◌, refl, sym, ap, ◌∙◌, subst}
use mathlib.Core.Bool.{Bool, true, false, not}
use mathlib.Core.List.{List, [], ◌∷◌, ◌++◌, map, append-nil, append_assoc}
use Prim.Native.Nat.{ℕ, ◌+◌, ◌-◌, ◌*◌, ◌≤◌, ◌<◌}
use native.Mathlib.Omega.{arith}
use native.Mathlib.Numerals.{add-one}
use lib.ListN.{length, get_or, take, drop, set, length-drop, length-append}
use lib.Seq.{take-suc-set, drop-drop}
use Rattle.base.specs.Lists.{keep_by}
use Rattle.base.specs.Memory.{part, written}
use Rattle.base.proofs.Lists.{take_drop_take, part-is}
use Rattle.base.proofs.Marks.{not_at, keep_by_nil, keep_by_in, keep_by_out, keep_by_map}
use Rattle.base.proofs.Written.{part_length, part-rest, part-behind, written_none, written_append, written-length}
use Rattle.wire.specs.Row.{is_row, tlvs}
use Rattle.wire.specs.Order.{good}
use Rattle.wire.specs.Answers.{Tells}
use Rattle.wire.specs.declared.row.Header.{Header}
use Rattle.wire.proofs.Rows.{tlvs_end}
use Rattle.wire.proofs.Good.{good-fits, good-row, keep-good}
use Rattle.model.specs.Figures.{data_limit, table_bytes}
use Rattle.model.specs.Sequence.{advance}
use Rattle.model.specs.Table.{entry_of, anew}
use Rattle.model.specs.State.{State as ModelState, Peer as ModelPeer, own_seq, own_data, peer_tlv, publish, publish_as, with_peers}
use Rattle.model.specs.Tick.{without_peers}
use Rattle.model.proofs.KeptData.{names}
use Rattle.table.specs.View.{meta_at, Arranged, Kept, Read, Stands, Stored}
use Rattle.table.specs.declared.Table.{Table}
use Rattle.table.specs.declared.Entry.{Entry as Meta}
use Rattle.node.specs.View.{peer_of, peers_of, state_of, PeersRep, Rep, Published}
use Rattle.node.specs.declared.State.{State}
use Rattle.node.specs.declared.peers.Peer.{Peer}
use Rattle.node.specs.declared.peers.Peers.{Peers}
use Rattle.node.proofs.Parts.{state-peers, put_table, put_peers}
use Rattle.node.proofs.Own.{own-seq}
use Rattle.node.proofs.Moves.{published_then, peers_moved}
use Rattle.node.proofs.Editing.{own-part, slot-room, slot_asks, slot-published}

-- ---- the search for a marked peer whose Peer TLV this is

-- the last contact is no part of it
pub link_is : (p : Peer) {t : List ℕ} → t ≡ peer_tlv (record { node = p.node; theirs = p.theirs; ours = p.ours; contact = 0 }) → t ≡ peer_tlv (peer_of p)
unfolding peer_tlv
link_is p e = e

-- ---- node data without their Peer TLVs, TLV by TLV

module _ (ps : List ModelPeer) (d : List ℕ) where
  without_end : length d ≡ 0 → without_peers ps d ≡ []
  unfolding without_peers
  without_end e = rw (tlvs_end d e)

  module _ (t rest : List ℕ) (l : tlvs d ≡ t ∷ tlvs rest) where
    without_gone : names ps t ≡ true → without_peers ps d ≡ without_peers ps rest
    unfolding without_peers
    without_gone e = rw (l, e)

    without-kept : names ps t ≡ false → without_peers ps d ≡ t ++ without_peers ps rest
    unfolding without_peers
    without-kept e = rw (l, e)

-- of the `len` bytes at `start` of the memory m those before place `at` were passed: what is kept of them stands there now, `to` bytes
pub record Passed (ps : List ModelPeer) (m : List ℕ) (start len at to : ℕ) (m' : List ℕ) : Type 0 where
  pub done : List ℕ
  pub size : to ≡ length done
  pub low : to ≤ at
  pub within : at ≤ len
  pub memory : m' ≡ written m start done
  pub row : is_row (drop at (part m start len)) ≡ true
  pub whole : without_peers ps (part m start len) ≡ done ++ without_peers ps (drop at (part m start len))

module _ (ps : List ModelPeer) (m : List ℕ) (start len : ℕ) (room : start + len ≤ length m) where
  pub passed_none : is_row (part m start len) ≡ true → Passed ps m start len 0 0 m
  passed_none r = record { done = []; size = refl; low = omega arith; within = omega arith; memory = sym (written_none m start); row = r; whole = refl }

  module _ (at to : ℕ) (m' : List ℕ) (h : Passed ps m start len at to m') where
    pub passed_length : length m' ≡ length m
    passed_length = rw h.memory (written-length m h.done start (omega (arith, h.size, h.low, h.within)))

    -- what is to come stands as it did
    ahead : (n : ℕ) → to ≤ n → n ≤ len → drop n (part m' start len) ≡ drop n (part m start len)
    ahead n p q =
        part-rest m' start len 0 (rw passed_length room) n (len - n) (omega arith)
        ∙ ap (λ (x : List ℕ). part x (start + n) (len - n)) h.memory
        ∙ part-behind m h.done start (start + n) (len - n) (omega (arith, h.size, h.low, h.within)) (omega (arith, h.size))
        ∙ sym (part-rest m start len 0 room n (len - n) (omega arith))

    ahead_length : length (part m' start len) ≡ len
    ahead_length = part_length m' start len (rw passed_length room)

    -- what `tlv_at` asks
    pub passed-row : at < len → (at < length (take (start + len - start) (drop start m'))) × (is_row (drop at (take (start + len - start) (drop start m'))) ≡ true)
    passed-row l =
        subst (λ (s : List ℕ). (at < length s) × (is_row (drop at s) ≡ true)) (sym (part-is m' start (start + len) len refl))
        (omega (arith, ahead_length), rw (ahead at h.low h.within) h.row)

    module _ (x : Header) (told : Tells (take (start + len - start) (drop start m')) at x) where
      t : Tells (part m' start len) at x
      t = subst (λ (s : List ℕ). Tells s at x) (part-is m' start (start + len) len refl) told

      pub ends : x.next ≤ len
      ends = omega (arith, t.within, ahead_length)

      -- the TLV, as a part of the memory
      here : part m' (start + at) (x.next - at) ≡ take (x.next - at) (drop at (part m' start len))
      here =
          ap (take (x.next - at)) (sym (drop-drop at start m'))
          ∙ sym (take_drop_take (x.next - at) at len (drop start m') (omega (arith, ends, t.onward)))

      rests : tlvs (drop at (part m start len)) ≡ part m' (start + at) (x.next - at) ∷ tlvs (drop x.next (part m start len))
      rests =
          ap tlvs (sym (ahead at h.low h.within)) ∙ t.left
          ∙ ap (λ (y : List ℕ). y ∷ tlvs (drop x.next (part m' start len))) (sym here)
          ∙ ap (λ (y : List ℕ). part m' (start + at) (x.next - at) ∷ tlvs y) (ahead x.next (omega (arith, h.low, t.onward)) ends)

      row_on : is_row (drop x.next (part m start len)) ≡ true
      row_on = rw (← ahead x.next (omega (arith, h.low, t.onward)) ends) t.again

      module _ {b : Bool} (found : b ≡ names ps (take (start + x.next - (start + at)) (drop (start + at) m'))) where
        e : b ≡ names ps (part m' (start + at) (x.next - at))
        e = found ∙ ap (names ps) (part-is m' (start + at) (start + x.next) (x.next - at) (omega (arith, t.onward)))

        pub passed-gone : b ≡ true → Passed ps m start len x.next to m'
        passed-gone q =
            record {
              done = h.done;
              size = h.size;
              low = omega (arith, h.low, t.onward);
              within = ends;
              memory = h.memory;
              row = row_on;
              whole = h.whole ∙ ap (λ (y : List ℕ). h.done ++ y) (without_gone ps (drop at (part m start len)) _ (drop x.next (part m start len)) rests (sym e ∙ q));
            }

        pub passed_kept : b ≡ false → (m'' : List ℕ) → m'' ≡ written m' (start + to) (part m' (start + to + (at - to)) (x.next - at))
            → Passed ps m start len x.next (to + (x.next - at)) m''
        passed_kept q m'' w =
            let n : start + to + (at - to) ≡ start + at = omega (arith, h.low) in
            let v : List ℕ = part m' (start + at) (x.next - at) in
            let z : length v ≡ x.next - at = part_length m' (start + at) (x.next - at) (omega (arith, ends, t.onward, room, passed_length)) in
            record {
              done = h.done ++ v;
              size = sym (length-append h.done v ∙ omega (arith, z, h.size));
              low = omega (arith, h.low, t.onward);
              within = ends;
              memory = w ∙ ap (λ (y : ℕ). written m' (start + to) (part m' y (x.next - at))) n ∙ ap (λ (y : ℕ). written m' (start + y) v) h.size
                  ∙ ap (λ (y : List ℕ). written y (start + length h.done) v) h.memory
                  ∙ written_append m h.done v start (omega (arith, z, h.size, h.low, ends, t.onward, room));
              row = row_on;
              whole = h.whole ∙ ap (λ (y : List ℕ). h.done ++ y) (without-kept ps (drop at (part m start len)) v (drop x.next (part m start len)) rests (sym e ∙ q))
                  ∙ sym (append_assoc h.done v (without_peers ps (drop x.next (part m start len))));
            }

    pub passed_all : len ≤ at → (m' ≡ written m start (without_peers ps (part m start len))) × (to ≡ length (without_peers ps (part m start len)))
    passed_all p =
        let e : without_peers ps (part m start len) ≡ h.done =
        h.whole ∙ ap (λ (y : List ℕ). h.done ++ y) (without_end ps (drop at (part m start len)) (simp length-drop (omega (arith, part_length m start len room)))) ∙ append-nil h.done in
        (h.memory ∙ ap (written m start) (sym e), h.size ∙ ap length (sym e))

-- ---- those that stay, moved together: the first j of r are those that stay of the first i of l

abbrev pub Stayed : List Bool → List Peer → ℕ → List Peer → ℕ → Type 0
Stayed marks l i r j = take j r ≡ keep_by (map not marks) (take i l)

pub stayed_none : (marks : List Bool) (l r : List Peer) → Stayed marks l 0 r 0
stayed_none marks l r = sym (keep_by_nil (map not marks))

module _ (marks : List Bool) (l : List Peer) (i : ℕ) (r : List Peer) (j : ℕ) (h : i < length marks) (k : i < length l) (q : Stayed marks l i r j) where
  pub stayed_not : get_or marks i false ≡ true → Stayed marks l (i + 1) r j
  stayed_not e = q ∙ sym (keep_by_out (record { node = 0; theirs = 0; ours = 0; contact = 0 }) (map not marks) l i k (not_at marks i h ∙ ap not e))

  pub stayed_one : (d : Peer) → get_or marks i false ≡ false → j < length r → Stayed marks l (i + 1) (set r j (get_or l i d)) (j + 1)
  stayed_one d e n =
      rw (add-one j, take-suc-set r j (get_or l i d) n)
      (ap (λ (x : List Peer). x ++ (get_or l i d ∷ [])) q ∙ sym (keep_by_in d (map not marks) l i k (not_at marks i h ∙ ap not e)))

pub stayed_all : (marks : List Bool) (p : Peers) (i : ℕ) (r : List Peer) (j : ℕ) → p.count ≡ i → Stayed marks p.list i r j
    → peers_of (record { count = j; list = r }) ≡ keep_by (map not marks) (peers_of p)
unfolding peers_of
stayed_all marks p i r j e q =
    let w : take j r ≡ keep_by (map not marks) (take p.count p.list) = rw e q in
    ap (map peer_of) w ∙ sym (keep_by_map peer_of (map not marks) (take p.count p.list))

-- ---- our data published without them, and the list

module _ (s : State) (m : List ℕ) (k : Rep s m) (i : ℕ) (h : Stands s.table s.own i) (g : good data_limit (own_data (state_of s m)) ≡ true) (e : Meta) (o : Read s.table i e)
    (start : ℕ) (z : start ≡ e.slot * data_limit) (marks : List Bool) where
  abbrev going : List ModelPeer
  going = keep_by marks (peers_of s.peers)

  abbrev ours : List ℕ
  ours = part m start e.len

  ours-is : ours ≡ own_data (state_of s m)
  ours-is = own-part s m k i h e o start z

  pub strip_asks : (start + e.len ≤ length m) × (is_row ours ≡ true)
  strip_asks = (omega (arith, slot-room s m k i h e o start z, o.short), rw ours-is (good-row data_limit (own_data (state_of s m)) g))

  left-fits : length (without_peers going ours) ≤ data_limit
  unfolding without_peers
  left-fits = good-fits data_limit (without_peers going ours) (keep-good (λ t. not (names going t)) data_limit ours (rw ours-is g))

  module _ (m' : List ℕ) (n : ℕ) (w : (m' ≡ written m start (without_peers going ours)) × (n ≡ length (without_peers going ours))) where
    pub stripped_asks : Arranged s.table × (Stands s.table s.own i × ((n ≤ data_limit) × (table_bytes ≤ length m')))
    stripped_asks = slot_asks s m k i h e o start z (without_peers going ours) m' n left-fits w.0 w.1

    pub peers-dropped : (clock seq : ℕ) (t : Table) (p : Peers) → seq ≡ advance e.seq 1
        → ((x d : List ℕ) → Kept s.table x → length d ≡ n → m' ≡ written x ((meta_at s.table i).slot * data_limit) d → Stored (entry_of s.own seq d (anew clock)) s.table x i t m')
        → PeersRep p × (peers_of p ≡ keep_by (map not marks) (peers_of s.peers))
        → Published (with_peers (keep_by (map not marks) (state_of s m).peers) (publish clock (without_peers (keep_by marks (state_of s m).peers) (own_data (state_of s m))) (state_of s m)))
        s m (put_peers p (put_table t s)) m'
    peers-dropped clock seq t p es f l =
        let S : ModelState = state_of s m in
        let q : seq ≡ advance (own_seq S) 1 = es ∙ ap (λ (x : ℕ). advance x 1) (ap (λ (x : Meta). x.seq) o.same ∙ sym (own-seq s m i k h)) in
        let same-data : without_peers going ours ≡ without_peers (keep_by marks S.peers) (own_data S) =
        ap (without_peers going) ours-is ∙ ap (λ (x : List ModelPeer). without_peers (keep_by marks x) (own_data S)) (sym (state-peers s m)) in
        let once : Published (publish clock (without_peers (keep_by marks S.peers) (own_data S)) S) s m (put_table t s) m' =
        subst (λ (x : ℕ). Published (publish_as clock x (without_peers (keep_by marks S.peers) (own_data S)) S) s m (put_table t s) m') q
        (slot-published s m k i h e o start z (without_peers going ours) m' n left-fits w.0 w.1 clock seq t (without_peers (keep_by marks S.peers) (own_data S)) same-data f) in
        published_then (with_peers (keep_by (map not marks) S.peers)) once refl
        (peers_moved (put_table t s) m' once.moved.rep p (keep_by (map not marks) S.peers) l.0 (l.1 ∙ ap (keep_by (map not marks)) (sym (state-peers s m))))
