-- Demand 3 over the traffic that there is: of the other nodes the newest statements stand. Assumes nothing.
use Rattle.std.proofs.Common.{◌≡◌, ℕ, ◌<◌, ◌≤◌, true, false, not, ◌&&◌, eqb, leb, ◌⊎◌, List, [], ◌∷◌, ◌++◌, map, length, sym, refl, ap, ◌∙◌, subst, inl, inr, ⊎_elim, append_assoc, append-nil, arith, ne_eqb, eqb-true}
use mathlib.Core.Option.{Option, none, some}
use borrow.Author.Tests.{eqb-false}
use Rattle.base.specs.Lists.{is_some, In}
use Rattle.base.specs.Bytes.{u32_at, same}
use Rattle.base.specs.Sorted.{find, insert, Ascending}
use Rattle.base.proofs.Tests.{no_way, and_left, and_right, and_both, by_test}
use Rattle.base.proofs.Lists.{in_append, in_left, in_right, in_keep, in_map, map-keep}
use Rattle.base.proofs.Sorted.{insert-ascending, insert_cases, insert-length, in_keys, keys_in, find-some, by_find, ascending-map, keep-ascending}
use Rattle.sha256.specs.Sha256.{hash16}
use Rattle.wire.specs.Row.{type_of, value_of, tlvs}
use Rattle.wire.specs.Order.{good}
use Rattle.model.specs.Figures.{most_nodes, data_limit}
use Rattle.model.specs.Table.{Statement, Entry, id_of, look, statements}
use Rattle.model.specs.State.{State}
use Rattle.model.specs.Decide.{Received, received_of, decide, after}
use Rattle.model.specs.Handle.{Context, Work, one_tlv, all_tlvs}
use Rattle.model.specs.Receive.{about_other, context_of, start_of, handled}
use Rattle.model.specs.Delivery.{saying, statement_of, statement_in, accepted, distinct, Holds}
use Rattle.model.specs.Traffic.{said_in, HeldAgain, heard_in, heard_all, Turn, turned, heard_by, turns, heard_over, others_of, held_or_heard_by, Traffic, TrafficLosesNothing}
use Rattle.model.proofs.Merge.{node_of, says_of, Sorted, Within, Agreed, Welcome, Newest, absorb, held, absorbed, newest_same, holds, more_distinct, no_more}
use Rattle.model.proofs.OneCall.{seen, accepted-seen, refused-same, one_seen, on_state_lem, on_foreign, carry_seen}
use Rattle.model.proofs.KeptReceive.{receive-own}
use Rattle.model.proofs.KeptTick.{tick-own}
use Rattle.model.proofs.KeptChoice.{keep_alive_own}
use Rattle.model.proofs.KeptCalls.{pay-own}
use Rattle.model.proofs.Aside.{apart, theirs, apart-not, apart-absorb, Outcome, outcome, after_sorted, Aside, one-aside, tick-aside, choice_aside, pay-aside}

-- ---- a TLV about another node

module _ (c : Context) (t : List ℕ) (w : Work) (b : about_other w.state.own t ≡ true) where
  foreign-node : ¬ ((received_of (value_of t)).node ≡ w.state.own)
  unfolding received_of
  foreign-node e =
      no_way (not (eqb (u32_at (value_of t) 0) w.state.own)) (and_right (eqb (type_of t) 5 && leb 28 (length (value_of t))) _ b) (rw e (same-node w.state.own))
    where
      same-node : (n : ℕ) → not (eqb n n) ≡ false
      same-node n = by_test (eqb n n) (λ q. rw q) (λ q. absurd (eqb-false n n q refl))

  other-seen : seen (one_tlv c t w).state ≡ (w.state.own, after (decide c.clock w.state.table (received_of (value_of t))) w.state.table)
  other-seen =
      let p = and_left (eqb (type_of t) 5 && leb 28 (length (value_of t))) _ b in
      one_seen c t w
      ∙ ap (λ (v : Work). seen v.state)
      (on_state_lem c (type_of t) (value_of t) w (eqb-true (type_of t) 5 (and_left (eqb (type_of t) 5) _ p)) (and_right (eqb (type_of t) 5) _ p)
      ∙ on_foreign c (received_of (value_of t)) w foreign-node)
      ∙ carry_seen c (decide c.clock w.state.table (received_of (value_of t))) w

-- the table stays in order, TLV by TLV
module _ (c : Context) where
  one-sorted : (t : List ℕ) (w : Work) → Ascending id_of w.state.table → Ascending id_of (one_tlv c t w).state.table
  one-sorted t w h =
      by_test (about_other w.state.own t)
      (λ b. rw (ap (λ (p : ℕ × List Entry). p.1) (other-seen c t w b)) (after_sorted (decide c.clock w.state.table (received_of (value_of t))) w.state.table h))
      (λ b. (one-aside c t w b).sorted h)

  pub all-sorted : (ts : List (List ℕ)) (w : Work) → Ascending id_of w.state.table → Ascending id_of (all_tlvs c ts w).state.table
  unfolding all_tlvs
  all-sorted [] w h = h
  all-sorted (t ∷ ts) w h = all-sorted ts (one_tlv c t w) (one-sorted t w h)

heard-other : (s : State) (t : List ℕ) → about_other s.own t ≡ true → heard_in s t ≡ said_in s.table (received_of (value_of t))
unfolding heard_in
heard-other s t b = rw b

heard-none : (s : State) (t : List ℕ) → about_other s.own t ≡ false → heard_in s t ≡ []
unfolding heard_in
heard-none s t b = rw b

-- ---- on the way: all that is ever known of the other nodes, and the nodes that there are

module _ (all : List Statement) (a : Agreed all) (own : ℕ) (nodes : List ℕ) (few : length (distinct nodes) ≤ most_nodes) (mine : In own nodes)
    (there : (x : Statement) → In x all → In x.node nodes) where
  record Going (ys : List Statement) (s : State) : Type 0 where
    same : s.own ≡ own
    sorted : Ascending id_of s.table
    newest : Newest all a ys (apart own (statements s.table))

  aside : (ys : List Statement) (s r : State) → Aside s r → Going ys s → Going ys r
  aside ys s r d g =
      record {
        same = d.own ∙ g.same;
        sorted = d.sorted g.sorted;
        newest = subst (Newest all a ys) (sym (rw g.same at d.others)) g.newest;
      }

  module _ (ys : List Statement) (s : State) (g : Going ys s) (w : Within ys all) where
    sorted-says : Sorted (statements s.table)
    sorted-says = rw (ascending-map says_of node_of s.table) g.sorted

    -- what stands of another node is known
    stood : (y : Statement) → In y (statements s.table) → ¬ (y.node ≡ own) → In y all
    stood y m n = w y (g.newest.from y (in_keep _ y (statements s.table) m (theirs own y n)))

    welcomed : (x : Statement) → In x all → ¬ (x.node ≡ own) → Welcome x (statements s.table)
    welcomed x mx n = record { room = room; single = λ h m q. a.single h x (stood h m (λ e. n (sym q ∙ e))) mx q }
      where
        node-there : (y : Statement) → In y (insert node_of x (statements s.table)) → In y.node nodes
        node-there y m =
            ⊎_elim (λ e. rw e (there x mx))
            (λ r. by_test (eqb y.node own) (λ b. rw (eqb-true y.node own b) mine) (λ b. there y (stood y r.0 (eqb-false y.node own b))))
            (insert_cases node_of x y (statements s.table) sorted-says m)

        room : find node_of x.node (statements s.table) ≡ none → length (statements s.table) < most_nodes
        room f =
            omega (arith, no_more (insert node_of x (statements s.table)) nodes (insert-ascending node_of x (statements s.table) sorted-says) node-there, insert-length node_of x (statements s.table) f, few)

    -- one statement more
    taken : (x : Statement) (r : State) → In x all → ¬ (x.node ≡ own) → r.own ≡ own → Ascending id_of r.table
        → (Welcome x (statements s.table) → statements r.table ≡ absorb x (statements s.table)) → Going (ys ++ (x ∷ [])) r
    taken x r mx n o h e =
        record {
          same = o;
          sorted = h;
          newest =
              subst (Newest all a (ys ++ (x ∷ [])))
              (sym (ap (apart own) (e (welcomed x mx n)) ∙ apart-absorb own x n (statements s.table) sorted-says))
              (absorbed all a x ys (apart own (statements s.table)) mx w g.newest);
        }

  -- ---- a datagram

  module _ (c : Context) where
    module _ (t : List ℕ) (w : Work) (ys zs : List Statement) (q : ys ++ heard_in w.state t ≡ zs) (k : Within zs all) (g : Going ys w.state) where
      -- nothing is heard
      unheard : (l : List Statement) → heard_in w.state t ≡ l → l ≡ [] → Going ys (one_tlv c t w).state → Going zs (one_tlv c t w).state
      unheard l e n h =
          subst (λ (l : List Statement). Going l (one_tlv c t w).state) (sym (append-nil ys) ∙ ap (λ (l : List Statement). ys ++ l) (sym (e ∙ n)) ∙ q) h

      module _ (b : about_other w.state.own t ≡ true) where
        same-own : (one_tlv c t w).state.own ≡ own
        same-own = ap (λ (p : ℕ × List Entry). p.0) (other-seen c t w b) ∙ g.same

        table_is : (one_tlv c t w).state.table ≡ after (decide c.clock w.state.table (received_of (value_of t))) w.state.table
        table_is = ap (λ (p : ℕ × List Entry). p.1) (other-seen c t w b)

        still_sorted : Ascending id_of (one_tlv c t w).state.table
        still_sorted = rw table_is (after_sorted (decide c.clock w.state.table (received_of (value_of t))) w.state.table g.sorted)

        other_going : Outcome c.clock w.state.table (received_of (value_of t)) → Going zs (one_tlv c t w).state
        other_going (inl i) =
            unheard (said_in w.state.table (received_of (value_of t))) (heard-other w.state t b) i.0
            (record { same = same-own; sorted = still_sorted; newest = subst (Newest all a ys) (ap (apart own) (sym (ap statements table_is ∙ i.1))) g.newest })
        other_going (inr i) =
            let z : ys ++ (i.0 ∷ []) ≡ zs = ap (λ (l : List Statement). ys ++ l) (sym (heard-other w.state t b ∙ i.1)) ∙ q in
            let n : ¬ (i.0.node ≡ own) = λ x. foreign-node c t w b (sym i.2 ∙ x ∙ sym g.same) in
            subst (λ (l : List Statement). Going l (one_tlv c t w).state) z
            (taken ys w.state g (λ y m. k y (rw (sym z) (in_left y ys (i.0 ∷ []) m))) i.0 (one_tlv c t w).state
            (k i.0 (rw (sym z) (in_right i.0 ys (i.0 ∷ []) (inl refl)))) n same-own still_sorted (λ v. ap statements table_is ∙ i.3 v))

      one_going : Going zs (one_tlv c t w).state
      one_going =
          by_test (about_other w.state.own t) (λ b. other_going b (outcome c.clock w.state.table (received_of (value_of t))))
          (λ b. unheard [] (heard-none w.state t b) refl (aside ys w.state (one_tlv c t w).state (one-aside c t w b) g))

    all_going : (ts : List (List ℕ)) (w : Work) (ys zs : List Statement) → ys ++ heard_all c ts w ≡ zs → Within zs all → Going ys w.state → Going zs (all_tlvs c ts w).state
    unfolding heard_all all_tlvs
    all_going [] w ys zs q k g = subst (λ (l : List Statement). Going l w.state) (sym (append-nil ys) ∙ q) g
    all_going (t ∷ ts) w ys zs q k g =
        let here = heard_in w.state t in
        let more = heard_all c ts (one_tlv c t w) in
        let p : (ys ++ heard_in w.state t) ++ heard_all c ts (one_tlv c t w) ≡ zs = append_assoc ys here more ∙ q in
        all_going ts (one_tlv c t w) (ys ++ here) zs p k (one_going t w ys (ys ++ here) refl (λ y m. k y (rw (sym p) (in_left y (ys ++ here) more m))) g)

  -- ---- a call, and all of them

  turn_going : (x : Turn) (s : State) (ys zs : List Statement) → ys ++ heard_by s x ≡ zs → Within zs all → Going ys s → Going zs (turned s x)
  unfolding heard_by handled
  turn_going (Turn.receives c) s ys zs q k g =
      by_test (accepted s c)
      (λ b. let e = accepted-seen s c b in
      let h : Going zs (handled s c).state = all_going (context_of s c) (tlvs c.datagram) (start_of s) ys zs (rw b at q) k g in
      aside zs (handled s c).state (turned s (Turn.receives c))
      (record {
        own = ap (λ (p : ℕ × List Entry). p.0) e;
        others = ap (λ (p : ℕ × List Entry). apart (handled s c).state.own (statements p.1)) e;
        sorted = λ l. rw (ap (λ (p : ℕ × List Entry). p.1) e) l;
      }) h)
      (λ b. let z : ys ≡ zs = sym (append-nil ys) ∙ rw b at q in rw (refused-same s c b) (subst (λ (l : List Statement). Going l s) z g))
  turn_going (Turn.ticks clock i rs table room) s ys zs q k g =
      subst (λ (l : List Statement). Going l (turned s (Turn.ticks clock i rs table room))) (sym (append-nil ys) ∙ q) (aside ys s _ (tick-aside clock s i rs table room) g)
  turn_going (Turn.chooses clock i n rs table) s ys zs q k g =
      subst (λ (l : List Statement). Going l (turned s (Turn.chooses clock i n rs table))) (sym (append-nil ys) ∙ q) (aside ys s _ (choice_aside clock s i n rs table) g)
  turn_going (Turn.pays clock p rs table) s ys zs q k g =
      subst (λ (l : List Statement). Going l (turned s (Turn.pays clock p rs table))) (sym (append-nil ys) ∙ q) (aside ys s _ (pay-aside clock s p rs table) g)

  turns_going : (xs : List Turn) (s : State) (ys zs : List Statement) → ys ++ heard_over s xs ≡ zs → Within zs all → Going ys s → Going zs (turns s xs)
  unfolding heard_over turns
  turns_going [] s ys zs q k g = subst (λ (l : List Statement). Going l s) (sym (append-nil ys) ∙ q) g
  turns_going (x ∷ xs) s ys zs q k g =
      let here = heard_by s x in
      let more = heard_over (turned s x) xs in
      let p : (ys ++ heard_by s x) ++ heard_over (turned s x) xs ≡ zs = append_assoc ys here more ∙ q in
      turns_going xs (turned s x) (ys ++ here) zs p k (turn_going x s ys (ys ++ here) refl (λ y m. k y (rw (sym p) (in_left y (ys ++ here) more m))) g)

-- ---- what is heard, in demand 3's terms

module _ (t : List Entry) (n q a : ℕ) (h : List ℕ) where
  abbrev made : Option (List ℕ) → Received
  made o = record { node = n; seq = q; age = a; hash = h; carried = o }

  said_is : (o : Option (List ℕ)) (x : Statement) → statement_of (made o) ≡ some x → (said_in t (made o) ≡ x ∷ []) × (x.node ≡ n)
  said_is none x e = absurd (let z : ◌≡◌ {A = ℕ} 0 1 = cc in omega arith)
  said_is (some d) x e =
      by_test (good data_limit d && same (hash16 d) h)
      (λ b. let k : some (saying (made (some d)) d) ≡ some x = rw b at e in
      let v : saying (made (some d)) d ≡ x = cc in
      (rw (b, v), ap node_of (sym v)))
      (λ b. let k : ◌≡◌ {A = Option Statement} none (some x) = rw b at e in absurd (let z : ◌≡◌ {A = ℕ} 0 1 = cc in omega arith))

  abbrev Again : Statement → Type 0
  Again x = (e : Entry) × In e t × (id_of e ≡ x.node) × (e.says.node_data ≡ x.node_data) × (same (hash16 x.node_data) h ≡ true)

  said_only : (o : Option (List ℕ)) (x : Statement) → In x (said_in t (made o)) → (statement_of (made o) ≡ some x) ⊎ Again x
  unfolding look
  said_only (some d) x m =
      by_test (good data_limit d && same (hash16 d) h)
      (λ b. ⊎_elim (λ e. inl (rw b (ap some (sym e)))) absurd (rw b at m))
      (λ b. absurd (rw b at m))
  said_only none x m =
      by_find id_of n t (λ l. absurd (rw l at m))
      (λ g l. by_test (same (hash16 g.says.node_data) h)
      (λ b. let f = find-some id_of n g t l in
      ⊎_elim (λ e. inr (g, f.0, f.1 ∙ ap node_of (sym e), ap (λ (y : Statement). y.node_data) (sym e), rw e b)) absurd (rw (l, b) at m))
      (λ b. absurd (rw (l, b) at m)))

heard-says : (s : State) (t : List ℕ) (x : Statement) → statement_in t ≡ some x → ¬ (x.node ≡ s.own) → heard_in s t ≡ x ∷ []
unfolding received_of
heard-says s t x e n =
    by_test (eqb (type_of t) 5 && leb 28 (length (value_of t)))
    (λ b. let r = received_of (value_of t) in
    let k = said_is s.table r.node r.seq r.age r.hash r.carried x (rw b at e) in
    heard-other s t (and_both _ _ b (ap not (ne_eqb (u32_at (value_of t) 0) s.own (λ q. n (k.1 ∙ q))))) ∙ k.0)
    (λ b. let k : ◌≡◌ {A = Option Statement} none (some x) = rw b at e in absurd (let z : ◌≡◌ {A = ℕ} 0 1 = cc in omega arith))

heard-only : (s : State) (t : List ℕ) (x : Statement) → In x (heard_in s t) → (statement_in t ≡ some x) ⊎ HeldAgain s t x
heard-only s t x m =
    by_test (about_other s.own t)
    (λ b. let r = received_of (value_of t) in
    ⊎_elim (λ e. inl (rw (and_left (eqb (type_of t) 5 && leb 28 (length (value_of t))) _ b) e))
    (λ g. inr (record { entry = g.0; stands = g.1; node = g.2; kept = g.3; hash = g.4 }))
    (said_only s.table r.node r.seq r.age r.hash r.carried x (rw (heard-other s t b) at m)))
    (λ b. absurd (rw (heard-none s t b) at m))

-- ---- the statement

turn-own : (x : Turn) (s : State) → (turned s x).own ≡ s.own
turn-own (Turn.receives c) s = receive-own c s
turn-own (Turn.ticks clock i rs table room) s = tick-own clock i rs table room s
turn-own (Turn.chooses clock i n rs table) s = keep_alive_own clock i n rs table s
turn-own (Turn.pays clock p rs table) s = pay-own clock p rs table s

own-stays : (s : State) (xs : List Turn) → (turns s xs).own ≡ s.own
unfolding turns
own-stays s [] = refl
own-stays s (x ∷ xs) = own-stays (turned s x) xs ∙ turn-own x s

others-says : (own : ℕ) (t : List Entry) → statements (others_of own t) ≡ apart own (statements t)
others-says own t = map-keep says_of (λ (x : Statement). not (eqb x.node own)) t

module _ (s : State) (xs : List Turn) (p : Traffic s xs) where
  abbrev all : List Statement
  all = held_or_heard_by s xs

  abbrev nodes : List ℕ
  nodes = map node_of (statements s.table ++ heard_over s xs)

  there : (x : Statement) → In x all → In x.node nodes
  there x m =
      in_keys node_of x (statements s.table ++ heard_over s xs)
      (⊎_elim (λ k. in_left x (statements s.table) (heard_over s xs) (apart-not s.own x (statements s.table) (rw (others-says s.own s.table) at k)).0)
      (in_right x (statements s.table) (heard_over s xs)) (in_append x (statements (others_of s.own s.table)) (heard_over s xs) m))

  agreed : Agreed all
  agreed =
      record {
        few = let l = more_distinct (map node_of all) nodes (λ n m. let r = keys_in node_of n all m in rw (sym r.2) (there r.0 r.1)) in omega (arith, l, p.few);
        close = p.close;
        single = p.single;
      }

  own_there : In s.own nodes
  unfolding look
  own_there = go (look s.own s.table) refl p.valid.inside.table.held
    where
      go : (o : Option Entry) → look s.own s.table ≡ o → is_some o ≡ true → In s.own nodes
      go none l h = no_way false h refl
      go (some e) l h =
          let f = find-some id_of s.own e s.table l in
          subst (λ (n : ℕ). In n nodes) f.1 (in_keys node_of e.says (statements s.table ++ heard_over s xs) (in_left e.says (statements s.table) (heard_over s xs) (in_map says_of e s.table f.0)))

  -- after any calls that hear nothing else
  newest_after : (ys : List Turn) → Within (held_or_heard_by s ys) all → Newest all agreed (held_or_heard_by s ys) (statements (others_of s.own (turns s ys).table))
  newest_after ys w =
      let l = statements (others_of s.own s.table) in
      let k : Sorted (apart s.own (statements s.table)) = keep-ascending node_of _ (statements s.table) (rw (ascending-map says_of node_of s.table) p.valid.inside.table.ascending) in
      let start : Newest all agreed l (apart s.own (statements s.table)) =
      subst (λ (x : List Statement). Newest all agreed x (apart s.own (statements s.table))) (sym (others-says s.own s.table)) (held all agreed (apart s.own (statements s.table)) k) in
      subst (Newest all agreed (held_or_heard_by s ys)) (sym (others-says s.own (turns s ys).table))
      (turns_going all agreed s.own nodes p.few own_there there ys s l (held_or_heard_by s ys) refl w
      (record { same = refl; sorted = p.valid.inside.table.ascending; newest = start })).newest

  kept : Holds (λ x. In x all) (others_of s.own (turns s xs).table)
  kept = holds all agreed all (others_of s.own (turns s xs).table) (λ x m. m) (newest_after xs (λ x m. m))

heard_more : (s : State) (xs ys : List Turn) → Within (heard_over s xs) (heard_over s ys) → Within (held_or_heard_by s xs) (held_or_heard_by s ys)
heard_more s xs ys f x m =
    let l = statements (others_of s.own s.table) in
    ⊎_elim (in_left x l (heard_over s ys)) (λ k. in_right x l (heard_over s ys) (f x k)) (in_append x l (heard_over s xs) m)

pub traffic_loses_nothing : TrafficLosesNothing
traffic_loses_nothing =
    record {
      heard = heard-says;
      only = heard-only;
      own = own-stays;
      kept = kept;
      alike = λ s xs ys p q same.
          let to = heard_more s xs ys (λ x. (same x).0) in
          let back = heard_more s ys xs (λ x. (same x).1) in
          newest_same (all s xs p) (agreed s xs p) (held_or_heard_by s xs) (held_or_heard_by s ys) (statements (others_of s.own (turns s xs).table)) (statements (others_of s.own (turns s ys).table))
          (newest_after s xs p xs (λ x m. m)) (newest_after s xs p ys back) to back (λ x m. m);
    }
