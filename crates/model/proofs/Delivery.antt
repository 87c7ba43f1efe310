-- Demand 3: the order of delivery loses nothing. Assumes nothing.
use Rattle.std.proofs.Common.{◌≡◌, ℕ, Bool, true, false, List, [], ◌∷◌, ◌++◌, map, sym, refl, ap, ◌∙◌, inl, inr, ⊎_elim, append_assoc, append-nil}
use mathlib.Core.Option.{Option, some}
use Rattle.base.specs.Lists.{or_else, keep, In}
use Rattle.base.proofs.Tests.{by_test}
use Rattle.base.proofs.Lists.{in_append, in_left, in_right, map-keep}
use Rattle.model.specs.Table.{Statement, Entry, statements, under_age}
use Rattle.model.specs.Reach.{Vertex, vertices, in_reach, marked, reached}
use Rattle.model.specs.Digest.{digest_of, network_digest}
use Rattle.model.specs.State.{State}
use Rattle.model.specs.Receive.{Call}
use Rattle.model.specs.Delivery.{brought, accepted, next, run, brings_if, heard, held_or_heard, Brings, Lone, Premises, Holds, SameHeard, Under, Alike, OrderLosesNothing}
use Rattle.model.proofs.Merge.{node_of, says_of, Within, Agreed, Newest, held, welcome, absorbed, newest_same, holds}
use Rattle.base.proofs.Sorted.{ascending-map}
use Rattle.model.proofs.OneCall.{refused-same, own_same, table_absorbs}

-- ---- one call, and then the others

heard-refused : (s : State) (c : Call) (cs : List Call) → accepted s c ≡ false → heard s (c ∷ cs) ≡ heard (next s c) cs
unfolding heard
heard-refused s c cs e = ap (λ (b : Bool). brings_if b c ++ heard (next s c) cs) e

heard-accepted : (s : State) (c : Call) (cs : List Call) (x : Statement) → accepted s c ≡ true → brought c ≡ some x → heard s (c ∷ cs) ≡ x ∷ heard (next s c) cs
unfolding heard
heard-accepted s c cs x e q =
    ap (λ (b : Bool). brings_if b c ++ heard (next s c) cs) e ∙ ap (λ (o : Option Statement). or_else o [] (λ y. y ∷ []) ++ heard (next s c) cs) q

own-stays : (cs : List Call) (s : State) → Lone s cs → (run s cs).own ≡ s.own
unfolding run
own-stays [] s lone = refl
own-stays (c ∷ cs) s lone =
    own-stays cs (next s c) lone.1
    ∙ by_test (accepted s c) (λ e. own_same s c e (lone.0 e)) (λ e. ap (λ (r : State). r.own) (refused-same s c e))

module _ (all : List Statement) (a : Agreed all) where
  accepted-call : (s : State) (c : Call) (ys : List Statement) → accepted s c ≡ true → (b : Brings s.own c) → Within (ys ++ (b.statement ∷ [])) all
      → Newest all a ys (statements s.table) → Newest all a (ys ++ (b.statement ∷ [])) (statements (next s c).table)
  accepted-call s c ys e b w h =
      rw (table_absorbs s c e b (welcome all a x ys l mx wy h)) (absorbed all a x ys l mx wy h)
    where
      x : Statement
      x = b.statement

      l : List Statement
      l = statements s.table

      mx : In x all
      mx = w x (in_right x ys (x ∷ []) (inl refl))

      wy : Within ys all
      wy y m = w y (in_left y ys (x ∷ []) m)

  -- the table after the calls has the newest of what stood there and was heard
  delivered : (cs : List Call) (s : State) (ys zs : List Statement) → Lone s cs → ys ++ heard s cs ≡ zs → Within zs all
      → Newest all a ys (statements s.table) → Newest all a zs (statements (run s cs).table)
  unfolding run heard
  delivered [] s ys zs lone q w h = rw (sym q, append-nil ys) h
  delivered (c ∷ cs) s ys zs lone q w h =
      by_test (accepted s c)
      (λ e. let b = lone.0 e in
      let x = b.statement in
      let more = heard (next s c) cs in
      let p : (ys ++ (b.statement ∷ [])) ++ heard (next s c) cs ≡ zs =
      append_assoc ys (x ∷ []) more ∙ ap (λ (l : List Statement). ys ++ l) (sym (heard-accepted s c cs x e b.lone)) ∙ q in
      delivered cs (next s c) (ys ++ (x ∷ [])) zs lone.1 p w
      (accepted-call s c ys e b (λ y m. w y (rw (sym p) (in_left y (ys ++ (x ∷ [])) more m))) h))
      (λ e. delivered cs (next s c) ys zs lone.1 (ap (λ (l : List Statement). ys ++ l) (sym (heard-refused s c cs e)) ∙ q) w (rw (refused-same s c e) h))

-- ---- what the marking and the digest see

-- under age, the marking sees the statements alone
abbrev young : Statement → Vertex
young x = record { says = x; young = true }

all-young : (clock : ℕ) (t : List Entry) → Under clock t → vertices clock t ≡ map young (statements t)
all-young clock [] u = refl
all-young clock (e ∷ t) u =
    let h : under_age clock e ≡ true = u e (inl refl) in
    let r = all-young clock t (λ f m. u f (inr m)) in
    λ i. record { says = e.says; young = h i } ∷ r i

pub same_seen : (clock : ℕ) (t u : List Entry) → statements t ≡ statements u → Under clock t → Under clock u → vertices clock t ≡ vertices clock u
same_seen clock t u e v w = all-young clock t v ∙ ap (map young) e ∙ sym (all-young clock u w)

-- what is reachable depends on our identifier, the vertices and the statements
reached-says : (own clock : ℕ) (t : List Entry) → statements (reached own clock t) ≡ keep (λ x. marked own (vertices clock t) x.node) (statements t)
unfolding reached in_reach
reached-says own clock t = map-keep says_of (λ x. marked own (vertices clock t) x.node) t

-- ---- both halves

heard_more : (s : State) (cs ds : List Call) → Within (heard s cs) (heard s ds) → Within (held_or_heard s cs) (held_or_heard s ds)
heard_more s cs ds f x m =
    let l = statements s.table in
    ⊎_elim (in_left x l (heard s ds)) (λ k. in_right x l (heard s ds) (f x k)) (in_append x l (heard s cs) m)

module _ (s : State) (cs : List Call) (p : Premises s cs) where
  abbrev all : List Statement
  all = held_or_heard s cs

  agreed : Agreed all
  agreed = record { few = p.few; close = p.close; single = p.single }

  -- after any calls that hear no other statements
  newest_after : (ds : List Call) → Lone s ds → Within (held_or_heard s ds) all → Newest all agreed (held_or_heard s ds) (statements (run s ds).table)
  newest_after ds lone w =
      let l = statements s.table in
      delivered all agreed ds s l (held_or_heard s ds) lone refl w (held all agreed l (rw (ascending-map says_of node_of s.table) p.valid.inside.table.ascending))

  kept : Holds (λ x. In x (held_or_heard s cs)) (run s cs).table
  kept = holds all agreed all (run s cs).table (λ x m. m) (newest_after cs p.lone (λ x m. m))

  module _ (ds : List Call) (q : Premises s ds) (same : SameHeard s cs ds) where
    same-table : statements (run s cs).table ≡ statements (run s ds).table
    same-table =
        let to = heard_more s cs ds (λ x. (same x).0) in
        let back = heard_more s ds cs (λ x. (same x).1) in
        newest_same all agreed all (held_or_heard s ds) (statements (run s cs).table) (statements (run s ds).table)
        (newest_after cs p.lone (λ x m. m)) (newest_after ds q.lone back) to back (λ x m. m)

    same-own : (run s cs).own ≡ (run s ds).own
    same-own = own-stays cs s p.lone ∙ sym (own-stays ds s q.lone)

    same-vertices : (clock : ℕ) → Under clock (run s cs).table → Under clock (run s ds).table → vertices clock (run s cs).table ≡ vertices clock (run s ds).table
    same-vertices clock u v = same_seen clock (run s cs).table (run s ds).table same-table u v

    alike : Alike s cs ds
    unfolding in_reach network_digest
    alike =
        record {
          table = same-table;
          marks = λ clock u v n i. marked (same-own i) (same-vertices clock u v i) n;
          digest = λ clock u v. ap digest_of
              (reached-says (run s cs).own clock (run s cs).table
              ∙ (λ i. keep (λ x. marked (same-own i) (same-vertices clock u v i) x.node) (same-table i))
              ∙ sym (reached-says (run s ds).own clock (run s ds).table));
        }

pub order_loses_nothing : OrderLosesNothing
order_loses_nothing = record { kept = kept; alike = λ s cs ds p q same. alike s cs p ds q same }
