-- Network State TLVs: an equal digest, and one that differs. Assumes nothing.
use mathlib.Core.Path.{◌≡◌, refl, sym, ap, ◌∙◌, subst}
use mathlib.Core.Bool.{Bool, true, false}
use mathlib.Core.List.{List}
use Prim.Native.Nat.{ℕ, ◌≤◌}
use native.Mathlib.Omega.{arith}
use Rattle.base.specs.Bytes.{same}
use Rattle.base.proofs.Tests.{no_way, by_test}
use Rattle.model.specs.State.{State as ModelState, Endpoint as ModelEndpoint, with_trickle, with_endpoint}
use Rattle.model.specs.Trickle.{hear, Trickle as ModelTrickle}
use Rattle.model.specs.Handle.{with_state, touch, digest_now, count_equal, on_network}
use Rattle.model.proofs.Cases.{equal_unicast, network_equal, network_others, network_ask}
use Rattle.trickle.specs.declared.Trickle.{Trickle}
use Rattle.trickle.specs.View.{trickle_of}
use Rattle.std.specs.Prelude.{Some}
use Rattle.table.specs.declared.Table.{Table}
use Rattle.reach.specs.declared.Reached.{Reached}
use Rattle.node.specs.declared.State.{State}
use Rattle.node.specs.declared.peers.Peers.{Peers}
use Rattle.node.specs.View.{endpoint_of, state_of}
use Rattle.node.proofs.Moves.{moved_to}
use Rattle.reply.specs.declared.Context.{Context}
use Rattle.reply.specs.declared.Progress.{Progress}
use Rattle.reply.specs.Updates.{local_trickle}
use Rattle.reply.specs.View.{context_of, gather, work_of, Sound, Stepped}
use Rattle.reply.proofs.Steps.{work_state, work_own, work_table, gathered, local-is, local-moved, stepped_none, stepped_to, stepped_more, stepped_kept}
use Rattle.exchange.specs.declared.Act.TheVariants.{AskNetwork, Equal}
use Rattle.exchange.specs.Told.{still_at, Counts, Passes, Told}
use Rattle.exchange.proofs.Touching.{equal_late}
use Rattle.exchange.proofs.Telling.{passes_of, told_still}

-- ---- an equal digest counts

module _ (c : Context) (low : 1 ≤ c.endpoint) (high : c.endpoint ≤ 4) (b : State) (t : Table) (p : Peers) (d : Progress) (m r : List ℕ) (h : Sound c.clock (gather c b t p d) m r) where
  heard-local : (k : Trickle) → trickle_of k ≡ hear (trickle_of d.local.trickle)
      → Stepped c 0 (λ y. with_state (count_equal (context_of c) y.state) y) (gather c b t p d) m r (gather c b t p (local_trickle k d)) m r
  heard-local k e =
      stepped_kept h (λ y. with_state (count_equal (context_of c) y.state) y) (count_equal (context_of c) (state_of (gathered c b t p d) m))
      (gathered c b t p (local_trickle k d))
      (moved_to (local-moved c b t p d m h.rep low high (local_trickle k d).local)
      (ap (λ (z : ModelTrickle). with_endpoint c.endpoint (with_trickle z (endpoint_of d.local)) (state_of (gathered c b t p d) m)) e
      ∙ ap (λ (z : ModelEndpoint). with_endpoint c.endpoint (with_trickle (hear z.trickle) z) (state_of (gathered c b t p d) m)) (local-is c b t p d m h.rep low high)))
      refl refl
      (ap (λ (s : ModelState). with_state (count_equal (context_of c) s) (work_of (gather c b t p d) m r)) (work_state (gather c b t p d) m r))

-- ---- a Network State TLV, marks and digest worked out; x: the digest g is ours

module _ (v : List ℕ) (c : Context) {t : Table} {p : Peers} (d : Progress) {m : List ℕ} (o : Reached) (f : d.reached ≡ Some o) (g : List ℕ) (x : Bool) (e : x ≡ same o.digest g) where
  same-is : (b : State) (r : List ℕ) → Sound c.clock (gather c b t p d) m r → {z : Bool} → x ≡ z → same (digest_now (context_of c) (work_of (gather c b t p d) m r)) g ≡ z
  same-is b r h q =
      let n : digest_now (context_of c) (work_of (gather c b t p d) m r) ≡ o.digest = rw (work_own (gather c b t p d) m r, work_table (gather c b t p d) m r) (sym (h.cached o f).digest) in
      ap (λ (y : List ℕ). same y g) n ∙ sym e ∙ q

  module _ (q : x ≡ true) (low : 1 ≤ c.endpoint) (high : c.endpoint ≤ 4) {u : Progress} (k : Counts c d u) where
    equal_passes : (b : State) (r : List ℕ) → Sound c.clock (gather c b t p d) m r → Passes c 1 (on_network (context_of c) g) true (gather c b t p d) m r (gather c b t p u) m r
    equal_passes b r h =
        by_test c.unicast
        (λ n. subst (λ (y : Progress). Passes c 1 (on_network (context_of c) g) true (gather c b t p d) m r (gather c b t p y) m r) (sym (k.unicast n))
        (record {
          stepped = stepped_more (stepped_to (stepped_none h) (λ y. work_of (gather c b t p d) m r) refl) 1 (omega arith);
          is = network_equal (context_of c) (work_of (gather c b t p d) m r) g (same-is b r h q) ∙ equal_unicast (context_of c) (work_of (gather c b t p d) m r) n;
        }))
        (λ n. let l = k.multicast n in
        subst (λ (y : Progress). Passes c 1 (on_network (context_of c) g) true (gather c b t p d) m r (gather c b t p y) m r) (sym l.1.1)
        (let s = heard-local c low high b t p d m r h l.0 l.1.0 in
        record {
          stepped = stepped_more (stepped_to s (λ y. work_of (gather c b t p (local_trickle l.0 d)) m r) (sym s.is)) 1 (omega arith);
          is = network_equal (context_of c) (work_of (gather c b t p d) m r) g (same-is b r h q) ∙ equal_late (context_of c) (work_of (gather c b t p d) m r) n ∙ ap (touch (context_of c)) (sym s.is);
        }))

  -- ours: it counts, and the last contact follows
  pub network_same : x ≡ true → Told c 1 (on_network (context_of c) g) v t p d m (record { progress = d; act = Equal })
  network_same q =
      record {
        opens = λ r o. o;
        answers = tt;
        alters = tt;
        few = λ n. no_way false n refl;
        is = λ i b t' y u m' r r' h a z l. rw (a.1, z.0, z.1, l) (equal_passes q i.0 i.1 a.0 b r h);
      }

  -- a Node State about another node is in the datagram
  pub network_passed : x ≡ false → c.others ≡ true → Told c 1 (on_network (context_of c) g) v t p d m (still_at d)
  network_passed q n =
      told_still v (λ r o. o)
      (λ b r h. stepped_more
      (stepped_to (stepped_none h) (on_network (context_of c) g) (sym (network_others (context_of c) (work_of (gather c b t p d) m r) g (same-is b r h q) n)))
      1 (omega arith))

  pub network_asked : x ≡ false → c.others ≡ false → Told c 1 (on_network (context_of c) g) v t p d m (record { progress = d; act = AskNetwork })
  network_asked q n =
      record {
        opens = λ r o. o;
        answers = tt;
        alters = tt;
        few = λ z. no_way false z refl;
        is = λ i b t' y u m' r r' h a z l. rw (z.0, z.1, l)
            (passes_of (stepped_to (a.is b t p m h) (on_network (context_of c) g) (sym (network_ask (context_of c) (work_of (gather c b t p d) m r) g (same-is b r h q) n))));
      }
