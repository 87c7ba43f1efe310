-- Requests: for the network's state, and for one node's, once marks and digest are worked out. Assumes nothing.
use mathlib.Core.Path.{◌≡◌, refl}
use mathlib.Core.Bool.{true, false}
use mathlib.Core.List.{List}
use Prim.Native.Nat.{ℕ}
use lib.ListN.{get_or}
use Rattle.base.proofs.Tests.{no_way}
use Rattle.model.specs.Handle.{on_request_network, on_request_node}
use Rattle.table.specs.declared.Table.{Table}
use Rattle.table.specs.View.{view, Stands, Gap}
use Rattle.reach.specs.declared.Reached.{Reached}
use Rattle.reach.specs.Marks.{Reaching}
use Rattle.node.specs.declared.peers.Peers.{Peers}
use Rattle.reply.specs.declared.Context.{Context}
use Rattle.reply.specs.declared.Progress.{Progress}
use Rattle.reply.specs.Updates.{with_reached}
use Rattle.reply.specs.View.{context_of, gather}
use Rattle.reply.proofs.Answers.{unknown-asked, unreachable_asked, reached-asked}
use Rattle.exchange.specs.declared.Act.TheVariants.{TellNetwork, TellNode}
use Rattle.exchange.specs.Told.{still_at, Told}
use Rattle.exchange.proofs.Telling.{passes_of, told_still, told_refreshed}

module _ (v : List ℕ) {c : Context} {t : Table} {p : Peers} (d : Progress) {m : List ℕ} (g : Reached) (k : Reaching c.own c.clock (view t m) g) where
  -- our network's state
  pub network_told : Told c 33 (on_request_network (context_of c)) v t p d m (record { progress = with_reached g d; act = TellNetwork })
  network_told =
      told_refreshed v d g k
      (record {
        opens = λ r o. o;
        answers = refl;
        alters = tt;
        few = λ z. no_way false z refl;
        is = λ i b t' q w m' r r' h a z k. rw (z.0, z.1, k) (passes_of (a.is b p h));
      })

  module _ (node i : ℕ) where
    -- a node that is not held, or not reachable
    pub node-unknown : Gap t node i → Told c 1 (on_request_node (context_of c) node) v t p d m (still_at (with_reached g d))
    node-unknown s = told_refreshed v d g k (told_still v (λ r o. o) (λ b r h. unknown-asked c (gather c b t p (with_reached g d)) m r h g refl node i s))

    pub node_unreachable : Stands t node i → get_or g.marks i false ≡ false → Told c 1 (on_request_node (context_of c) node) v t p d m (still_at (with_reached g d))
    node_unreachable s e = told_refreshed v d g k (told_still v (λ r o. o) (λ b r h. unreachable_asked c (gather c b t p (with_reached g d)) m r h g refl node i s e))

    -- one that is
    pub node-told : Stands t node i → get_or g.marks i false ≡ true → Told c 1 (on_request_node (context_of c) node) v t p d m (record { progress = with_reached g d; act = TellNode i })
    node-told s e =
        told_refreshed v d g k
        (record {
          opens = λ r o. o;
          answers = s.at;
          alters = tt;
          few = λ z. no_way false z refl;
          is = λ j b t' q w m' r r' h a z k. rw (z.0, z.1, k) (passes_of (reached-asked c (gather c b t p (with_reached g d)) m r h g refl node i s e (a.is b t p m h)));
        })
