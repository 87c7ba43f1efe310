-- The parts of the state, one law each, so that nothing above opens `state_of`. Assumes nothing.
use mathlib.Core.Path.{◌≡◌, refl, ap, ◌∙◌}
use mathlib.Core.Bool.{true}
use mathlib.Core.List.{List}
use Prim.Native.Nat.{◌-◌, ℕ, pred, ◌<◌}
use native.Mathlib.Omega.{arith}
use lib.ListN.{length, get_or, set, length-set, length-map, get_or-map}
use Rattle.base.specs.Lists.{is_some}
use Rattle.base.proofs.Places.{get_d_any, map-set}
use Rattle.table.specs.View.{view}
use Rattle.table.specs.declared.Table.{Table}
use Rattle.model.specs.Table.{look}
use Rattle.model.specs.State.{Endpoint as ModelEndpoint, no_endpoint, endpoint_at, with_table, with_peers, with_endpoints, with_endpoint}
use Rattle.node.specs.View.{endpoint_of, endpoints_of, peers_of, state_of, Rep, Held}
use Rattle.node.specs.declared.State.{State}
use Rattle.node.specs.declared.Endpoint.{Endpoint}
use Rattle.node.specs.declared.peers.Peers.{Peers}

module _ (s : State) (m : List ℕ) where
  pub state-own : (state_of s m).own ≡ s.own
  unfolding state_of
  state-own = refl

  pub state-last : (state_of s m).last ≡ s.last
  unfolding state_of
  state-last = refl

  pub state-table : (state_of s m).table ≡ view s.table m
  unfolding state_of
  state-table = refl

  pub state-peers : (state_of s m).peers ≡ peers_of s.peers
  unfolding state_of
  state-peers = refl

  pub state-digest : (state_of s m).digest ≡ s.digest
  unfolding state_of
  state-digest = refl

  -- our own node stands in the table of the model
  pub state-held : is_some (look (state_of s m).own (state_of s m).table) ≡ true → Held s m
  unfolding state_of
  state-held h = h

  -- the endpoint with number n stands at place i
  pub state-endpoint : (n i : ℕ) (d : Endpoint) → length s.endpoints ≡ 4 → pred n ≡ i → i < 4
      → endpoint_at n (state_of s m) ≡ endpoint_of (get_or s.endpoints i d)
  unfolding state_of
  state-endpoint n i d k e l =
      rw e
      (get_d_any (endpoints_of s.endpoints) i no_endpoint (endpoint_of d) (rw (length-map s.endpoints endpoint_of) (omega arith))
      ∙ get_or-map endpoint_of s.endpoints i d)

-- an endpoint's place, as code works it out
pub pred-is : (n : ℕ) → pred n ≡ n - 1
pred-is n = omega arith

-- ---- the state with another part

abbrev pub put_table : Table → State → State
put_table t s = record { own = s.own; last = s.last; table = t; peers = s.peers; endpoints = s.endpoints; digest = s.digest }

abbrev pub put_peers : Peers → State → State
put_peers p s = record { own = s.own; last = s.last; table = s.table; peers = p; endpoints = s.endpoints; digest = s.digest }

abbrev pub put_endpoints : List Endpoint → State → State
put_endpoints es s = record { own = s.own; last = s.last; table = s.table; peers = s.peers; endpoints = es; digest = s.digest }

module _ (s : State) (m : List ℕ) where
  -- the memory may be another as well
  pub table-put : (t : Table) (m' : List ℕ) → state_of (put_table t s) m' ≡ with_table (view t m') (state_of s m)
  unfolding state_of
  table-put t m' = refl

  pub peers-put : (p : Peers) → state_of (put_peers p s) m ≡ with_peers (peers_of p) (state_of s m)
  unfolding state_of
  peers-put p = refl

  pub endpoint-put : (n i : ℕ) (e : Endpoint) → pred n ≡ i → state_of (put_endpoints (set s.endpoints i e) s) m ≡ with_endpoint n (endpoint_of e) (state_of s m)
  unfolding state_of
  endpoint-put n i e q = rw q (ap (λ (z : List ModelEndpoint). with_endpoints z (state_of s m)) (map-set endpoint_of s.endpoints i e))

  pub endpoint-rep : (i : ℕ) (e : Endpoint) → Rep s m → Rep (put_endpoints (set s.endpoints i e) s) m
  endpoint-rep i e k = record { table = k.table; peers = k.peers; four = length-set s.endpoints i e ∙ k.four; digest = k.digest }
