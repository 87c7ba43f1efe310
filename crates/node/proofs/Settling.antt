-- The end of a call: every endpoint reset, and the state settled. Assumes nothing.
use mathlib.Core.Path.{◌≡◌, refl, ap, ◌∙◌}
use mathlib.Core.Bool.{cond, false}
use mathlib.Core.List.{List, [], ◌∷◌}
use Prim.Native.Nat.{ℕ, suc, ◌+◌, ◌≤◌, ◌<◌}
use lib.ListN.{length, get_or, set, length-set}
use lib.Seq.{get_or-set_same, get_or-set_other}
use borrow.Author.Count.{below_more}
use Rattle.model.specs.Figures.{most_endpoints}
use Rattle.base.specs.Bytes.{same}
use Rattle.model.specs.Digest.{network_digest}
use Rattle.model.specs.Trickle.{reset}
use Rattle.model.specs.State.{with_trickle, reset_all, settle, Endpoint as ModelEndpoint}
use Rattle.table.specs.View.{view}
use Rattle.node.specs.View.{endpoint_of, endpoints_of, state_of, Rep, Moved, Settled}
use Rattle.node.specs.declared.State.{State}
use Rattle.node.specs.declared.Endpoint.{Endpoint}
use native.Mathlib.Omega.{arith}

-- ---- reset

abbrev reset_one : ℕ → ℕ → Endpoint → ModelEndpoint
reset_one clock r e = with_trickle (reset clock r (endpoint_of e).trickle) (endpoint_of e)

abbrev pub no_endpoint : Endpoint
no_endpoint = record { trickle = record { start = 0; point = 0; interval = 0; count = 0; spent = false }; next = 0; keep = 0; quiet = 0 }

-- the endpoints es, those below place i reset
pub record ResetBelow (clock : ℕ) (rs : List ℕ) (es r : List Endpoint) (i : ℕ) : Type 0 where
  pub four : length r ≡ most_endpoints
  pub done : (k : ℕ) → k < i → endpoint_of (get_or r k no_endpoint) ≡ reset_one clock (get_or rs k 0) (get_or es k no_endpoint)
  pub left : (k : ℕ) → i ≤ k → get_or r k no_endpoint ≡ get_or es k no_endpoint

each_reset : (clock : ℕ) (rs : List ℕ) (es r : List Endpoint) → length r ≡ length es → length r ≤ length rs
    → ((k : ℕ) → k < length r → endpoint_of (get_or r k no_endpoint) ≡ reset_one clock (get_or rs k 0) (get_or es k no_endpoint))
    → endpoints_of r ≡ reset_all clock rs (endpoints_of es)
unfolding reset_all
each_reset clock rs [] [] p q f = refl
each_reset clock rs [] (y ∷ r) p q f = absurd (omega arith)
each_reset clock rs (e ∷ es) [] p q f = absurd (omega arith)
each_reset clock [] (e ∷ es) (y ∷ r) p q f = absurd (omega arith)
each_reset clock (x ∷ rs) (e ∷ es) (y ∷ r) p q f =
    rw (f 0 (omega arith), each_reset clock rs es r (omega arith) (omega arith) (λ k h. f (suc k) (omega arith)))

module _ (clock : ℕ) (rs : List ℕ) (es : List Endpoint) where
  pub reset-none : length es ≡ 4 → ResetBelow clock rs es es 0
  reset-none h = record { four = h; done = λ k p. absurd (omega arith); left = λ k p. refl }

  pub reset_next : (r : List Endpoint) (i : ℕ) (e : Endpoint) → ResetBelow clock rs es r i → i < 4
      → endpoint_of e ≡ reset_one clock (get_or rs i 0) (get_or r i no_endpoint) → ResetBelow clock rs es (set r i e) (i + 1)
  reset_next r i e g p h =
      record {
        four = length-set r i e ∙ g.four;
        done = below_more (λ k. endpoint_of (get_or (set r i e) k no_endpoint) ≡ reset_one clock (get_or rs k 0) (get_or es k no_endpoint)) i
            (λ k q. ap endpoint_of (get_or-set_other r i k e no_endpoint (λ z. omega arith)) ∙ g.done k q)
            (ap endpoint_of (get_or-set_same r i e no_endpoint (omega (arith, g.four))) ∙ h ∙ ap (reset_one clock (get_or rs i 0)) (g.left i (omega arith)));
        left = λ k q. get_or-set_other r i k e no_endpoint (λ z. omega arith) ∙ g.left k (omega arith);
      }

  pub reset_four : (r : List Endpoint) (i : ℕ) → ResetBelow clock rs es r i → length es ≡ 4 → length rs ≡ 4 → 4 ≤ i
      → endpoints_of r ≡ reset_all clock rs (endpoints_of es)
  reset_four r i g p q h = each_reset clock rs es r (omega (arith, g.four)) (omega (arith, g.four)) (λ k l. g.done k (omega (arith, g.four)))

-- ---- settled

pub settles : (clock : ℕ) (randoms d : List ℕ) (s : State) (es : List Endpoint) → length d ≡ 16 → length es ≡ 4
    → endpoints_of es ≡ cond (same s.digest d) (endpoints_of s.endpoints) (reset_all clock randoms (endpoints_of s.endpoints))
    → Settled clock randoms d s (record { own = s.own; last = clock; table = s.table; peers = s.peers; endpoints = es; digest = d })
unfolding state_of settle
settles clock randoms d s es n f e =
    record {
      rep = λ m k. record { table = k.table; peers = k.peers; four = f; digest = n };
      is = λ m w. rw (← w, e);
      table = refl;
    }

-- a settled state as a step
pub settled_moved : (clock : ℕ) (randoms d : List ℕ) (s r : State) (m : List ℕ) → Settled clock randoms d s r → Rep s m
    → d ≡ network_digest s.own clock (view s.table m)
    → Moved (settle clock randoms (state_of s m)) m r m
settled_moved clock randoms d s r m h k e = record { rep = h.rep m k; is = h.is m e; size = refl; beyond = refl }
