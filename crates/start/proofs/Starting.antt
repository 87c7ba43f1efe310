-- The state as it starts: its parts, the table it may mark, and the digest worked out last. Assumes nothing.
use mathlib.Core.Path.{◌≡◌, refl, sym, ap, ◌∙◌, subst}
use mathlib.Core.List.{List, [], ◌∷◌}
use Prim.Native.Nat.{ℕ, zero, suc, ◌+◌, ◌≤◌, ◌<◌, zero-le}
use native.Mathlib.Omega.{arith}
use denote.Param.Members.{Mut, Called}
use Rattle.std.specs.Array.{MapsFrom}
use lib.ListN.{length, get_or, replicate}
use Rattle.base.proofs.Places.{four_of}
use Rattle.base.proofs.Tests.{by_order}
use Rattle.model.specs.Figures.{most_peers, last_reading}
use Rattle.model.specs.Sequence.{circle}
use Rattle.model.specs.Table.{Entry, entry_of, anew}
use Rattle.model.specs.State.{State as ModelState, Endpoint as ModelEndpoint}
use Rattle.model.specs.Begin.{fresh_endpoint, fresh_endpoints, started, begun}
use Rattle.model.specs.Invariant.{TableFits}
use Rattle.model.proofs.Sent.{digest-length}
use Rattle.model.proofs.KeptCalls.{begun-valid}
use Rattle.table.specs.declared.Table.{Table}
use Rattle.table.specs.View.{view, Kept}
use Rattle.reach.specs.declared.Reached.{Reached}
use Rattle.reach.specs.Marks.{Readable, Reaching}
use Rattle.reach.proofs.Nodes.{fits-readable}
use Rattle.node.specs.declared.State.{State}
use Rattle.node.specs.declared.Endpoint.{Endpoint}
use Rattle.node.specs.declared.peers.Peer.{Peer}
use Rattle.node.specs.declared.peers.Peers.{Peers}
use Rattle.node.specs.View.{endpoint_of, endpoints_of, peers_of, state_of, PeersRep, Rep, Held, Moved}
use Rattle.node.proofs.Moves.{moved_to}
use Rattle.start.specs.Started.{undigested, digested}

-- ---- the parts

pub none-known : (l : List Peer) → length l ≡ most_peers → PeersRep (record { count = 0; list = l }) × (peers_of (record { count = 0; list = l }) ≡ [])
unfolding peers_of
none-known l e = (record { few = zero-le; list = e }, refl)

-- arrays of which a closure that stays as it is, and answers as P says, made one of the other
module _ {F A B : Type 0} (g : Mut F (A × Unit {0}) B) (f : F) (P : A → B → Type 0) (xs : List A) (ys : List B) (c : (x : A) (y : B) (q : F) → Called g f (x, tt) y q → (q ≡ f) × P x y) where
  pub mapped_at : (i n : ℕ) → MapsFrom g f xs ys i n → (k : ℕ) (d : A) (e : B) → i ≤ k → k < i + n → P (get_or xs k d) (get_or ys k e)
  mapped_at i zero m k d e p q = absurd (omega arith)
  mapped_at i (suc n) m k d e p q =
      let w = c m.1 m.2 m.0 m.5 in
      by_order i k
      (λ l. mapped_at (i + 1) n (subst (λ (j : F). MapsFrom g j xs ys (i + 1) n) w.0 m.6) k d e (omega arith) (omega arith))
      (λ s. let u : get_or xs i d ≡ m.1 = m.3.1 d in let v : get_or ys i e ≡ m.2 = m.4.1 e in rw (← s, u, v) w.1)
      (λ l. absurd (omega arith))

fresh-four : (clock : ℕ) (rs : List ℕ) (a b c d : ModelEndpoint) → length rs ≡ 4 → a ≡ fresh_endpoint clock (get_or rs 0 0) → b ≡ fresh_endpoint clock (get_or rs 1 0)
    → c ≡ fresh_endpoint clock (get_or rs 2 0) → d ≡ fresh_endpoint clock (get_or rs 3 0) → a ∷ b ∷ c ∷ d ∷ [] ≡ fresh_endpoints clock rs
fresh-four clock rs a b c d h p q r s =
    let k : a ∷ b ∷ c ∷ d ∷ [] ≡ fresh_endpoints clock (get_or rs 0 0 ∷ get_or rs 1 0 ∷ get_or rs 2 0 ∷ get_or rs 3 0 ∷ []) = rw (p, q, r, s) in
    k ∙ ap (fresh_endpoints clock) (sym (four_of rs 0 0 0 0 h))

-- each endpoint of its random number
pub fresh-each : (clock : ℕ) (rs : List ℕ) (es : List Endpoint) (e : Endpoint) → length rs ≡ 4 → length es ≡ 4
    → ((k : ℕ) → k < 4 → endpoint_of (get_or es k e) ≡ fresh_endpoint clock (get_or rs k 0)) → endpoints_of es ≡ fresh_endpoints clock rs
fresh-each clock rs es e h n p =
    ap endpoints_of (four_of es e e e e n) ∙ fresh-four clock rs _ _ _ _ h (p 0 (omega arith)) (p 1 (omega arith)) (p 2 (omega arith)) (p 3 (omega arith))

-- ---- the state

module _ (own clock : ℕ) (rs : List ℕ) where
  abbrev pub started_with : Table → Peers → List Endpoint → State
  started_with t p es = record { own = own; last = clock; table = t; peers = p; endpoints = es; digest = replicate 16 0 }

  pub with_parts : (t : Table) (p : Peers) (es : List Endpoint) → PeersRep p × (peers_of p ≡ []) → (length es ≡ 4) × (endpoints_of es ≡ fresh_endpoints clock rs)
      → (m : List ℕ) → Kept t m → Rep (started_with t p es) m × (state_of (started_with t p es) m ≡ undigested own clock rs (view t m))
  unfolding state_of undigested
  with_parts t p es hp he m k = (record { table = k; peers = hp.0; four = he.0; digest = refl }, rw (hp.1, he.1))

  pub then_digested : (t : List Entry) → digested clock (undigested own clock rs t) ≡ started own clock rs t
  unfolding undigested digested started
  then_digested t = refl

module _ (clock : ℕ) (s : State) (m : List ℕ) (k : Rep s m) where
  pub digested-moved : (x : Reached) → Reaching s.own clock (view s.table m) x
      → Moved (digested clock (state_of s m)) m (record { own = s.own; last = s.last; table = s.table; peers = s.peers; endpoints = s.endpoints; digest = x.digest }) m
  unfolding state_of digested
  digested-moved x g =
      record {
        rep = record { table = k.table; peers = k.peers; four = k.four; digest = rw g.digest (digest-length s.own clock (view s.table m)) };
        is = rw g.digest;
        size = refl;
        beyond = refl;
      }

  -- a table that fits may be marked
  pub table_readable : (a : ModelState) → state_of s m ≡ a → TableFits a.own clock a.table → clock ≤ last_reading → Readable clock s.table m × Held s m
  unfolding state_of
  table_readable a e f l =
      let g : TableFits s.own clock (view s.table m) = subst (λ (x : ModelState). TableFits x.own clock x.table) (sym e) f in
      (fits-readable s.own clock s.table m k.table g l, g.held)

-- ---- beginning

module _ (own clock : ℕ) (rs : List ℕ) (o : own < circle) (l : clock ≤ last_reading) (four : length rs ≡ 4) where
  begun-fits : TableFits own clock (entry_of own 0 [] (anew clock) ∷ [])
  unfolding begun started
  begun-fits = (begun-valid own clock rs o l four).inside.table

  module _ (t : Table) (m : List ℕ) (v : view t m ≡ entry_of own 0 [] (anew clock) ∷ []) (s : State) (h : Rep s m × (state_of s m ≡ undigested own clock rs (view t m))) where
    alone : state_of s m ≡ undigested own clock rs (entry_of own 0 [] (anew clock) ∷ [])
    alone = h.1 ∙ ap (undigested own clock rs) v

    pub begun-readable : Rep s m × (Readable clock s.table m × Held s m)
    unfolding undigested
    begun-readable = (h.0, table_readable clock s m h.0 (undigested own clock rs (entry_of own 0 [] (anew clock) ∷ [])) alone begun-fits l)

    pub begun-moved : (r : State) → Moved (digested clock (state_of s m)) m r m → Moved (begun own clock rs) m r m
    unfolding begun
    begun-moved r d = moved_to d (ap (digested clock) alone ∙ then_digested own clock rs (entry_of own 0 [] (anew clock) ∷ []))
