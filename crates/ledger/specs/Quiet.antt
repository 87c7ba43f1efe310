-- Quiet links kept alive: an endpoint that has sent nothing for its keep-alive interval sends its network digest, whatever else is called (document 02,
-- Keep quiet links alive; RFC 7787, 6.1.2). Assumes nothing.
use Rattle.std.specs.Prelude.{◌≡◌, Bool, true, not, cond, ◌&&◌, List, [], ◌∷◌, ◌++◌, ℕ, ◌+◌, ◌/◌, ◌≤◌, ◌<◌, length, take, eqb, ltb}
use Rattle.base.specs.Lists.{In, All}
use Rattle.model.specs.Figures.{most_endpoints, table_bytes, least_interval, redundancy, usual_interval}
use Rattle.model.specs.Digest.{network_digest}
use Rattle.model.specs.Trickle.{point_due}
use Rattle.model.specs.State.{endpoint_at, random_at, quiet_from, own_data}
use Rattle.model.specs.Messages.{endpoint_tlv, network_tlv}
use Rattle.model.specs.Tick.{interval_in}
use Rattle.model.specs.Invariant.{Chosen}
use Rattle.table.specs.View.{view}
use Rattle.node.specs.View.{state_of}
use Rattle.node.specs.declared.State.{State}
use Rattle.ledger.specs.Promises.{AsLeft}
use Rattle.ledger.specs.Calls.{PublicCall, Promised, Trace, state_at_end, memory_at_end}
use Rattle.ledger.specs.Demands.{Ticking, tick_at}

-- ---- when: "for its interval .. after a random delay"

-- the reading of endpoint i's last sending, with the delay that was fixed then
abbrev pub quiet_at : ℕ → State → List ℕ → ℕ
quiet_at i s m = (endpoint_at i (state_of s m)).quiet

abbrev pub interval_at : ℕ → State → List ℕ → ℕ
interval_at i s m = (endpoint_at i (state_of s m)).keep

-- "fixed at the last sending; beginning and resuming count as one": what the call makes of it, where it was n
abbrev pub quiet_after : ℕ → PublicCall → ℕ → ℕ
quiet_after i (PublicCall.begins own clock rs r) n = cond (eqb r.number 0) (quiet_from clock (random_at i rs)) n
quiet_after i (PublicCall.resumes bytes clock rs r m') n = cond (eqb r.number 0) (quiet_from clock (random_at i rs)) n
quiet_after i (PublicCall.receives datagram clock j unicast rs q r m' q') n = n
quiet_after i (PublicCall.ticks clock j rs q r m' q') n = cond (eqb j i && ltb 0 r.length) (quiet_from clock (random_at j rs)) n
quiet_after i (PublicCall.chooses clock j interval rs r m') n = n
quiet_after i (PublicCall.pays clock p rs r m') n = n
quiet_after i (PublicCall.purges clock rs r) n = n
quiet_after i (PublicCall.looks x) n = n

abbrev pub quiet_over : ℕ → List PublicCall → ℕ → ℕ
quiet_over i [] n = n
quiet_over i (x ∷ xs) n = quiet_over i xs (quiet_after i x n)

-- "Resuming .. sets 20,000", and a choice what it chooses
abbrev pub interval_after : ℕ → PublicCall → ℕ → ℕ
interval_after i (PublicCall.begins own clock rs r) n = cond (eqb r.number 0) usual_interval n
interval_after i (PublicCall.resumes bytes clock rs r m') n = cond (eqb r.number 0) usual_interval n
interval_after i (PublicCall.receives datagram clock j unicast rs q r m' q') n = n
interval_after i (PublicCall.ticks clock j rs q r m' q') n = n
interval_after i (PublicCall.chooses clock j interval rs r m') n = cond (eqb r.number 0 && eqb j i) interval n
interval_after i (PublicCall.pays clock p rs r m') n = n
interval_after i (PublicCall.purges clock rs r) n = n
interval_after i (PublicCall.looks x) n = n

abbrev pub interval_over : ℕ → List PublicCall → ℕ → ℕ
interval_over i [] n = n
interval_over i (x ∷ xs) n = interval_over i xs (interval_after i x n)

-- ---- what is sent

-- the call is a tick of endpoint i that sends our Node Endpoint TLV and the network digest at its reading
abbrev pub Announces : ℕ → PublicCall → Type 0
Announces i (PublicCall.begins own clock rs r) = ⊥
Announces i (PublicCall.resumes bytes clock rs r m') = ⊥
Announces i (PublicCall.receives datagram clock j unicast rs q r m' q') = ⊥
Announces i (PublicCall.ticks clock j rs q r m' q') =
    (j ≡ i) × (take r.length q' ≡ endpoint_tlv r.state.own i ++ network_tlv (network_digest r.state.own clock (view r.state.table m')))
Announces i (PublicCall.chooses clock j interval rs r m') = ⊥
Announces i (PublicCall.pays clock p rs r m') = ⊥
Announces i (PublicCall.purges clock rs r) = ⊥
Announces i (PublicCall.looks x) = ⊥

-- what may come in between: all but an accepted beginning or resuming, and an accepted choice on that endpoint
abbrev pub may_come : ℕ → PublicCall → Bool
may_come i (PublicCall.begins own clock rs r) = not (eqb r.number 0)
may_come i (PublicCall.resumes bytes clock rs r m') = not (eqb r.number 0)
may_come i (PublicCall.receives datagram clock j unicast rs q r m' q') = true
may_come i (PublicCall.ticks clock j rs q r m' q') = true
may_come i (PublicCall.chooses clock j interval rs r m') = not (eqb r.number 0 && eqb j i)
may_come i (PublicCall.pays clock p rs r m') = true
may_come i (PublicCall.purges clock rs r) = true
may_come i (PublicCall.looks x) = true

pub record QuietLinksKept : Type 0 where
  -- over any list of calls, the last sending and the interval are those of the calls made
  pub fixed : (i : ℕ) (s : State) (m : List ℕ) (xs : List PublicCall) → 1 ≤ i → i ≤ most_endpoints → AsLeft s m → Trace s m xs
      → quiet_at i (state_at_end s xs) (memory_at_end m xs) ≡ quiet_over i xs (quiet_at i s m)
  pub chosen : (i : ℕ) (s : State) (m : List ℕ) (xs : List PublicCall) → 1 ≤ i → i ≤ most_endpoints → AsLeft s m → Trace s m xs
      → interval_at i (state_at_end s xs) (memory_at_end m xs) ≡ interval_over i xs (interval_at i s m)
  -- our data tells them: its type 9 TLVs are exactly those of the intervals that aren't 20,000, and what a peer reads in it for an endpoint is its interval
  pub told : (s : State) (m : List ℕ) → AsLeft s m → table_bytes ≤ length m → Chosen (own_data (state_of s m)) (state_of s m).endpoints
  pub read : (i : ℕ) (s : State) (m : List ℕ) → 1 ≤ i → i ≤ most_endpoints → AsLeft s m → table_bytes ≤ length m → interval_in (own_data (state_of s m)) i ≡ interval_at i s m
  -- before a keep-alive is due only Trickle's own send point sends: it is reached and unspent, and no equal digest was heard
  pub not_before : (clock i : ℕ) (s : State) (m : List ℕ) (a : Ticking) → AsLeft s m → Promised (tick_at clock i a) s m → clock < quiet_at i s m + interval_at i s m
      → ¬ (a.answer.length ≡ 0) → (point_due clock (endpoint_at i (state_of s m)).trickle ≡ true) × ((endpoint_at i (state_of s m)).trickle.count < redundancy)
  -- three ticks of an endpoint, none before its keep-alive is due, the third less than Imin/2 = 100 ms after the first, whatever comes between them: one of
  -- these calls sends, one of the three or a tick of the endpoint between them, whatever was heard. Trickle's own two events go first and take a tick each;
  -- a third can't come so soon, for a send point lies Imin/2 after its start at the earliest.
  pub sends : (i : ℕ) (s : State) (m : List ℕ) (t₁ t₂ t₃ : ℕ) (a b c : Ticking) (xs ys : List PublicCall) → AsLeft s m
      → Trace s m (tick_at t₁ i a ∷ (xs ++ (tick_at t₂ i b ∷ (ys ++ (tick_at t₃ i c ∷ [])))))
      → a.answer.number ≡ 0 → b.answer.number ≡ 0 → c.answer.number ≡ 0
      → All (λ x. may_come i x ≡ true) xs → All (λ x. may_come i x ≡ true) ys
      → quiet_at i s m + interval_at i s m ≤ t₁ → t₃ < t₁ + least_interval / 2
      → (x : PublicCall) × In x (tick_at t₁ i a ∷ (xs ++ (tick_at t₂ i b ∷ (ys ++ (tick_at t₃ i c ∷ []))))) × Announces i x
