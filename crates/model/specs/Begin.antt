-- Beginning (document 01, Numbers a call may answer; document 02, Keep quiet links alive). Assumes nothing.
use Rattle.std.specs.Prelude.{ℕ, cond, List, [], ◌∷◌, map, ◌==◌}
use Rattle.model.specs.Figures.{least_interval, usual_interval}
use Rattle.model.specs.Table.{Entry, entry_of, anew}
use Rattle.model.specs.Digest.{network_digest}
use Rattle.model.specs.Trickle.{fresh}
use Rattle.model.specs.State.{State, Endpoint, quiet_from}
use Rattle.model.specs.Refusals.{first_of, late, small_table}

-- the answer of a call that only changes state: its number (0 if accepted), and the state
pub record Done : Type 0 where
  pub number : ℕ
  pub state : State

-- "Beginning and resuming start all endpoints afresh with I = 200"; nothing is requested yet; "beginning and resuming count as" a sending
abbrev pub fresh_endpoint : ℕ → ℕ → Endpoint
fresh_endpoint clock random =
    record { trickle = fresh clock least_interval random; next = 0; keep = usual_interval; quiet = quiet_from clock random }

abbrev pub fresh_endpoints : ℕ → List ℕ → List Endpoint
fresh_endpoints clock randoms = map (fresh_endpoint clock) randoms

-- a state with a table, no peers, and every endpoint started
unfoldable pub started : ℕ → ℕ → List ℕ → List Entry → State
started own clock randoms t =
    record { own = own; last = clock; table = t; peers = []; endpoints = fresh_endpoints clock randoms; digest = network_digest own clock t }

-- "A beginning holds our box alone: number 0, empty data, age 0, no peers, nothing asked yet"
unfoldable pub begun : ℕ → ℕ → List ℕ → State
begun own clock randoms = started own clock randoms (entry_of own 0 [] (anew clock) ∷ [])

-- the state to start from: that of node 0 begun at reading 0 with random numbers 0
unfoldable pub blank : State
blank = begun 0 0 (0 ∷ 0 ∷ 0 ∷ 0 ∷ [])

-- `table` is the length of the lent table memory
abbrev pub refusal_begin : ℕ → ℕ → ℕ
refusal_begin clock table = first_of (late clock ∷ small_table table ∷ [])

unfoldable pub begin : ℕ → ℕ → List ℕ → ℕ → State → Done
begin own clock randoms table s =
    let n : ℕ = refusal_begin clock table in
    cond (n == 0) (record { number = 0; state = begun own clock randoms }) (record { number = n; state = s })
