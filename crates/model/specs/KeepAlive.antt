-- An endpoint's keep-alive interval, as it is chosen and as our data says it (document 02, Keep quiet links alive; RFC 7787, 7.3.2). Assumes nothing.
use Rattle.std.specs.Prelude.{ℕ, ◌+◌, cond, not, List, [], ◌∷◌, ◌++◌, length, ◌==◌, nat_lt}
use Rattle.base.specs.Lists.{keep, join_all}
use Rattle.base.specs.Bytes.{big32}
use Rattle.wire.specs.Row.{encode, tlvs}
use Rattle.model.specs.Figures.{usual_interval, publish_limit}
use Rattle.model.specs.State.{State, endpoint_at, with_endpoint, with_keep, own_data, publish, with_tlv, settle}
use Rattle.model.specs.Tick.{is_keep_alive}
use Rattle.model.specs.Refusals.{Row, first_of, late, back, no_such_endpoint, no_interval, small_table}
use Rattle.model.specs.Begin.{Done}

-- ---- our Keep-Alive TLVs: type 9, endpoint, interval

unfoldable pub keep_alive_tlv : ℕ → ℕ → List ℕ
keep_alive_tlv i n = encode 9 (big32 i ++ big32 n)

-- "the endpoint's TLV, which stands only if it isn't 20,000": those for these intervals, the endpoints numbered from i on
unfoldable pub keep_alives : ℕ → List ℕ → List (List ℕ)
keep_alives i [] = []
keep_alives i (n ∷ ns) = cond (n == usual_interval) (keep_alives (i + 1) ns) (keep_alive_tlv i n ∷ keep_alives (i + 1) ns)

-- ---- "A choice replaces the endpoint's TLV .."

abbrev pub without_keep_alive : ℕ → List ℕ → List ℕ
without_keep_alive i d = join_all (keep (λ t. not (is_keep_alive i t)) (tlvs d))

unfoldable pub with_keep_alive : ℕ → ℕ → List ℕ → List ℕ
with_keep_alive i n d = cond (n == usual_interval) (without_keep_alive i d) (with_tlv (keep_alive_tlv i n) (without_keep_alive i d))

-- "a changed one republishes"
unfoldable pub with_choice : ℕ → ℕ → ℕ → State → State
with_choice clock i n s =
    cond ((endpoint_at i s).keep == n) s
    (with_endpoint i (with_keep n (endpoint_at i s)) (publish clock (with_keep_alive i n (own_data s)) s))

unfoldable pub chosen : ℕ → ℕ → ℕ → List ℕ → State → State
chosen clock i n randoms s = settle clock randoms (with_choice clock i n s)

-- 9: "no room in our data for the TLV"
abbrev pub no_room : ℕ → ℕ → State → Row
no_room i n s = record { number = 9; applies = nat_lt publish_limit (length (with_keep_alive i n (own_data s))) }

-- `table` is the length of the lent table memory
abbrev pub refusal_keep_alive : ℕ → ℕ → ℕ → ℕ → State → ℕ
refusal_keep_alive clock i n table s =
    first_of (late clock ∷ back clock s ∷ no_such_endpoint i ∷ no_interval n ∷ small_table table ∷ no_room i n s ∷ [])

unfoldable pub keep_alive : ℕ → ℕ → ℕ → List ℕ → ℕ → State → Done
keep_alive clock i n randoms table s =
    let r : ℕ = refusal_keep_alive clock i n table s in
    cond (r == 0) (record { number = 0; state = chosen clock i n randoms s }) (record { number = r; state = s })
