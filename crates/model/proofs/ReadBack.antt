-- The Node States that we send read back, and what the network digest is over. Assumes nothing.
use Rattle.std.proofs.Common.{◌≡◌, ℕ, min, true, cond, List, [], ◌∷◌, ◌++◌, map, length, sym, refl, ap, ◌∙◌, inl, append-nil, arith, take_at, drop_at}
use mathlib.Core.Option.{none, some}
use Rattle.base.specs.Lists.{join_all}
use Rattle.base.specs.Bytes.{u32_at, big32, same}
use Rattle.sha256.specs.Sha256.{hash16}
use Rattle.sha256.proofs.Sizes.{hash16-length}
use Rattle.wire.specs.Row.{value_of}
use Rattle.wire.proofs.Encoded.{encode-value}
use Rattle.wire.proofs.Ordering.{same_self}
use Rattle.model.specs.Figures.{most_age}
use Rattle.model.specs.Table.{Entry, id_of, age_at, statements}
use Rattle.model.specs.Reach.{in_reach, reached}
use Rattle.model.specs.Chain.{here}
use Rattle.model.specs.Digest.{digest_part, digest_of, network_digest}
use Rattle.model.specs.Messages.{state_head, short_state, whole_state}
use Rattle.model.specs.Decide.{carried_in, received_of}
use Rattle.model.specs.Theorems.{StatesReadBack}
use Rattle.model.proofs.Levels.{chain_reach}

-- ---- a Node State: three numbers, a digest of 16 bytes, and what follows

received_is : (n q a : ℕ) (h d : List ℕ) → length h ≡ 16
    → received_of ((big32 n ++ (big32 q ++ (big32 a ++ h))) ++ d) ≡ record { node = n; seq = q; age = a; hash = h; carried = carried_in h d }
unfolding received_of
received_is n q a h d l =
    let v : List ℕ = (big32 n ++ (big32 q ++ (big32 a ++ h))) ++ d in
    let n' : u32_at v 0 ≡ n = omega arith in
    let q' : u32_at v 4 ≡ q = omega arith in
    let a' : u32_at v 8 ≡ a = omega arith in
    rw (n', q', a', take_at h d 16 l, drop_at h d 16 l)

state-read : (clock : ℕ) (e : Entry) (d : List ℕ)
    → received_of (state_head clock e ++ d)
    ≡ record { node = id_of e; seq = e.says.seq; age = min (age_at clock e) most_age; hash = hash16 e.says.node_data; carried = carried_in (hash16 e.says.node_data) d }
unfolding state_head
state-read clock e d = received_is (id_of e) e.says.seq (min (age_at clock e) most_age) (hash16 e.says.node_data) d (hash16-length e.says.node_data)

-- data that go behind their digest are carried, empty data too
carried-all : (d : List ℕ) → carried_in (hash16 d) d ≡ some d
carried-all [] = rw same_self
carried-all (x ∷ d) = refl

whole_back : (clock : ℕ) (e : Entry)
    → received_of (value_of (whole_state clock e))
    ≡ record { node = id_of e; seq = e.says.seq; age = min (age_at clock e) most_age; hash = hash16 e.says.node_data; carried = some e.says.node_data }
whole_back clock e =
    rw (encode-value 5 (state_head clock e ++ e.says.node_data)) (state-read clock e e.says.node_data ∙ rw (carried-all e.says.node_data))

short_back : (clock : ℕ) (e : Entry)
    → received_of (value_of (short_state clock e))
    ≡ record {
      node = id_of e;
      seq = e.says.seq;
      age = min (age_at clock e) most_age;
      hash = hash16 e.says.node_data;
      carried = cond (same (hash16 e.says.node_data) (hash16 [])) (some []) none;
    }
short_back clock e = rw (encode-value 5 (state_head clock e)) (ap received_of (sym (append-nil (state_head clock e))) ∙ state-read clock e [])

-- ---- the network digest

digest-is : (own clock : ℕ) (t : List Entry)
    → network_digest own clock t ≡ hash16 (join_all (map (λ e. big32 e.says.seq ++ hash16 e.says.node_data) (reached own clock t)))
unfolding network_digest digest_of
digest-is own clock t = ap (λ (ps : List (List ℕ)). hash16 (join_all ps)) (parts (reached own clock t))
  where
    parts : (es : List Entry) → map digest_part (statements es) ≡ map (λ (e : Entry). big32 e.says.seq ++ hash16 e.says.node_data) es
    parts [] = refl
    parts (e ∷ es) = rw (parts es)

-- our own node is always reachable
alone-reached : (own clock : ℕ) (e : Entry) → id_of e ≡ own → reached own clock (e ∷ []) ≡ e ∷ []
unfolding reached
alone-reached own clock e h =
    let r : in_reach own clock (e ∷ []) (id_of e) ≡ true = chain_reach own clock (e ∷ []) (id_of e) (0, (_, here (inl refl) h, refl)) in rw r

digest-alone : (own clock : ℕ) (e : Entry) → id_of e ≡ own → network_digest own clock (e ∷ []) ≡ hash16 (big32 e.says.seq ++ hash16 e.says.node_data)
digest-alone own clock e h =
    digest-is own clock (e ∷ [])
    ∙ rw (alone-reached own clock e h, append-nil (hash16 e.says.node_data))

pub states_read_back : StatesReadBack
states_read_back = record { whole = whole_back; short = short_back; digest = digest-is; alone = digest-alone }
