-- The TLVs that we send (document 01, TLVs and A datagram; RFC 7787, 7.1 and 7.2). Assumes nothing.
use Rattle.std.specs.Prelude.{ℕ, min, List, [], ◌++◌}
use Rattle.base.specs.Bytes.{big32}
use Rattle.sha256.specs.Sha256.{hash16}
use Rattle.wire.specs.Row.{encode}
use Rattle.model.specs.Figures.{most_age}
use Rattle.model.specs.Table.{Entry, id_of, age_at}

abbrev pub request_network_tlv : List ℕ
request_network_tlv = encode 1 []

abbrev pub request_node_tlv : ℕ → List ℕ
request_node_tlv n = encode 2 (big32 n)

abbrev pub endpoint_tlv : ℕ → ℕ → List ℕ
endpoint_tlv own endpoint = encode 3 (big32 own ++ big32 endpoint)

abbrev pub network_tlv : List ℕ → List ℕ
network_tlv digest = encode 4 digest

-- "box, number, age in ms, H(data)"; "An age over 2^32 - 1 is sent as 2^32 - 1"
unfoldable pub state_head : ℕ → Entry → List ℕ
state_head clock e = big32 (id_of e) ++ (big32 e.says.seq ++ (big32 (min (age_at clock e) most_age) ++ hash16 e.says.node_data))

-- a Node State without data, and with data
abbrev pub short_state : ℕ → Entry → List ℕ
short_state clock e = encode 5 (state_head clock e)

abbrev pub whole_state : ℕ → Entry → List ℕ
whole_state clock e = encode 5 (state_head clock e ++ e.says.node_data)
