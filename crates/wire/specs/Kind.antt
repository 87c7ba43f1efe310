-- The numbers of the types of TLVs that the ledger knows (document 01; RFC 7787, 7). Assumes nothing.
use Rattle.std.specs.Prelude.{ℕ, ◌≢◌}
use Rattle.wire.specs.declared.kind.Kind.{Kind}
use Rattle.wire.specs.declared.kind.Kind.TheVariants.{RequestNetwork, RequestNode, NodeEndpoint, NetworkState, NodeState, Peer, KeepAlive, Payment}

abbrev pub number : Kind → ℕ
number RequestNetwork = 1
number RequestNode = 2
number NodeEndpoint = 3
number NetworkState = 4
number NodeState = 5
number Peer = 8
number KeepAlive = 9
number Payment = 40

-- n is none of them
abbrev pub Unknown : ℕ → Type 0
Unknown n = (n ≢ 1) × (n ≢ 2) × (n ≢ 3) × (n ≢ 4) × (n ≢ 5) × (n ≢ 8) × (n ≢ 9) × (n ≢ 40)
