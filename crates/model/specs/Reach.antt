-- Which nodes are reachable: the levels round our own (document 01, In reach; RFC 7787, 4.6). Assumes nothing.
use Rattle.std.specs.Prelude.{ℕ, zero, suc, Bool, not, ◌&&◌, List, [], ◌∷◌, ◌++◌, map, length, ◌==◌, nat_le}
use Rattle.base.specs.Lists.{any, keep, join_all}
use Rattle.base.specs.Bytes.{u32_at}
use Rattle.wire.specs.Row.{type_of, value_of, tlvs}
use Rattle.model.specs.Table.{Entry, Statement, id_of, under_age}

-- a published Peer TLV: the peer, the peer's endpoint, the publisher's endpoint
pub record Link : Type 0 where
  pub peer : ℕ
  pub peer_end : ℕ
  pub own_end : ℕ

abbrev pub link_of : List ℕ → Link
link_of v = record { peer = u32_at v 0; peer_end = u32_at v 4; own_end = u32_at v 8 }

-- "8 Peer .. 12": a Peer TLV that is long enough
abbrev pub is_peer_tlv : List ℕ → Bool
is_peer_tlv t = type_of t == 8 && nat_le 12 (length (value_of t))

unfoldable pub links : List ℕ → List Link
links d = map (λ t. link_of (value_of t)) (keep is_peer_tlv (tlvs d))

-- "R publishes a Peer TLV (N, NE, RE) and N publishes (R, RE, NE)": l is r's, m is n's
abbrev pub matches : ℕ → ℕ → Link → Link → Bool
matches r n l m = (l.peer == n && m.peer == r) && (l.peer_end == m.own_end && l.own_end == m.peer_end)

unfoldable pub joined : Statement → Statement → Bool
joined r n = any (λ l. any (matches r.node n.node l) (links n.node_data)) (links r.node_data)

-- a node as the marking sees it: what it publishes, and whether it is under age
pub record Vertex : Type 0 where
  pub says : Statement
  pub young : Bool

abbrev pub vertex_of : ℕ → Entry → Vertex
vertex_of clock e = record { says = e.says; young = under_age clock e }

abbrev pub vertices : ℕ → List Entry → List Vertex
vertices clock t = map (vertex_of clock) t

-- v is joined to a node of the level that is under age
unfoldable pub touched : List Vertex → Vertex → Bool
touched level v = any (λ r. r.young && joined r.says v.says) level

abbrev pub is_node : ℕ → Vertex → Bool
is_node n v = v.says.node == n

abbrev pub non_empty : List Vertex → List (List Vertex) → List (List Vertex)
non_empty [] more = []
non_empty (v ∷ vs) more = (v ∷ vs) ∷ more

-- "Each next ring holds the boxes not yet met that are joined to a box .. of the ring before": the levels after `level`,
-- where `rest` are not yet met; none of them is empty; the count bounds how many
unfoldable pub levels_from : ℕ → List Vertex → List Vertex → List (List Vertex)
levels_from zero rest level = []
levels_from (suc f) rest level =
    let more : List (List Vertex) = levels_from f (keep (λ v. not (touched level v)) rest) (keep (touched level) rest) in
    non_empty (keep (touched level) rest) more

-- "Ring 0 is our box"
abbrev pub level0 : ℕ → List Vertex → List Vertex
level0 own t = keep (is_node own) t

abbrev pub others : ℕ → List Vertex → List Vertex
others own t = keep (λ v. not (is_node own v)) t

-- the levels after the first: at most as many as there are other nodes
unfoldable pub levels : ℕ → List Vertex → List (List Vertex)
levels own t = levels_from (length (others own t)) (others own t) (level0 own t)

-- "the greatest ring number of the definition in 01" (document 02, How far does marking go?): our own node is level 0, and no level after it is empty
abbrev pub last_level : ℕ → ℕ → List Entry → ℕ
last_level own clock t = length (levels own (vertices clock t))

unfoldable pub met : ℕ → List Vertex → List Vertex
met own t = level0 own t ++ join_all (levels own t)

unfoldable pub marked : ℕ → List Vertex → ℕ → Bool
marked own t n = any (is_node n) (met own t)

-- node n of the table is reachable at a reading
unfoldable pub in_reach : ℕ → ℕ → List Entry → ℕ → Bool
in_reach own clock t n = marked own (vertices clock t) n

-- the reachable entries of the table, ascending
unfoldable pub reached : ℕ → ℕ → List Entry → List Entry
reached own clock t = keep (λ e. in_reach own clock t (id_of e)) t
