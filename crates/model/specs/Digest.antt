-- The network digest (document 01, In reach; RFC 7787, 4.1.1). H is the first 16 bytes of SHA-256. Assumes nothing.
use Rattle.std.specs.Prelude.{ℕ, List, ◌++◌, map}
use Rattle.base.specs.Lists.{join_all}
use Rattle.base.specs.Bytes.{big32}
use Rattle.sha256.specs.Sha256.{hash16}
use Rattle.model.specs.Table.{Entry, Statement, statements}
use Rattle.model.specs.Reach.{reached}

-- "number (4 bytes) and H(data)"
abbrev pub digest_part : Statement → List ℕ
digest_part s = big32 s.seq ++ hash16 s.node_data

-- "H over, for boxes in reach by ascending identifier, .."
unfoldable pub digest_of : List Statement → List ℕ
digest_of ss = hash16 (join_all (map digest_part ss))

unfoldable pub network_digest : ℕ → ℕ → List Entry → List ℕ
network_digest own clock t = digest_of (statements (reached own clock t))
