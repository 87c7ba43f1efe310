-- Every figure of documents 01 and 02, once (Figures; In reach; Ticks; Keep quiet links alive). Assumes nothing.
use Rattle.base.specs.Bytes.{most_u32}
use Rattle.std.specs.Prelude.{ℕ, ◌*◌, ◌/◌}

-- nodes with our own; bytes of node data that we accept and hold of each, and that we let our own come to by publishing more
abbrev pub most_nodes : ℕ
most_nodes = 32

abbrev pub data_limit : ℕ
data_limit = 1024

abbrev pub publish_limit : ℕ
publish_limit = data_limit

-- the table memory has a slot for each node
abbrev pub table_bytes : ℕ
table_bytes = most_nodes * data_limit

-- endpoints, numbered from 1 on, and peers over all of them
abbrev pub most_endpoints : ℕ
most_endpoints = 4

abbrev pub most_peers : ℕ
most_peers = 16

-- bytes of a datagram, and of what is sent
abbrev pub most_bytes : ℕ
most_bytes = 4096

abbrev pub snapshot_bytes : ℕ
snapshot_bytes = 33319

-- readings of the clock are in milliseconds, at most 2^62 - 1
abbrev pub last_reading : ℕ
last_reading = 4611686018427387903

-- Trickle: Imin, Imin doubled seven times, k, and where the count stays
abbrev pub least_interval : ℕ
least_interval = 200

abbrev pub greatest_interval : ℕ
greatest_interval = 25600

abbrev pub redundancy : ℕ
redundancy = 1

abbrev pub most_count : ℕ
most_count = 255

-- a request for network state goes out at most once in so many milliseconds on an endpoint
abbrev pub request_gap : ℕ
request_gap = 200

-- 2^32 - 2^15: a node this old leads no further; 2^32 - 2^16: we republish; 2^32 - 1: the largest age that is sent or saved
abbrev pub age_limit : ℕ
age_limit = 4294934528

abbrev pub refresh_age : ℕ
refresh_age = 4294901760

abbrev pub most_age : ℕ
most_age = most_u32

-- keep-alives: the interval of an endpoint that publishes no Keep-Alive TLV, the shortest and the longest that can be chosen, and the longest delay, Imin/2
abbrev pub usual_interval : ℕ
usual_interval = 20000

abbrev pub least_keep_alive : ℕ
least_keep_alive = 1

abbrev pub most_keep_alive : ℕ
most_keep_alive = 600000

abbrev pub most_delay : ℕ
most_delay = least_interval / 2

-- what a reclaimed sequence number gains
abbrev pub reclaim_step : ℕ
reclaim_step = 1000

-- bytes of a Peer TLV, and of a Keep-Alive TLV
abbrev pub peer_bytes : ℕ
peer_bytes = 16

abbrev pub keep_alive_bytes : ℕ
keep_alive_bytes = 12
