-- Sequence numbers: 32 bits, compared round the circle (document 01, A datagram; RFC 7787, 4.4). Assumes nothing.
use Rattle.std.specs.Prelude.{ℕ, ◌+◌, ◌-◌, ◌%◌, ◌<◌, Bool, nat_le}

abbrev pub circle : ℕ
circle = 4294967296

abbrev pub half : ℕ
half = 2147483648

-- (n - s) mod 2^32, for s at most 2^32
unfoldable pub offset : ℕ → ℕ → ℕ
offset s n = (n + circle - s) % circle

-- "Number a is older than b when (a - b) mod 2^32 is at least 2^31"
unfoldable pub older : ℕ → ℕ → Bool
older a b = nat_le half (offset b a)

-- "adds .. modulo 2^32"
unfoldable pub advance : ℕ → ℕ → ℕ
advance n k = (n + k) % circle

-- n is one of the 2^31 consecutive numbers from s on
pub record Stretch (s n : ℕ) : Type 0 where
  pub number : n < circle
  pub near : offset s n < half
