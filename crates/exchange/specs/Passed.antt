-- TLVs that change nothing, whatever they hold. Assumes nothing.
use Rattle.std.specs.Prelude.{Bool, not, ◌&&◌, ℕ, leb}

-- the types that have a rule in a datagram
abbrev pub handles : ℕ → Bool
handles kind = leb 1 kind && leb kind 5

-- another type, and no last contact to set: by multicast, or before a Node Endpoint TLV
abbrev pub idle : Bool → Bool → ℕ → Bool
idle unicast known kind = not (handles kind) && not (unicast && known)
