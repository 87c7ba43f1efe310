-- What a call keeps beside table and peers, with another part: one update for each. Assumes nothing.
use Rattle.std.specs.Prelude.{Some, None, ℕ, ◌+◌}
use Rattle.trickle.specs.declared.Trickle.{Trickle}
use Rattle.reach.specs.declared.Reached.{Reached}
use Rattle.node.specs.declared.Endpoint.{Endpoint}
use Rattle.reply.specs.declared.Sender.{Sender}
use Rattle.reply.specs.declared.Progress.{Progress}

abbrev pub with_local : Endpoint → Progress → Progress
with_local e d =
    record { local = e; sender = d.sender; used = d.used; omitted = d.omitted; dropped = d.dropped; reached = d.reached }

-- of the call's endpoint, its Trickle state, and the reading from which network state may be requested again
abbrev pub local_trickle : Trickle → Progress → Progress
local_trickle t d = with_local (record { trickle = t; next = d.local.next; keep = d.local.keep; quiet = d.local.quiet }) d

abbrev pub local_next : ℕ → Progress → Progress
local_next n d = with_local (record { trickle = d.local.trickle; next = n; keep = d.local.keep; quiet = d.local.quiet }) d

abbrev pub with_sender : Sender → Progress → Progress
with_sender f d =
    record { local = d.local; sender = Some f; used = d.used; omitted = d.omitted; dropped = d.dropped; reached = d.reached }

-- n bytes are written
abbrev pub with_used : ℕ → Progress → Progress
with_used n d =
    record { local = d.local; sender = d.sender; used = n; omitted = d.omitted; dropped = d.dropped; reached = d.reached }

abbrev pub one_omitted : Progress → Progress
one_omitted d =
    record { local = d.local; sender = d.sender; used = d.used; omitted = d.omitted + 1; dropped = d.dropped; reached = d.reached }

abbrev pub one_dropped : Progress → Progress
one_dropped d =
    record { local = d.local; sender = d.sender; used = d.used; omitted = d.omitted; dropped = d.dropped + 1; reached = d.reached }

-- marks and digest worked out
abbrev pub with_reached : Reached → Progress → Progress
with_reached g d =
    record { local = d.local; sender = d.sender; used = d.used; omitted = d.omitted; dropped = d.dropped; reached = Some g }

-- they are to be worked out anew
abbrev pub stale : Progress → Progress
stale d =
    record { local = d.local; sender = d.sender; used = d.used; omitted = d.omitted; dropped = d.dropped; reached = None }
