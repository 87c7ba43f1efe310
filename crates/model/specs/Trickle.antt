-- One endpoint's Trickle state (document 01, Ticks; RFC 6206, 4.2). Assumes nothing.
use Rattle.std.specs.Prelude.{ℕ, ◌+◌, ◌*◌, ◌/◌, ◌%◌, min, Bool, true, false, cond, not, ◌&&◌, nat_le, nat_lt}
use Rattle.model.specs.Figures.{least_interval, greatest_interval, redundancy, most_count}

-- the interval I began at `start`; the send point is start + point
pub record Trickle : Type 0 where
  pub start : ℕ
  pub point : ℕ
  pub interval : ℕ
  pub count : ℕ
  pub spent : Bool

-- "Afresh: c = 0, send point unspent, t = I/2 + (random mod I/2)"
unfoldable pub fresh : ℕ → ℕ → ℕ → Trickle
fresh clock interval random =
    record { start = clock; point = interval / 2 + random % (interval / 2); interval = interval; count = 0; spent = false }

-- "c goes up by one (it stays at 255)"
unfoldable pub hear : Trickle → Trickle
hear t = record { start = t.start; point = t.point; interval = t.interval; count = min (t.count + 1) most_count; spent = t.spent }

unfoldable pub spend : Trickle → Trickle
spend t = record { start = t.start; point = t.point; interval = t.interval; count = t.count; spent = true }

-- the digest has changed: "each endpoint with I above 200 gets I = 200 and starts afresh; one at 200 goes on"
unfoldable pub reset : ℕ → ℕ → Trickle → Trickle
reset clock random t = cond (nat_lt least_interval t.interval) (fresh clock least_interval random) t

-- at most one event: whether to send, and the state after it
pub record Event : Type 0 where
  pub sends : Bool
  pub next : Trickle

-- "the send point is unspent and now is at or past start + t"
abbrev pub point_due : ℕ → Trickle → Bool
point_due clock t = not t.spent && nat_le (t.start + t.point) clock

abbrev pub interval_over : ℕ → Trickle → Bool
interval_over clock t = nat_le (t.start + t.interval) clock

-- neither is due
abbrev pub is_idle : ℕ → Trickle → Bool
is_idle clock t = not (point_due clock t) && not (interval_over clock t)

unfoldable pub event : ℕ → ℕ → Trickle → Event
event clock random t =
    cond (point_due clock t)
    (record { sends = nat_lt t.count redundancy; next = spend t })
    (cond (interval_over clock t)
    (record { sends = false; next = fresh clock (min (t.interval * 2) greatest_interval) random })
    (record { sends = false; next = t }))
