-- The code's Trickle state as the model's. Assumes nothing.
use Rattle.std.specs.Prelude.{◌≤◌}
use Rattle.model.specs.Figures.{last_reading, least_interval, greatest_interval}
use Rattle.model.specs.Trickle.{Trickle as ModelTrickle, Event as ModelEvent}
use Rattle.trickle.specs.declared.Trickle.{Trickle}
use Rattle.trickle.specs.declared.Event.{Event}

abbrev pub trickle_of : Trickle → ModelTrickle
trickle_of t = record { start = t.start; point = t.point; interval = t.interval; count = t.count; spent = t.spent }

abbrev pub event_of : Event → ModelEvent
event_of e = record { sends = e.sends; next = trickle_of e.next }

-- small enough that no sum wraps, and an interval that can be halved
pub record Small (t : Trickle) : Type 0 where
  pub start : t.start ≤ last_reading
  pub point : t.point ≤ greatest_interval
  pub low : least_interval ≤ t.interval
  pub high : t.interval ≤ greatest_interval
