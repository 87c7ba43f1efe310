-- What the iterator over a row's TLVs gives. Assumes nothing.
use Rattle.std.specs.Prelude.{◌≡◌, true, ◌≤◌, length, drop, MatchOption}
use Rattle.std.specs.Prelude.{Option as Answer}
use Rattle.wire.specs.declared.row.Header.{Header}
use Rattle.wire.specs.declared.tlvs.Headers.{Headers}
use Rattle.wire.specs.Row.{is_row}
use Rattle.wire.specs.Answers.{Tells}

-- a row goes on where the iterator stands
abbrev pub Goes : Headers → Type 0
Goes s = (s.at ≤ length s.row.now) × (is_row (drop s.at s.row.now) ≡ true)

-- the TLV that stands there, and the iterator behind it; at the end nothing, and it stays
abbrev pub Next : Headers → Answer Header → Headers → Type 0
Next s r t =
    MatchOption r ((length s.row.now ≤ s.at) × (t ≡ s))
    (λ h. Tells s.row.now s.at h × (t.row ≡ s.row) × (t.at ≡ h.next))
