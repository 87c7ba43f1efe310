-- The number of a refusal as code has it, and of the outcome of its tests (document 01, Numbers a call may answer). Assumes nothing.
use Rattle.std.specs.Prelude.{ℕ, Result, Ok, Err}
use Rattle.model.specs.declared.numbers.Refusal.{Refusal}
use Rattle.model.specs.declared.numbers.Refusal.TheVariants.{ClockTooHigh, ClockBack, NoSuchEndpoint, BufferTooSmall, DatagramTooLong, DatagramMalformed, NoSuchHousehold, PaidAlready, DataFull, NoSuchNode, NotASnapshot, NoSuchInterval}

abbrev pub number : Refusal → ℕ
number ClockTooHigh = 1
number ClockBack = 2
number NoSuchEndpoint = 3
number BufferTooSmall = 4
number DatagramTooLong = 5
number DatagramMalformed = 6
number NoSuchHousehold = 7
number PaidAlready = 8
number DataFull = 9
number NoSuchNode = 10
number NotASnapshot = 11
number NoSuchInterval = 12

-- "0 for an accepted call", else that of the refusal
abbrev pub number_of : {A : Type 0} → Result A Refusal → ℕ
number_of (Ok _) = 0
number_of (Err refusal) = number refusal
