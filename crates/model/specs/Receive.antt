-- A datagram (document 01, A datagram, TLV by TLV). Assumes nothing.
use Rattle.std.specs.Prelude.{ℕ, Bool, cond, not, ◌&&◌, List, [], ◌∷◌, length, ◌==◌, nat_le}
use Rattle.std.proofs.Math.Option.{none}
use Rattle.base.specs.Lists.{any}
use Rattle.base.specs.Bytes.{u32_at}
use Rattle.wire.specs.Row.{type_of, value_of, tlvs}
use Rattle.model.specs.Figures.{most_bytes}
use Rattle.model.specs.State.{State, random_at, settle}
use Rattle.model.specs.Handle.{Context, Work, all_tlvs}
use Rattle.model.specs.Refusals.{first_of, late, back, no_such_endpoint, small_room, long, no_row}

-- the reading, the endpoint, whether it came by unicast, the bytes, a random number for each endpoint; the lengths of the lent buffers
pub record Call : Type 0 where
  pub clock : ℕ
  pub endpoint : ℕ
  pub unicast : Bool
  pub datagram : List ℕ
  pub randoms : List ℕ
  pub table : ℕ
  pub room : ℕ

-- "The answer has the bytes written, replies left out, and TLVs dropped for room"
pub record Answer : Type 0 where
  pub number : ℕ
  pub state : State
  pub bytes : List ℕ
  pub omitted : ℕ
  pub dropped : ℕ

-- "Node State of length 28 or more about another box"
abbrev pub about_other : ℕ → List ℕ → Bool
about_other own t = (type_of t == 5 && nat_le 28 (length (value_of t))) && not (u32_at (value_of t) 0 == own)

abbrev pub context_of : State → Call → Context
context_of s c =
    record {
      clock = c.clock;
      endpoint = c.endpoint;
      unicast = c.unicast;
      random = random_at c.endpoint c.randoms;
      others = any (about_other s.own) (tlvs c.datagram);
    }

-- before the first TLV: no sender, nothing written
abbrev pub start_of : State → Work
start_of s = record { state = s; sender = none; out = []; omitted = 0; dropped = 0 }

unfoldable pub handled : State → Call → Work
handled s c = all_tlvs (context_of s c) (tlvs c.datagram) (start_of s)

abbrev pub refusal_receive : Call → State → ℕ
refusal_receive c s =
    first_of
    (late c.clock ∷ back c.clock s ∷ no_such_endpoint c.endpoint ∷ small_room c.table c.room most_bytes ∷ long c.datagram ∷ no_row c.datagram
    ∷ [])

abbrev pub answered : Call → Work → Answer
answered c w =
    record { number = 0; state = settle c.clock c.randoms w.state; bytes = w.out; omitted = w.omitted; dropped = w.dropped }

unfoldable pub receive : Call → State → Answer
receive c s =
    let n : ℕ = refusal_receive c s in
    cond (n == 0) (answered c (handled s c)) (record { number = n; state = s; bytes = []; omitted = 0; dropped = 0 })
