-- What the code's answers mean in the definitions. Assumes nothing.
use Rattle.std.specs.Prelude.{◌≡◌, true, false, List, ◌∷◌, ℕ, ◌+◌, ◌-◌, ◌<◌, ◌≤◌, length, take, drop}
use Rattle.std.specs.Prelude.{Some, None}
use Rattle.std.specs.Prelude.{Option as Answer}
use Rattle.std.proofs.Math.Option.{Option, none, some}
use Rattle.wire.specs.declared.row.Header.{Header}
use Rattle.wire.specs.declared.groups.Groups.{Groups}
use Rattle.wire.specs.declared.payment.Payment.{Payment as Paid}
use Rattle.base.specs.Lists.{join_all}
use Rattle.base.specs.Memory.{cut}
use Rattle.wire.specs.Order.{among, without}
use Rattle.wire.specs.Row.{type_of, value_of, heads, size_of, is_row, tlvs}
use Rattle.wire.specs.Groups.{Read}
use Rattle.wire.specs.Payment.{Payment}

-- the bytes of the TLV that h tells of, at place `at` of s: from there to h.next
abbrev pub tlv_of : List ℕ → ℕ → Header → List ℕ
tlv_of s at h = take (h.next - at) (drop at s)

-- h tells the TLV that stands at place at of the row s
pub record Tells (s : List ℕ) (at : ℕ) (h : Header) : Type 0 where
  pub here : h.at ≡ at
  pub kind : h.kind ≡ type_of (tlv_of s at h)
  pub value : value_of (tlv_of s at h) ≡ take h.len (drop h.start s)
  pub start : h.start ≡ at + 4
  pub inside : h.start + h.len ≤ h.next
  pub onward : at < h.next
  pub within : h.next ≤ length s
  pub left : tlvs (drop at s) ≡ tlv_of s at h ∷ tlvs (drop h.next s)
  pub again : is_row (drop h.next s) ≡ true

-- the number, and what of s comes after it
abbrev pub as_read : List ℕ → Answer Groups → Option Read
as_read s (Some g) = some (record { number = g.number; rest = drop g.next s })
as_read s None = none

-- a number that was read fits, and lies in s after at
abbrev pub Inside : List ℕ → ℕ → ℕ → Answer Groups → Type 0
Inside s at most (Some g) = (at < g.next) × (g.next ≤ length s) × (g.number ≤ most)
Inside s at most None = Unit {0}

-- the payment that the code's tells
abbrev pub told : Paid → Payment
told p = record { household = p.household; receipt = p.receipt; amount = p.amount }

abbrev pub as_payment : Answer Paid → Option Payment
as_payment (Some p) = some (told p)
as_payment None = none

-- n is the size of the TLV at the head of s, a whole one with zero padding
pub record SizeIs (s : List ℕ) (n : ℕ) : Type 0 where
  pub heads : heads s ≡ true
  pub is : n ≡ size_of s
  pub within : n ≤ length s

-- the size of the TLV at the head of s, if a whole one with zero padding stands there
abbrev pub Size : List ℕ → Answer ℕ → Type 0
Size s (Some n) = SizeIs s n
Size s None = heads s ≡ false

-- the TLV t stands at place p of the node data d, and d is without it once its bytes are cut out
pub record TlvAt (d t : List ℕ) (p : ℕ) : Type 0 where
  pub there : among t (tlvs d) ≡ true
  pub within : p + length t ≤ length d
  pub rest : cut d p (length t) ≡ join_all (without t (tlvs d))

-- where the code says that t stands in d
abbrev pub Found : List ℕ → List ℕ → Answer ℕ → Type 0
Found d t (Some p) = TlvAt d t p
Found d t None = among t (tlvs d) ≡ false
