-- A TLV that is written is whole, and its type and value are read back. Assumes nothing.
use mathlib.Core.Path.{◌≡◌, refl, sym, ap, ◌∙◌}
use mathlib.Core.Bool.{true}
use mathlib.Core.List.{List, [], ◌∷◌, ◌++◌}
use Prim.Native.Nat.{ℕ, zero, suc, ◌+◌, ◌*◌, ◌/◌, ◌%◌, ◌≤◌, ◌<◌}
use native.Mathlib.Omega.{arith}
use lib.ListN.{length, take, drop, length-append, length-replicate, length-drop, take-append-drop}
use lib.Seq.{take-append_seam, drop-append_seam, drop-append-add, take_all, length-take-le}
use Rattle.base.specs.Bytes.{Bytes, big16, zeros, noughts}
use Rattle.base.specs.Memory.{written}
use Rattle.wire.specs.Row.{type_of, length_of, value_of, padding, size_of, encode}
use Rattle.wire.specs.Payment.{Payment, Payable, payment_value, payment_tlv, read_payment}
use Rattle.wire.proofs.Rows.{heads_made, heads-four, heads-zeros}
use Rattle.base.proofs.Tests.{and_left, and_right}
use Rattle.wire.proofs.Good.{Whole}
use Rattle.wire.proofs.Payments.{payment-back}
use Rattle.base.proofs.Written.{written_append, written-before, written_self, part_length, written-there, written_over, written-length}
use borrow.Author.Tests.{eqb-true}
use lib.Dec.{eqb}
use mathlib.Core.Option.{some}

zeros-zero : (k : ℕ) → zeros (noughts k) ≡ true
zeros-zero zero = refl
zeros-zero (suc k) = zeros-zero k

noughts-length : (k : ℕ) → length (noughts k) ≡ k
noughts-length k = length-replicate k 0

module _ (y : ℕ) (v : List ℕ) where
  pub encode-length : length (encode y v) ≡ 4 + (length v + padding (length v))
  unfolding encode
  encode-length = let l : length (v ++ noughts (padding (length v))) ≡ length v + length (noughts (padding (length v))) = length-append v (noughts (padding (length v))) in let r = noughts-length (padding (length v)) in omega arith

  pub encode_type : type_of (encode y v) ≡ y
  unfolding encode type_of
  encode_type = omega arith

  pub encode_length_of : length_of (encode y v) ≡ length v
  unfolding encode length_of
  encode_length_of = omega arith

  encode_body : take (length v) (drop 4 (encode y v)) ≡ v
  unfolding encode
  encode_body = take-append_seam v (noughts (padding (length v)))

  pub encode-value : value_of (encode y v) ≡ v
  unfolding value_of
  encode-value = rw encode_length_of encode_body

  pub encode-size : size_of (encode y v) ≡ length (encode y v)
  unfolding size_of
  encode-size = rw (encode_length_of, encode-length)

  tail_zeros : take (padding (length v)) (drop (4 + length v) (encode y v)) ≡ noughts (padding (length v))
  unfolding encode
  tail_zeros =
      let h : List ℕ = y / 256 ∷ y % 256 ∷ length v / 256 ∷ length v % 256 ∷ [] in
      let a : drop (4 + length v) (h ++ (v ++ noughts (padding (length v)))) ≡ drop (length v) (v ++ noughts (padding (length v))) = drop-append-add h (v ++ noughts (padding (length v))) (length v) in
      ap (take (padding (length v))) (a ∙ drop-append_seam v (noughts (padding (length v)))) ∙ take_all (padding (length v)) (noughts (padding (length v))) (omega (arith, noughts-length (padding (length v))))

  pub encode-whole : Whole (encode y v)
  encode-whole =
      record {
        heads = heads_made (encode y v) (omega (arith, encode-length)) (omega (arith, encode-size)) (rw encode_length_of (ap zeros tail_zeros ∙ zeros-zero (padding (length v))));
        size = encode-size;
      }

-- a value in its place, closed to a TLV
module _ (d : List ℕ) (at y n k : ℕ) (ek : k ≡ padding n) (fits : at + (4 + (n + padding n)) ≤ length d) where
  pub closed : written (written (written d (at + 4 + n) (noughts k)) at (big16 y)) (at + 2) (big16 n) ≡ written d at (encode y (take n (drop (at + 4) d)))
  unfolding encode
  closed =
      let v = take n (drop (at + 4) d) in
      let z : List ℕ = noughts k in
      let lv : length (take n (drop (at + 4) d)) ≡ n = part_length d (at + 4) n (omega arith) in
      let lz : length (noughts k) ≡ k = noughts-length k in
      let s : written d (at + 4) (take n (drop (at + 4) d)) ≡ d = written_self d (at + 4) n (omega arith) in
      let j : written (written d (at + 4) (take n (drop (at + 4) d))) (at + 4 + length (take n (drop (at + 4) d))) (noughts k) ≡ written d (at + 4) (take n (drop (at + 4) d) ++ noughts k) = written_append d (take n (drop (at + 4) d)) (noughts k) (at + 4) (omega arith) in
      let j2 : written d (at + 4 + n) (noughts k) ≡ written d (at + 4) (take n (drop (at + 4) d) ++ noughts k) = rw (s, lv) at j in
      let lvz : length (take n (drop (at + 4) d) ++ noughts k) ≡ n + k = length-append (take n (drop (at + 4) d)) (noughts k) ∙ rw (lv, lz) in
      let ld : length (written d (at + 4) (take n (drop (at + 4) d) ++ noughts k)) ≡ length d = written-length d (take n (drop (at + 4) d) ++ noughts k) (at + 4) (omega arith) in
      let h : written (written (written d (at + 4) (take n (drop (at + 4) d) ++ noughts k)) at (big16 y)) (at + 2) (big16 n) ≡ written (written d (at + 4) (take n (drop (at + 4) d) ++ noughts k)) at (big16 y ++ big16 n)
      = written_append (written d (at + 4) (take n (drop (at + 4) d) ++ noughts k)) (big16 y) (big16 n) at (omega arith) in
      rw (j2) (h ∙ written-before d at (big16 y ++ big16 n) (take n (drop (at + 4) d) ++ noughts k) (omega arith) ∙ rw (lv, ek))

-- the same where the value was just written
pub put-closed : (d d1 d2 : List ℕ) (at y n : ℕ) (v : List ℕ) → d1 ≡ written d (at + 4) v → n ≡ length v → d2 ≡ written d1 at (encode y (take n (drop (at + 4) d1))) → at + (4 + (length v + padding (length v))) ≤ length d → d2 ≡ written d at (encode y v)
put-closed d d1 d2 at y n v e1 en e2 h =
    let t : take (length v) (drop (at + 4) (written d (at + 4) v)) ≡ v = written-there d v (at + 4) (omega arith) in
    let l = encode-length y v in
    e2 ∙ rw (e1, en, t) (written_over d at (at + 4) v (encode y v) (omega arith) (omega arith) (omega arith))

-- a payment's TLV is whole, of type 40, and its value reads back
module _ (p : Payment) where
  pub payment-whole : Whole (payment_tlv p)
  unfolding payment_tlv
  payment-whole = encode-whole 40 (payment_value p)

  pub payment_type : type_of (payment_tlv p) ≡ 40
  unfolding payment_tlv
  payment_type = encode_type 40 (payment_value p)

  pub payment-read : Payable p → read_payment (value_of (payment_tlv p)) ≡ some p
  unfolding payment_tlv
  payment-read k = rw (encode-value 40 (payment_value p)) (payment-back p k)

-- ---- a whole TLV is its type and value, encoded: in a row of bytes there is no other

all-zeros : (l : List ℕ) → zeros l ≡ true → l ≡ noughts (length l)
all-zeros [] e = refl
all-zeros (b ∷ l) e =
    let p : b ≡ 0 = eqb-true b 0 (and_left _ _ e) in
    let q : l ≡ noughts (length l) = all-zeros l (and_right (eqb b 0) _ e) in
    cc

four : (a b c d : ℕ) (r : List ℕ) → b < 256 → d < 256 → Whole (a ∷ b ∷ c ∷ d ∷ r) → a ∷ b ∷ c ∷ d ∷ r ≡ encode (type_of (a ∷ b ∷ c ∷ d ∷ r)) (value_of (a ∷ b ∷ c ∷ d ∷ r))
unfolding encode type_of value_of length_of size_of
four a b c d r hb hd w =
    let n = c * 256 + d in
    let size : 4 + (c * 256 + d + padding (c * 256 + d)) ≡ length (a ∷ b ∷ c ∷ d ∷ r) = w.size in
    let lv : length (take (c * 256 + d) r) ≡ c * 256 + d = length-take-le (c * 256 + d) r (omega arith) in
    let z0 : zeros (take (padding (c * 256 + d)) (drop (4 + (c * 256 + d)) (a ∷ b ∷ c ∷ d ∷ r))) ≡ true = heads-zeros (a ∷ b ∷ c ∷ d ∷ r) w.heads in
    let dd : drop (4 + (c * 256 + d)) (a ∷ b ∷ c ∷ d ∷ r) ≡ drop (c * 256 + d) r = drop-append-add (a ∷ b ∷ c ∷ d ∷ []) r (c * 256 + d) in
    let ll : length (drop (c * 256 + d) r) ≡ padding (c * 256 + d) = length-drop (c * 256 + d) r ∙ omega arith in
    let z1 : zeros (drop (c * 256 + d) r) ≡ true = rw (dd, take_all (padding (c * 256 + d)) (drop (c * 256 + d) r) (omega arith)) at z0 in
    let tail : drop (c * 256 + d) r ≡ noughts (padding (c * 256 + d)) = all-zeros (drop (c * 256 + d) r) z1 ∙ rw ll in
    let e1 : (a * 256 + b) / 256 ≡ a = omega arith in
    let e2 : (a * 256 + b) % 256 ≡ b = omega arith in
    let e3 : (c * 256 + d) / 256 ≡ c = omega arith in
    let e4 : (c * 256 + d) % 256 ≡ d = omega arith in
    let body : r ≡ take (c * 256 + d) r ++ noughts (padding (c * 256 + d)) = sym (take-append-drop (c * 256 + d) r) ∙ ap (λ (x : List ℕ). take (c * 256 + d) r ++ x) tail in
    rw (lv, e1, e2, e3, e4) (ap (λ (x : List ℕ). a ∷ b ∷ c ∷ d ∷ x) body)

pub whole_encoded : (t : List ℕ) → Bytes t → Whole t → t ≡ encode (type_of t) (value_of t)
whole_encoded [] h w = absurd (omega (arith, heads-four [] w.heads))
whole_encoded (a ∷ []) h w = absurd (omega (arith, heads-four (a ∷ []) w.heads))
whole_encoded (a ∷ b ∷ []) h w = absurd (omega (arith, heads-four (a ∷ b ∷ []) w.heads))
whole_encoded (a ∷ b ∷ c ∷ []) h w = absurd (omega (arith, heads-four (a ∷ b ∷ c ∷ []) w.heads))
whole_encoded (a ∷ b ∷ c ∷ d ∷ r) h w = four a b c d r h.1.0 h.1.1.1.0 w

-- two payments with one TLV are one payment
pub payment-same : (p q : Payment) → Payable p → Payable q → payment_tlv p ≡ payment_tlv q → p ≡ q
payment-same p q kp kq e =
    let a : read_payment (value_of (payment_tlv p)) ≡ some p = payment-read p kp in
    let b : read_payment (value_of (payment_tlv q)) ≡ some q = payment-read q kq in
    let s : some p ≡ some q = sym a ∙ ap (λ (t : List ℕ). read_payment (value_of t)) e ∙ b in
    cc
