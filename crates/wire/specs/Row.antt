-- TLVs and rows of them (document 01, TLVs; RFC 7787, 7). A TLV is its bytes, header and padding included. Assumes nothing.
use Rattle.std.specs.Prelude.{Bool, true, false, cond, ◌&&◌, List, [], ◌∷◌, ◌++◌, ℕ, zero, suc, ◌+◌, ◌-◌, ◌%◌, length, take, drop, leb}
use Rattle.std.proofs.Math.Option.{Option, none, some}
use Rattle.base.specs.Lists.{or_else, cons_to}
use Rattle.base.specs.Bytes.{u16_at, big16, noughts, zeros}

-- "Type 2 bytes, length 2 bytes, value": of the TLV that stands at the head of s
unfoldable pub type_of : List ℕ → ℕ
type_of s = u16_at s 0

unfoldable pub length_of : List ℕ → ℕ
length_of s = u16_at s 2

unfoldable pub value_of : List ℕ → List ℕ
value_of s = take (length_of s) (drop 4 s)

-- "zeros to the next multiple of 4": how many after n bytes
abbrev pub padding : ℕ → ℕ
padding n = (4 - n % 4) % 4

-- "the length excludes header and padding": all bytes of the TLV at the head of s
unfoldable pub size_of : List ℕ → ℕ
size_of s = 4 + (length_of s + padding (length_of s))

-- a whole TLV with zero padding stands at the head of s
unfoldable pub heads : List ℕ → Bool
heads s = leb 4 (length s) && (leb (size_of s) (length s) && zeros (take (padding (length_of s)) (drop (4 + length_of s) s)))

-- "a row of whole TLVs with zero padding": its TLVs; the count bounds how many
unfoldable pub row_of : ℕ → List ℕ → Option (List (List ℕ))
row_of zero [] = some []
row_of zero (b ∷ s) = none
row_of (suc f) [] = some []
row_of (suc f) (b ∷ s) =
    cond (heads (b ∷ s)) (cons_to (take (size_of (b ∷ s)) (b ∷ s)) (row_of f (drop (size_of (b ∷ s)) (b ∷ s)))) none

unfoldable pub row : List ℕ → Option (List (List ℕ))
row s = row_of (length s) s

unfoldable pub is_row : List ℕ → Bool
is_row s = or_else (row s) false (λ ts. true)

-- the TLVs of a row
unfoldable pub tlvs : List ℕ → List (List ℕ)
tlvs s = or_else (row s) [] (λ ts. ts)

-- the TLV of a type and a value
unfoldable pub encode : ℕ → List ℕ → List ℕ
encode y v = big16 y ++ (big16 (length v) ++ (v ++ noughts (padding (length v))))
