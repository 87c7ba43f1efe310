-- SHA-256, after FIPS 180-4 (August 2015), for messages of whole bytes. A word is a number below 2 ^ 32, a byte a number below 256.
-- Section numbers are those of the standard.
use Rattle.std.specs.Prelude.{ℕ, zero, suc, ◌+◌, ◌-◌, ◌*◌, ◌/◌, ◌%◌, ◌^◌, List, [], ◌∷◌, ◌++◌, length, get_or, take, replicate}
use Rattle.std.specs.Int.Bits.{bit_and, bit_or, bit_xor}
use Rattle.sha256.specs.declared.State.{State}

-- 2.2.2 and 3.2: addition modulo 2 ^ 32, the complement, the shift right and the rotation right, at w = 32
infixl 60 ◌⊞◌
abbrev pub ◌⊞◌ : ℕ → ℕ → ℕ
x ⊞ y = (x + y) % 2 ^ 32

abbrev pub not32 : ℕ → ℕ
not32 x = (2 ^ 32 - 1) - x

abbrev pub SHR : ℕ → ℕ → ℕ
SHR n x = x / 2 ^ n

abbrev pub ROTR : ℕ → ℕ → ℕ
ROTR n x = bit_or (x / 2 ^ n) ((x * 2 ^ (32 - n)) % 2 ^ 32)

-- 4.1.2: (4.2) to (4.7)
abbrev pub Ch : ℕ → ℕ → ℕ → ℕ
Ch x y z = bit_xor (bit_and x y) (bit_and (not32 x) z)

abbrev pub Maj : ℕ → ℕ → ℕ → ℕ
Maj x y z = bit_xor (bit_xor (bit_and x y) (bit_and x z)) (bit_and y z)

abbrev pub Σ₀ : ℕ → ℕ
Σ₀ x = bit_xor (bit_xor (ROTR 2 x) (ROTR 13 x)) (ROTR 22 x)

abbrev pub Σ₁ : ℕ → ℕ
Σ₁ x = bit_xor (bit_xor (ROTR 6 x) (ROTR 11 x)) (ROTR 25 x)

abbrev pub σ₀ : ℕ → ℕ
σ₀ x = bit_xor (bit_xor (ROTR 7 x) (ROTR 18 x)) (SHR 3 x)

abbrev pub σ₁ : ℕ → ℕ
σ₁ x = bit_xor (bit_xor (ROTR 17 x) (ROTR 19 x)) (SHR 10 x)

-- 4.2.2: the sixty-four constants
unfoldable pub k_table : List ℕ
k_table =
    0x428a_2f98 ∷ 0x7137_4491 ∷ 0xb5c0_fbcf ∷ 0xe9b5_dba5 ∷ 0x3956_c25b ∷ 0x59f1_11f1 ∷ 0x923f_82a4 ∷ 0xab1c_5ed5 ∷
    0xd807_aa98 ∷ 0x1283_5b01 ∷ 0x2431_85be ∷ 0x550c_7dc3 ∷ 0x72be_5d74 ∷ 0x80de_b1fe ∷ 0x9bdc_06a7 ∷ 0xc19b_f174 ∷
    0xe49b_69c1 ∷ 0xefbe_4786 ∷ 0x0fc1_9dc6 ∷ 0x240c_a1cc ∷ 0x2de9_2c6f ∷ 0x4a74_84aa ∷ 0x5cb0_a9dc ∷ 0x76f9_88da ∷
    0x983e_5152 ∷ 0xa831_c66d ∷ 0xb003_27c8 ∷ 0xbf59_7fc7 ∷ 0xc6e0_0bf3 ∷ 0xd5a7_9147 ∷ 0x06ca_6351 ∷ 0x1429_2967 ∷
    0x27b7_0a85 ∷ 0x2e1b_2138 ∷ 0x4d2c_6dfc ∷ 0x5338_0d13 ∷ 0x650a_7354 ∷ 0x766a_0abb ∷ 0x81c2_c92e ∷ 0x9272_2c85 ∷
    0xa2bf_e8a1 ∷ 0xa81a_664b ∷ 0xc24b_8b70 ∷ 0xc76c_51a3 ∷ 0xd192_e819 ∷ 0xd699_0624 ∷ 0xf40e_3585 ∷ 0x106a_a070 ∷
    0x19a4_c116 ∷ 0x1e37_6c08 ∷ 0x2748_774c ∷ 0x34b0_bcb5 ∷ 0x391c_0cb3 ∷ 0x4ed8_aa4a ∷ 0x5b9c_ca4f ∷ 0x682e_6ff3 ∷
    0x748f_82ee ∷ 0x78a5_636f ∷ 0x84c8_7814 ∷ 0x8cc7_0208 ∷ 0x90be_fffa ∷ 0xa450_6ceb ∷ 0xbef9_a3f7 ∷ 0xc671_78f2 ∷ []

-- 5.1.1: a one bit, the fewest zero bits after which 64 bits are left of a block, and the message's length in bits, in 64 bits.
-- In bytes: 0x80, then the fewest zeros with length + 1 + zeros = 56 modulo 64, then eight bytes, the highest first.
unfoldable pub zeros : ℕ → ℕ
zeros n = (119 - n % 64) % 64

-- where the length stands in the padded message
unfoldable pub end_of : ℕ → ℕ
unfolding zeros
end_of n = n + 1 + zeros n

abbrev pub be32 : ℕ → List ℕ
be32 x = x / 2 ^ 24 % 256 ∷ x / 2 ^ 16 % 256 ∷ x / 2 ^ 8 % 256 ∷ x % 256 ∷ []

abbrev pub be64 : ℕ → List ℕ
be64 x = be32 (x / 2 ^ 32) ++ be32 x

unfoldable pub pad : List ℕ → List ℕ
pad m = (m ++ 0x80 ∷ []) ++ (replicate (zeros (length m)) 0 ++ be64 (8 * length m))

-- 5.2.1: the word at byte i, and the sixteen words of the block at byte i
unfoldable pub word_at : List ℕ → ℕ → ℕ
word_at m i = get_or m i 0 * 2 ^ 24 + get_or m (i + 1) 0 * 2 ^ 16 + get_or m (i + 2) 0 * 2 ^ 8 + get_or m (i + 3) 0

unfoldable pub block_at : List ℕ → ℕ → List ℕ
block_at m i =
    word_at m i ∷ word_at m (i + 4) ∷ word_at m (i + 8) ∷ word_at m (i + 12) ∷
    word_at m (i + 16) ∷ word_at m (i + 20) ∷ word_at m (i + 24) ∷ word_at m (i + 28) ∷
    word_at m (i + 32) ∷ word_at m (i + 36) ∷ word_at m (i + 40) ∷ word_at m (i + 44) ∷
    word_at m (i + 48) ∷ word_at m (i + 52) ∷ word_at m (i + 56) ∷ word_at m (i + 60) ∷ []

-- 5.3.3: the initial hash value
unfoldable pub initial : State
initial = record { a = 0x6a09_e667; b = 0xbb67_ae85; c = 0x3c6e_f372; d = 0xa54f_f53a; e = 0x510e_527f; f = 0x9b05_688c; g = 0x1f83_d9ab; h = 0x5be0_cd19 }

-- 6.2.2, step 1: the message schedule. `next_word w t` is W t, for t of 16 and more, where w has the words before it;
-- `extend n w` is w and n words more
unfoldable pub next_word : List ℕ → ℕ → ℕ
next_word w t = σ₁ (get_or w (t - 2) 0) ⊞ get_or w (t - 7) 0 ⊞ σ₀ (get_or w (t - 15) 0) ⊞ get_or w (t - 16) 0

unfoldable pub extend : ℕ → List ℕ → List ℕ
extend zero w = w
extend (suc n) w = extend n (w ++ next_word w (length w) ∷ [])

unfoldable pub schedule : List ℕ → List ℕ
schedule m = extend 48 m

-- step 3: one round, with the constant k and the word w; then a round for each constant and word
unfoldable pub round_of : State → ℕ → ℕ → State
round_of s k w =
    let T₁ = s.h ⊞ Σ₁ s.e ⊞ Ch s.e s.f s.g ⊞ k ⊞ w in
    let T₂ = Σ₀ s.a ⊞ Maj s.a s.b s.c in
    record { a = T₁ ⊞ T₂; b = s.a; c = s.b; d = s.c; e = s.d ⊞ T₁; f = s.e; g = s.f; h = s.g }

unfoldable pub rounds : List ℕ → List ℕ → State → State
rounds [] ws s = s
rounds (k ∷ ks) [] s = s
rounds (k ∷ ks) (w ∷ ws) s = rounds ks ws (round_of s k w)

-- step 4: the sums
abbrev pub plus : State → State → State
plus s t = record { a = s.a ⊞ t.a; b = s.b ⊞ t.b; c = s.c ⊞ t.c; d = s.d ⊞ t.d; e = s.e ⊞ t.e; f = s.f ⊞ t.f; g = s.g ⊞ t.g; h = s.h ⊞ t.h }

-- steps 1 to 4 for one block
unfoldable pub compress : List ℕ → State → State
compress m s = plus (rounds k_table (schedule m) s) s

-- n blocks of p, from byte i on
unfoldable pub hash : ℕ → ℕ → List ℕ → State → State
hash zero i p s = s
hash (suc n) i p s = hash n (i + 64) p (compress (block_at p i) s)

abbrev pub bytes_of : State → List ℕ
bytes_of s = be32 s.a ++ (be32 s.b ++ (be32 s.c ++ (be32 s.d ++ (be32 s.e ++ (be32 s.f ++ (be32 s.g ++ be32 s.h))))))

-- the hash value of a message, and its bytes: the message digest
unfoldable pub hash_value : List ℕ → State
hash_value m = let p = pad m in hash (length p / 64) 0 p initial

unfoldable pub sha256 : List ℕ → List ℕ
sha256 m = bytes_of (hash_value m)

-- the first 16 bytes: H of the ledger's profile (document 01, Figures)
unfoldable pub hash16 : List ℕ → List ℕ
hash16 m = take 16 (sha256 m)
