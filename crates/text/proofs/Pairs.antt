-- Bytes in hexadecimal, pair by pair. Assumes nothing.
use mathlib.Core.Path.{◌≡◌, refl, sym, ap, ◌∙◌}
use mathlib.Core.List.{List, [], ◌∷◌, ◌++◌}
use Prim.Native.Nat.{ℕ, ◌+◌, ◌*◌, ◌/◌, ◌%◌, ◌≤◌, ◌<◌}
use native.Mathlib.Omega.{arith}
use lib.ListN.{length, get_or, set, take, drop, length-set, length-drop, drop_of_length-le}
use Rattle.base.specs.Memory.{written}
use Rattle.base.proofs.Lists.{drop-next, drop_later}
use Rattle.base.proofs.Written.{written_none, written_on, part-there}
use Rattle.std.specs.Prelude.{All, ltb}
use Rattle.std.specs.Str.{IsUtf8}
use Rattle.std.proofs.lemmas.Str.{IsUtf8-from_ascii}
use Rattle.std.proofs.lemmas.List.Elements.{All-nil, All-cons, All-head, All-tail, All-from_get_or}
use Rattle.std.proofs.lemmas.List.{get_or_past, take_more_set, drop-set-lt, append_assoc, append-nil}
use Rattle.base.proofs.Tests.{by_test, by_order}
use Rattle.text.specs.Hexadecimal.{glyph, pairs, hexadecimal, byte, bytes}

pub pairs_length : (s : List ℕ) → length (pairs s) ≡ 2 * length s
unfolding pairs
pairs_length [] = refl
pairs_length (b ∷ s) = omega (arith, pairs_length s)

pub pairs_next : (b : ℕ) (s : List ℕ) → pairs (b ∷ s) ≡ glyph (b / 16) ∷ glyph (b % 16) ∷ pairs s
unfolding pairs
pairs_next b s = refl

-- what is left to write, written now, gives the whole
module _ (s m : List ℕ) (i e : ℕ) where
  pub pairs-written : (x y : ℕ) → x ≡ glyph (get_or s i 0 / 16) → y ≡ glyph (get_or s i 0 % 16) → i < length s → e + 1 < length m
      → written m e (pairs (drop i s)) ≡ written (set (set m e x) (e + 1) y) (e + 2) (pairs (drop (i + 1) s))
  pairs-written x y p q h l =
      let t : List ℕ = pairs (drop (i + 1) s) in
      let two : e + 1 + 1 ≡ e + 2 = omega arith in
      let one : pairs (drop i s) ≡ x ∷ y ∷ t = ap pairs (drop-next s i h) ∙ pairs_next (get_or s i 0) (drop (i + 1) s) ∙ rw (p, q) in
      ap (written m e) one
      ∙ written_on m e x (y ∷ t) (omega arith)
      ∙ written_on (set m e x) (e + 1) y t (omega (arith, length-set m e x))
      ∙ rw two

  pub pairs-done : length s ≤ i → written m e (pairs (drop i s)) ≡ m
  unfolding pairs
  pairs-done h = ap (λ (d : List ℕ). written m e (pairs d)) (drop_of_length-le s {i = i} h) ∙ written_none m e

-- ---- as a word

pub hex_none : (s : List ℕ) → length s ≡ 0 → hexadecimal s ≡ 45 ∷ []
unfolding hexadecimal
hex_none [] e = refl
hex_none (b ∷ s) e = absurd (omega arith)

pub hex_some : (s : List ℕ) → 0 < length s → hexadecimal s ≡ pairs s
unfolding hexadecimal
hex_some [] h = absurd (omega arith)
hex_some (b ∷ s) h = refl

pub hex_short : (s : List ℕ) → length (hexadecimal s) ≤ 2 * length s + 1
unfolding hexadecimal
hex_short [] = omega arith
hex_short (b ∷ s) = omega (arith, pairs_length (b ∷ s))

-- ---- as ASCII

-- a half of a byte counts a digit
glyph_below : (d : ℕ) → d < 16 → glyph d < 128
glyph_below d h = by_test (ltb d 10) (λ t. rw t (omega arith)) (λ f. rw f (omega arith))

pub pairs-ascii : (s : List ℕ) → All (λ b. b < 256) s → All (λ x. x < 128) (pairs s)
unfolding pairs
pairs-ascii [] h = All-nil (λ x. x < 128)
pairs-ascii (b ∷ s) h =
    let l : b < 256 = All-head (λ x. x < 256) b s h in
    All-cons (λ x. x < 128) (glyph (b / 16)) (glyph (b % 16) ∷ pairs s) (glyph_below (b / 16) (omega arith))
    (All-cons (λ x. x < 128) (glyph (b % 16)) (pairs s) (glyph_below (b % 16) (omega arith)) (pairs-ascii s (All-tail (λ x. x < 256) b s h)))

pub hexadecimal-ascii : (s : List ℕ) → All (λ b. b < 256) s → All (λ x. x < 128) (hexadecimal s)
unfolding hexadecimal
hexadecimal-ascii [] h = All-cons (λ x. x < 128) 45 [] (omega arith) (All-nil (λ x. x < 128))
hexadecimal-ascii (b ∷ s) h = pairs-ascii (b ∷ s) h

-- what put_hex leaves at the front of the room
pub hexadecimal_is_text : (s room room' : List ℕ) (k : ℕ) → room' ≡ written room 0 (hexadecimal s) → k ≡ 0 + length (hexadecimal s) → length (hexadecimal s) ≤ length room
    → ((i : ℕ) → get_or s i 0 < 256) → IsUtf8 (take k room')
hexadecimal_is_text s room room' k w e l h =
    let x : List ℕ = hexadecimal s in
    let a : All (λ b. b < 128) x = hexadecimal-ascii s (All-from_get_or (λ b. b < 256) s 0 (λ i j. h i)) in
    let there : take k room' ≡ x = part-there room room' x 0 k w (omega arith) (omega arith) in
    let past : (i : ℕ) → length x ≤ i → get_or x i 0 < 128 = λ i l. let e : get_or x i 0 ≡ 0 = get_or_past x i 0 l in omega (arith, e) in
    let at : (i : ℕ) → get_or x i 0 < 128 =
    λ i. by_order i (length x) (λ l. a i 0 l) (λ q. past i (omega arith)) (λ l. past i (omega arith)) in
    rw there (IsUtf8-from_ascii x at)

-- ---- read

bytes_two : (a b : ℕ) (s : List ℕ) → bytes (a ∷ b ∷ s) ≡ byte a b ∷ bytes s
unfolding bytes
bytes_two a b s = refl

bytes_few : (s : List ℕ) → length s ≤ 1 → bytes s ≡ []
unfolding bytes
bytes_few [] h = refl
bytes_few (a ∷ []) h = refl
bytes_few (a ∷ b ∷ s) h = absurd (omega arith)

-- s was to be read, and its first i bytes stand at the front of w, which is still s from the next digits on
module _ (s w : List ℕ) (i : ℕ) (l : length w ≡ length s) (same : drop (2 * i) w ≡ drop (2 * i) s) (e : take i w ++ bytes (drop (2 * i) s) ≡ bytes s) where
  pub bytes-read : length s ≤ 2 * i + 1 → take i w ≡ bytes s
  bytes-read h =
      let none : bytes (drop (2 * i) s) ≡ [] = bytes_few (drop (2 * i) s) (omega (arith, length-drop (2 * i) s)) in
      sym (append-nil (take i w)) ∙ rw (← none) e

  module _ (h : 2 * i + 1 < length s) (x : ℕ) (is : x ≡ byte (get_or w (2 * i) 0) (get_or w (2 * i + 1) 0)) where
    digits_left : drop (2 * (i + 1)) w ≡ drop (2 * (i + 1)) s
    digits_left = drop_later s w (2 * i) (2 * (i + 1)) (omega arith) same

    pub bytes_left : drop (2 * (i + 1)) (set w i x) ≡ drop (2 * (i + 1)) s
    bytes_left = drop-set-lt (2 * (i + 1)) w i x (omega arith) ∙ digits_left

    pub bytes_more : take (i + 1) (set w i x) ++ bytes (drop (2 * (i + 1)) s) ≡ bytes s
    bytes_more =
        let two : 2 * i + 1 + 1 ≡ 2 * (i + 1) = omega arith in
        let t : List ℕ = bytes (drop (2 * (i + 1)) s) in
        let one : bytes (drop (2 * i) s) ≡ x ∷ t =
        ap bytes (sym same)
        ∙ ap bytes (drop-next w (2 * i) (omega arith))
        ∙ ap (λ (d : List ℕ). bytes (get_or w (2 * i) 0 ∷ d)) (drop-next w (2 * i + 1) (omega arith))
        ∙ bytes_two (get_or w (2 * i) 0) (get_or w (2 * i + 1) 0) (drop (2 * i + 1 + 1) w)
        ∙ rw (two, digits_left, is) in
        rw (take_more_set w i x (omega arith)) (append_assoc (take i w) (x ∷ []) t ∙ rw (← one) e)
