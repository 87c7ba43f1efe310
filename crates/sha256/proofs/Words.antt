-- The words of the schedule by their index, and the sixteen that are kept. Assumes nothing.
use mathlib.Core.Path.{◌≡◌, refl, sym, ap, subst, ◌∙◌}
use mathlib.Core.Logic.{⊎_elim}
use mathlib.Core.List.{List, [], ◌∷◌, ◌++◌}
use Prim.Native.Nat.{ℕ, zero, suc, ◌+◌, ◌-◌, ◌%◌, ◌≤◌, ◌<◌}
use native.Mathlib.Nat.{add-zero, eq-or-lt_of_le}
use native.Mathlib.Omega.{arith}
use lib.ListN.{length, get_or, set, length-append, length-set, get_or-append}
use lib.Seq.{get_or_at, get_or-set_same, get_or-set_other}
use Rattle.sha256.specs.Sha256.{next_word, extend, schedule, ◌⊞◌, σ₀, σ₁}
use Rattle.sha256.specs.Rounds.{W, Window, Takes}

-- ---- the schedule by its index

extend-length : (n : ℕ) (w : List ℕ) → length (extend n w) ≡ length w + n
unfolding extend
extend-length zero w = sym (add-zero (length w))
extend-length (suc n) w =
    let x = next_word w (length w) in
    extend-length n (w ++ x ∷ []) ∙ omega (arith, length-append w (x ∷ []))

-- words that are there stay
keeps : (n : ℕ) (w : List ℕ) (i : ℕ) → i < length w → get_or (extend n w) i 0 ≡ get_or w i 0
unfolding extend
keeps zero w i h = refl
keeps (suc n) w i h =
    let x = next_word w (length w) in
    keeps n (w ++ x ∷ []) i (simp length-append (omega arith)) ∙ get_or-append w (x ∷ []) 0 i h

next_keeps : (n : ℕ) (w : List ℕ) (t : ℕ) → 16 ≤ t → t ≤ length w → next_word (extend n w) t ≡ next_word w t
unfolding next_word
next_keeps n w t h l =
    λ i. σ₁ (keeps n w (t - 2) (omega arith) i) ⊞ keeps n w (t - 7) (omega arith) i ⊞ σ₀ (keeps n w (t - 15) (omega arith) i) ⊞ keeps n w (t - 16) (omega arith) i

-- each word that is added is the next after those before it
added : (n : ℕ) (w : List ℕ) (t : ℕ) → 16 ≤ length w → length w ≤ t → t < length w + n → get_or (extend n w) t 0 ≡ next_word (extend n w) t
unfolding extend
added zero w t h l b = absurd (omega arith)
added (suc n) w t h l b =
    let x : ℕ = next_word w (length w) in
    let long : length (w ++ x ∷ []) ≡ length w + 1 = length-append w (x ∷ []) in
    ⊎_elim
    (λ e. keeps n (w ++ x ∷ []) t (omega (arith, long)) ∙ get_or_at w x [] 0 t e ∙ ap (next_word w) e ∙ sym (next_keeps (suc n) w t (omega arith) (omega arith)))
    (λ k. added n (w ++ x ∷ []) t (omega (arith, long)) (omega (arith, long)) (omega (arith, long)))
    (eq-or-lt_of_le l)

pub schedule-length : (m : List ℕ) → length m ≡ 16 → length (schedule m) ≡ 64
unfolding schedule
schedule-length m h = extend-length 48 m ∙ ap (λ (n : ℕ). n + 48) h

-- the words of the block, then each from those before it
word_of_block : (m : List ℕ) (t : ℕ) → length m ≡ 16 → t < 16 → W m t ≡ get_or m t 0
unfolding schedule
word_of_block m t h l = keeps 48 m t (omega arith)

word_made : (m : List ℕ) (t : ℕ) → length m ≡ 16 → 16 ≤ t → t < 64 → W m t ≡ next_word (schedule m) t
unfolding schedule
word_made m t h l b = added 48 m t (omega arith) (omega arith) (omega arith)

-- ---- the sixteen words that are kept

pub window-start : (m : List ℕ) → length m ≡ 16 → Window m 0 m
window-start m h = record {
  block = h;
  sixteen = h;
  words = λ j l. let e : (0 + j) % 16 ≡ 0 + j = omega arith in ap (λ (i : ℕ). get_or m i 0) e ∙ sym (word_of_block m (0 + j) h (omega arith));
}

-- a round below 16 takes a word of the block, and w stays
pub takes-early : (t : ℕ) (w w' : List ℕ) → t < 16 → w' ≡ w → Takes t w (get_or w' (t % 16) 0) w'
takes-early t w w' l same = subst (λ (v : List ℕ). Takes t w (get_or v (t % 16) 0) v) (sym same) (record { word = word; window = window })
  where
    word : (m : List ℕ) → Window m t w → get_or w (t % 16) 0 ≡ W m t
    word m v =
        let e : t - 16 + t ≡ t = omega arith in
        ap (λ (i : ℕ). get_or w (i % 16) 0) (sym e) ∙ v.words t l ∙ ap (W m) e

    window : (m : List ℕ) → Window m t w → Window m (t + 1) w
    window m v = record {
      block = v.block;
      sixteen = v.sixteen;
      words = λ j b. let e : t + 1 - 16 + j ≡ t - 16 + j = omega arith in
          ap (λ (i : ℕ). get_or w (i % 16) 0) e ∙ v.words j b ∙ ap (W m) (sym e);
    }

-- what the code works out for round t
abbrev from_kept : List ℕ → ℕ → ℕ
from_kept w t = σ₁ (get_or w ((t - 2) % 16) 0) ⊞ get_or w ((t - 7) % 16) 0 ⊞ σ₀ (get_or w ((t - 15) % 16) 0) ⊞ get_or w ((t - 16) % 16) 0

module _ (m : List ℕ) (t : ℕ) (w : List ℕ) (h : 16 ≤ t) (v : Window m t w) where
  -- from round 16 on the word k places before is kept
  kept : (k : ℕ) → 1 ≤ k → k ≤ 16 → get_or w ((t - k) % 16) 0 ≡ W m (t - k)
  kept k l g =
      let p : t - k ≡ t - 16 + (16 - k) = omega arith in
      ap (λ (i : ℕ). get_or w (i % 16) 0) p ∙ v.words (16 - k) (omega arith) ∙ ap (W m) (sym p)

  -- so what is worked out is word t
  worked_out : t < 64 → from_kept w t ≡ W m t
  unfolding next_word
  worked_out b =
      (λ i. σ₁ (kept 2 (omega arith) (omega arith) i) ⊞ kept 7 (omega arith) (omega arith) i ⊞ σ₀ (kept 15 (omega arith) (omega arith) i) ⊞ kept 16 (omega arith) (omega arith) i)
      ∙ sym (word_made m t v.block h b)

  in_place : (x : ℕ) → get_or (set w (t % 16) x) (t % 16) 0 ≡ x
  in_place x = let q : t % 16 < length w = omega (arith, v.sixteen) in get_or-set_same w (t % 16) x 0 q

  -- and put in the place of the oldest it leaves the others
  slides : (x : ℕ) → x ≡ W m t → Window m (t + 1) (set w (t % 16) x)
  slides x e = record {
    block = v.block;
    sixteen = length-set w (t % 16) x ∙ v.sixteen;
    words = λ j l. ⊎_elim (λ p. new j (omega arith)) (λ g. old j (omega arith)) (eq-or-lt_of_le l);
  }
    where
      old : (j : ℕ) → j < 15 → get_or (set w (t % 16) x) ((t + 1 - 16 + j) % 16) 0 ≡ W m (t + 1 - 16 + j)
      old j l =
          let p : t + 1 - 16 + j ≡ t - 16 + (1 + j) = omega arith in
          get_or-set_other w (t % 16) ((t + 1 - 16 + j) % 16) x 0 (omega arith)
          ∙ ap (λ (i : ℕ). get_or w (i % 16) 0) p ∙ v.words (1 + j) (omega arith) ∙ ap (W m) (sym p)

      new : (j : ℕ) → j ≡ 15 → get_or (set w (t % 16) x) ((t + 1 - 16 + j) % 16) 0 ≡ W m (t + 1 - 16 + j)
      new j l =
          let p : t + 1 - 16 + j ≡ t = omega arith in
          ap (λ (i : ℕ). get_or (set w (t % 16) x) (i % 16) 0) p ∙ in_place x ∙ e ∙ ap (W m) (sym p)

-- a later round takes the word that is worked out, in the place of the oldest
pub takes-late : (t x : ℕ) (w w' : List ℕ) → 16 ≤ t → t < 64 → x ≡ from_kept w t → w' ≡ set w (t % 16) x → Takes t w (get_or w' (t % 16) 0) w'
takes-late t x w w' h b made put =
    let is : (m : List ℕ) → Window m t w → x ≡ W m t = λ m v. made ∙ worked_out m t w h v b in
    subst (λ (v : List ℕ). Takes t w (get_or v (t % 16) 0) v) (sym put) (record {
      word = λ m v. in_place m t w h v x ∙ is m v;
      window = λ m v. slides m t w h v x (is m v);
    })
