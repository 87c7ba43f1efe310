-- The rounds of a block by their index. Assumes nothing.
use mathlib.Core.Path.{◌≡◌, refl, sym, ap, ap₂, subst, ◌∙◌}
use mathlib.Core.List.{List, [], ◌∷◌, ◌++◌}
use Prim.Native.Nat.{ℕ, ◌+◌, ◌≤◌, ◌<◌}
use native.Mathlib.Nat.{add-zero, add_assoc, suc_inj, suc-ne-zero}
use native.Mathlib.Omega.{arith}
use lib.ListN.{length, get_or, take, drop, length-append, length-drop}
use lib.Seq.{take_all, take-add, drop-cons, drop-drop, length-take-le}
use Rattle.sha256.specs.declared.State.{State}
use Rattle.sha256.specs.Sha256.{k_table, schedule, round_of, rounds, plus, compress}
use Rattle.sha256.specs.Rounds.{Window, RoundAt, RoundsFrom}
use Rattle.sha256.proofs.Words.{schedule-length, window-start}

-- 4.2.2: the constant t
abbrev K : ℕ → ℕ
K t = get_or k_table t 0

k_length : length k_table ≡ 64
unfolding k_table
k_length = refl

-- ---- n elements of a list from t on

one_from : (t : ℕ) (l : List ℕ) → t < length l → take 1 (drop t l) ≡ get_or l t 0 ∷ []
one_from t l h = ap (take 1) (drop-cons l t 0 h)

more_from : (t n p : ℕ) (l : List ℕ) → take (n + p) (drop t l) ≡ take n (drop t l) ++ take p (drop (t + n) l)
more_from t n p l = take-add n p (drop t l) ∙ ap (λ (r : List ℕ). take n (drop t l) ++ take p r) (drop-drop n t l)

from-length : (t n : ℕ) (l : List ℕ) → t + n ≤ length l → length (take n (drop t l)) ≡ n
from-length t n l h = length-take-le n (drop t l) (simp length-drop (omega arith))

-- ---- rounds one after the other

rounds_append : (j k v w : List ℕ) (s : State) → length j ≡ length v → rounds (j ++ k) (v ++ w) s ≡ rounds k w (rounds j v s)
unfolding rounds
rounds_append [] k [] w s e = refl
rounds_append [] k (x ∷ v) w s e = absurd (suc-ne-zero (length v) (sym e))
rounds_append (y ∷ j) k [] w s e = absurd (suc-ne-zero (length j) e)
rounds_append (y ∷ j) k (x ∷ v) w s e = rounds_append j k v w (round_of s y x) (suc_inj e)

pub no_rounds : (t : ℕ) (s : State) (w : List ℕ) → RoundsFrom t 0 s w s w
unfolding rounds
no_rounds t s w = record {
  words = [];
  count = refl;
  taken = λ m v. refl;
  done = refl;
  window = λ m v. subst (λ (u : ℕ). Window m u w) (sym (add-zero t)) v;
}

one-round : {t : ℕ} {s r : State} {w v : List ℕ} → t < 64 → RoundAt t (K t) s w r v → RoundsFrom t 1 s w r v
unfolding rounds
one-round {t} {s} l round = record {
  words = round.word ∷ [];
  count = refl;
  taken = λ m v. ap (λ (x : ℕ). x ∷ []) (round.takes.word m v) ∙ sym (one_from t (schedule m) (omega (arith, schedule-length m v.block)));
  done = round.round ∙ ap (λ (ks : List ℕ). rounds ks (round.word ∷ []) s) (sym (one_from t k_table (omega (arith, k_length))));
  window = round.takes.window;
}

pub more_rounds : {t n p : ℕ} {s x r : State} {w y v : List ℕ} → t + n ≤ 64 → RoundsFrom t n s w x y → RoundsFrom (t + n) p x y r v
    → RoundsFrom t (n + p) s w r v
more_rounds {t} {n} {p} {s} {v = v} b front back = record {
  words = front.words ++ back.words;
  count = length-append front.words back.words ∙ ap₂ (λ (i j : ℕ). i + j) front.count back.count;
  taken = λ m window. ap₂ (λ (i j : List ℕ). i ++ j) (front.taken m window) (back.taken m (front.window m window)) ∙ sym (more_from t n p (schedule m));
  done = back.done
      ∙ ap (rounds (take p (drop (t + n) k_table)) back.words) front.done
      ∙ sym (rounds_append (take n (drop t k_table)) (take p (drop (t + n) k_table)) front.words back.words s
      (from-length t n k_table (omega (arith, k_length)) ∙ sym front.count))
      ∙ ap (λ (ks : List ℕ). rounds ks (front.words ++ back.words) s) (sym (more_from t n p k_table));
  window = λ m window. subst (λ (i : ℕ). Window m i v) (add_assoc t n p) (back.window m (front.window m window));
}

-- the same rounds, with their numbers written otherwise
pub same-rounds : {t u n p : ℕ} {s r : State} {w v : List ℕ} → t ≡ u → n ≡ p → RoundsFrom t n s w r v → RoundsFrom u p s w r v
same-rounds {s = s} {r} {w} {v} e f = subst (λ (i : ℕ × ℕ). RoundsFrom i.0 i.1 s w r v) (λ i. (e i, f i))

-- one round more, u
pub round-more : {t n u p : ℕ} {s x r : State} {w y v : List ℕ} → u ≡ t + n → p ≡ n + 1 → u < 64 → RoundsFrom t n s w x y → RoundAt u (K u) x y r v
    → RoundsFrom t p s w r v
round-more {t} {n} e f b front round = same-rounds refl (sym f) (more_rounds (omega arith) front (same-rounds e refl (one-round b round)))

-- all 64: the sums are left
pub compressed : (m : List ℕ) (s r : State) (w : List ℕ) → length m ≡ 16 → RoundsFrom 0 64 s m r w → plus r s ≡ compress m s
unfolding compress
compressed m s r w l all =
    ap (λ (x : State). plus x s)
    (all.done
    ∙ ap₂ (λ (k v : List ℕ). rounds k v s) (take_all 64 k_table (omega (arith, k_length)))
    (all.taken m (window-start m l) ∙ take_all 64 (schedule m) (omega (arith, schedule-length m l))))
