-- Refusals: a call that is refused answers the first number of its table that applies and nothing else, and changes no state. Assumes nothing.
use Rattle.std.proofs.Common.{◌≡◌, ℕ, Bool, true, false, cond, not, ◌&&◌, eqb, List, [], ◌∷◌, ◌++◌, sym, refl, ap, ◌∙◌, inl, inr, ne_eqb, eqb-true}
use borrow.Author.Tests.{eqb-false}
use Rattle.base.specs.Lists.{any, or_else, In, All}
use Rattle.base.proofs.Tests.{by_test, and_left, and_right, no_not}
use Rattle.base.proofs.Lists.{not-any}
use Rattle.model.specs.State.{State}
use Rattle.model.specs.Refusals.{Row, first_of}
use Rattle.model.specs.Begin.{Done, begun, refusal_begin, begin}
use Rattle.model.specs.Receive.{Answer, handled, answered, refusal_receive, receive}
use Rattle.model.specs.Tick.{Sent, ticked, refusal_tick, tick}
use Rattle.model.specs.KeepAlive.{chosen, refusal_keep_alive, keep_alive}
use Rattle.model.specs.Pay.{paid, refusal_pay, pay, purged, refusal_purge, purge}
use Rattle.model.specs.Totals.{Summed, total_of, sum_of, unreadable, payments_in, reachable, not_summed, refusal_total, total, refusal_sum, sum}
use Rattle.model.specs.Show.{Marks, marked_at, not_marked, refusal_marks, marks, refusal_show, shown}
use Rattle.model.specs.Snapshot.{Saved, saved, refusal_save, save, load, resumed, refusal_resume, resume}
use Rattle.model.specs.Theorems.{RefusalsChangeNothing, Exact, RefusalsExact}

-- ---- what a refusal answers

-- a call answers `done`, of number 0, where no refusal applies, and else `refusal`
refused : {A : Type 0} (number : A → ℕ) (n : ℕ) (done refusal : A) → number done ≡ 0 → ¬ (number (cond (eqb n 0) done refusal) ≡ 0)
    → cond (eqb n 0) done refusal ≡ refusal
refused number n done refusal z h = by_test (eqb n 0) (λ e. absurd (h (rw e z))) (λ e. rw e)

-- the refusal again, made of the number that was answered
refused_as : {A : Type 0} (number : A → ℕ) (n : ℕ) (done : A) (refusal : ℕ → A) → number done ≡ 0 → ((k : ℕ) → number (refusal k) ≡ k)
    → ¬ (number (cond (eqb n 0) done (refusal n)) ≡ 0) → cond (eqb n 0) done (refusal n) ≡ refusal (number (cond (eqb n 0) done (refusal n)))
refused_as number n done refusal z numbered h =
    let e : cond (eqb n 0) done (refusal n) ≡ refusal n = refused number n done (refusal n) z h in e ∙ ap refusal (sym (ap number e ∙ numbered n))

-- of a call that only changes state
abbrev done_or : ℕ → State → State → Done
done_or n a s = cond (eqb n 0) (record { number = 0; state = a }) (record { number = n; state = s })

unchanged : (n : ℕ) (a s : State) → ¬ ((done_or n a s).number ≡ 0) → (done_or n a s).state ≡ s
unchanged n a s h =
    ap (λ (d : Done). d.state) (refused (λ (d : Done). d.number) n (record { number = 0; state = a }) (record { number = n; state = s }) refl h)

pub refusals_change_nothing : RefusalsChangeNothing
unfolding begin resume receive tick ticked keep_alive pay purge total sum marks save shown
refusals_change_nothing =
    record {
      begins = λ own clock rs table s. unchanged (refusal_begin clock table) (begun own clock rs) s;
      resumes = λ clock bytes rs table s. unchanged (refusal_resume clock bytes table) (or_else (load clock bytes) s (resumed clock rs)) s;
      receives = λ c s. refused_as (λ a. a.number) (refusal_receive c s) (answered c (handled s c))
          (λ n. record { number = n; state = s; bytes = []; omitted = 0; dropped = 0 }) refl (λ k. refl);
      ticks = λ clock i rs table room s. refused_as (λ a. a.number) (refusal_tick clock i table room s) (ticked clock i rs s)
          (λ n. record { number = n; state = s; bytes = [] }) refl (λ k. refl);
      chooses = λ clock i n rs table s. unchanged (refusal_keep_alive clock i n table s) (chosen clock i n rs s) s;
      pays = λ clock p rs table s. unchanged (refusal_pay clock p table s) (paid clock p rs s) s;
      purges = λ clock rs table s. unchanged (refusal_purge clock table s) (purged clock rs s) s;
      totals = λ clock h table s. refused_as (λ a. a.number) (refusal_total clock h table s)
          (record { number = 0; value = total_of h (reachable clock s); unread = unreadable (payments_in (reachable clock s)) }) not_summed refl (λ k. refl);
      sums = λ clock table s. refused_as (λ a. a.number) (refusal_sum clock table s)
          (record { number = 0; value = sum_of (reachable clock s); unread = unreadable (payments_in (reachable clock s)) }) not_summed refl (λ k. refl);
      marking = λ clock table s. refused_as (λ a. a.number) (refusal_marks clock table s) (marked_at s.own clock s.table) not_marked refl (λ k. refl);
      saves = λ clock table room s. refused_as (λ a. a.number) (refusal_save clock table room s)
          (record { number = 0; bytes = saved s.own clock s.table }) (λ n. record { number = n; bytes = [] }) refl (λ k. refl);
      shows = λ n table s h. rw (ne_eqb (refusal_show n table s) 0 h);
    }

-- ---- the first row that applies, where every row has a number of its own

-- numbers that are none of those seen, each once
abbrev once : List ℕ → List Row → Bool
once seen [] = true
once seen (r ∷ rs) = not (any (eqb r.number) seen) && once (r.number ∷ seen) rs

module _ (seen : List ℕ) (r : Row) (rs : List Row) (h : once seen (r ∷ rs) ≡ true) where
  head_new : (n : ℕ) → In n seen → ¬ (r.number ≡ n)
  head_new n m =
      eqb-false r.number n (not-any (eqb r.number) n seen (no_not (any (eqb r.number) seen) (and_left _ _ h)) m)

  rest-once : once (r.number ∷ seen) rs ≡ true
  rest-once = and_right (not (any (eqb r.number) seen)) (once (r.number ∷ seen) rs) h

-- a row further on has another number than those seen, and so has what is answered, unless it is 0
later_new : (seen : List ℕ) (n : ℕ) → In n seen → (rs : List Row) (r : Row) (us : List Row) → once seen (rs ++ (r ∷ us)) ≡ true → ¬ (r.number ≡ n)
later_new seen n m [] r us h = head_new seen r us h n m
later_new seen n m (q ∷ rs) r us h = later_new (q.number ∷ seen) n (inr m) rs r us (rest-once seen q (rs ++ (r ∷ us)) h)

first_new : (seen : List ℕ) (n : ℕ) → In n seen → (rs : List Row) → once seen rs ≡ true → ¬ (first_of rs ≡ 0) → ¬ (first_of rs ≡ n)
first_new seen n m [] h z = absurd (z refl)
first_new seen n m (r ∷ rs) h z =
    by_test r.applies (λ b. rw b (head_new seen r rs h n m)) (λ b. rw b (first_new (r.number ∷ seen) n (inr m) rs (rest-once seen r rs h) (rw b at z)))

none_first : (rs : List Row) → All (λ r. r.applies ≡ false) rs → first_of rs ≡ 0
none_first [] a = refl
none_first (r ∷ rs) a = rw a.0 (none_first rs a.1)

first-none : (seen : List ℕ) → In 0 seen → (rs : List Row) → once seen rs ≡ true → first_of rs ≡ 0 → All (λ r. r.applies ≡ false) rs
first-none seen z [] h e = tt
first-none seen z (r ∷ rs) h e =
    by_test r.applies (λ b. absurd (head_new seen r rs h 0 z (rw b at e))) (λ b. (b, first-none (r.number ∷ seen) (inr z) rs (rest-once seen r rs h) (rw b at e)))

row_first : (rs : List Row) (r : Row) (us : List Row) → All (λ q. q.applies ≡ false) rs → r.applies ≡ true → first_of (rs ++ (r ∷ us)) ≡ r.number
row_first [] r us a b = rw b
row_first (q ∷ rs) r us a b = rw a.0 (row_first rs r us a.1 b)

first-row : (seen : List ℕ) → In 0 seen → (rs : List Row) (r : Row) (us : List Row) → once seen (rs ++ (r ∷ us)) ≡ true → first_of (rs ++ (r ∷ us)) ≡ r.number
    → All (λ q. q.applies ≡ false) rs × (r.applies ≡ true)
first-row seen z [] r us h e =
    by_test r.applies (λ b. (tt, b))
    (λ b. let f : first_of us ≡ r.number = rw b at e in
    absurd (first_new (r.number ∷ seen) r.number (inl refl) us (rest-once seen r us h) (λ k. head_new seen r us h 0 z (sym f ∙ k)) f))
first-row seen z (q ∷ rs) r us h e =
    let k : once (q.number ∷ seen) (rs ++ (r ∷ us)) ≡ true = rest-once seen q (rs ++ (r ∷ us)) h in
    by_test q.applies (λ b. absurd (later_new (q.number ∷ seen) q.number (inl refl) rs r us k (sym (rw b at e))))
    (λ b. let i : All (λ p. p.applies ≡ false) rs × (r.applies ≡ true) = first-row (q.number ∷ seen) (inr z) rs r us k (rw b at e) in ((b, i.0), i.1))

exact : (rows : List Row) → once (0 ∷ []) rows ≡ true → (n : ℕ) → n ≡ first_of rows → Exact n rows
exact rows h n e =
    record {
      answered = e;
      none = (λ z. first-none (0 ∷ []) (inl refl) rows h (sym e ∙ z), λ a. e ∙ none_first rows a);
      first = λ rs r us s. (λ q. first-row (0 ∷ []) (inl refl) rs r us (rw s at h) (ap first_of (sym s) ∙ sym e ∙ q), λ a. e ∙ ap first_of s ∙ row_first rs r us a.0 a.1);
    }

-- a call's number is that of its table
number_is : {A : Type 0} (number : A → ℕ) (n : ℕ) (done refusal : A) → number done ≡ 0 → number refusal ≡ n → number (cond (eqb n 0) done refusal) ≡ n
number_is number n done refusal z k = by_test (eqb n 0) (λ e. rw e (z ∙ sym (eqb-true n 0 e))) (λ e. rw e k)

pub refusals_exact : RefusalsExact
unfolding begin resume receive tick ticked keep_alive pay purge total sum marks save
refusals_exact =
    record {
      begins = λ own clock rs table s. exact _ refl _ (number_is (λ (d : Done). d.number) (refusal_begin clock table) _ _ refl refl);
      resumes = λ clock bytes rs table s. exact _ refl _ (number_is (λ (d : Done). d.number) (refusal_resume clock bytes table) _ _ refl refl);
      receives = λ c s. exact _ refl _ (number_is (λ (a : Answer). a.number) (refusal_receive c s) _ _ refl refl);
      ticks = λ clock i rs table room s. exact _ refl _ (number_is (λ (a : Sent). a.number) (refusal_tick clock i table room s) _ _ refl refl);
      chooses = λ clock i n rs table s. exact _ refl _ (number_is (λ (d : Done). d.number) (refusal_keep_alive clock i n table s) _ _ refl refl);
      pays = λ clock p rs table s. exact _ refl _ (number_is (λ (d : Done). d.number) (refusal_pay clock p table s) _ _ refl refl);
      purges = λ clock rs table s. exact _ refl _ (number_is (λ (d : Done). d.number) (refusal_purge clock table s) _ _ refl refl);
      totals = λ clock h table s. exact _ refl _ (number_is (λ (a : Summed). a.number) (refusal_total clock h table s) _ _ refl refl);
      sums = λ clock table s. exact _ refl _ (number_is (λ (a : Summed). a.number) (refusal_sum clock table s) _ _ refl refl);
      marking = λ clock table s. exact _ refl _ (number_is (λ (a : Marks). a.number) (refusal_marks clock table s) _ _ refl refl);
      saves = λ clock table room s. exact _ refl _ (number_is (λ (a : Saved). a.number) (refusal_save clock table room s) _ _ refl refl);
      shows = λ n table s. exact _ refl _ refl;
    }
