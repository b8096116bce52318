-- Participants that serve one after another, each of a higher number than those before, do so in rising number.
use Rattle.std.proofs.Common.{◌≡◌, ◌≢◌, ℕ, ◌-◌, ◌<◌, ◌≤◌, List, [], ◌++◌, length, inl, inr, refl, sym, ap, ◌∙◌, ⊎_elim, arith, length-append, slice_index_or}
use Rattle.std.specs.List.{All, AllByRecursion}
use Rattle.std.specs.List.Sorted.{IsNonDecreasingBy}
use Rattle.std.proofs.lemmas.Bool.{cases_eq, cases_lt}
use Rattle.std.proofs.lemmas.List.{append-nil, append_assoc, get_or_append_left, get_or-append_right}
use Rattle.std.proofs.lemmas.List.Elements.{All-from_recursion, All-get_or}
use Rattle.std.proofs.lemmas.List.Sorted.{IsNonDecreasingBy-short}
use Rattle.hp_plain.specs.Course.{IsCourse}
use Rattle.hp_plain.specs.HallView.{HallView, HasDone}
use Rattle.hp_hall.specs.Mail.{MailStep}
use Rattle.hp_solo.proofs.Steps.{done_between}
use Rattle.hp_solo.specs.Served.{IsInRisingNumber}
use Rattle.hp_solo.proofs.SoloSteps.{by_those}

abbrev maker : ℕ × MailStep → ℕ
maker step = step.0

-- steps of those below a number in rising number, and then steps of that number
module _ (number : ℕ) (first second : List (ℕ × MailStep)) (rising : IsNonDecreasingBy maker first)
    (below : All (λ step. step.0 < number) first) (own : All (λ step. step.0 ≡ number) second) where
  last_is : (i : ℕ) (d : ℕ × MailStep) → length first ≤ i → i < length (first ++ second)
      → maker (slice_index_or (first ++ second) i d) ≡ number
  last_is i d behind within =
      ap maker (get_or-append_right first second (length first) i d refl behind)
      ∙ All-get_or (λ (step : ℕ × MailStep). step.0 ≡ number) second (i - length first) d (omega (arith, length-append first second)) own

  first_is : (i : ℕ) (d : ℕ × MailStep) → i < length first
      → maker (slice_index_or (first ++ second) i d) ≡ maker (slice_index_or first i d)
  first_is i d before = ap maker (get_or_append_left first second d i before)

  rising_then : IsNonDecreasingBy maker (first ++ second)
  rising_then i j d order within =
      ⊎_elim
      (λ (early : j < length first). omega (arith, first_is i d (omega (arith, order, early)), first_is j d early, rising i j d order early))
      (λ (late : length first ≤ j).
      ⊎_elim
      (λ (before : i < length first).
      omega
      (arith, last_is j d late within, first_is i d before, All-get_or (λ (step : ℕ × MailStep). step.0 < number) first i d before below))
      (λ (behind : length first ≤ i). omega (arith, last_is j d late within, last_is i d behind (omega (arith, order, within))))
      (cases_lt i (length first)))
      (cases_lt j (length first))

-- nobody has served yet
pub rising_same : (a : HallView) → IsInRisingNumber a a
rising_same a = record { steps = []; mail = sym (append-nil a.mail); rising = IsNonDecreasingBy-short maker [] (omega arith) }

-- those below a number served, and then that one did
pub rising_more : (number : ℕ) (a b c : HallView) → IsInRisingNumber a b → ((who : ℕ) → number ≤ who → HasDone a b who [])
    → IsCourse b c → ((who : ℕ) → who ≢ number → HasDone b c who []) → IsInRisingNumber a c
rising_more number a b c so_far none course others =
    let below : AllByRecursion (λ step. step.0 < number) so_far.steps =
    by_those (λ who. who < number)
    (λ who. ⊎_elim (λ (is : who < number). inl is) (λ (behind : number ≤ who). inr (λ is. absurd (omega (arith, is, behind)))) (cases_lt who number))
    so_far.steps
    (λ who apart.
    done_between a b who so_far.steps [] so_far.mail
    (none who
    (⊎_elim (λ (is : who < number). absurd (apart is)) (λ (behind : number ≤ who). behind) (cases_lt who number)))) in
    let own : AllByRecursion (λ step. step.0 ≡ number) course.steps =
    by_those (λ who. who ≡ number) (λ who. cases_eq who number) course.steps
    (λ who apart. done_between b c who course.steps [] course.mail (others who apart)) in
    record {
      steps = so_far.steps ++ course.steps;
      mail = course.mail ∙ ap (λ (mail : List (ℕ × MailStep)). mail ++ course.steps) so_far.mail ∙ append_assoc a.mail so_far.steps course.steps;
      rising = rising_then number so_far.steps course.steps so_far.rising
          (All-from_recursion (λ step. step.0 < number) so_far.steps below)
          (All-from_recursion (λ step. step.0 ≡ number) course.steps own);
    }
