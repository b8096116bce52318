-- On the course of a hall of plain values each post is lost exactly where that is planned, and the count of full mailboxes goes on by those
-- of all participants.
use Rattle.std.proofs.Common.{◌≡◌, ◌≢◌, ◌↔◌, ℕ, zero, suc, ◌+◌, ◌<◌, ◌≤◌, eqb, cond, ne_eqb, eq-eqb, Bool, true, false, List, [], ◌∷◌, ◌++◌, length, map, refl, sym, ap, subst, ◌∙◌, ⊎_elim, arith}
use Rattle.std.specs.List.{AllByRecursion, filter, range_with_len, sum_by}
use Rattle.std.proofs.lemmas.Bool.{cases_eq}
use Rattle.std.proofs.lemmas.List.{map-append}
use Rattle.std.proofs.lemmas.List.Elements.{filter-append}
use Rattle.std.proofs.lemmas.List.Sums.{sum_by-cons}
use Rattle.hp_base.specs.declared.plan.Action.{Action}
use Rattle.hp_base.specs.declared.plan.Action.TheVariants.{Lose, Repeat, Deliver}
use Rattle.hp_frame.specs.declared.frame.Frame.{Frame}
use Rattle.hp_hall.specs.HallCalls.{HavePosted}
use Rattle.hp_hall.specs.Mail.{Fetches, Gives, IsAsPlanned, MailStep, Notes, Posts, Takes, counted_on, full_post, full_posts, steps_of}
use Rattle.hp_hall.specs.declared.kept.Kept.{Kept}
use Rattle.hp_mail.specs.declared.posted.Posted.{Posted}
use Rattle.hp_mail.specs.declared.posted.Posted.TheVariants.{Sent, Twice, Lost, Full}
use Rattle.hp_plain.specs.Boxes.{IsMail, IsMailStep, after_step, fulls_among, posted_as}
use Rattle.hp_plain.specs.Course.{IsCourse}
use Rattle.hp_plain.specs.HallView.{HallView}
use Rattle.hp_plain.specs.Keeping.{IsKeptBy, values_after, values_in}
use Rattle.hp_plain.specs.PlainState.{plain_state}

-- of steps and further ones a participant made its own of both
pub steps_of-append : (who : ℕ) (first second : List (ℕ × MailStep)) → steps_of who (first ++ second) ≡ steps_of who first ++ steps_of who second
steps_of-append who first second =
    let by : (ℕ × MailStep) → Bool = λ (s : ℕ × MailStep). eqb s.0 who in
    let what : (ℕ × MailStep) → MailStep = λ (s : ℕ × MailStep). s.1 in
    ap (map what) (filter-append by first second) ∙ map-append what (filter by first) (filter by second)

-- a participant's steps, by whether the first of all is its own
abbrev chosen : (ℕ × MailStep) → List (ℕ × MailStep) → Bool → List MailStep
chosen step rest own = map (λ (s : ℕ × MailStep). s.1) (cond own (step ∷ rest) rest)

abbrev made_by : ℕ → List (ℕ × MailStep) → List (ℕ × MailStep)
made_by who steps = filter (λ (s : ℕ × MailStep). eqb s.0 who) steps

steps_of-other : (who : ℕ) (step : ℕ × MailStep) (steps : List (ℕ × MailStep)) → who ≢ step.0 → steps_of who (step ∷ steps) ≡ steps_of who steps
steps_of-other who step steps apart = ap (chosen step (made_by who steps)) (ne_eqb step.0 who (λ same. apart (sym same)))

steps_of-own : (step : ℕ × MailStep) (steps : List (ℕ × MailStep)) → steps_of step.0 (step ∷ steps) ≡ step.1 ∷ steps_of step.0 steps
steps_of-own step steps = ap (chosen step (made_by step.0 steps)) (eq-eqb step.0 step.0 refl)

-- who is not declared made none
pub undeclared : (who count : ℕ) → count ≤ who → (steps : List (ℕ × MailStep)) (old new : List Kept) → IsKeptBy count steps old new
    → steps_of who steps ≡ []
undeclared who count past [] old new by = refl
undeclared who count past (step ∷ steps) old new by =
    steps_of-other who step steps (λ same. let below = by.0.declared in absurd (omega (arith, same, past, below)))
    ∙ undeclared who count past steps (values_after step.1 old) new by.1

-- how a delivered frame comes out is never that it was lost
sent_not_lost : (room : Bool) (line : ℕ) → (cond room Sent Full) ≢ Lost line
sent_not_lost true line same = cc
sent_not_lost false line same = cc

twice_not_lost : (more room : Bool) (line : ℕ) → cond more Twice (cond room Sent Full) ≢ Lost line
twice_not_lost true room line same = cc
twice_not_lost false room line same = sent_not_lost room line same

-- a message is lost exactly where that is planned
lost_as : (action : Action) (count line : ℕ) → (posted_as action count ≡ Lost line) ↔ (action ≡ Lose line)
lost_as (Lose planned) count line = (λ same. cc, λ same. cc)
lost_as (Repeat planned) count line = (λ same. absurd (twice_not_lost _ _ line same), λ same. cc)
lost_as Deliver count line = (λ same. absurd (sent_not_lost _ line same), λ same. cc)

as_planned : (who : ℕ) (step : MailStep) (boxes : List (List Frame)) → IsMailStep who step boxes → IsAsPlanned step
as_planned who (Posts to frame action posted) boxes is =
    λ line. subst (λ (p : Posted). (p ≡ Lost line) ↔ (action ≡ Lose line)) (sym is) (lost_as action _ line)
as_planned who (Fetches frame) boxes is = tt
as_planned who (Takes slot kept) boxes is = tt
as_planned who (Gives slot kept) boxes is = tt
as_planned who (Notes note) boxes is = tt

all_chosen : (step : ℕ × MailStep) (rest : List (ℕ × MailStep)) (own : Bool) → IsAsPlanned step.1 → AllByRecursion IsAsPlanned (map (λ (s : ℕ × MailStep). s.1) rest)
    → AllByRecursion IsAsPlanned (chosen step rest own)
all_chosen step rest true here all = (here, all)
all_chosen step rest false here all = all

planned_of : (who : ℕ) (steps : List (ℕ × MailStep)) (old new : List (List Frame)) → IsMail steps old new
    → AllByRecursion IsAsPlanned (steps_of who steps)
planned_of who [] old new by = tt
planned_of who (step ∷ steps) old new by =
    all_chosen step (made_by who steps) (eqb step.0 who) (as_planned step.0 step.1 old by.0)
    (planned_of who steps (after_step step.0 step.1 old) new by.1)

-- sums over numbers in turn of what differs at one alone, by so much
module _ (f g : ℕ → ℕ) (more at : ℕ) (same : (n : ℕ) → n ≢ at → f n ≡ g n) where
  sum_outside : (count from : ℕ) → at < from → sum_by f (range_with_len from count) ≡ sum_by g (range_with_len from count)
  sum_outside zero from past = refl
  sum_outside (suc count) from past =
      let here = same from (λ is. absurd (omega (arith, is, past))) in
      let next = sum_outside count (from + 1) (omega (arith, past)) in
      omega (arith, here, next, sum_by-cons f from (range_with_len (from + 1) count), sum_by-cons g from (range_with_len (from + 1) count))

  sum_inside : f at ≡ more + g at → (count from : ℕ) → from ≤ at → at < from + count
      → sum_by f (range_with_len from count) ≡ more + sum_by g (range_with_len from count)
  sum_inside is zero from low high = absurd (omega (arith, low, high))
  sum_inside is (suc count) from low high =
      let firsts = sum_by-cons f from (range_with_len (from + 1) count) in
      let seconds = sum_by-cons g from (range_with_len (from + 1) count) in
      ⊎_elim
      (λ (here : from ≡ at).
      let value : f from ≡ more + g from = ap f here ∙ is ∙ ap (λ (n : ℕ). more + g n) (sym here) in
      omega (arith, value, sum_outside count (from + 1) (omega (arith, here)), firsts, seconds))
      (λ (apart : from ≢ at).
      omega (arith, same from apart, sum_inside is count (from + 1) (omega (arith, low, apart)) (omega (arith, high)), firsts, seconds))
      (cases_eq from at)

sum_none : (count from : ℕ) → sum_by (λ (n : ℕ). 0) (range_with_len from count) ≡ 0
sum_none zero from = refl
sum_none (suc count) from =
    omega (arith, sum_by-cons (λ (n : ℕ). 0) from (range_with_len (from + 1) count), sum_none count (from + 1))

-- the full posts of all participants are those among the steps
pub fulls_of_all : (count : ℕ) (steps : List (ℕ × MailStep)) (old new : List Kept) → IsKeptBy count steps old new
    → sum_by (λ who. full_posts (steps_of who steps)) (range_with_len 0 count) ≡ fulls_among steps
fulls_of_all count [] old new by = sum_none count 0
fulls_of_all count (step ∷ steps) old new by =
    let own : full_posts (steps_of step.0 (step ∷ steps)) ≡ full_post step.1 + full_posts (steps_of step.0 steps) =
    ap full_posts (steps_of-own step steps) ∙ sum_by-cons full_post step.1 (steps_of step.0 steps) in
    sum_inside (λ who. full_posts (steps_of who (step ∷ steps))) (λ who. full_posts (steps_of who steps)) (full_post step.1) step.0
    (λ who apart. ap full_posts (steps_of-other who step steps apart)) own count 0 (omega arith) (omega (arith, by.0.declared))
    ∙ ap (λ n. full_post step.1 + n) (fulls_of_all count steps (values_after step.1 old) new by.1)
    ∙ sym (sum_by-cons (λ (s : ℕ × MailStep). full_post s.1) step steps)

pub plain_posts : (old new : HallView) → IsCourse old new → HavePosted (plain_state old) (plain_state new)
plain_posts old new course = record {
  steps = λ who. steps_of who course.steps;
  done = λ who. ap (steps_of who) course.mail ∙ steps_of-append who old.mail course.steps;
  undeclared = λ who past. undeclared who (length old.owns) past course.steps (values_in old) (values_in new) course.kept;
  planned = λ who. planned_of who course.steps old.boxes new.boxes course.boxes;
  full_mailboxes = course.full_mailboxes
      ∙ ap (λ n. counted_on n old.full_mailboxes) (sym (fulls_of_all (length old.owns) course.steps (values_in old) (values_in new) course.kept));
}
