-- Steps in a hall: each is its maker's, and nobody else's.
use Rattle.std.proofs.Common.{◌≡◌, ◌≢◌, ℕ, cond, eqb, eq-eqb, ne_eqb, Bool, List, [], ◌∷◌, ◌++◌, map, refl, sym, ap, ◌∙◌, subst, ⊎_elim}
use Rattle.std.specs.List.{filter}
use Rattle.std.proofs.lemmas.Bool.{cases_eq}
use Rattle.std.proofs.lemmas.List.{append_cancel_left, map-append}
use Rattle.std.proofs.lemmas.List.Elements.{filter-append}
use Rattle.hp_plain.specs.HallView.{HallView, HasDone}
use Rattle.hp_hall.specs.Mail.{MailStep, steps_of}
use Rattle.hp_serve.proofs.MemberLemmas.{at_each}

-- whether a participant made a step, and what it did there
abbrev made_by : ℕ → ℕ × MailStep → Bool
made_by who step = eqb step.0 who

abbrev what : ℕ × MailStep → MailStep
what step = step.1

-- what a participant did, by whether the first step is its own
abbrev chosen : ℕ → ℕ × MailStep → List (ℕ × MailStep) → Bool → List MailStep
chosen who step steps made = map what (cond made (step ∷ filter (made_by who) steps) (filter (made_by who) steps))

own_first : (step : ℕ × MailStep) (steps : List (ℕ × MailStep)) → steps_of step.0 (step ∷ steps) ≡ step.1 ∷ steps_of step.0 steps
own_first step steps = ap (chosen step.0 step steps) (eq-eqb step.0 step.0 refl)

other_first : (who : ℕ) (step : ℕ × MailStep) (steps : List (ℕ × MailStep)) → who ≢ step.0 → steps_of who (step ∷ steps) ≡ steps_of who steps
other_first who step steps apart = ap (chosen who step steps) (ne_eqb step.0 who (λ same. apart (sym same)))

steps_of-append : (who : ℕ) (first second : List (ℕ × MailStep)) → steps_of who (first ++ second) ≡ steps_of who first ++ steps_of who second
steps_of-append who first second =
    ap (map what) (filter-append (made_by who) first second) ∙ map-append what (filter (made_by who) first) (filter (made_by who) second)

-- what a participant did on the way is what it has done
pub done_between : (old new : HallView) (who : ℕ) (steps : List (ℕ × MailStep)) (did : List MailStep) → new.mail ≡ old.mail ++ steps
    → HasDone old new who did → steps_of who steps ≡ did
done_between old new who steps did mail done =
    append_cancel_left (steps_of who old.mail) (steps_of who steps) did
    (sym (steps_of-append who old.mail steps) ∙ sym (ap (steps_of who) mail) ∙ done)

-- where nobody did anything, nothing was done
nobody_did : (steps : List (ℕ × MailStep)) → ((who : ℕ) → steps_of who steps ≡ []) → steps ≡ []
nobody_did [] nothing = refl
nobody_did (step ∷ steps) nothing =
    let some : step.1 ∷ steps_of step.0 steps ≡ [] = sym (own_first step steps) ∙ nothing step.0 in
    cc

first_same : (a b : MailStep) (more rest : List MailStep) → a ∷ more ≡ b ∷ rest → a ≡ b
first_same a b more rest same = cc

rest_same : (a b : MailStep) (more rest : List MailStep) → a ∷ more ≡ b ∷ rest → more ≡ rest
rest_same a b more rest same = cc

-- where one did one thing, and nobody else anything, that is all that was done
pub sole_step : (me : ℕ) (step : MailStep) (steps : List (ℕ × MailStep)) → steps_of me steps ≡ step ∷ []
    → ((who : ℕ) → who ≢ me → steps_of who steps ≡ []) → steps ≡ (me, step) ∷ []
sole_step me step [] own others = cc
sole_step me step (first ∷ steps) own others =
    ⊎_elim
    (λ (same : first.0 ≡ me).
    let mine : steps_of me (first ∷ steps) ≡ first.1 ∷ steps_of me steps =
    subst (λ (who : ℕ). steps_of who (first ∷ steps) ≡ first.1 ∷ steps_of who steps) same (own_first first steps) in
    let both : first.1 ∷ steps_of me steps ≡ step ∷ [] = sym mine ∙ own in
    let left : steps ≡ [] =
    nobody_did steps (at_each (λ who. steps_of who steps ≡ []) me (rest_same first.1 step (steps_of me steps) [] both)
    (λ who apart. sym (other_first who first steps (λ is. apart (is ∙ same))) ∙ others who apart)) in
    ap (λ (rest : List (ℕ × MailStep)). first ∷ rest) left
    ∙ ap (λ (who : ℕ). (who, first.1) ∷ []) same
    ∙ ap (λ (did : MailStep). (me, did) ∷ []) (first_same first.1 step (steps_of me steps) [] both))
    (λ (apart : first.0 ≡ me → ⊥).
    let some : first.1 ∷ steps_of first.0 steps ≡ [] = sym (own_first first steps) ∙ others first.0 apart in
    cc)
    (cases_eq first.0 me)
