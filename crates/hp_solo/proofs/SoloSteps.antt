-- Steps of a hall and who made them: what one alone did, and one more step.
use Rattle.std.proofs.Common.{◌≡◌, ◌≢◌, ℕ, ◌⊎◌, eqb, cond, Bool, true, false, true≢false, List, [], ◌∷◌, ◌++◌, map, refl, sym, ap, ◌∙◌, ⊎_elim}
use Rattle.std.specs.List.{AllByRecursion, filter}
use Rattle.std.proofs.lemmas.Bool.{cases_eq, eq-eqb}
use Rattle.hp_plain.specs.PlainPosts.{steps_of-append}
use Rattle.hp_plain.specs.HallView.{HallView, HasDone}
use Rattle.hp_hall.specs.Mail.{MailStep, steps_of}
use Rattle.hp_hall.proofs.Doing.{other_step, own_step}

abbrev made_by : ℕ → ℕ × MailStep → Bool
made_by who step = eqb step.0 who

abbrev what : ℕ × MailStep → MailStep
what step = step.1

-- who did nothing did not do the first step, and nothing of the rest
idle_by : (who : ℕ) (step : ℕ × MailStep) (rest : List (ℕ × MailStep)) (is : Bool) → made_by who step ≡ is
    → map what (cond is (step ∷ rest) rest) ≡ [] → (step.0 ≢ who) × (map what rest ≡ [])
idle_by who step rest true is none = cc
idle_by who step rest false is none = (λ same. true≢false (sym (eq-eqb step.0 who same) ∙ is), none)

idle : (who : ℕ) (step : ℕ × MailStep) (steps : List (ℕ × MailStep)) → steps_of who (step ∷ steps) ≡ []
    → (step.0 ≢ who) × (steps_of who steps ≡ [])
idle who step steps none = idle_by who step (filter (made_by who) steps) (made_by who step) refl none

-- where all others did nothing, each step is by one of those
pub by_those : (those : ℕ → Type 0) → ((who : ℕ) → those who ⊎ (those who → ⊥)) → (steps : List (ℕ × MailStep))
    → ((who : ℕ) → (those who → ⊥) → steps_of who steps ≡ []) → AllByRecursion (λ step. those step.0) steps
by_those those among [] none = tt
by_those those among (step ∷ steps) none = (
  ⊎_elim (λ (is : those step.0). is) (λ (apart : those step.0 → ⊥). absurd ((idle step.0 step steps (none step.0 apart)).0 refl)) (among step.0),
  by_those those among steps (λ who apart. (idle who step steps (none who apart)).1),
)

-- steps of one
abbrev pub steps_by : ℕ → List MailStep → List (ℕ × MailStep)
steps_by me did = map (λ step. (me, step)) did

-- what one did who made all steps is all of them
all_own : (me : ℕ) (steps : List (ℕ × MailStep)) → AllByRecursion (λ step. step.0 ≡ me) steps → steps ≡ steps_by me (steps_of me steps)
all_own me [] own = refl
all_own me (step ∷ steps) own =
    let mine : steps_of me (step ∷ steps) ≡ step.1 ∷ steps_of me steps =
    ap (λ (made : Bool). map what (cond made (step ∷ filter (made_by me) steps) (filter (made_by me) steps))) (eq-eqb step.0 me own.0) in
    ap (λ (rest : List (ℕ × MailStep)). step ∷ rest) (all_own me steps own.1)
    ∙ ap (λ (who : ℕ). (who, step.1) ∷ steps_by me (steps_of me steps)) own.0
    ∙ sym (ap (steps_by me) mine)

-- where one did that, and nobody else anything, it is all that was done
pub sole_steps : (me : ℕ) (did : List MailStep) (steps : List (ℕ × MailStep)) → steps_of me steps ≡ did
    → ((who : ℕ) → who ≢ me → steps_of who steps ≡ []) → steps ≡ steps_by me did
sole_steps me did steps own others =
    all_own me steps (by_those (λ who. who ≡ me) (λ who. cases_eq who me) steps others) ∙ ap (steps_by me) own

-- one step of one: who made it, and who made none
module _ (old new : HallView) (me : ℕ) (step : MailStep) (mail : new.mail ≡ old.mail ++ (me, step) ∷ []) where
  did_one : (who : ℕ) → HasDone old new who (steps_of who ((me, step) ∷ []))
  did_one who = ap (steps_of who) mail ∙ steps_of-append who old.mail ((me, step) ∷ [])

  pub did_itself : HasDone old new me (step ∷ [])
  did_itself = did_one me ∙ ap (λ (did : List MailStep). steps_of me old.mail ++ did) (own_step me step)

  pub did_apart : (who : ℕ) → who ≢ me → HasDone old new who []
  did_apart who apart = did_one who ∙ ap (λ (did : List MailStep). steps_of who old.mail ++ did) (other_step who me step apart)
