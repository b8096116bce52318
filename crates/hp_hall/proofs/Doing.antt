-- Of one step, what its maker did and what the others did.
use Rattle.std.proofs.Common.{◌≡◌, ◌≢◌, ℕ, cond, eq-eqb, ne_eqb, Bool, List, [], ◌∷◌, map, refl, sym, ap}
use Rattle.hp_hall.specs.Mail.{MailStep, steps_of}

-- what a participant did, by whether the step is its own
abbrev chosen : ℕ → ℕ × MailStep → Bool → List MailStep
chosen who step made = map (λ (s : ℕ × MailStep). s.1) (cond made (step ∷ []) [])

pub own_step : (me : ℕ) (step : MailStep) → steps_of me ((me, step) ∷ []) ≡ step ∷ []
own_step me step = ap (chosen me (me, step)) (eq-eqb me me refl)

pub other_step : (who me : ℕ) (step : MailStep) → who ≢ me → steps_of who ((me, step) ∷ []) ≡ []
other_step who me step apart = ap (chosen who (me, step)) (ne_eqb me who (λ same. apart (sym same)))
