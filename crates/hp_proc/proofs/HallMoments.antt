-- What a participant did in a hall, told by its number there and by how many there are.
use Rattle.std.proofs.Common.{◌≡◌, ◌++◌, ℕ, List, subst}
use Rattle.hp_hall.specs.HallState.{HallState}
use Rattle.hp_hall.specs.Mail.{MailStep}
use Rattle.hp_hall.proofs.HallStates.{did_then}
use Rattle.hp_proc.specs.Doing.{Doing}
use Rattle.hp_proc.specs.LineInHall.{did_in, moment}
use Rattle.hp_proc.specs.ParticipantView.{ParticipantView}
use Rattle.hp_proc.specs.Progress.{Does, Moment}
use Rattle.hp_proc.proofs.Joining.{does_then}

-- it is told alike by a number that is the same
pub told_alike : (P : ℕ → (List MailStep → Type 0) → Moment → Moment → Type 0) (counted many : ℕ) (old new : HallState) (now who : ℕ)
    (before behind : Moment → Moment) (doer after : ParticipantView) → now ≡ who → counted ≡ many
    → P counted (did_in now old new) (before (moment now doer old)) (behind (moment now after new))
    → P many (did_in who old new) (before (moment who doer old)) (behind (moment who after new))
told_alike P counted many old new now who before behind doer after same count_is told =
    subst (λ (many : ℕ). P many (did_in who old new) (before (moment who doer old)) (behind (moment who after new))) count_is
    (subst (λ (who : ℕ). P counted (did_in who old new) (before (moment who doer old)) (behind (moment who after new))) same told)

-- what it did next joins with what it did before
pub does_more : {held more : List ℕ} (first second third : HallState) (now who : ℕ) (mid behind : Moment → Moment) (doer after : ParticipantView) (old : Moment)
    (doing left rest : Doing) → now ≡ who → second.count ≡ first.count
    → Does held first.count (did_in who first second) doing left old (mid (moment who doer second))
    → Does more second.count (did_in now second third) left rest (mid (moment now doer second)) (behind (moment now after third))
    → Does (held ++ more) first.count (did_in who first third) doing rest old (behind (moment who after third))
does_more {held} {more} first second third now who mid behind doer after old doing left rest same count_is here there =
    does_then first.count (did_in who first second) (did_in who second third) (did_in who first third) doing left rest old
    (mid (moment who doer second)) (behind (moment who after third)) (λ steps next one other. did_then one other) here
    (told_alike (λ count did before later. Does more count did left rest before later) second.count first.count second third now who mid behind doer
    after same count_is there)
