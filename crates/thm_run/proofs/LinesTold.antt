-- How many lines a participant has told to be done stays while it tells of none.
use Rattle.std.proofs.Common.{◌≡◌, ◌≢◌, ◌∙◌, ℕ, zero, suc, List, [], ◌∷◌, refl, ap, sym, subst, ⊎_elim}
use Rattle.std.specs.Prelude.{slice_index_or, slice_set}
use Rattle.std.proofs.lemmas.Bool.{cases_eq}
use Rattle.hp_hall.specs.Mail.{Fetches, Gives, MailStep, Notes, Posts, Takes, steps_of}
use Rattle.hp_hall.specs.declared.note.Note.{Note}
use Rattle.hp_hall.specs.declared.note.Note.TheVariants.{Published, Stored}
use Rattle.hp_plain.specs.Course.{IsCourse}
use Rattle.hp_plain.specs.HallView.{HallView, lines_at}
use Rattle.hp_plain.specs.Told.{AreTold, Told, told_after, told_of}
use Rattle.thm_run.proofs.HeapGivers.{GiveNoHeap, IsNoGive}
use Rattle.thm_run.proofs.PathSteps.Walk.{steps_elsewhere, steps_here}

-- what stands elsewhere stays
set_elsewhere : (lines : List ℕ) (maker who count : ℕ) → maker ≢ who → slice_index_or (slice_set lines maker count) who 0 ≡ slice_index_or lines who 0
set_elsewhere [] maker who count apart = refl
set_elsewhere (line ∷ lines) zero zero count apart = absurd (apart refl)
set_elsewhere (line ∷ lines) zero (suc who) count apart = refl
set_elsewhere (line ∷ lines) (suc maker) zero count apart = refl
set_elsewhere (line ∷ lines) (suc maker) (suc who) count apart = set_elsewhere lines maker who count (λ same. apart (ap suc same))

-- another one's step leaves it, and so does one's own that tells of no line
other_tells : (maker who : ℕ) (step : MailStep) (told : Told) → maker ≢ who
    → slice_index_or (told_after maker step told).lines who 0 ≡ slice_index_or told.lines who 0
other_tells maker who (Notes (Stored lines)) told apart = set_elsewhere told.lines maker who lines apart
other_tells maker who (Notes (Published number pair)) told apart = refl
other_tells maker who _ told apart = refl

own_tells : (maker : ℕ) (step : MailStep) (told : Told) → IsNoGive step → (told_after maker step told).lines ≡ told.lines
own_tells maker (Notes (Stored lines)) told none = absurd none
own_tells maker (Notes (Published number pair)) told none = refl
own_tells maker _ told none = refl

lines_on : (who : ℕ) (steps : List (ℕ × MailStep)) (old new : Told) → AreTold steps old new → GiveNoHeap (steps_of who steps)
    → slice_index_or new.lines who 0 ≡ slice_index_or old.lines who 0
lines_on who [] old new told none = ap (λ (told : Told). slice_index_or told.lines who 0) told
lines_on who (step ∷ steps) old new told none =
    ⊎_elim
    (λ (same : step.0 ≡ who).
    let mine : GiveNoHeap (step.1 ∷ steps_of who steps) =
    subst GiveNoHeap (steps_here who step.1 steps)
    (subst (λ (maker : ℕ). GiveNoHeap (steps_of who ((maker, step.1) ∷ steps))) same none) in
    lines_on who steps (told_after step.0 step.1 old) new told.1 mine.1
    ∙ ap (λ (lines : List ℕ). slice_index_or lines who 0) (own_tells step.0 step.1 old mine.0))
    (λ (apart : step.0 ≢ who).
    lines_on who steps (told_after step.0 step.1 old) new told.1 (subst GiveNoHeap (steps_elsewhere who step.0 step.1 steps apart) none)
    ∙ other_tells step.0 who step.1 old apart)
    (cases_eq step.0 who)

-- so it is in a hall
pub lines_still : (who : ℕ) (old new : HallView) (course : IsCourse old new) → GiveNoHeap (steps_of who course.steps)
    → lines_at new who ≡ lines_at old who
lines_still who old new course none = lines_on who course.steps (told_of old) (told_of new) course.told none
