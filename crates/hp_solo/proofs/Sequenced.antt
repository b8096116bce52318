-- A call of one that is away in a hall of one thread, as one of its sequence.
use Rattle.std.proofs.Common.{◌≡◌, ◌≢◌, ℕ, Bool, true, false, List, [], ◌∷◌, Option, Some, ap, subst, ◌∙◌}
use Rattle.std.specs.Prelude.{IfSome}
use Rattle.hp_plain.specs.Course.{IsCourse, done_then}
use Rattle.hp_plain.specs.HallSteps.{after_pause, with_note}
use Rattle.hp_plain.specs.HallView.{HallView, HasDone}
use Rattle.hp_hall.specs.Mail.{MailStep, Notes}
use Rattle.hp_hall.specs.declared.note.Note.TheVariants.{Paused, Yielded}
use Rattle.hp_solo.proofs.Steps.{done_between}
use Rattle.hp_solo.specs.Beside.{HaveServedBeside}
use Rattle.hp_solo.specs.Sequence.{IsInSequence, IsMadeBy, Makes, Sequence, VisitsBeside}
use Rattle.hp_solo.specs.Solo.{IsAway, IsNextDue, AloneView, SoloView, has_stopped, server_at}
use Rattle.hp_solo.proofs.SoloSteps.{did_itself, sole_steps}
use Rattle.hp_solo.proofs.SoloTurns.{not_beside}

-- what one did, where nobody else did anything
pub made_by : (who : ℕ) (steps : List MailStep) (old new : HallView) → IsCourse old new → HasDone old new who steps
    → ((other : ℕ) → other ≢ who → HasDone old new other []) → IsMadeBy who steps old new
made_by who steps old new course did others = record {
  course = course;
  are =
      sole_steps who steps course.steps (done_between old new who course.steps steps course.mail did)
      (λ other apart. done_between old new other course.steps [] course.mail (others other apart));
}

-- what it did where it alone is away
module _ (me : ℕ) (old new : SoloView) (away : IsAway (server_at old.servers me)) where
  in_sequence : (steps : List MailStep) → HasDone old.plain new.plain me steps → (has_stopped new.servers ≡ false → Sequence me old steps new)
      → IsInSequence old new
  in_sequence steps did sequence = λ who alone going.
      subst (λ (n : ℕ). (steps : List MailStep) × HasDone old.plain new.plain n steps × Sequence n old steps new) (alone.alone me away)
      (steps, did, sequence going)

  -- one call
  pub one_call : (step : MailStep) → HasDone old.plain new.plain me (step ∷ []) → (has_stopped new.servers ≡ false → Makes me old new step)
      → IsInSequence old new
  one_call step did makes =
      in_sequence (step ∷ []) did (λ going. Sequence.goes_on old new new step [] (makes going) (Sequence.stands new))

  -- a pause
  pub paused : (moved : Bool) (until : Option ℕ) (reading : ℕ) → new.plain ≡ after_pause me moved until reading old.plain
      → new.servers ≡ old.servers → (moved ≡ true → reading ≡ old.plain.clock)
      → (moved ≡ false → IfSome until (λ deadline. IsNextDue old.plain.clock old.servers deadline reading)) → IsInSequence old new
  paused moved until reading same servers still next =
      let step = Notes (Paused moved until) in
      let makes =
      subst
      (λ (at : ℕ). new.plain ≡ after_pause me moved until at old.plain → (moved ≡ true → at ≡ old.plain.clock)
      → (moved ≡ false → IfSome until (λ deadline. IsNextDue old.plain.clock old.servers deadline at))
      → Makes me old new (Notes (Paused moved until)))
      (ap (λ (hall : HallView). hall.clock) same)
      (λ is stays goes. Makes.pauses moved until is servers stays goes) same still next in
      one_call step (did_itself old.plain new.plain me step (ap (λ (hall : HallView). hall.mail) same)) (λ going. makes)

-- those on one side served, and then that was noted
pub yielded : (me : ℕ) (above moved : Bool) (old between new : SoloView) → IsAway (server_at old.servers me)
    → HaveServedBeside me above old between moved → (has_stopped between.servers ≡ false → VisitsBeside me above old between)
    → new.plain ≡ with_note me (Yielded above (Some moved)) between.plain → new.servers ≡ between.servers → IsInSequence old new
yielded me above moved old between new away served visits plain servers =
    let step = Notes (Yielded above (Some moved)) in
    let did : HasDone old.plain new.plain me (step ∷ []) =
    done_then old.plain between.plain new.plain me [] (step ∷ []) (served.serving.did me (not_beside me above))
    (did_itself between.plain new.plain me step (ap (λ (hall : HallView). hall.mail) plain)) in
    let noted : new ≡ record between { plain = with_note me (Yielded above (Some moved)) between.plain } =
    ap (λ (all : List AloneView). record new { servers = all }) servers ∙ ap (λ (hall : HallView). record between { plain = hall }) plain in
    one_call me old new away step did
    (λ going. Makes.yields above moved between
    (visits (subst (λ (all : List AloneView). has_stopped all ≡ false) servers going)) served.quiet noted)
