-- What a call that makes one step leaves, whichever call it is.
use Rattle.std.proofs.Common.{◌≡◌, ℕ, List, [], ◌∷◌, ◌++◌, ◌<◌, length, refl, sym, ap, subst, arith}
use Rattle.std.specs.List.{slice_index_or}
use Rattle.hp_plain.specs.Course.{IsCourse}
use Rattle.hp_plain.specs.HallSteps.{with_mail, with_note}
use Rattle.hp_plain.specs.HallView.{HallView, HasDone, IsHome, joined_in, lines_at, own_at, part_in, slot_at, taken_from}
use Rattle.hp_plain.specs.Told.{ShowsTold, told_after, told_of}
use Rattle.hp_plain.specs.InTurn.{ShowsHome, homes_after, homes_in}
use Rattle.hp_plain.specs.Keeping.{ShowsValues, values_after, values_in}
use Rattle.hp_plain.specs.UnderNames.{ShowsRanges}
use Rattle.hp_hall.specs.Mail.{MailStep, Notes, counted_on, full_post, steps_of}
use Rattle.hp_hall.specs.Telling.{has_names}
use Rattle.hp_plain.specs.Boxes.{IsMailStep}
use Rattle.hp_plain.specs.Meters.{IsMetered, IsNoted, meters_in}
use Rattle.hp_hall.specs.Own.{Own, after_ack}
use Rattle.hp_hall.specs.declared.note.Note.{Note}
use Rattle.hp_plain.proofs.Mailed.{course_mail, noted_last}

-- the step is the last of its maker's, own parts, lines and the clock are as they were, and the hall goes on
pub record MakesStep (who : ℕ) (step : MailStep) (old new : HallView) : Type 0 where
  pub did : (other : ℕ) → HasDone old new other (steps_of other ((who, step) ∷ []))
  pub own : (other : ℕ) → own_at new other ≡ own_at old other
  pub lines : (other : ℕ) → lines_at new other ≡ lines_at old other
  pub clock : new.clock ≡ old.clock
  pub course : IsCourse old new

pub makes_step : (old new : HallView) (who : ℕ) (step : MailStep) → new.mail ≡ old.mail ++ (who, step) ∷ [] → new.owns ≡ old.owns
    → new.lines ≡ old.lines → new.clock ≡ old.clock → IsCourse old new → MakesStep who step old new
makes_step old new who step mail owns lines clock course = record {
  did = noted_last old new who step mail;
  own = λ other. ap (λ (l : List Own). slice_index_or l other (after_ack 0)) owns;
  lines = λ other. ap (λ (l : List ℕ). slice_index_or l other 0) lines;
  clock = clock;
  course = course;
}

-- a step with mailboxes alone: all slots are as they were
pub record MakesMail (who : ℕ) (step : MailStep) (old new : HallView) : Type 0 where
  pub makes : MakesStep who step old new
  pub taken : (number : ℕ) → taken_from (slot_at new number) ≡ taken_from (slot_at old number)
  pub home : (number : ℕ) → IsHome (slot_at old number) → IsHome (slot_at new number)
  pub part : (other heap : ℕ) → part_in new other heap ≡ part_in old other heap
  pub joined : (other : ℕ) → joined_in new other ≡ joined_in old other

pub makes_mail : (old new : HallView) (who : ℕ) (step : MailStep) (full_mailboxes : ℕ) → new ≡ with_mail who step full_mailboxes old
    → who < length old.owns → IsMailStep who step old.boxes → ShowsValues who step (values_in old)
    → values_after step (values_in old) ≡ values_in old → ShowsHome step (homes_in old) → homes_after step (homes_in old) ≡ homes_in old
    → IsMetered who step (meters_in old) (meters_in old) → ShowsTold who step (told_of old) → told_after who step (told_of old) ≡ told_of old
    → full_mailboxes ≡ counted_on (full_post step) old.full_mailboxes → ShowsRanges (has_names (steps_of who old.mail)) step (values_in old)
    → MakesMail who step old new
makes_mail old new who step full_mailboxes is declared mailed shows still shows_home still_home metered shows_told still_told counts ranges = record {
  makes = makes_step old new who step (ap (λ (h : HallView). h.mail) is) (ap (λ (h : HallView). h.owns) is)
      (ap (λ (h : HallView). h.lines) is) (ap (λ (h : HallView). h.clock) is)
      (subst (IsCourse old) (sym is)
      (course_mail old who step full_mailboxes declared mailed shows still shows_home still_home metered shows_told still_told counts ranges));
  taken = λ number. ap (λ (h : HallView). taken_from (slot_at h number)) is;
  home = λ number home. subst (λ (h : HallView). IsHome (slot_at h number)) (sym is) home;
  part = λ other heap. ap (λ (h : HallView). part_in h other heap) is;
  joined = λ other. ap (λ (h : HallView). joined_in h other) is;
}

-- a note alone: the mailboxes are as they were too
pub makes_note : (old new : HallView) (who : ℕ) (note : Note) → new ≡ with_note who note old → who < length old.owns
    → IsNoted who note (meters_in old) (meters_in old) → ShowsTold who (Notes note) (told_of old)
    → told_after who (Notes note) (told_of old) ≡ told_of old → MakesMail who (Notes note) old new
makes_note old new who note is declared noted shows_told still_told =
    makes_mail old new who (Notes note) old.full_mailboxes is declared tt tt refl tt refl noted shows_told still_told (omega arith) tt
