-- What the participants of a hall share goes along with its course, while one of them alone does something and the clock stands.
use Rattle.std.proofs.Common.{◌≡◌, ◌∙◌, ℕ, ◌≤◌, List, [], ◌∷◌, drop, length, Option, Some, None, refl, sym, ap, subst}
use Rattle.std.specs.Prelude.{slice_get}
use Rattle.std.specs.Option.{option_map}
use Rattle.std.proofs.lemmas.List.{length-set}
use Rattle.std.proofs.lemmas.Option.{same_Some, slice_get-map}
use Rattle.hp_base.specs.declared.limits.TheConstants.{MAX_HEAPS, MAX_PARTICIPANTS}
use Rattle.hp_frame.specs.declared.frame.Frame.{Frame}
use Rattle.hp_segs.specs.SegsView.{SegsView}
use Rattle.hp_plain.specs.Course.{IsCourse}
use Rattle.hp_plain.specs.HallView.{HallView, IsHall, SlotView, segs_in, slot_at}
use Rattle.hp_plain.specs.Keeping.{IsKeptBy, values_in}
use Rattle.hp_hall.specs.Mail.{Fetches, Gives, MailStep, Notes, Posts, Takes}
use Rattle.hp_plain.specs.Boxes.{IsMail, after_step, box_after, box_of}
use Rattle.hp_plain.specs.Meters.{AreMetered, meters_in}
use Rattle.hp_hall.specs.Values.{Fits}
use Rattle.hp_hall.specs.Views.{segs_of}
use Rattle.hp_hall.specs.declared.kept.Kept.{Kept}
use Rattle.hp_hall.specs.declared.kept.Kept.TheVariants.{Heap, Names, Segments}
use Rattle.hp_hall.specs.declared.note.Note.{Note}
use Rattle.hp_hall.specs.declared.note.Note.TheVariants.{Paused}
use Rattle.hp_plain.proofs.Slotted.{value_at}
use Rattle.hp_solo.specs.Sequence.{IsCall, IsCallNote}
use Rattle.thm_causes.specs.Shared.{IsSharedIn, Shared}
use Rattle.thm_causes.specs.RunStates.{AreCalls, CoursesGoAlong, GoesAlong, IsInOrder}
use Rattle.thm_causes.proofs.StepsAlong.{AreStill, FitSlots, IsStill, made_by, steps_along}

-- a hall is
pub in_order : (hall : HallView) → IsHall hall → IsInOrder hall
in_order hall is = record { fits = is.fits; boxes = is.boxes; few = is.few }

-- no step makes mailboxes, or takes any away
after_count : (who : ℕ) (step : MailStep) (boxes : List (List Frame)) → length (after_step who step boxes) ≡ length boxes
after_count who (Posts to frame action posted) boxes = length-set boxes to (box_after frame posted (box_of boxes to))
after_count who (Fetches frame) boxes = length-set boxes who (drop 1 (box_of boxes who))
after_count who (Takes number kept) boxes = refl
after_count who (Gives number kept) boxes = refl
after_count who (Notes note) boxes = refl

mail_count : (steps : List (ℕ × MailStep)) (old new : List (List Frame)) → IsMail steps old new → length new ≡ length old
mail_count [] old new mail = ap length mail
mail_count (step ∷ steps) old new mail =
    mail_count steps (after_step step.0 step.1 old) new mail.1 ∙ after_count step.0 step.1 old

kept_in : (number : ℕ) (slot : Option SlotView) (kept : Kept) → option_map (λ slot. slot.kept) slot ≡ Some kept
    → ((its : SlotView) → slot ≡ Some its → Fits number its.kept) → Fits number kept
kept_in number None kept is fits = cc
kept_in number (Some slot) kept is fits = subst (Fits number) (same_Some slot.kept kept is) (fits slot refl)

-- what slots keep is of the slots
pub fits_values : (hall : HallView) → IsInOrder hall → FitSlots (values_in hall)
fits_values hall order number kept there =
    kept_in number (slot_at hall number) kept (sym (slice_get-map (λ (slot : SlotView). slot.kept) hall.slots number) ∙ there)
    (order.fits number)

segs_kept : (kept : Kept) (segs : SegsView) → segs_of kept ≡ Some segs → kept ≡ Segments segs
segs_kept (Heap heap pen) segs is = cc
segs_kept (Names names) segs is = cc
segs_kept (Segments its) segs is = ap Segments (same_Some its segs is)

pub segs_shown : (slot : Option SlotView) (segs : SegsView) → segs_in slot ≡ Some segs
    → option_map (λ slot. slot.kept) slot ≡ Some (Segments segs)
segs_shown None segs is = cc
segs_shown (Some slot) segs is = ap Some (segs_kept slot.kept segs is)

shown_segs : (slot : Option SlotView) (segs : SegsView) → option_map (λ slot. slot.kept) slot ≡ Some (Segments segs)
    → segs_in slot ≡ Some segs
shown_segs None segs is = cc
shown_segs (Some slot) segs is = ap segs_of (same_Some slot.kept (Segments segs) is)

-- where that participant alone did something, the steps are its own of the course, and the clock stands
pub shared_along : (old new : HallView) (who : ℕ) (steps : List MailStep) (course : IsCourse old new)
    → course.steps ≡ made_by who steps → AreStill steps → IsInOrder old → (at : Shared) → IsSharedIn old at → GoesAlong who steps at new
shared_along old new who steps course are still order at shared =
    let segs : slice_get (values_in old) MAX_HEAPS ≡ Some (Segments at.segs) =
    slice_get-map (λ (slot : SlotView). slot.kept) old.slots MAX_HEAPS ∙ segs_shown (slot_at old MAX_HEAPS) at.segs shared.segs in
    let last =
    steps_along (length old.owns) who steps old.boxes new.boxes (values_in old) (values_in new) (meters_in old) (meters_in new) at
    (record {
      fits = fits_values old order;
      segs = segs;
      boxes_are = shared.boxes;
      clock = shared.clock;
      numbers = shared.numbers;
    }) still
    (subst (λ (steps : List (ℕ × MailStep)). IsMail steps old.boxes new.boxes) are course.boxes)
    (subst (λ (steps : List (ℕ × MailStep)). IsKeptBy (length old.owns) steps (values_in old) (values_in new)) are course.kept)
    (subst (λ (steps : List (ℕ × MailStep)). AreMetered steps (meters_in old) (meters_in new)) are course.meters) in
    record {
      at = last.at;
      made = last.made;
      shared = record {
        segs = shown_segs (slot_at new MAX_HEAPS) last.at.segs
            (sym (slice_get-map (λ (slot : SlotView). slot.kept) new.slots MAX_HEAPS) ∙ last.shown.segs);
        boxes = last.shown.boxes_are;
        clock = last.shown.clock;
        numbers = last.shown.numbers;
      };
      order = record {
        fits = λ number slot there. last.shown.fits number slot.kept (value_at new number slot there);
        boxes = mail_count course.steps old.boxes new.boxes course.boxes ∙ order.boxes ∙ sym course.count;
        few = subst (λ (n : ℕ). n ≤ MAX_PARTICIPANTS) (sym course.count) order.few;
      };
    }

-- so it is by steps that are calls
note_still : (note : Note) → IsCallNote note → IsStill (Notes note)
note_still (Paused moved until) call = absurd call
note_still _ call = tt

call_still : (step : MailStep) → IsCall step → IsStill step
call_still (Posts to frame action posted) call = tt
call_still (Fetches frame) call = tt
call_still (Takes number kept) call = tt
call_still (Gives number kept) call = tt
call_still (Notes note) call = note_still note call

calls_still : (steps : List MailStep) → AreCalls steps → AreStill steps
calls_still [] calls = tt
calls_still (step ∷ steps) calls = (call_still step calls.0, calls_still steps calls.1)

pub courses_go_along : CoursesGoAlong
courses_go_along who steps old new at made calls order shared =
    shared_along old new who steps made.course made.are (calls_still steps calls) order at shared
