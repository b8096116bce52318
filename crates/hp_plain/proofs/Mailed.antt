-- Steps with mailboxes: what they weigh, what they are noted as, and the course of a hall that made one.
use Rattle.std.proofs.Common.{◌≡◌, ℕ, ◌+◌, ◌*◌, ◌<◌, ◌≤◌, List, [], ◌∷◌, ◌++◌, length, set, drop, replicate, refl, ap, sym, ◌∙◌, arith}
use Rattle.std.specs.List.{slice_get, sum_by}
use Rattle.std.proofs.lemmas.List.Sums.{sum_by-set, sum_by-append, sum_by-cons}
use Rattle.hp_frame.specs.declared.frame.Frame.{Frame}
use Rattle.hp_mail.specs.declared.posted.Posted.{Posted}
use Rattle.hp_mail.specs.declared.posted.Posted.TheVariants.{Sent, Twice, Lost, Full}
use Rattle.hp_plain.specs.Course.{IsCourse, slot_same}
use Rattle.hp_plain.specs.HallSteps.{with_mail}
use Rattle.hp_plain.specs.HallView.{HallView, HasDone, slot_at}
use Rattle.hp_plain.specs.InTurn.{ShowsHome, homes_after, homes_in}
use Rattle.hp_plain.specs.UnderNames.{ShowsRanges}
use Rattle.hp_hall.specs.Telling.{has_names}
use Rattle.hp_plain.specs.Keeping.{ShowsValues, values_after, values_in}
use Rattle.hp_hall.specs.Mail.{MailStep, counted_on, full_post, steps_of}
use Rattle.hp_plain.specs.Boxes.{IsMailStep, box_after, box_of, copies}
use Rattle.hp_plain.specs.Meters.{IsMetered, meters_in}
use Rattle.hp_plain.specs.PlainPosts.{steps_of-append}
use Rattle.hp_plain.specs.Told.{ShowsTold, told_after, told_of}
use Rattle.hp_hall.specs.Measures.{box_measure, boxes_measure, fetched_measure, frame_measure}

copies_weigh : (measure : Frame → ℕ) (frame : Frame) (posted : Posted) → sum_by measure (replicate (copies posted) frame) ≤ 2 * measure frame
copies_weigh measure frame Sent = omega arith
copies_weigh measure frame Twice = omega arith
copies_weigh measure frame (Lost line) = omega arith
copies_weigh measure frame Full = omega arith

-- a post adds at most twice the measure of its frame
pub post_weighs : (boxes : List (List Frame)) (to : ℕ) (frame : Frame) (posted : Posted) → to < length boxes
    → boxes_measure (set boxes to (box_after frame posted (box_of boxes to))) ≤ boxes_measure boxes + 2 * frame_measure frame
post_weighs boxes to frame posted below =
    let box : List Frame = box_of boxes to in
    let put = sum_by-set box_measure boxes to (box_after frame posted box) [] below in
    let both = sum_by-append frame_measure box (replicate (copies posted) frame) in
    omega (arith, put, both, copies_weigh frame_measure frame posted)

front_weighs : (box : List Frame) → box_measure (drop 1 box) + fetched_measure (slice_get box 0) ≡ box_measure box
front_weighs [] = refl
front_weighs (frame ∷ box) =
    let rest : box_measure (drop 1 (frame ∷ box)) ≡ box_measure box = refl in
    let front : fetched_measure (slice_get (frame ∷ box) 0) ≡ frame_measure frame = refl in
    omega (arith, rest, front, sum_by-cons frame_measure frame box)

-- a fetch takes what the frame weighs
pub fetch_weighs : (boxes : List (List Frame)) (who : ℕ) → who < length boxes
    → boxes_measure (set boxes who (drop 1 (box_of boxes who))) + fetched_measure (slice_get (box_of boxes who) 0) ≤ boxes_measure boxes
fetch_weighs boxes who below =
    let box : List Frame = box_of boxes who in
    omega (arith, sum_by-set box_measure boxes who (drop 1 box) [] below, front_weighs box)

-- of two states with such a step between them, each participant did what it made
pub noted_last : (old new : HallView) (me : ℕ) (step : MailStep) → new.mail ≡ old.mail ++ (me, step) ∷ [] → (who : ℕ)
    → HasDone old new who (steps_of who ((me, step) ∷ []))
noted_last old new me step is who = ap (steps_of who) is ∙ steps_of-append who old.mail ((me, step) ∷ [])

pub course_mail : (hall : HallView) (who : ℕ) (step : MailStep) (full_mailboxes : ℕ) → who < length hall.owns → IsMailStep who step hall.boxes
    → ShowsValues who step (values_in hall) → values_after step (values_in hall) ≡ values_in hall → ShowsHome step (homes_in hall)
    → homes_after step (homes_in hall) ≡ homes_in hall → IsMetered who step (meters_in hall) (meters_in hall)
    → ShowsTold who step (told_of hall) → told_after who step (told_of hall) ≡ told_of hall → full_mailboxes ≡ counted_on (full_post step) hall.full_mailboxes
    → ShowsRanges (has_names (steps_of who hall.mail)) step (values_in hall) → IsCourse hall (with_mail who step full_mailboxes hall)
course_mail hall who step full_mailboxes declared is shows still shows_home still_home metered shows_told still_told counts ranges = record {
  count = refl;
  slots = λ number. slot_same (slot_at hall number);
  numbers = λ other. omega arith;
  clock = omega arith;
  steps = (who, step) ∷ [];
  mail = refl;
  full_mailboxes = omega (arith, counts);
  boxes = (is, refl);
  kept = (record { declared = declared; shows = shows }, sym still);
  ranges = (ranges, tt);
  turns = (shows_home, sym still_home);
  meters = (meters_in hall, metered, refl);
  told = (shows_told, sym still_told);
  agreed = λ agreed. agreed;
}
