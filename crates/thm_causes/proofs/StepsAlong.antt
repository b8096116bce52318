-- What mailboxes, slots and notes show of steps of one participant, by which the clock stands, is what the steps make of what is shared.
use Rattle.std.proofs.Common.{◌≡◌, ◌≢◌, ◌∙◌, ℕ, ◌<◌, ◌≤◌, List, [], ◌∷◌, ◌++◌, drop, length, map, Option, Some, refl, sym, ap, subst, ⊎_elim, arith}
use Rattle.std.specs.Prelude.{⊤, slice_get, slice_index_or, slice_set}
use Rattle.std.specs.List.{AllByRecursion}
use Rattle.std.proofs.lemmas.Bool.{cases_eq}
use Rattle.std.proofs.lemmas.Option.{same_Some, slice_get_within}
use Rattle.hp_base.specs.declared.limits.TheConstants.{MAX_HEAPS}
use Rattle.hp_base.specs.declared.plan.Action.{Action}
use Rattle.hp_frame.specs.declared.frame.Frame.{Frame}
use Rattle.hp_heap.specs.History.{HeapView}
use Rattle.hp_segs.specs.SegsView.{SegsView}
use Rattle.hp_plain.specs.Keeping.{GivesInto, IsGivenBy, IsKeptBy, ShowsValues, values_after}
use Rattle.hp_hall.specs.Mail.{Fetches, Gives, MailStep, Notes, Posts, Takes}
use Rattle.hp_plain.specs.Boxes.{IsMail, IsMailStep, after_step, box_after, box_of, posted_as}
use Rattle.hp_plain.specs.Meters.{AreMetered, IsMetered, IsNoted, Meters}
use Rattle.hp_hall.specs.Values.{Fits}
use Rattle.hp_hall.specs.declared.kept.Kept.{Kept}
use Rattle.hp_hall.specs.declared.kept.Kept.TheVariants.{Heap, Names, Segments}
use Rattle.hp_hall.specs.declared.note.Note.{Note}
use Rattle.hp_hall.specs.declared.note.Note.TheVariants.{Acked, Loaded, Paused, Read}
use Rattle.hp_hall.specs.declared.slot.TheConstants.{NAMES_SLOT}
use Rattle.hp_mail.specs.declared.posted.Posted.{Posted}
use Rattle.hp_stats.specs.StatViews.{PenView}
use Rattle.hp_zone.specs.declared.names.Names.{Names as NamesView}
use Rattle.hp_plain.proofs.Slotted.{slice_get-set_other, slice_get-set_same}
use Rattle.thm_causes.specs.Shared.{Makes, MakesAll, Shared, fetched_by, posted_to, with_boxes, with_number, with_segs}

-- the clock stands by a step
abbrev pub IsStill : MailStep → Type 0
IsStill (Notes (Paused moved until)) = ⊥
IsStill _ = ⊤

-- by none of these steps the clock goes on
abbrev pub AreStill : List MailStep → Type 0
AreStill steps = AllByRecursion IsStill steps

-- steps one after the other
pub still_both : (first last : List MailStep) → AreStill first → AreStill last → AreStill (first ++ last)
still_both [] last here there = there
still_both (step ∷ first) last here there = (here.0, still_both first last here.1 there)

-- steps of one participant, each with its maker
abbrev pub made_by : ℕ → List MailStep → List (ℕ × MailStep)
made_by who steps = map (λ step. (who, step)) steps

-- each value is one of its slot
abbrev pub FitSlots : List Kept → Type 0
FitSlots values = (number : ℕ) (kept : Kept) → slice_get values number ≡ Some kept → Fits number kept

-- mailboxes, values in slots, a clock and numbers show this
pub record IsShown (boxes : List (List Frame)) (values : List Kept) (meters : Meters) (at : Shared) : Type 0 where
  pub fits : FitSlots values
  pub segs : slice_get values MAX_HEAPS ≡ Some (Segments at.segs)
  pub boxes_are : at.boxes ≡ boxes
  pub clock : at.clock ≡ meters.clock
  pub numbers : at.numbers ≡ meters.numbers

-- one step made this of what is shared, and that is shown after it
record IsStep (who : ℕ) (step : MailStep) (boxes : List (List Frame)) (values : List Kept) (meters : Meters) (old : Shared) : Type 0 where
  at : Shared
  made : Makes who step old at
  shown : IsShown boxes values meters at

-- so did steps
pub record AreSteps (who : ℕ) (steps : List MailStep) (boxes : List (List Frame)) (values : List Kept) (meters : Meters)
    (old : Shared) : Type 0 where
  pub at : Shared
  pub made : MakesAll who steps old at
  pub shown : IsShown boxes values meters at

-- VALUES

-- the value in a slot is replaced by one of that slot
pub fits_set : (values : List Kept) (number : ℕ) (kept : Kept) → FitSlots values → number < length values → Fits number kept
    → FitSlots (slice_set values number kept)
fits_set values number kept fits within fit other found there =
    ⊎_elim
    (λ (same : other ≡ number).
    let its : kept ≡ found =
    same_Some kept found
    (sym (slice_get-set_same values number kept within) ∙ ap (slice_get (slice_set values number kept)) (sym same) ∙ there) in
    subst (λ (n : ℕ). Fits n found) (sym same) (subst (Fits number) its fit))
    (λ (apart : other ≢ number). fits other found (sym (slice_get-set_other values number other kept apart) ∙ there))
    (cases_eq other number)

-- a heap comes into a slot in place of a heap
pub given_heap : (who number : ℕ) (before : Kept) (heap : HeapView) (pen : PenView) → IsGivenBy who before (Heap heap pen)
    → Fits number before → Fits number (Heap heap pen)
given_heap who number (Heap taken earlier) heap pen by fit = (by.index ∙ fit.0, fit.1)
given_heap who number (Segments taken) heap pen by fit = absurd by
given_heap who number (Names taken) heap pen by fit = absurd by

-- and a segment value in place of a segment value
pub given_segs : (who number : ℕ) (before : Kept) (segs : SegsView) → IsGivenBy who before (Segments segs) → Fits number before
    → number ≡ MAX_HEAPS
given_segs who number (Heap taken pen) segs by fit = absurd by
given_segs who number (Segments taken) segs by fit = fit
given_segs who number (Names taken) segs by fit = absurd by

-- and names in place of names
pub given_names : (who number : ℕ) (before : Kept) (names : NamesView) → IsGivenBy who before (Names names) → Fits number before
    → number ≡ NAMES_SLOT
given_names who number (Heap taken pen) names by fit = absurd by
given_names who number (Segments taken) names by fit = absurd by
given_names who number (Names taken) names by fit = fit

pub segs_same : (one other : SegsView) → Segments one ≡ Segments other → one ≡ other
segs_same one other same = cc

-- STEP BY STEP

module _ (who : ℕ) (boxes : List (List Frame)) (values : List Kept) (meters : Meters) (old : Shared)
    (shown : IsShown boxes values meters old) where
  -- a step at which nothing that is shared changes
  shown_still : (next : Meters) → next.clock ≡ meters.clock → next.numbers ≡ meters.numbers → IsShown boxes values next old
  shown_still next clock numbers = record {
    fits = shown.fits;
    segs = shown.segs;
    boxes_are = shown.boxes_are;
    clock = shown.clock ∙ sym clock;
    numbers = shown.numbers ∙ sym numbers;
  }

  -- one at which mailboxes alone change
  shown_boxes : (boxes_now boxes_then : List (List Frame)) (next : Meters) → boxes_now ≡ boxes_then → next ≡ meters
      → IsShown boxes_then values next (with_boxes boxes_now old)
  shown_boxes boxes_now boxes_then next are same = record {
    fits = shown.fits;
    segs = shown.segs;
    boxes_are = are;
    clock = shown.clock ∙ sym (ap (λ (meters : Meters). meters.clock) same);
    numbers = shown.numbers ∙ sym (ap (λ (meters : Meters). meters.numbers) same);
  }

  post_along : (to : ℕ) (frame : Frame) (action : Action) (posted : Posted) (next : Meters)
      → posted ≡ posted_as action (length (box_of boxes to)) → next ≡ meters
      → IsStep who (Posts to frame action posted) (slice_set boxes to (box_after frame posted (box_of boxes to))) values next old
  post_along to frame action posted next is same =
      let its : posted ≡ posted_as action (length (box_of old.boxes to)) =
      is ∙ ap (λ (boxes : List (List Frame)). posted_as action (length (box_of boxes to))) (sym shown.boxes_are) in
      record {
        at = posted_to to frame action old;
        made = (its, refl);
        shown = shown_boxes _ (slice_set boxes to (box_after frame posted (box_of boxes to))) next
            (ap (λ (posted : Posted). slice_set old.boxes to (box_after frame posted (box_of old.boxes to))) (sym its)
            ∙ ap (λ (boxes : List (List Frame)). slice_set boxes to (box_after frame posted (box_of boxes to))) shown.boxes_are) same;
      }

  fetch_along : (frame : Option Frame) (next : Meters) → frame ≡ slice_get (box_of boxes who) 0 → next ≡ meters
      → IsStep who (Fetches frame) (slice_set boxes who (drop 1 (box_of boxes who))) values next old
  fetch_along frame next is same = record {
    at = fetched_by who old;
    made = (is ∙ ap (λ (boxes : List (List Frame)). slice_get (box_of boxes who) 0) (sym shown.boxes_are), refl);
    shown = shown_boxes _ (slice_set boxes who (drop 1 (box_of boxes who))) next
        (ap (λ (boxes : List (List Frame)). slice_set boxes who (drop 1 (box_of boxes who))) shown.boxes_are) same;
  }

  take_along : (number : ℕ) (kept : Kept) (next : Meters) → slice_get values number ≡ Some kept → next ≡ meters
      → IsStep who (Takes number kept) boxes values next old
  take_along number (Heap heap pen) next there same =
      record { at = old; made = refl; shown = shown_boxes old.boxes boxes next shown.boxes_are same }
  take_along number (Names names) next there same =
      record { at = old; made = refl; shown = shown_boxes old.boxes boxes next shown.boxes_are same }
  take_along number (Segments segs) next there same =
      let its : number ≡ MAX_HEAPS = shown.fits number (Segments segs) there in
      let one : segs ≡ old.segs =
      segs_same segs old.segs (same_Some (Segments segs) (Segments old.segs) (sym there ∙ ap (slice_get values) its ∙ shown.segs)) in
      record { at = old; made = (one, refl); shown = shown_boxes old.boxes boxes next shown.boxes_are same }

  -- what is given into another slot
  beside : (number : ℕ) (kept : Kept) (next : Meters) → GivesInto who number kept values → next ≡ meters → Fits number kept
      → MAX_HEAPS ≢ number → Makes who (Gives number kept) old old
      → IsStep who (Gives number kept) boxes (slice_set values number kept) next old
  beside number kept next gives same fit apart made =
      let now = shown_boxes old.boxes boxes next shown.boxes_are same in
      record {
        at = old;
        made = made;
        shown = record {
          fits = fits_set values number kept shown.fits (slice_get_within values number gives.before gives.there) fit;
          segs = slice_get-set_other values number MAX_HEAPS kept apart ∙ shown.segs;
          boxes_are = now.boxes_are;
          clock = now.clock;
          numbers = now.numbers;
        };
      }

  give_along : (number : ℕ) (kept : Kept) (next : Meters) → GivesInto who number kept values → next ≡ meters
      → IsStep who (Gives number kept) boxes (slice_set values number kept) next old
  give_along number (Heap heap pen) next gives same =
      let fit = given_heap who number gives.before heap pen gives.by (shown.fits number gives.before gives.there) in
      beside number (Heap heap pen) next gives same fit (λ (is : MAX_HEAPS ≡ number). omega (arith, is, fit.1)) refl
  give_along number (Names names) next gives same =
      let fit = given_names who number gives.before names gives.by (shown.fits number gives.before gives.there) in
      beside number (Names names) next gives same fit (λ (is : MAX_HEAPS ≡ number). omega (arith, is, fit)) refl
  give_along number (Segments segs) next gives same =
      let fit : number ≡ MAX_HEAPS = given_segs who number gives.before segs gives.by (shown.fits number gives.before gives.there) in
      let within = slice_get_within values number gives.before gives.there in
      let was : gives.before ≡ Segments old.segs =
      same_Some gives.before (Segments old.segs) (sym gives.there ∙ ap (slice_get values) fit ∙ shown.segs) in
      let by = subst (λ (before : Kept). IsGivenBy who before (Segments segs)) was gives.by in
      let now = shown_boxes old.boxes boxes next shown.boxes_are same in
      record {
        at = with_segs segs old;
        made = (gives.sound, by.of_armed, refl);
        shown = record {
          fits = fits_set values number (Segments segs) shown.fits within fit;
          segs = subst (λ (n : ℕ). slice_get (slice_set values number (Segments segs)) n ≡ Some (Segments segs)) fit
              (slice_get-set_same values number (Segments segs) within);
          boxes_are = now.boxes_are;
          clock = now.clock;
          numbers = now.numbers;
        };
      }

  note_along : (note : Note) (next : Meters) → IsStill (Notes note) → IsNoted who note meters next
      → IsStep who (Notes note) boxes values next old
  note_along (Read now) next still noted =
      record { at = old; made = (noted.shows ∙ sym shown.clock, refl); shown = shown_still next noted.clock noted.numbers }
  note_along (Loaded participant number) next still noted = record {
    at = old;
    made = (ap (λ (numbers : List ℕ). slice_get numbers participant) shown.numbers ∙ noted.shows, refl);
    shown = shown_still next noted.clock noted.numbers;
  }
  note_along (Acked number) next still noted = record {
    at = with_number who number old;
    made = (subst (λ (numbers : List ℕ). slice_index_or numbers who 0 ≤ number) (sym shown.numbers) noted.shows, refl);
    shown = record {
      fits = shown.fits;
      segs = shown.segs;
      boxes_are = shown.boxes_are;
      clock = shown.clock ∙ sym noted.clock;
      numbers = ap (λ (numbers : List ℕ). slice_set numbers who number) shown.numbers ∙ sym noted.numbers;
    };
  }
  note_along (Paused moved until) next still noted = absurd still
  note_along _ next still noted = record { at = old; made = refl; shown = shown_still next noted.clock noted.numbers }

  -- whatever the step is
  step_along : (step : MailStep) (next : Meters) → IsStill step → IsMailStep who step boxes → ShowsValues who step values
      → IsMetered who step meters next → IsStep who step (after_step who step boxes) (values_after step values) next old
  step_along (Posts to frame action posted) next still mailed shows metered = post_along to frame action posted next mailed metered
  step_along (Fetches frame) next still mailed shows metered = fetch_along frame next mailed metered
  step_along (Takes number kept) next still mailed shows metered = take_along number kept next shows metered
  step_along (Gives number kept) next still mailed shows metered = give_along number kept next shows metered
  step_along (Notes note) next still mailed shows metered = note_along note next still metered

-- they come to other values, which show the same
shown_as : (at : Shared) (boxes other_boxes : List (List Frame)) (values other_values : List Kept) (meters other_meters : Meters)
    → IsShown boxes values meters at → other_boxes ≡ boxes → other_values ≡ values → other_meters ≡ meters
    → IsShown other_boxes other_values other_meters at
shown_as at boxes other_boxes values other_values meters other_meters shown same_boxes same_values same_meters =
    subst (λ (meters : Meters). IsShown other_boxes other_values meters at) (sym same_meters)
    (subst (λ (values : List Kept). IsShown other_boxes values meters at) (sym same_values)
    (subst (λ (boxes : List (List Frame)). IsShown boxes values meters at) (sym same_boxes) shown))

module _ (count who : ℕ) where
  -- so it is with steps
  pub steps_along : (steps : List MailStep) (boxes last_boxes : List (List Frame)) (values last_values : List Kept)
      (meters last_meters : Meters) (old : Shared) → IsShown boxes values meters old → AreStill steps
      → IsMail (made_by who steps) boxes last_boxes → IsKeptBy count (made_by who steps) values last_values
      → AreMetered (made_by who steps) meters last_meters → AreSteps who steps last_boxes last_values last_meters old
  steps_along [] boxes last_boxes values last_values meters last_meters old shown still mail kept metered = record {
    at = old;
    made = refl;
    shown = shown_as old boxes last_boxes values last_values meters last_meters shown mail kept metered;
  }
  steps_along (step ∷ steps) boxes last_boxes values last_values meters last_meters old shown still mail kept metered =
      let here = step_along who boxes values meters old shown step metered.0 still.0 mail.0 kept.0.shows metered.1 in
      let behind =
      steps_along steps (after_step who step boxes) last_boxes (values_after step values) last_values metered.0 last_meters here.at
      here.shown still.1 mail.1 kept.1 metered.2 in
      record { at = behind.at; made = (here.at, here.made, behind.made); shown = behind.shown }
