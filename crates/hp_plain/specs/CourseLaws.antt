-- What a course of a hall of plain values shows of its steps and values, whichever calls were made: the rule "What a hall shows" of
-- docs/HALLS.md.
use Rattle.std.specs.Prelude.{◌≡◌, ℕ, ◌≤◌, [], Some, length, map, slice_get, ⊤}
use Rattle.std.specs.List.{AllByRecursion}
use Rattle.hp_base.specs.declared.limits.TheConstants.{MAX_HEAPS}
use Rattle.hp_heap.specs.History.{entries_of}
use Rattle.hp_heap.specs.History as heaps
use Rattle.hp_segs.specs.LaterSteps.{armed_ask}
use Rattle.hp_segs.specs.SegsView.{SegsView, is_member}
use Rattle.hp_segs.specs.Sound as segments
use Rattle.hp_hall.specs.declared.kept.Kept.{Kept}
use Rattle.hp_hall.specs.declared.kept.Kept.TheVariants.{Heap, Names, Segments}
use Rattle.hp_zone.specs.Directory.{IsDirectory}
use Rattle.hp_zone.specs.Zones.{IsZones}
use Rattle.hp_plain.specs.Course.{IsCourse}
use Rattle.hp_plain.specs.HallView.{HallView, history_in, segs_in, slot_at}
use Rattle.hp_segs.specs.Standing.{IsArmed}
use Rattle.hp_plain.specs.Keeping.{values_in}
use Rattle.hp_plain.specs.UnderNames.{HaveNoNamesAtGives}
use Rattle.hp_hall.specs.Mail.{MailStep, Posts, Fetches, Takes, Gives, Notes, steps_of}

-- who is not declared made no step
abbrev pub UndeclaredDoNothing : Type 0
UndeclaredDoNothing = (old new : HallView) (course : IsCourse old new) (who : ℕ) → length old.owns ≤ who → steps_of who course.steps ≡ []

-- with one participant all steps are the primary's
abbrev pub SoloStepsAreItsOwn : Type 0
SoloStepsAreItsOwn = (old new : HallView) (course : IsCourse old new) → length old.owns ≡ 1
    → course.steps ≡ map (λ step. (0, step)) (steps_of 0 course.steps)

-- who made no step has no entry more in any heap
abbrev pub IdleAddNoEntries : Type 0
IdleAddNoEntries = (old new : HallView) (course : IsCourse old new) (who : ℕ) → steps_of who course.steps ≡ []
    → (number : ℕ) → entries_of who (history_in (slot_at new number)) ≡ entries_of who (history_in (slot_at old number))

-- the segment value of an earlier state and that of a later one
pub record AreSegsOf (old new : HallView) (before segs : SegsView) : Type 0 where
  pub early : segs_in (slot_at old MAX_HEAPS) ≡ Some before
  pub late : segs_in (slot_at new MAX_HEAPS) ≡ Some segs

-- who made no step is armed with the ask of before, and in the roster where it was
pub record IsLeftTo (who : ℕ) (before segs : SegsView) : Type 0 where
  pub armed : armed_ask segs who ≡ armed_ask before who
  pub member : is_member segs.roster who ≡ is_member before.roster who

abbrev pub IdleStayInPlace : Type 0
IdleStayInPlace = (old new : HallView) (course : IsCourse old new) (who : ℕ) → steps_of who course.steps ≡ []
    → (before segs : SegsView) → AreSegsOf old new before segs → IsLeftTo who before segs

-- a course on which nobody gives the segment value with the names in hand leaves external memory as it was
abbrev pub RangesStay : Type 0
RangesStay = (old new : HallView) (course : IsCourse old new) → HaveNoNamesAtGives old.mail course.steps → (before segs : SegsView)
    → AreSegsOf old new before segs → segs.ranges ≡ before.ranges

-- a value is sound, and of a segment value the open growth and the kept asks are those of the armed
abbrev pub IsSoundAndArmed : Kept → Type 0
IsSoundAndArmed (Heap heap pen) = heaps.IsSound heap
IsSoundAndArmed (Segments segs) = segments.IsSound segs × IsArmed segs
IsSoundAndArmed (Names names) = IsZones names.zones × IsDirectory names.heaps

abbrev pub AreSoundAndArmed : HallView → Type 0
AreSoundAndArmed hall = (number : ℕ) (kept : Kept) → slice_get (values_in hall) number ≡ Some kept → IsSoundAndArmed kept

-- what a step takes or gives is so
abbrev pub MovesSound : MailStep → Type 0
MovesSound (Posts to frame action posted) = ⊤
MovesSound (Fetches frame) = ⊤
MovesSound (Takes number kept) = IsSoundAndArmed kept
MovesSound (Gives number kept) = IsSoundAndArmed kept
MovesSound (Notes note) = ⊤

-- where the opening values are sound and armed, each value that is taken or given is sound and armed, and those of the end are
abbrev pub ValuesStaySound : Type 0
ValuesStaySound = (old new : HallView) (course : IsCourse old new) → AreSoundAndArmed old
    → AllByRecursion (λ step. MovesSound step.1) course.steps × AreSoundAndArmed new
