-- What a step of the coordinator, and a member that has caught up, does to the asks, the roster and the open growth of a segment value.
use Rattle.std.specs.Prelude.{◌≡◌, ℕ, ◌≤◌, true, List, length, drop, Contains, Option, Some, None, slice_index}
use Rattle.hp_base.specs.declared.caught.Caught.{Caught}
use Rattle.hp_segs.specs.GrowthLaws.{HasArmedGrowth}
use Rattle.hp_segs.specs.LaterSteps.{armed_ask}
use Rattle.hp_segs.specs.Moved.{IsMovedBy, is_log_call}
use Rattle.hp_segs.specs.SegsView.{SegsView, granted_by, is_member}
use Rattle.hp_segs.specs.Sound.{IsSound}
use Rattle.hp_segs.specs.declared.ask.Ask.{Ask}
use Rattle.hp_segs.specs.declared.outcome.AskLog.{AskLog}
use Rattle.hp_core.specs.Core.{Core}
use Rattle.hp_core.specs.Following.{after_catching, failure_of}
use Rattle.hp_core.specs.Stepping.{stepped}
use Rattle.hp_core.specs.declared.event.CoreEvent.{CoreEvent}
use Rattle.hp_core.specs.declared.event.CoreEvent.TheVariants.{Grow, Shrink, SelfMapped, Poll}

-- a failure is noted, or nothing is done: by calls that log, none of which opens or grants a growth; and the records, the outcomes, the
-- armed asks and the roster stay
pub record OnlyNotes (old new : SegsView) : Type 0 where
  pub moved : IsMovedBy is_log_call 0 old new
  pub log : new.log ≡ old.log
  pub asks : new.asks ≡ old.asks
  pub armed : new.armed ≡ old.armed
  pub roster : new.roster ≡ old.roster

-- a member of the roster that has caught up, or failed to, only notes
abbrev pub CatchesNote : Type 0
CatchesNote = (participant : ℕ) (caught : Caught) (segs : SegsView) → is_member segs.roster participant ≡ true
    → OnlyNotes segs (after_catching participant caught segs)

-- it is participant 0, which has caught up with all records, and that of the generation is one of them
pub record HasMapped (caught : Caught) (segs : SegsView) (generation member : ℕ) : Type 0 where
  pub own : member ≡ 0
  pub mapped : failure_of caught ≡ None
  pub logged : generation ≤ length segs.log

-- by what the event tells, the member has acknowledged the record of that generation: its handed number is not below, or it is
-- participant 0, which has mapped it
abbrev pub HasAcknowledged : CoreEvent → SegsView → ℕ → ℕ → Type 0
HasAcknowledged (Grow ask) segs generation member = ⊥
HasAcknowledged (Shrink from number) segs generation member = ⊥
HasAcknowledged (SelfMapped caught now) segs generation member = HasMapped caught segs generation member
HasAcknowledged (Poll now acks) segs generation member = generation ≤ slice_index acks member

-- the armed asks and the roster stay, and each growth that comes to be granted was acknowledged by all members, as the event tells
pub record StepGives (event : CoreEvent) (old new : SegsView) : Type 0 where
  pub armed : new.armed ≡ old.armed
  pub roster : new.roster ≡ old.roster
  pub agreed : (entry : AskLog) (generation member : ℕ) → Contains (drop (length old.asks) new.asks) entry
      → granted_by entry.outcome ≡ Some generation → is_member old.roster member ≡ true → HasAcknowledged event old generation member

-- each step with a sound value leaves the armed asks and the roster, and grants only what all members have acknowledged
abbrev pub StepsGive : Type 0
StepsGive = (denial : ℕ → ℕ → Option (List ℕ × ℕ)) (event : CoreEvent) (core : Core) (segs : SegsView) → IsSound segs
    → StepGives event segs (stepped denial event core segs).segs

-- after each step the open growth is still of the ask with which its participant is armed, and that ask is above the closed number
abbrev pub StepsLeaveArmed : Type 0
StepsLeaveArmed = (denial : ℕ → ℕ → Option (List ℕ × ℕ)) (event : CoreEvent) (core : Core) (segs : SegsView) → HasArmedGrowth segs
    → HasArmedGrowth (stepped denial event core segs).segs

-- each outcome that came to be logged beside its ask is of the ask with which its participant was armed
abbrev pub AnswersArmed : SegsView → SegsView → Type 0
AnswersArmed old new = (entry : AskLog) (ask : Ask) → Contains (drop (length old.asks) new.asks) entry → entry.ask ≡ Some ask
    → armed_ask old entry.from ≡ Some ask

-- where the open growth is of an armed ask, each outcome that a step logs beside its ask is of an armed one
abbrev pub StepsAnswerArmed : Type 0
StepsAnswerArmed = (denial : ℕ → ℕ → Option (List ℕ × ℕ)) (event : CoreEvent) (core : Core) (segs : SegsView) → HasArmedGrowth segs
    → AnswersArmed segs (stepped denial event core segs).segs
