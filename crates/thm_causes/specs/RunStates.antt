-- Halls of one thread as worlds. The rule "Reasons" of docs/RUNS.md.
use Rattle.std.specs.Prelude.{◌≡◌, ◌≢◌, ◌≤◌, ℕ, false, List, Some, length, slice_get}
use Rattle.std.specs.List.{AllByRecursion}
use Rattle.hp_base.specs.declared.limits.TheConstants.{MAX_PARTICIPANTS}
use Rattle.hp_plain.specs.HallView.{HallView, SlotView, slot_at}
use Rattle.hp_hall.specs.Mail.{MailStep}
use Rattle.hp_hall.specs.Values.{Fits}
use Rattle.hp_serve.specs.Party.{Party}
use Rattle.hp_solo.specs.Sequence.{IsCall, IsMadeBy}
use Rattle.hp_solo.specs.Solo.{SoloView, has_stopped, party_at}
use Rattle.thm_causes.specs.RoundTrip.{RunState}
use Rattle.thm_causes.specs.Shared.{IsSharedIn, MakesAll, Shared}

-- each value of a hall is one of its slot, and each participant has a mailbox
pub record IsInOrder (hall : HallView) : Type 0 where
  pub fits : (number : ℕ) (slot : SlotView) → slot_at hall number ≡ Some slot → Fits number slot.kept
  pub boxes : length hall.boxes ≡ length hall.owns
  pub few : length hall.owns ≤ MAX_PARTICIPANTS

-- a hall of one thread and the one participant that is away from it are such a world; nobody has met a refusal of memory
pub record IsRunStateOf (hall : SoloView) (me : ℕ) (party : Party) (world : RunState) : Type 0 where
  pub shared : IsSharedIn hall.plain world.shared
  pub order : IsInOrder hall.plain
  pub going : has_stopped hall.servers ≡ false
  pub own : slice_get world.parties me ≡ Some party
  pub others : (who : ℕ) → who ≢ me → slice_get world.parties who ≡ party_at hall.servers who

-- by none of the steps anybody else serves, and the clock stands
abbrev pub AreCalls : List MailStep → Type 0
AreCalls steps = AllByRecursion IsCall steps

-- what is shared goes along with a hall, by steps of one participant
pub record GoesAlong (who : ℕ) (steps : List MailStep) (old : Shared) (hall : HallView) : Type 0 where
  pub at : Shared
  pub made : MakesAll who steps old at
  pub shared : IsSharedIn hall at
  pub order : IsInOrder hall

-- whatever one participant alone does, what is shared goes along with the hall
abbrev pub CoursesGoAlong : Type 0
CoursesGoAlong = (who : ℕ) (steps : List MailStep) (old new : HallView) (at : Shared) → IsMadeBy who steps old new → AreCalls steps
    → IsInOrder old → IsSharedIn old at → GoesAlong who steps at new
