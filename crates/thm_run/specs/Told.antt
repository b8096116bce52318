-- That numbers of asks and notices are those of their places, where no order of a post and a hold is known: what is logged of a notice was
-- told by the participant that it names, sooner or later. The rule "Together" of docs/RUNS.md.
use Rattle.std.specs.Prelude.{◌≡◌, ℕ, List, [], length, Contains, Some, None, slice_get}
use Rattle.std.specs.List.{All}
use Rattle.hp_base.specs.declared.plan.Action.{Action}
use Rattle.hp_base.specs.declared.row.Run.{Run}
use Rattle.hp_core.specs.Core.{Core}
use Rattle.hp_frame.specs.declared.frame.Frame.{Frame}
use Rattle.hp_frame.specs.declared.message.Body.TheVariants.{Free}
use Rattle.hp_hall.specs.Mail.{MailStep, Posts}
use Rattle.hp_mail.specs.declared.posted.Posted.{Posted}
use Rattle.hp_segs.specs.GrowthLaws.{HasArmedGrowth}
use Rattle.hp_segs.specs.LaterSteps.{armed_ask}
use Rattle.hp_segs.specs.SegsView.{SegsView}
use Rattle.hp_segs.specs.Sound.{IsSound}
use Rattle.hp_segs.specs.declared.outcome.AskLog.{AskLog}
use Rattle.hp_segs.specs.declared.outcome.Outcome.TheVariants.{Freed}
use Rattle.hp_serve.specs.Asking.{free_body}
use Rattle.hp_serve.specs.Frames.{Says}
use Rattle.hp_proc.specs.Courses.{numbered_in}
use Rattle.hp_weave.specs.Deeds.{Deed, Gathering}
use Rattle.hp_weave.specs.Holds.{Hold}
use Rattle.thm_run.specs.Apart.{CameTogether}
use Rattle.thm_run.specs.Seats.{Seat}

-- in one of these steps a participant tells the coordinator, under that number, of a run that it gave up
pub record TellsIn (who number : ℕ) (steps : List MailStep) : Type 0 where
  pub heap : ℕ
  pub run : Run
  pub frame : Frame
  pub action : Action
  pub posted : Posted
  pub there : Contains steps (Posts 0 frame action posted)
  pub says : Says frame (free_body who number heap run)

-- each outcome that a run has gone is of a notice of the participant that it names, whether that was told before or comes later
abbrev pub FreedAreTold : (ℕ → List MailStep) → SegsView → Type 0
FreedAreTold steps segs = (entry : AskLog) (generation : ℕ) → Contains segs.asks entry → entry.outcome ≡ Freed generation
    → TellsIn entry.from entry.number (steps entry.from)

-- each frame that a participant has fetched and that tells of a run was posted by the participant that it names, whether that comes before or
-- later among the steps of all: so far mailboxes promise it
abbrev pub ArePosted : (ℕ → List MailStep) → Seat → Type 0
ArePosted steps seat = (frame : Frame) (from number heap address len : ℕ) → Contains seat.fetched frame
    → Says frame (Free from number heap address len) → TellsIn from number (steps from)

-- participant 0 has a coordinator that holds no ask yet
abbrev pub HoldsNone : Seat → Type 0
HoldsNone seat = (core : Core) → seat.party.core ≡ Some core → All (λ one. one ≡ None) core.held

-- where participants came together from the beginning, and what participant 0 has fetched by the end was posted so, each outcome of a notice
-- was told
abbrev pub ToldByPosts : Type 0
ToldByPosts = (count : ℕ) (first last : Gathering Seat SegsView) (steps : ℕ → List MailStep) (holds : List (Hold SegsView))
    → CameTogether count first last steps holds → first.value.asks ≡ [] → All (λ hold. HasArmedGrowth hold.taken) holds
    → ((seat : Seat) → slice_get first.seats 0 ≡ Some seat → HoldsNone seat)
    → ((seat : Seat) → slice_get last.seats 0 ≡ Some seat → ArePosted steps seat) → FreedAreTold steps last.value

-- a participant's last number is how many asks and notices its trace has, so that each stands at its number
abbrev pub IsCounted : Seat → Type 0
IsCounted seat = seat.party.asked ≡ length (numbered_in seat.trace)

abbrev pub LeavesCounted : Deed Seat SegsView → Type 0
LeavesCounted (Deed.Alone old new) = IsCounted new
LeavesCounted (Deed.Holding old new taken given) = IsCounted new

-- nobody has asked for anything yet
pub record IsUnasked (at : Gathering Seat SegsView) : Type 0 where
  pub none : at.value.asks ≡ []
  pub unarmed : (who : ℕ) → armed_ask at.value who ≡ None
  pub counted : (who : ℕ) (seat : Seat) → slice_get at.seats who ≡ Some seat → IsCounted seat

-- where participants came together from the beginning, and each outcome of a notice was told so, each of their deeds leaves its participant's
-- number that of its trace
abbrev pub NumbersByTold : Type 0
NumbersByTold = (count : ℕ) (first last : Gathering Seat SegsView) (steps : ℕ → List MailStep) (holds : List (Hold SegsView))
    → (came : CameTogether count first last steps holds) → IsUnasked first → All (λ hold. HasArmedGrowth hold.taken) holds
    → IsSound last.value → FreedAreTold steps last.value → All (λ turn. LeavesCounted turn.deed) came.turns

-- so that each seat is counted so at last
abbrev pub CountedAtLast : Type 0
CountedAtLast = (count : ℕ) (first last : Gathering Seat SegsView) (steps : ℕ → List MailStep) (holds : List (Hold SegsView))
    → CameTogether count first last steps holds → IsUnasked first → All (λ hold. HasArmedGrowth hold.taken) holds → IsSound last.value
    → FreedAreTold steps last.value → (who : ℕ) (seat : Seat) → slice_get last.seats who ≡ Some seat → IsCounted seat
