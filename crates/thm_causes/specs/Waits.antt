-- What a turn, a wait, an ask and a notice make of a world. The rule "Reasons" of docs/RUNS.md.
use Rattle.std.specs.Prelude.{◌≡◌, ◌+◌, ◌*◌, ◌<◌, ◌≤◌, ◌^◌, ℕ, Bool, true, false, List, Option, Some, None, slice_get}
use Rattle.hp_base.specs.declared.row.Run.{Run}
use Rattle.hp_core.specs.Asks.{asker}
use Rattle.hp_core.specs.Core.{Core}
use Rattle.hp_core.specs.declared.asked.Asked.{Asked}
use Rattle.hp_hall.specs.Mail.{MailStep}
use Rattle.hp_serve.specs.Denials.{Denials}
use Rattle.hp_serve.specs.AskSteps.{DoesAsk, DoesNotify, waits_until}
use Rattle.hp_serve.specs.Party.{Party}
use Rattle.hp_serve.specs.Waiting.{IsTurned, IsWaited, most_servings}
use Rattle.hp_serve.specs.declared.pages_asked.PagesAsked.{PagesAsked}
use Rattle.hp_solo.specs.Sequence.{Sequence}
use Rattle.hp_solo.specs.Solo.{SoloView}
use Rattle.thm_causes.specs.RoundTrip.{AreOthersEmpty, IsBase, IsSetting, Setting, AskPhase, RunState}
use Rattle.thm_causes.specs.Quiet.{IsQuietOwing, IsQuietState}
use Rattle.thm_causes.specs.Servings.{CoordinatesSo, MembersServeSo}
use Rattle.thm_causes.specs.Stages.{IsSent, MemberServesOnce, PrimaryServes}
use Rattle.thm_causes.specs.Measuring.{CoreWeighsLess, MemberWeighsLess, measure_of}
use Rattle.thm_causes.specs.RunStates.{CoursesGoAlong, IsRunStateOf}

-- the stage is the last one: nothing is under way
abbrev pub is_last : {set : Setting} {call : Asked} {sent : ℕ} {leads : Bool} {world : RunState} → AskPhase set call sent leads world → Bool
is_last (AskPhase.fresh _ _ _ _ _ _ _ _ _ _) = false
is_last (AskPhase.lost _ _ _ _ _ _ _ _ _ _) = false
is_last (AskPhase.growing _ _ _ _ _ _ _ _ _ _ _ _ _ _ _) = false
is_last (AskPhase.settling _ _ _ _ _ _ _ _ _ _ _ _ _ _ _ _ _ _) = false
is_last (AskPhase.over _ _ _ _ _ _ _ _ _) = true

-- nothing will be under way any more
abbrev pub is_ended : {set : Setting} {call : Asked} {sent : ℕ} {leads : Bool} {world : RunState} → AskPhase set call sent leads world → Bool
is_ended (AskPhase.fresh _ _ _ _ _ _ _ _ _ _) = false
is_ended (AskPhase.lost _ _ _ _ _ _ _ _ _ _) = true
is_ended (AskPhase.growing _ _ _ _ _ _ _ _ _ _ _ _ _ _ _) = false
is_ended (AskPhase.settling _ _ _ _ _ _ _ _ _ _ _ _ _ _ _ _ _ _) = false
is_ended (AskPhase.over _ _ _ _ _ _ _ _ _) = true

-- the coordinator of a participant, where there is one
abbrev pub core_in : Option Party → Option Core
core_in None = None
core_in (Some party) = party.core

-- what the mailboxes and the coordinator of participant 0 weigh in a world
abbrev pub measure_in : RunState → ℕ
measure_in world = measure_of world.shared (core_in (slice_get world.parties 0))

-- before a turn and after it: who is not participant 0 has an empty mailbox, and once the ask is over all is quiet
pub record IsAtTurn (set : Setting) (call : Asked) (sent : ℕ) (world : RunState) : Type 0 where
  pub base : IsBase set world
  pub stage : AskPhase set call sent true world
  pub empty : AreOthersEmpty world
  pub ended : is_last stage ≡ true → IsQuietState set world
  -- nobody has so much to serve that it would not come to an end in a turn
  pub light : measure_in world < most_servings

-- a world after another, of a hall of one thread from which one is away
pub record LeadsTo (P : RunState → Type 0) (new : SoloView) (me : ℕ) (after : Party) : Type 0 where
  pub world : RunState
  pub its : IsRunStateOf new me after world
  pub holds : P world

-- a wait for the answer to an ask has ended at a reading: the ask is over, or it was lost
pub record HasComeOut (set : Setting) (call : Asked) (sent now : ℕ) (world : RunState) : Type 0 where
  pub at_turn : IsAtTurn set call sent world
  pub now_is : now ≡ world.shared.clock
  pub ended : is_ended at_turn.stage ≡ true

-- What is known of single servings:

-- what single servings make of a stage and of the measure, whatever a judge denies, and what is shared along a course
pub record AreServingsKnown : Type 1 where
  pub primary : PrimaryServes
  pub member : MemberServesOnce
  pub coordinates : (denies : Denials) → CoordinatesSo denies
  pub follows : MembersServeSo
  pub along : CoursesGoAlong
  pub core_lighter : CoreWeighsLess
  pub member_lighter : MemberWeighsLess

-- What is to be shown of turns, waits, asks and notices, whatever the judge of who waits denies:

-- a turn of a wait, which is no longer than three deadlines, goes on from stage to stage
abbrev pub TurnsOn : Type 1
TurnsOn = AreServingsKnown → (denies : Denials) (set : Setting) (call : Asked) (sent until me : ℕ) (old new : SoloView)
    (party after : Party) (steps : List MailStep)
    (moved : Bool) (world : RunState) → IsSent set call sent → until ≤ sent + 3 * set.deadline → IsRunStateOf old me party world
    → IsAtTurn set call sent world → Sequence me old steps new → IsTurned denies set.count until party after steps (Some moved)
    → LeadsTo (IsAtTurn set call sent) new me after

-- the wait of an ask's asker ends at a turn; by its answer, or by three deadlines, the ask is over, or it was lost
abbrev pub WaitsOut : Type 1
WaitsOut = AreServingsKnown → (denies : Denials) (set : Setting) (call : Asked) (sent now : ℕ) (heeds : Bool) (old new : SoloView)
    (party after : Party)
    (steps : List MailStep) (world : RunState) → IsSent set call sent → IsRunStateOf old (asker call) party world → IsAtTurn set call sent world
    → Sequence (asker call) old steps new
    → IsWaited denies set.count (waits_until sent set.deadline) heeds party after steps (Some now)
    → LeadsTo (HasComeOut set call sent now) new (asker call) after

-- an ask leads from a quiet world to a quiet one while no notice is left to post; a notice leads to one too, after which none is left
abbrev pub AsksInQuiet : Type 1
AsksInQuiet = AreServingsKnown → (denies : Denials) (set : Setting) (me : ℕ) (old new : SoloView) (party after : Party)
    (asked : PagesAsked) (run : Option Run)
    (steps : List MailStep) (world : RunState) → IsSetting set → IsRunStateOf old me party world → IsQuietOwing set false world
    → world.shared.clock ≤ 2 ^ 62 → Sequence me old steps new → DoesAsk denies set.count party after asked steps run
    → LeadsTo (IsQuietOwing set false) new me after

abbrev pub NotifiesInQuiet : Type 1
NotifiesInQuiet = AreServingsKnown → (denies : Denials) (set : Setting) (me heap : ℕ) (old new : SoloView) (party after : Party)
    (run : Run) (steps : List MailStep)
    (world : RunState) → IsSetting set → IsRunStateOf old me party world → IsQuietState set world → world.shared.clock ≤ 2 ^ 62
    → Sequence me old steps new → DoesNotify denies set.count party after heap run steps
    → LeadsTo (IsQuietOwing set false) new me after
