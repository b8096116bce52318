-- Runs in one thread, line by line, and what can be said of why growths were refused in them. The rule "Reasons" of docs/RUNS.md.
use Rattle.std.specs.Prelude.{◌≡◌, ℕ, ◌+◌, ◌<◌, ◌≤◌, ◌^◌, Bool, true, false, List, [], ◌∷◌, ◌++◌, length, Some, slice_get, slice_set}
use Rattle.std.specs.List.{All}
use Rattle.hp_events.specs.declared.validator.Validator.{Validator}
use Rattle.hp_base.specs.declared.limits.TheConstants.{MAX_HEAPS}
use Rattle.hp_base.specs.declared.plan_entry.MsgKind.TheVariants as message
use Rattle.hp_hall.specs.Views.{HeldHeap}
use Rattle.hp_plain.specs.Opening.{heaps_in}
use Rattle.hp_plain.specs.HallView.{HasDone, heard_in, lines_at, part_in, seen_in, segs_in, slot_at}
use Rattle.hp_proc.specs.LinesDone.{Course}
use Rattle.hp_proc.specs.ParticipantView.{ParticipantView}
use Rattle.hp_serve.specs.Party.{Party}
use Rattle.hp_proc.specs.Progress.{DoesLine, moment_of}
use Rattle.hp_script.specs.declared.answer.Answer.{Answer}
use Rattle.hp_script.specs.declared.line.Line.{Line}
use Rattle.hp_script.specs.declared.workload.Workload.{Workload}
use Rattle.hp_segs.specs.SegsView.{SegsView}
use Rattle.hp_segs.specs.declared.outcome.AskLog.{AskLog}
use Rattle.hp_solo.specs.Draining.{Drains}
use Rattle.hp_solo.specs.Sequence.{Sequence, going_place}
use Rattle.hp_solo.specs.Solo.{AloneView, SoloView, has_stopped, nobody, party_at, server_at}
use Rattle.thm_run.specs.EndLaws.{IsFirstParty, IsGiven, tells_one_more}
use Rattle.thm_run.specs.SoFar.{AreFirstHeaps, SoFar, first_hall, standing_of}
use Rattle.thm_causes.specs.Counting.{LosesNothing, planned_losses, planned_repeats}
use Rattle.thm_causes.specs.RoundTrip.{IsCounted, IsSetting, Setting, RunState}
use Rattle.thm_causes.specs.Quiet.{IsQuietState}
use Rattle.thm_causes.specs.Lines.{ActsInQuiet, AreWaitsQuiet, LinesOweNothing}
use Rattle.thm_causes.specs.Outcomes.{IsApart, late_outcomes, stale_outcomes, withdrawn_outcomes}
use Rattle.thm_causes.specs.Shared.{IsSharedIn}
use Rattle.thm_causes.specs.RunStates.{IsInOrder}

-- each of these participants is in its place, with these validators, and none has met a refusal of memory
pub record ArePlaces (validators : ℕ → List (Validator Bool)) (servers : List AloneView) (parties : List Party) : Type 0 where
  pub count : length servers ≡ length parties
  pub each : (who : ℕ) (party : Party) → slice_get parties who ≡ Some party
      → server_at servers who ≡ Some (going_place (validators who) party)

-- the validators that each one's lines left
abbrev pub validators_left : Workload → List Course → ℕ → List (Validator Bool)
validators_left workload courses who = (standing_of workload who courses).validators

-- a place has come to this
abbrev pub with_place : ℕ → AloneView → SoloView → SoloView
with_place who place hall = record hall { servers = slice_set hall.servers who place }

-- a participant leaves its place with its validators, does a line while the others serve whenever it waits, and comes back with those that
-- the line left
pub record DoesInTurn (line : Line) (answer : Answer) (old new : SoloView) : Type 0 where
  pub doer : ParticipantView
  pub after : ParticipantView
  pub away : SoloView
  pub back : SoloView
  pub there : server_at old.servers line.participant ≡ Some (going_place doer.context.standing.validators doer.party)
  -- it has a table exactly where its lines leave it attached
  pub attached : doer.party.joined ≡ doer.context.standing.attached
  pub gone : away ≡ with_place line.participant nobody old
  pub count : ℕ
  pub all : length away.plain.owns ≡ count
  pub does : DoesLine count
      (λ steps. HasDone away.plain back.plain line.participant (steps ++ tells_one_more line.participant (lines_at away.plain line.participant)))
      line answer (moment_of doer (part_in away.plain line.participant) (seen_in away.plain) (heard_in away.plain))
      (moment_of after (part_in back.plain line.participant) (seen_in back.plain) (heard_in back.plain))
  pub sequence : Sequence line.participant away
      (does.does.steps ++ tells_one_more line.participant (lines_at away.plain line.participant)) back
  pub rises : back.plain.clock ≤ away.plain.clock + 2 ^ 40
  pub new_is : new ≡ with_place line.participant (going_place after.context.standing.validators after.party) back

-- a run: the lines of its participants one after another, and after the last one turns of all
pub data OneThread (first : SoloView) : List Course → SoloView → Type 0 where
  opens : OneThread first [] first
  goes_on : (courses : List Course) (line : Line) (answer : Answer) (old new : SoloView) → OneThread first courses old
      → (does : DoesInTurn line answer old new)
      → OneThread first (courses ++ record { line = line; answer = answer; trace = does.does.does.trace } ∷ []) new
  rests : (courses : List Course) (old new : SoloView) → OneThread first courses old → Drains old new → OneThread first courses new

-- growths were refused as late, and asks taken back or stale, at most as often as a workload's plan loses or repeats messages; and who was
-- late was so by readings that are exactly its deadline apart, and what was taken back by readings three deadlines apart
pub record TimeoutsArePlanned (workload : Workload) (asks : List AskLog) : Type 0 where
  pub late : (who : ℕ) → late_outcomes who asks ≤ planned_losses workload.plan.items message.Sync who
  pub withdrawn : (who : ℕ) → withdrawn_outcomes who asks ≤ planned_losses workload.plan.items message.Alloc who
  pub stale : (who : ℕ) → stale_outcomes who asks
      ≤ planned_repeats workload.plan.items message.Alloc who + planned_repeats workload.plan.items message.Free who
  pub apart : All (IsApart workload.deadline) asks

-- nothing is left to do: nothing of what was given up is left, and who is attached has taken in all records
pub record IsAllDone (segs : SegsView) (servers : List AloneView) : Type 0 where
  pub gone : segs.retiring ≡ []
  pub level : (who : ℕ) (party : Party) → party_at servers who ≡ Some party → party.joined ≡ true → party.maps.number ≡ length segs.log

-- a hall of one thread in which everybody is in its place is such a world; nobody has met a refusal of memory
pub record IsRunStateAt (hall : SoloView) (world : RunState) : Type 0 where
  pub shared : IsSharedIn hall.plain world.shared
  pub order : IsInOrder hall.plain
  pub going : has_stopped hall.servers ≡ false
  pub all : (who : ℕ) → slice_get world.parties who ≡ party_at hall.servers who

-- what a workload says that does not change in a run, since before its first line
abbrev pub setting_of : Workload → Setting
setting_of workload = record {
  count = workload.participants;
  deadline = workload.deadline;
  plan = workload.plan.items;
  was = [];
  made = λ who. 0;
}

-- in a quiet world turns of all leave all as it was
abbrev pub DrainsInQuiet : Type 0
DrainsInQuiet = (set : Setting) (old new : SoloView) (world : RunState) → IsSetting set → IsRunStateAt old world → IsQuietState set world
    → Drains old new → IsRunStateAt new world

-- lines lead from quiet worlds to quiet ones, by what waits do and which notices lines have to post; turns after the lines leave them so
pub record LeadInQuiet : Type 1 where
  pub waits : AreWaitsQuiet
  pub acts : ActsInQuiet
  pub owing : LinesOweNothing
  pub drains : DrainsInQuiet

-- the hall of a workload before its first line, with all its participants in their places, by its plan
pub record OpensThread (workload : Workload) (first : SoloView) : Type 0 where
  pub held : List HeldHeap
  pub first_heaps : AreFirstHeaps workload (heaps_in held)
  pub plain : first.plain ≡ first_hall workload held
  pub parties : List Party
  pub are : ArePlaces (λ who. []) first.servers parties
  pub count : length parties ≡ workload.participants
  pub each : (who : ℕ) (party : Party) → slice_get parties who ≡ Some party
      → IsFirstParty workload who party × (party.plan ≡ workload.plan.items)

-- a workload can be run: it is within its limits, and its plan names messages by numbers that it may
pub record MayRun (workload : Workload) (courses : List Course) : Type 0 where
  pub given : IsGiven workload
  pub waits : 0 < workload.deadline
  pub few : length courses ≤ 20000
  pub counted : All IsCounted workload.plan.items

-- in every run in one thread outcomes have these reasons
abbrev pub ThreadsHaveReasons : Type 0
ThreadsHaveReasons = (workload : Workload) (first last : SoloView) (courses : List Course) (parties : List Party) (segs : SegsView)
    → MayRun workload courses → OpensThread workload first → OneThread first courses last → SoFar workload courses parties last.plain
    → segs_in (slot_at last.plain MAX_HEAPS) ≡ Some segs → TimeoutsArePlanned workload segs.asks

-- in every run in one thread whose plan loses no message nothing is left to do after the last line
abbrev pub ThreadsEndLevel : Type 0
ThreadsEndLevel = (workload : Workload) (first last : SoloView) (courses : List Course) (parties : List Party) (segs : SegsView)
    → MayRun workload courses → OpensThread workload first → OneThread first courses last → SoFar workload courses parties last.plain
    → segs_in (slot_at last.plain MAX_HEAPS) ≡ Some segs → LosesNothing workload.plan.items → IsAllDone segs last.servers
