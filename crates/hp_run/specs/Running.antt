-- What a run needs of its workload, and how far it came. The rule "Turns in one thread" of docs/RUNS.md.
use Rattle.std.specs.Prelude.{◌≡◌, ℕ, ◌<◌, List, [], map, Option, Some, slice_get}
use Rattle.std.specs.List.{All}
use Rattle.hp_base.specs.Participants.{IsAbsent}
use Rattle.hp_base.specs.declared.limits.TheConstants.{MAX_HEAPS}
use Rattle.hp_base.specs.Plans.{ArePlanEntries}
use Rattle.hp_base.specs.PoolLines.{ArePoolLines}
use Rattle.hp_script.specs.Facts.{AwaitEarlier, IsLineOf}
use Rattle.hp_script.specs.Limits.{AreDeclared, AreParticipantLines, IsWithinLimits}
use Rattle.hp_script.specs.declared.answer.Answer.{Answer}
use Rattle.hp_script.specs.declared.line.Line.{Line}
use Rattle.hp_script.specs.declared.workload.Workload.{Workload}
use Rattle.hp_plain.specs.HallView.{segs_in, slot_at}
use Rattle.hp_segs.specs.SegsView.{SegsView}
use Rattle.hp_proc.specs.Contexts.{Context}
use Rattle.hp_proc.specs.LinesDone.{Course}
use Rattle.hp_proc.specs.ParticipantView.{knowing}
use Rattle.hp_serve.specs.Party.{Party}
use Rattle.hp_solo.specs.Solo.{AloneView, SoloView, party_at}
use Rattle.thm_run.specs.Drops.{DropsComeFirst}
use Rattle.thm_run.specs.Freed.{AreShown}
use Rattle.thm_run.specs.Handing.{AreJudged, AreOfLinesBefore}
use Rattle.thm_run.specs.SoFar.{SoFar, context_of}
use Rattle.thm_causes.specs.Counting.{LosesNothing}
use Rattle.thm_causes.specs.Threads.{ArePlaces, MayRun, OneThread, OpensThread, validators_left}

-- a workload can be run: its pools, plan, participants and lines are within their limits, and who awaits lines stands after them
pub record IsRunnable (workload : Workload) : Type 0 where
  pub limits : IsWithinLimits workload
  pub pools : ArePoolLines workload.pools.items
  pub plan : ArePlanEntries workload.participants workload.plan.items
  pub absent : IsAbsent workload.participants workload.absent
  pub lines : AreParticipantLines workload.lines.items
  pub declared : AreDeclared workload.participants workload.lines.items
  pub acts : All IsLineOf workload.lines.items
  pub awaits : AwaitEarlier workload.participants workload.lines.items

-- these lines led to a hall in one thread, one after another, from the hall that opens for the workload
pub record CameInThread (workload : Workload) (courses : List Course) (hall : SoloView) : Type 0 where
  pub first : SoloView
  pub opens : OpensThread workload first
  pub thread : OneThread first courses hall

-- the participants have done these lines of a workload in turns, they were answered so, and each is back in its place, with the validators
-- that its lines left. Where the plan loses no message, what lines gave up had gone before later lines saw the log; and what lines show of
-- the log, with their notices, never falls. Growths were judged by the validators that the lines before had left, and statistics are those
-- that the lines before leave
pub record HaveDoneLines (workload : Workload) (lines : List Line) (answers : List Answer) (hall : SoloView) : Type 0 where
  pub parties : List Party
  pub courses : List Course
  pub are : ArePlaces (validators_left workload courses) hall.servers parties
  pub so_far : SoFar workload courses parties hall.plain
  pub lines_are : map (λ course. course.line) courses ≡ lines
  pub answered : map (λ course. course.answer) courses ≡ answers
  pub thread : CameInThread workload courses hall
  pub drops : (segs : SegsView) → segs_in (slot_at hall.plain MAX_HEAPS) ≡ Some segs → LosesNothing workload.plan.items
      → DropsComeFirst workload.participants segs.log segs.asks courses
  pub shown : (segs : SegsView) → segs_in (slot_at hall.plain MAX_HEAPS) ≡ Some segs → MayRun workload courses
      → AreShown segs.log segs.asks courses
  pub judged : (segs : SegsView) → segs_in (slot_at hall.plain MAX_HEAPS) ≡ Some segs → AreJudged workload courses segs
  pub counted : AreOfLinesBefore workload courses

-- what a participant takes along for its next line: what its lines so far left, beside its watchers and its validators, which stand at its
-- place
abbrev pub taken_along : Workload → ℕ → List Course → Context
taken_along workload who courses = knowing [] [] (context_of workload who courses)

-- each participant knows what its lines so far left
abbrev pub KnowSoFar : Workload → List Course → List (Option Context) → Type 0
KnowSoFar workload courses contexts = (who : ℕ) → who < workload.participants
    → slice_get contexts who ≡ Some (Some (taken_along workload who courses))

-- they have done these lines, and can go on: each knows what its own lines left
pub record CanGoOn (workload : Workload) (lines : List Line) (answers : List Answer) (contexts : List (Option Context)) (hall : SoloView)
    : Type 0 where
  pub done : HaveDoneLines workload lines answers hall
  pub know : KnowSoFar workload done.courses contexts

-- the mapper of each participant that is there may fail at the calls at which it might before
abbrev pub FailAsBefore : List AloneView → List AloneView → Type 0
FailAsBefore old new = (who : ℕ) (party after : Party) → party_at old who ≡ Some party → party_at new who ≡ Some after
    → after.maps.may_fail ≡ party.maps.may_fail

-- two workloads say the same
pub record IsSameWorkload (one other : Workload) : Type 0 where
  pub participants : one.participants ≡ other.participants
  pub absent : one.absent ≡ other.absent
  pub sockets : one.sockets ≡ other.sockets
  pub deadline : one.deadline ≡ other.deadline
  pub pools : one.pools.items ≡ other.pools.items
  pub plan : one.plan.items ≡ other.plan.items
  pub lines : one.lines.items ≡ other.lines.items
