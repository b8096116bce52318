-- That no outcome comes late: what had none before a line has none after it. The rule "Reasons" of docs/RUNS.md.
use Rattle.std.specs.Prelude.{◌≡◌, List, [], ◌∷◌, ◌++◌, Some}
use Rattle.hp_base.specs.declared.limits.TheConstants.{MAX_HEAPS}
use Rattle.hp_plain.specs.HallView.{segs_in, slot_at}
use Rattle.hp_proc.specs.LinesDone.{Course}
use Rattle.hp_serve.specs.Party.{Party}
use Rattle.hp_script.specs.declared.answer.Answer.{Answer}
use Rattle.hp_script.specs.declared.line.Line.{Line}
use Rattle.hp_script.specs.declared.workload.Workload.{Workload}
use Rattle.hp_segs.specs.SegsView.{SegsView}
use Rattle.hp_solo.specs.Draining.{Drains}
use Rattle.hp_solo.specs.Solo.{SoloView}
use Rattle.thm_run.specs.Freed.{NoneComesLate}
use Rattle.thm_run.specs.SoFar.{SoFar}
use Rattle.thm_causes.specs.Threads.{DoesInTurn, MayRun, OneThread, OpensThread, ArePlaces, validators_left}

-- by no line of a run in one thread an ask or a notice of an earlier line gets its outcome
abbrev pub LinesHearInTime : Type 0
LinesHearInTime = (workload : Workload) (first old new : SoloView) (courses : List Course) (parties : List Party) (line : Line)
    (answer : Answer) (was now : SegsView) → OpensThread workload first → OneThread first courses old
    → (does : DoesInTurn line answer old new)
    → MayRun workload (courses ++ record { line = line; answer = answer; trace = does.does.does.trace } ∷ [])
    → SoFar workload courses parties old.plain → ArePlaces (validators_left workload courses) old.servers parties → segs_in (slot_at old.plain MAX_HEAPS) ≡ Some was
    → segs_in (slot_at new.plain MAX_HEAPS) ≡ Some now → NoneComesLate courses was.asks now.asks

-- where all serve on after the last line no ask and no notice of a line gets its outcome
abbrev pub RestsHearInTime : Type 0
RestsHearInTime = (workload : Workload) (first old new : SoloView) (courses : List Course) (was now : SegsView)
    → OpensThread workload first → OneThread first courses old → Drains old new → MayRun workload courses
    → segs_in (slot_at old.plain MAX_HEAPS) ≡ Some was → segs_in (slot_at new.plain MAX_HEAPS) ≡ Some now
    → NoneComesLate courses was.asks now.asks
