-- The run of a workload that can be run is one in one thread, whose refusals have their reasons in the plan.
use Rattle.std.proofs.Common.{◌≡◌, ◌≤◌, List, length, map, Some, ap, arith}
use Rattle.std.proofs.lemmas.List.{length-map}
use Rattle.std.proofs.lemmas.List.Elements.{All-weaker}
use Rattle.hp_base.specs.Plans.{IsPlanEntry}
use Rattle.hp_base.specs.declared.limits.TheConstants.{MAX_HEAPS}
use Rattle.hp_base.specs.declared.plan_entry.PlanEntry.{PlanEntry}
use Rattle.hp_base.specs.declared.plan_entry.PlanEntry.TheVariants.{Mapping, Message}
use Rattle.hp_plain.specs.HallView.{segs_in, slot_at}
use Rattle.hp_script.specs.declared.answer.Answer.{Answer}
use Rattle.hp_script.specs.declared.line.Line.{Line}
use Rattle.hp_script.specs.declared.workload.Workload.{Workload}
use Rattle.hp_segs.specs.SegsView.{SegsView}
use Rattle.hp_proc.specs.LinesDone.{Course}
use Rattle.hp_solo.specs.Solo.{SoloView}
use Rattle.thm_causes.specs.RoundTrip.{IsCounted}
use Rattle.thm_causes.specs.Notices.{NoticesAreHeard, ThreadsHearNotices}
use Rattle.thm_causes.specs.Threads.{TimeoutsArePlanned, MayRun, ThreadsHaveReasons}
use Rattle.hp_run.specs.Running.{HaveDoneLines, IsRunnable}
use Rattle.hp_run.proofs.Coming.{given_by}

counted_entry : (workload : Workload) (entry : PlanEntry) → IsPlanEntry workload.participants entry → IsCounted entry
counted_entry workload (Message kind party k twice line) is = is.few
counted_entry workload (Mapping party call elsewhere line) is = tt

pub may_run_lines : (workload : Workload) (courses : List Course) → IsRunnable workload
    → length courses ≤ length workload.lines.items → MayRun workload courses
may_run_lines workload courses runnable few = record {
  given = given_by workload runnable;
  waits = omega (arith, runnable.limits.some_time);
  few = omega (arith, runnable.limits.few_lines, few);
  counted = All-weaker (IsPlanEntry workload.participants) IsCounted (counted_entry workload) workload.plan.items runnable.plan.entries;
}

pub may_run : (workload : Workload) (courses : List Course) → IsRunnable workload
    → map (λ (course : Course). course.line) courses ≡ workload.lines.items → MayRun workload courses
may_run workload courses runnable lines_are =
    may_run_lines workload courses runnable
    (omega (
      arith,
      length-map courses (λ (course : Course). course.line),
      ap (λ (lines : List Line). length lines) lines_are,
    ))

-- so it is after its last line
pub reasons_so : (workload : Workload) (answers : List Answer) (last : SoloView) (segs : SegsView) → IsRunnable workload
    → ThreadsHaveReasons → HaveDoneLines workload workload.lines.items answers last → segs_in (slot_at last.plain MAX_HEAPS) ≡ Some segs
    → TimeoutsArePlanned workload segs.asks
reasons_so workload answers last segs runnable law done shown =
    law workload done.thread.first last done.courses done.parties segs (may_run workload done.courses runnable done.lines_are)
    done.thread.opens done.thread.thread done.so_far shown

pub notices_so : (workload : Workload) (answers : List Answer) (last : SoloView) (segs : SegsView) → IsRunnable workload
    → ThreadsHearNotices → (done : HaveDoneLines workload workload.lines.items answers last)
    → segs_in (slot_at last.plain MAX_HEAPS) ≡ Some segs → NoticesAreHeard workload.plan.items done.courses segs.asks
notices_so workload answers last segs runnable law done shown =
    law workload done.thread.first last done.courses done.parties segs (may_run workload done.courses runnable done.lines_are)
    done.thread.opens done.thread.thread done.so_far done.are shown
