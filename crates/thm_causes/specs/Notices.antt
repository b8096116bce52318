-- Which notices have their outcome: that the run that a participant gave up has gone back. The rule "Reasons" of docs/RUNS.md.
use Rattle.std.specs.Prelude.{◌≡◌, ℕ, ◌+◌, ◌≤◌, Bool, true, false, List, [], ◌∷◌, find, Some, if◌then◌else◌}
use Rattle.std.specs.Option.{option_map_or}
use Rattle.hp_base.specs.declared.limits.TheConstants.{MAX_HEAPS}
use Rattle.hp_base.specs.declared.plan_entry.MsgKind.TheVariants as message
use Rattle.hp_base.specs.declared.plan_entry.PlanEntry.{PlanEntry}
use Rattle.hp_plain.specs.HallView.{segs_in, slot_at}
use Rattle.hp_proc.specs.Doing.{Done}
use Rattle.hp_proc.specs.Doing.Done.{Asked, GaveUp}
use Rattle.hp_proc.specs.LinesDone.{Course, courses_of, trace_of}
use Rattle.hp_serve.specs.Party.{Party}
use Rattle.hp_script.specs.declared.workload.Workload.{Workload}
use Rattle.hp_segs.specs.SegsView.{SegsView, is_outcome_for}
use Rattle.hp_segs.specs.declared.outcome.AskLog.{AskLog}
use Rattle.hp_segs.specs.declared.outcome.Outcome.{Outcome}
use Rattle.hp_segs.specs.declared.outcome.Outcome.TheVariants.{Freed, Granted, Refused, Stale}
use Rattle.hp_solo.specs.Solo.{SoloView}
use Rattle.thm_run.specs.SoFar.{SoFar}
use Rattle.thm_causes.specs.Counting.{planned_losses}
use Rattle.thm_causes.specs.Threads.{ArePlaces, MayRun, OneThread, OpensThread, validators_left}

-- the outcome says that what was given up has gone back
abbrev pub is_freed : Outcome → Bool
is_freed (Freed generation) = true
is_freed (Granted generation) = false
is_freed (Refused cause) = false
is_freed (Stale done) = false

-- a participant's notice of that number has its outcome: looked up as that of an ask is, it says that the run has gone back
abbrev pub has_freed : List AskLog → ℕ → ℕ → Bool
has_freed asks who number = option_map_or (λ entry. is_freed entry.outcome) (find (is_outcome_for who number) asks) false

-- how many notices of a participant's trace have none, where its asks and notices are numbered on from a number
abbrev pub unfreed_in : List AskLog → ℕ → ℕ → List Done → ℕ
unfreed_in asks who number [] = 0
unfreed_in asks who number (Asked asked run ∷ trace) = unfreed_in asks who (number + 1) trace
unfreed_in asks who number (GaveUp heap run ∷ trace) =
    (if has_freed asks who number then 0 else 1) + unfreed_in asks who (number + 1) trace
unfreed_in asks who number (_ ∷ trace) = unfreed_in asks who number trace

-- notices of a participant without an outcome are at most the lines of the plan that lose a FREE of it. So where none does, each run that
-- it gave up has gone back
abbrev pub NoticesAreHeard : List PlanEntry → List Course → List AskLog → Type 0
NoticesAreHeard plan courses asks = (who : ℕ) → unfreed_in asks who 1 (trace_of (courses_of who courses)) ≤ planned_losses plan message.Free who

-- this holds in every run in one thread, after its last line
abbrev pub ThreadsHearNotices : Type 0
ThreadsHearNotices = (workload : Workload) (first last : SoloView) (courses : List Course) (parties : List Party) (segs : SegsView)
    → MayRun workload courses → OpensThread workload first → OneThread first courses last → SoFar workload courses parties last.plain
    → ArePlaces (validators_left workload courses) last.servers parties → segs_in (slot_at last.plain MAX_HEAPS) ≡ Some segs
    → NoticesAreHeard workload.plan.items courses segs.asks
