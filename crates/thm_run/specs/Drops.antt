-- That what lines gave up has gone before later lines see the log. The rule "Reasons" of docs/RUNS.md.
use Rattle.std.specs.Prelude.{◌≡◌, ℕ, ◌+◌, ◌≤◌, false, List, [], ◌∷◌, ◌++◌, drop, flat_map, length, take, Some}
use Rattle.std.specs.List.{All, range_with_len}
use Rattle.std.specs.List.Sorted.{IsPermutation}
use Rattle.hp_base.specs.declared.limits.TheConstants.{MAX_HEAPS}
use Rattle.hp_base.specs.declared.row.Run.{Run}
use Rattle.hp_log.specs.declared.log_record.LogRecord.{LogRecord}
use Rattle.hp_plain.specs.Course.{IsCourse}
use Rattle.hp_plain.specs.HallView.{HallView, segs_in, slot_at}
use Rattle.hp_plain.specs.Opening.{AreHome}
use Rattle.hp_script.specs.declared.answer.Answer.{Answer}
use Rattle.hp_script.specs.declared.line.Line.{Line}
use Rattle.hp_script.specs.declared.workload.Workload.{Workload}
use Rattle.hp_segs.specs.Returned.{returned_runs}
use Rattle.hp_segs.specs.SegsView.{SegsView}
use Rattle.hp_segs.specs.declared.outcome.AskLog.{AskLog}
use Rattle.hp_proc.specs.Courses.{calls_in, numbered_in}
use Rattle.hp_proc.specs.Doing.{Done}
use Rattle.hp_heap.specs.HistoryLaws.{run_cut}
use Rattle.hp_proc.specs.LinesDone.{Course, courses_of, trace_of}
use Rattle.hp_serve.specs.Party.{Party}
use Rattle.hp_proc.specs.Seen.{seen_in}
use Rattle.thm_run.specs.EndLaws.{GoesBy, IsGiven, OthersServe}
use Rattle.thm_run.specs.SoFar.{SoFar, standing_of}

-- the runs that were cut from heaps for a trace, each of which was given up at once
abbrev pub runs_cut_in : List Done → List Run
runs_cut_in trace = flat_map (λ own. run_cut own.answer) (calls_in trace)

-- the runs that the lines of all participants, so many, cut
abbrev pub cut_by_lines : ℕ → List Course → List Run
cut_by_lines count courses = flat_map (λ who. runs_cut_in (trace_of (courses_of who courses))) (range_with_len 0 count)

-- how many asks and notices a participant made in lines
abbrev pub numbers_made : ℕ → List Course → ℕ
numbers_made who courses = length (numbered_in (trace_of (courses_of who courses)))

-- between lines there was a number of records: by then all that the lines before had given up had gone, each run by one Drop of its own,
-- and whatever the later lines see of the log holds these records
pub record HasGoneBetween (count : ℕ) (log : List LogRecord) (asks : List AskLog) (before later : List Course) : Type 0 where
  pub records : ℕ
  pub most : records ≤ length log
  pub gone : IsPermutation (cut_by_lines count before) (returned_runs asks false 1 (take records log))
  pub seen : (who : ℕ) → All (λ shown. records ≤ shown)
      (seen_in log asks who (numbers_made who before + 1) (trace_of (courses_of who later)))

-- for each number of lines: what these had given up had gone, by a Drop of its own each, before later lines saw the log
abbrev pub DropsComeFirst : ℕ → List LogRecord → List AskLog → List Course → Type 0
DropsComeFirst count log asks courses = (lines : ℕ) → HasGoneBetween count log asks (take lines courses) (drop lines courses)

-- before the first line: what lines gave up has gone before later lines see the log
abbrev pub DropsOpen : Type 0
DropsOpen = (count : ℕ) (log : List LogRecord) (asks : List AskLog) → DropsComeFirst count log asks []

-- by each line more that leaves nothing Retiring: what lines gave up has still gone before later lines see the log
abbrev pub DropsGoOnByLine : Type 0
DropsGoOnByLine = (workload : Workload) (courses : List Course) (parties later : List Party) (old new : HallView) (line : Line)
    (answer : Answer) (was now : SegsView) → IsGiven workload → SoFar workload courses parties old
    → (goes : GoesBy workload courses line answer parties later old new) → segs_in (slot_at old MAX_HEAPS) ≡ Some was
    → segs_in (slot_at new MAX_HEAPS) ≡ Some now → now.retiring ≡ [] → DropsComeFirst workload.participants was.log was.asks courses
    → DropsComeFirst workload.participants now.log now.asks
    (courses ++ record { line = line; answer = answer; trace = goes.does.does.does.trace } ∷ [])

-- where all serve on: what lines gave up has still gone before later lines see the log
abbrev pub DropsRest : Type 0
DropsRest = (workload : Workload) (courses : List Course) (parties later : List Party) (old new : HallView) (was now : SegsView)
    → IsGiven workload → SoFar workload courses parties old → length later ≡ length parties
    → OthersServe (λ who. ⊥) workload.participants (λ who. standing_of workload who courses) old new parties later → AreHome new
    → IsCourse old new
    → segs_in (slot_at old MAX_HEAPS) ≡ Some was → segs_in (slot_at new MAX_HEAPS) ≡ Some now
    → DropsComeFirst workload.participants was.log was.asks courses → DropsComeFirst workload.participants now.log now.asks courses
