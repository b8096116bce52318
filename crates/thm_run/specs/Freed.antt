-- What lines see of the log where a run that went back is seen too: the outcome of a notice is looked up as that of an ask is, and shows
-- how many records stood before the run's Drop, and how many there were when the outcome came. The rule "Reasons" of docs/RUNS.md.
use Rattle.std.specs.Prelude.{◌≡◌, ℕ, ◌+◌, ◌<◌, ◌≤◌, ◌==◌, ◌&&◌, Bool, true, false, if◌then◌else◌, List, [], ◌∷◌, ◌++◌, find, length, take, Option, Some, None}
use Rattle.std.specs.List.{list_any}
use Rattle.hp_base.specs.declared.limits.TheConstants.{MAX_HEAPS}
use Rattle.hp_base.specs.declared.row.Run.{Run}
use Rattle.hp_log.specs.declared.log_record.LogRecord.{LogRecord}
use Rattle.hp_log.specs.declared.log_record.LogRecord.TheVariants.{Add, Drop}
use Rattle.hp_plain.specs.Course.{IsCourse}
use Rattle.hp_plain.specs.HallView.{HallView, segs_in, slot_at}
use Rattle.hp_plain.specs.Opening.{AreHome}
use Rattle.hp_script.specs.declared.answer.Answer.{Answer}
use Rattle.hp_script.specs.declared.line.Line.{Line}
use Rattle.hp_script.specs.declared.workload.Workload.{Workload}
use Rattle.hp_segs.specs.SegsView.{SegsView, is_outcome_for}
use Rattle.hp_segs.specs.declared.outcome.AskLog.{AskLog}
use Rattle.hp_segs.specs.declared.outcome.Outcome.{Outcome}
use Rattle.hp_segs.specs.declared.outcome.Outcome.TheVariants.{Freed, Granted, Refused, Stale}
use Rattle.hp_serve.specs.Party.{Party}
use Rattle.hp_proc.specs.Courses.{numbered_in}
use Rattle.hp_proc.specs.Doing.{Done}
use Rattle.hp_proc.specs.Doing.Done.{Asked, GaveUp, Looked}
use Rattle.hp_proc.specs.Ends.{none_made}
use Rattle.hp_proc.specs.LinesDone.{Course}
use Rattle.hp_proc.specs.Seen.{AreSeen, counted_on, seen_by_ask}
use Rattle.thm_run.specs.Drops.{numbers_made}
use Rattle.thm_run.specs.EndLaws.{GoesBy, IsGiven, OthersServe}
use Rattle.thm_run.specs.SoFar.{SoFar, standing_of}

-- the record drops the run: it takes the rows at its slots
abbrev pub is_drop_of : Run → LogRecord → Bool
is_drop_of run (Add other heap) = false
is_drop_of run (Drop other) = (other.list == run.list) && ((other.first == run.first) && (other.count == run.count))

-- how many records stand before the last one that drops the run, among these, before which so many stand; where none does, the number given
abbrev pub before_drop : Run → ℕ → ℕ → List LogRecord → ℕ
before_drop run none at [] = none
before_drop run none at (entry ∷ log) = before_drop run (if is_drop_of run entry then at else none) (at + 1) log

-- what the outcome of a notice shows: how many records stand before the Drop of its run, which is the last one among those that were there
-- when the outcome came, and how many these were
abbrev pub shown_by : List LogRecord → Run → Outcome → List ℕ
shown_by log run (Freed generation) = before_drop run 0 0 (take generation log) ∷ generation ∷ []
shown_by log run (Granted generation) = []
shown_by log run (Refused cause) = []
shown_by log run (Stale done) = []

-- so for a notice of that run, where it has an outcome
abbrev pub shown_by_notice : List LogRecord → Run → Option AskLog → List ℕ
shown_by_notice log run None = []
shown_by_notice log run (Some entry) = shown_by log run entry.outcome

-- the numbers of records that a participant's trace shows, one after another, with those of its notices
abbrev pub shown_in : List LogRecord → List AskLog → ℕ → ℕ → List Done → List ℕ
shown_in log asks who number [] = []
shown_in log asks who number (Asked asked run ∷ trace) =
    seen_by_ask log asks asked.heap (find (is_outcome_for who number) asks) ++ shown_in log asks who (number + 1) trace
shown_in log asks who number (GaveUp heap run ∷ trace) =
    shown_by_notice log run (find (is_outcome_for who number) asks) ++ shown_in log asks who (number + 1) trace
shown_in log asks who number (Looked records ∷ trace) = records ∷ shown_in log asks who number trace
shown_in log asks who number (_ ∷ trace) = shown_in log asks who number trace

-- the numbers that lines show which are done one after another, each of a participant that made so many asks and notices before
abbrev pub shown_by_lines : List LogRecord → List AskLog → (ℕ → ℕ) → List Course → List ℕ
shown_by_lines log asks made [] = []
shown_by_lines log asks made (course ∷ courses) =
    let who = course.line.participant in
    shown_in log asks who (made who + 1) course.trace
    ++ shown_by_lines log asks (counted_on made who (length (numbered_in course.trace))) courses

-- these numbers never fall from line to line, whoever did them: what is seen after a line whose notice has its outcome holds the records
-- that were there then, the run's Drop among them, and what was seen before it holds none from that Drop on. So each such notice has a Drop
-- of its own
abbrev pub AreShown : List LogRecord → List AskLog → List Course → Type 0
AreShown log asks courses = AreSeen (length log) (shown_by_lines log asks none_made courses)

-- none of the asks and notices of the lines before has its outcome by now that had none then
abbrev pub NoneComesLate : List Course → List AskLog → List AskLog → Type 0
NoneComesLate courses before now = (who number : ℕ) → 0 < number → number ≤ numbers_made who courses
    → list_any (is_outcome_for who number) now ≡ true → list_any (is_outcome_for who number) before ≡ true

-- before the first line it is so
abbrev pub ShownOpen : Type 0
ShownOpen = (log : List LogRecord) (asks : List AskLog) → AreShown log asks []

-- after each line more in which no outcome comes late the numbers that lines show never fall
abbrev pub ShownGoOnByLine : Type 0
ShownGoOnByLine = (workload : Workload) (courses : List Course) (parties later : List Party) (old new : HallView) (line : Line)
    (answer : Answer) (was now : SegsView) → IsGiven workload → SoFar workload courses parties old
    → (goes : GoesBy workload courses line answer parties later old new) → segs_in (slot_at old MAX_HEAPS) ≡ Some was
    → segs_in (slot_at new MAX_HEAPS) ≡ Some now → NoneComesLate courses was.asks now.asks → AreShown was.log was.asks courses
    → AreShown now.log now.asks (courses ++ record { line = line; answer = answer; trace = goes.does.does.does.trace } ∷ [])

-- where all serve on, and no outcome comes late, the numbers that lines show never fall
abbrev pub ShownRest : Type 0
ShownRest = (workload : Workload) (courses : List Course) (parties later : List Party) (old new : HallView) (was now : SegsView)
    → IsGiven workload → SoFar workload courses parties old → length later ≡ length parties
    → OthersServe (λ who. ⊥) workload.participants (λ who. standing_of workload who courses) old new parties later → AreHome new
    → IsCourse old new
    → segs_in (slot_at old MAX_HEAPS) ≡ Some was → segs_in (slot_at new MAX_HEAPS) ≡ Some now
    → NoneComesLate courses was.asks now.asks → AreShown was.log was.asks courses → AreShown now.log now.asks courses
