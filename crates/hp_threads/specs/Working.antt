-- How far a participant has come with its lines, by what a hall shows to it: the rule "Threads" of docs/RUNS.md.
use Rattle.std.specs.Prelude.{◌≡◌, ℕ, ◌<◌, ◌≤◌, List, [], ◌∷◌, ◌++◌, length, filter, ◌==◌, map, slice_index}
use Rattle.std.specs.List.{All, AllPairs}
use Rattle.hp_hall.specs.HallState.{HallState}
use Rattle.hp_hall.specs.Holding.{HeapPart}
use Rattle.hp_log.specs.declared.log_record.LogRecord.{LogRecord}
use Rattle.hp_script.specs.Facts.{AwaitEarlier}
use Rattle.hp_script.specs.Limits.{AreDeclared}
use Rattle.hp_script.specs.declared.answer.Answer.{Answer}
use Rattle.hp_script.specs.declared.line.Line.{Line}
use Rattle.hp_script.specs.declared.workload.Workload.{Workload}
use Rattle.hp_segs.specs.declared.outcome.AskLog.{AskLog}
use Rattle.hp_proc.specs.Acting.{AreAsked}
use Rattle.hp_proc.specs.Contexts.{IsNextLine}
use Rattle.hp_proc.specs.Courses.{calls_in}
use Rattle.hp_proc.specs.Histories.{entries_for}
use Rattle.hp_proc.specs.LineInHall.{IsReadyAgain, IsReadyIn, MayDoLine}
use Rattle.hp_proc.specs.LinesDone.{AreDone, Course, courses_of, opening_standing}
use Rattle.hp_proc.specs.ParticipantView.{ParticipantView}
use Rattle.hp_proc.specs.Progress.{MayComeAndGo}
use Rattle.thm_run.specs.SoFar.{context_of, trace_for}
use Rattle.hp_threads.specs.Works.{Works}

-- lines that can be done one after another: each is of a declared participant that may do it, whom it awaits is declared too, and their numbers
-- rise
pub record CanBeDone (count : ℕ) (lines : List Line) : Type 0 where
  pub declared : AreDeclared count lines
  pub may : All (λ line. MayComeAndGo line.participant line.act) lines
  pub awaits : AwaitEarlier count lines
  pub rising : AllPairs (λ line other. line.line < other.line) lines

-- a participant's lines, in their order
abbrev pub lines_for : ℕ → List Line → List Line
lines_for who lines = filter (λ line. line.participant == who) lines

-- these were its lines so far, with their answers; each did what its facts say, by what those before it left; the participant knows what they
-- left; the heaps have its calls, numbered from 1, and each of its asks has its answer
pub record HasDoneLines (workload : Workload) (courses : List Course) (who : ℕ) (doer : ParticipantView) (parts : ℕ → HeapPart)
    (log : List LogRecord) (asks : List AskLog) : Type 0 where
  pub me : doer.party.me ≡ who
  pub socket : doer.party.socket ≡ slice_index workload.sockets who
  pub deadline : doer.party.deadline ≡ workload.deadline
  pub knows : doer.context ≡ context_of workload who courses
  pub own : All (λ course. course.line.participant ≡ who) courses
  pub done : AreDone workload (opening_standing workload who) (courses_of who courses)
  pub entries : (heap : ℕ) → (parts heap).entries ≡ entries_for who heap 1 (calls_in (trace_for who courses))
  pub asked : AreAsked log asks who 0 doer.party.asked (trace_for who courses)

-- all that a participant has done in a hall are these lines, one after another, beside which it served, and of as many it has told there; and
-- it may do its next one
pub record HasWorkedIn (workload : Workload) (me : ℕ) (courses : List Course) (first doer : ParticipantView) (now : HallState) : Type 0 where
  pub works : Works workload.participants first doer courses (now.done me)
  pub done : HasDoneLines workload courses me doer (now.part me) (now.seen me) (now.heard me)
  pub ready : IsReadyIn me doer now
  pub told : now.lines me ≡ length courses
  pub count : now.count ≡ workload.participants

-- a participant may do its next line in the hall, and it has told of no more lines than so many
pub record CanDoNext (line : Line) (lines : ℕ) (doer : ParticipantView) (now : HallState) : Type 0 where
  pub own : line.participant ≡ doer.party.me
  pub next : IsNextLine doer.context line
  pub may : MayDoLine doer.party.me 0 line.act now
  pub ready : IsReadyIn doer.party.me doer now
  pub told : now.lines doer.party.me ≤ lines

-- it is ready again, whatever became of what it did meanwhile, knows what it knew, and has told of as many lines
pub record IsReadyStill (old new : ParticipantView) (from to : HallState) : Type 0 where
  pub again : IsReadyAgain old.party.me old new to
  pub context : new.context ≡ old.context
  pub lines : to.lines old.party.me ≡ from.lines old.party.me

-- whatever it has done before, it has done no line more
abbrev pub GoesOnWorking : ParticipantView → ParticipantView → HallState → HallState → Type 0
GoesOnWorking old new from to = (workload : Workload) (me : ℕ) (courses : List Course) (first : ParticipantView)
    → HasWorkedIn workload me courses first old from → HasWorkedIn workload me courses first new to

-- a line with its answer
pub record IsCourseOf (line : Line) (answer : Answer) (course : Course) : Type 0 where
  pub line_is : course.line ≡ line
  pub answer_is : course.answer ≡ answer

-- whatever it has done before, with so many lines, it has done this line more
abbrev pub WorksOneMore : Line → Answer → ℕ → ParticipantView → ParticipantView → HallState → HallState → Type 0
WorksOneMore line answer lines old new from to = (workload : Workload) (me : ℕ) (courses : List Course) (first : ParticipantView)
    → HasWorkedIn workload me courses first old from → length courses ≡ lines
    → (course : Course) × IsCourseOf line answer course × HasWorkedIn workload me (courses ++ course ∷ []) first new to

-- it has done its own of these lines, and they were answered so
pub record HasDoneOwn (workload : Workload) (me : ℕ) (lines : List Line) (answers : List Answer) (first doer : ParticipantView)
    (now : HallState) : Type 0 where
  pub courses : List Course
  pub lines_are : map (λ course. course.line) courses ≡ lines_for me lines
  pub answered : map (λ course. course.answer) courses ≡ answers
  pub worked : HasWorkedIn workload me courses first doer now
