-- What is true of every line and every value, whatever the code does.
use Rattle.std.specs.Prelude.{◌≡◌, ℕ, ◌+◌, List, ◌++◌, length, Option}
use Rattle.hp_base.specs.declared.row.Run.{Run}
use Rattle.hp_log.specs.declared.log_record.LogRecord.{LogRecord}
use Rattle.hp_segs.specs.declared.outcome.AskLog.{AskLog}
use Rattle.hp_proc.specs.Doing.{Doing, Done, Leads}
use Rattle.hp_serve.specs.declared.pages_asked.PagesAsked.{PagesAsked}
use Rattle.hp_proc.specs.Courses.{OwnCall}
use Rattle.hp_proc.specs.Histories.{entries_for}
use Rattle.hp_proc.specs.Outcomes.{AreInTurn, IsAnsweredSo}
use Rattle.hp_serve.specs.Asking.{HasAnswer, ask_of}

-- the outcome of an ask stays, whatever records and outcomes follow
abbrev pub StaysAnswered : List LogRecord → List AskLog → Type 0
StaysAnswered log asks = (more : List LogRecord) (others : List AskLog) (who number : ℕ) (asked : PagesAsked) (run : Option Run)
    → IsAnsweredSo log asks who number asked run → IsAnsweredSo (log ++ more) (asks ++ others) who number asked run

-- where outcomes come in turn, an ask that has its answer is answered so by the only outcome of its number
abbrev pub AnswersInTurn : List LogRecord → List AskLog → Type 0
AnswersInTurn log asks = AreInTurn asks → (who number : ℕ) (asked : PagesAsked) (run : Option Run)
    → HasAnswer log asks (ask_of who number asked) run → IsAnsweredSo log asks who number asked run

-- what leads to a rest, and what leads on from there, lead on together
abbrev pub LeadsOn : Doing → Type 0
LeadsOn doing = (first second : List Done) (rest left : Doing)
    → Leads doing first rest → Leads rest second left → Leads doing (first ++ second) left

-- the entries of calls and of further calls are those of both, numbered on
abbrev pub GoesOnNumbered : ℕ → ℕ → Type 0
GoesOnNumbered who heap = (number : ℕ) (calls more : List OwnCall)
    → entries_for who heap number (calls ++ more) ≡ entries_for who heap number calls ++ entries_for who heap (number + length calls) more
