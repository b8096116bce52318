-- What came of a participant's asks: looked up in the segment value by participant and number, where it stays once it is there.
use Rattle.std.specs.Prelude.{◌≡◌, ℕ, ◌+◌, ◌-◌, ◌*◌, ◌<◌, ◌≤◌, Bool, true, false, not, ◌&&◌, ◌==◌, List, find, take, Option, Some, IsTrue, Contains, slice_get, ⊤}
use Rattle.std.specs.List.{list_any}
use Rattle.std.specs.Str.{bytes_eq}
use Rattle.hp_base.specs.declared.row.Run.{Run}
use Rattle.hp_log.specs.declared.log_record.LogRecord.{LogRecord}
use Rattle.hp_log.specs.declared.log_record.LogRecord.TheVariants.{Add, Drop}
use Rattle.hp_script.specs.declared.line.Act.{Act}
use Rattle.hp_script.specs.declared.line.Act.TheVariants as act
use Rattle.hp_script.specs.declared.workload.Workload.{Workload}
use Rattle.hp_segs.specs.Refusals.{IsAddOf}
use Rattle.hp_segs.specs.SegsView.{SegsView, closed_number, is_grant_or_refusal, is_outcome_for, is_stale}
use Rattle.hp_segs.specs.declared.ask.Ask.{Ask}
use Rattle.hp_segs.specs.declared.outcome.AskLog.{AskLog}
use Rattle.hp_segs.specs.declared.outcome.Cause.{Cause}
use Rattle.hp_segs.specs.declared.outcome.Cause.TheVariants as why
use Rattle.hp_segs.specs.declared.outcome.Outcome.{Outcome}
use Rattle.hp_segs.specs.declared.outcome.Outcome.TheVariants.{Granted, Refused, Freed}
use Rattle.hp_proc.specs.Doing.{Done}
use Rattle.hp_serve.specs.declared.pages_asked.PagesAsked.{PagesAsked}
use Rattle.hp_proc.specs.Doing.Done.{Asked, GaveUp}
use Rattle.hp_proc.specs.Courses.{numbered_in}
use Rattle.hp_serve.specs.Asking.{Gives, ask_of}

-- the participant's ask of that number was this asked, and its outcome gives the run, or none
pub record IsAnsweredSo (log : List LogRecord) (asks : List AskLog) (who number : ℕ) (asked : PagesAsked) (run : Option Run) : Type 0 where
  pub entry : AskLog
  pub logged : find (is_outcome_for who number) asks ≡ Some entry
  pub kept : entry.ask ≡ Some (ask_of who number asked)
  pub given : Gives log entry.outcome run

-- each ask of a participant's traces has its outcome, where asks and runs given up are numbered together, from 1
abbrev pub AreAnsweredSo : List LogRecord → List AskLog → ℕ → List Done → Type 0
AreAnsweredSo log asks who trace = (place : ℕ) (asked : PagesAsked) (run : Option Run)
    → slice_get (numbered_in trace) place ≡ Some (Asked asked run) → IsAnsweredSo log asks who (place + 1) asked run

-- the run has gone back by one of the first records
pub record HasGone (log : List LogRecord) (records : ℕ) (run : Run) : Type 0 where
  pub place : ℕ
  pub before : place < records
  pub dropped : slice_get log place ≡ Some (Drop run)

-- an outcome is one for what was done: a grant or a refusal of an ask, or that what was given up has gone
abbrev pub IsOutcomeOf : List LogRecord → Outcome → Done → Type 0
IsOutcomeOf log (Granted generation) (Asked asked run) = ⊤
IsOutcomeOf log (Refused cause) (Asked asked run) = ⊤
IsOutcomeOf log (Freed generation) (GaveUp heap run) = HasGone log generation run
IsOutcomeOf log _ _ = ⊥

-- a logged outcome other than Stale is of something that its participant did
pub record IsOfATrace (log : List LogRecord) (did : ℕ → List Done) (entry : AskLog) : Type 0 where
  pub done : Done
  pub some : 0 < entry.number
  pub its : slice_get (numbered_in (did entry.from)) (entry.number - 1) ≡ Some done
  pub kind : IsOutcomeOf log entry.outcome done

abbrev pub IsOfATraceUnlessStale : List LogRecord → (ℕ → List Done) → AskLog → Type 0
IsOfATraceUnlessStale log did entry = is_stale entry.outcome ≡ false → IsOfATrace log did entry

-- a grant or a refusal is of an ask that its participant made
abbrev pub IsOfAnAskOfATrace : List LogRecord → (ℕ → List Done) → AskLog → Type 0
IsOfAnAskOfATrace log did entry = is_grant_or_refusal entry.outcome ≡ true → IsOfATrace log did entry

-- grants and refusals of a participant come by rising number
pub record AreAsksInTurn (asks : List AskLog) : Type 0 where
  pub above : (first later : ℕ) (entry other : AskLog) → slice_get asks first ≡ Some entry → slice_get asks later ≡ Some other → first < later
      → entry.from ≡ other.from → is_grant_or_refusal entry.outcome ≡ true → is_grant_or_refusal other.outcome ≡ true
      → entry.number < other.number

-- outcomes come by rising number: each but a stale one is of an ask whose number is above the closed one before it
pub record AreInTurn (asks : List AskLog) : Type 0 where
  pub above : (place : ℕ) (entry : AskLog) → slice_get asks place ≡ Some entry → is_stale entry.outcome ≡ false
      → closed_number (take place asks) entry.from < entry.number

-- the growth of that generation was asked for: an outcome that is logged while its Add is the last record keeps the ask
pub record IsAskedFor (segs : SegsView) (generation : ℕ) : Type 0 where
  pub entry : AskLog
  pub ask : Ask
  pub run : Run
  pub logged : Contains segs.asks entry
  pub when : entry.at ≡ generation
  pub which : entry.ask ≡ Some ask
  pub grown : IsAddOf segs.pools segs.log generation ask run

-- each growth, granted or not, was asked for
abbrev pub AreAskedFor : SegsView → Type 0
AreAskedFor segs = (place : ℕ) (run : Run) (heap : ℕ) → slice_get segs.log place ≡ Some (Add run heap) → IsAskedFor segs (place + 1)

-- an act registers a validator of that name with that limit on the socket, which denies
abbrev pub registers : List ℕ → ℕ → ℕ → Act → Bool
registers name socket limit (act.Limit text number bytes allow) =
    bytes_eq text.text name && ((number == socket) && ((bytes == limit) && not allow))
registers name socket limit _ = false

-- what a workload shows of the cause of a refusal: the validator that denies is registered by a line; who is named takes part; a member
-- is late, and an ask is taken back, only by readings of a clock that are the deadline apart, and three deadlines
abbrev pub IsCauseIn : Workload → Ask → Cause → Type 0
IsCauseIn workload ask (why.Denied validator limit total) =
    IsTrue (list_any (λ line. registers validator ask.socket limit line.act) workload.lines.items)
IsCauseIn workload ask (why.MapFailed participant call addr got) = participant < workload.participants
IsCauseIn workload ask (why.Late participant from to) = (participant < workload.participants) × (from + workload.deadline ≤ to)
IsCauseIn workload ask (why.Withdrawn from to) = from + 3 * workload.deadline ≤ to
IsCauseIn workload ask _ = ⊤

-- the workload shows the cause of an outcome that is a refusal
abbrev pub IsRefusedIn : Workload → AskLog → Type 0
IsRefusedIn workload entry =
    (ask : Ask) (cause : Cause) → entry.ask ≡ Some ask → entry.outcome ≡ Refused cause → IsCauseIn workload ask cause
