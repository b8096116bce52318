-- What a participant's own holds say of its lines, whoever holds the values in between: what it sees of the log never falls, and where one
-- of its lines was answered that there is no memory, nothing was granted to that line. The rule "Together" of docs/RUNS.md.
use Rattle.std.specs.Prelude.{◌≡◌, ◌≢◌, ◌⊎◌, ℕ, ◌+◌, ◌<◌, ◌≤◌, ⊤, Bool, true, List, [], ◌∷◌, ◌++◌, length, Contains, Option, Some, None, IfSome, Result}
use Rattle.std.specs.List.{All}
use Rattle.hp_base.specs.declared.caught.Caught.{Caught}
use Rattle.hp_base.specs.declared.chunk.Chunk.{Chunk}
use Rattle.hp_base.specs.declared.row.Run.{Run}
use Rattle.hp_hall.specs.Asks.{AnswersOfArmed}
use Rattle.hp_hall.specs.Mail.{MailStep}
use Rattle.hp_heap.specs.History as heaps
use Rattle.hp_heap.specs.History.{HeapView}
use Rattle.hp_heap.specs.declared.entry.Entry.{Entry}
use Rattle.hp_heap.specs.declared.entry.HeapAnswer.{HeapAnswer}
use Rattle.hp_heap.specs.declared.entry.HeapCall.{HeapCall}
use Rattle.hp_log.specs.declared.log_record.LogRecord.{LogRecord}
use Rattle.hp_script.specs.declared.workload.Workload.{Workload}
use Rattle.hp_segs.specs.GrowthLaws.{HasArmedGrowth}
use Rattle.hp_segs.specs.LaterSteps.{armed_ask}
use Rattle.hp_segs.specs.SegsView.{SegsView, closed_number}
use Rattle.hp_segs.specs.SettledAsks.{IsSettled}
use Rattle.hp_segs.specs.Sound as segments
use Rattle.hp_segs.specs.declared.ask.Ask.{Ask}
use Rattle.hp_segs.specs.declared.fault.RangeFault.{RangeFault}
use Rattle.hp_segs.specs.declared.outcome.AskLog.{AskLog}
use Rattle.hp_serve.specs.Asking.{ask_of}
use Rattle.hp_serve.specs.declared.pages_asked.PagesAsked.{PagesAsked}
use Rattle.hp_proc.specs.Courses.{calls_in}
use Rattle.hp_proc.specs.Doing.{Counted, Done}
use Rattle.hp_proc.specs.Doing.Done.{Asked, Called, CaughtUp, ChunkMapped, GaveUp, HeapSeen, Looked, NamesChanged, NamesRead, RangePlanned, StatsRead}
use Rattle.hp_proc.specs.Histories.{entries_for}
use Rattle.hp_proc.specs.LinesDone.{AreDone, Course, IsNoneUngranted, courses_of, opening_standing, trace_of}
use Rattle.hp_proc.specs.SharedNames.{NamesChange, SharedNames}
use Rattle.hp_proc.specs.Outcomes.{AreAnsweredSo, AreAsksInTurn, IsAnsweredSo, IsOfAnAskOfATrace}
use Rattle.hp_proc.specs.Seen.{AreSeen, seen_in}
use Rattle.hp_weave.specs.Deeds.{Gathering}
use Rattle.hp_weave.specs.Holds.{Chain, Hold, holds_of}
use Rattle.thm_run.specs.Apart.{CameTogether}
use Rattle.thm_run.specs.Seats.{Seat}

-- records and outcomes came after the others, and each of these outcomes when there were no fewer records than before
pub record HasLater (old new : SegsView) : Type 0 where
  pub more : List LogRecord
  pub log : new.log ≡ old.log ++ more
  pub others : List AskLog
  pub asks : new.asks ≡ old.asks ++ others
  pub since : (entry : AskLog) → Contains others entry → length old.log ≤ entry.at

-- a hold of the segment value gives it back sound, with later records and outcomes; nobody but who has it is armed anew; and each outcome
-- that comes beside its ask is of the ask with which its participant was armed
pub record GoesOn (hold : Hold SegsView) : Type 0 where
  pub sound : segments.IsSound hold.given
  pub later : HasLater hold.taken hold.given
  pub others : (other : ℕ) → other ≢ hold.who → armed_ask hold.given other ≡ armed_ask hold.taken other
  pub answers : AnswersOfArmed hold.taken hold.given

-- where participants came together, and each value is taken with its growth of an armed ask and given back sound, each of their holds is so
abbrev pub HoldsGoOn : Type 0
HoldsGoOn = (count : ℕ) (first last : Gathering Seat SegsView) (steps : ℕ → List MailStep) (holds : List (Hold SegsView))
    → CameTogether count first last steps holds → All (λ hold. HasArmedGrowth hold.taken) holds
    → All (λ hold. segments.IsSound hold.given) holds → All GoesOn holds

-- no growth is open for the heap
abbrev pub NoneGrows : ℕ → SegsView → Type 0
NoneGrows heap segs = IfSome segs.growth (λ growth. growth.ask.heap ≢ heap)

-- a participant armed itself with the ask of that number, and later it has its outcome; at both moments no growth was open for the heap of the
-- ask
pub record IsAskedBetween (who number : ℕ) (asked : PagesAsked) (run : Option Run) (armed heard : SegsView) : Type 0 where
  pub its : armed_ask armed who ≡ Some (ask_of who number asked)
  pub fresh : closed_number armed.asks who < number
  pub before : NoneGrows asked.heap armed
  pub answer : IsAnsweredSo heard.log heard.asks who number asked run
  pub after : NoneGrows asked.heap heard

-- in a hold a participant is not armed anew
abbrev pub StaysArmed : ℕ → Hold SegsView → Type 0
StaysArmed who hold = armed_ask hold.given who ≡ armed_ask hold.taken who

-- in which of its holds of the segment value, one after another, a participant did what its trace says, where its asks and notices are
-- numbered on from a number: each look in one of them, which shows how many records there were; each ask in one, where alone it arms
-- itself, and by a later one it has its outcome; what else it did is between holds, or in one of them
pub data DoesInHolds (who : ℕ) : ℕ → List Done → List (Hold SegsView) → Type 0 where
  ends : (number : ℕ) → DoesInHolds who number [] []
  passes : (number : ℕ) (trace : List Done) (hold : Hold SegsView) (holds : List (Hold SegsView)) → StaysArmed who hold
      → DoesInHolds who number trace holds → DoesInHolds who number trace (hold ∷ holds)
  looks : (number : ℕ) (trace : List Done) (hold : Hold SegsView) (holds : List (Hold SegsView)) → StaysArmed who hold
      → DoesInHolds who number trace holds → DoesInHolds who number (Looked (length hold.taken.log) ∷ trace) (hold ∷ holds)
  asks : (number : ℕ) (asked : PagesAsked) (run : Option Run) (trace : List Done) (arming : Hold SegsView)
      (between : List (Hold SegsView)) (hearing : Hold SegsView) (holds : List (Hold SegsView))
      → IsAskedBetween who number asked run arming.given hearing.given → All (StaysArmed who) (between ++ hearing ∷ [])
      → DoesInHolds who (number + 1) trace holds
      → DoesInHolds who number (Asked asked run ∷ trace) (arming ∷ (between ++ hearing ∷ holds))
  gives_up : (number heap : ℕ) (run : Run) (trace : List Done) (holds : List (Hold SegsView)) → DoesInHolds who (number + 1) trace holds
      → DoesInHolds who number (GaveUp heap run ∷ trace) holds
  calls : (number heap : ℕ) (call : HeapCall) (answer : HeapAnswer) (trace : List Done) (holds : List (Hold SegsView))
      → DoesInHolds who number trace holds → DoesInHolds who number (Called heap call answer ∷ trace) holds
  reads_names : (number : ℕ) (names : SharedNames) (trace : List Done) (holds : List (Hold SegsView)) → DoesInHolds who number trace holds
      → DoesInHolds who number (NamesRead names ∷ trace) holds
  reads_stats : (number heap : ℕ) (counted : Counted) (trace : List Done) (holds : List (Hold SegsView))
      → DoesInHolds who number trace holds → DoesInHolds who number (StatsRead heap counted ∷ trace) holds
  changes_names : (number : ℕ) (change : NamesChange) (trace : List Done) (holds : List (Hold SegsView)) → DoesInHolds who number trace holds
      → DoesInHolds who number (NamesChanged change ∷ trace) holds
  sees_heap : (number heap : ℕ) (history : List Entry) (trace : List Done) (holds : List (Hold SegsView))
      → DoesInHolds who number trace holds → DoesInHolds who number (HeapSeen heap history ∷ trace) holds
  plans_range : (number addr len page : ℕ) (plan : Result ℕ RangeFault) (trace : List Done) (holds : List (Hold SegsView))
      → DoesInHolds who number trace holds → DoesInHolds who number (RangePlanned addr len page plan ∷ trace) holds
  maps_chunk : (number : ℕ) (chunk : Chunk) (ended : Caught) (trace : List Done) (holds : List (Hold SegsView))
      → DoesInHolds who number trace holds → DoesInHolds who number (ChunkMapped chunk ended ∷ trace) holds
  catches_up : (number to : ℕ) (caught : Caught) (trace : List Done) (holds : List (Hold SegsView)) → DoesInHolds who number trace holds
      → DoesInHolds who number (CaughtUp to caught ∷ trace) holds

-- wherever holds make a chain, what a participant sees of the log by its own ones never falls
abbrev pub SeesByHolds : Type 0
SeesByHolds = (who : ℕ) (first last : SegsView) (holds : List (Hold SegsView)) (trace : List Done) → Chain first holds last
    → All GoesOn holds → DoesInHolds who 1 trace (holds_of who holds)
    → AreSeen (length last.log) (seen_in last.log last.asks who 1 trace)

-- all participants did what their traces say in their holds, which make a chain of all from a value without armed asks and outcomes
pub record AllDoInHolds (did : ℕ → List Done) (first last : SegsView) (holds : List (Hold SegsView)) : Type 0 where
  pub none : first.asks ≡ []
  pub unarmed : (who : ℕ) → armed_ask first who ≡ None
  pub chain : Chain first holds last
  pub each : All GoesOn holds
  pub sound : segments.IsSound last
  pub does : (who : ℕ) → DoesInHolds who 1 (did who) (holds_of who holds)

-- so each ask of theirs has its outcome, each grant and each refusal is of an ask of theirs, and these come in turn
abbrev pub AnswersByHolds : Type 0
AnswersByHolds = (did : ℕ → List Done) (first last : SegsView) (holds : List (Hold SegsView)) → AllDoInHolds did first last holds
    → (who : ℕ) → AreAnsweredSo last.log last.asks who (did who)

abbrev pub OutcomesByHolds : Type 0
OutcomesByHolds = (did : ℕ → List Done) (first last : SegsView) (holds : List (Hold SegsView)) → AllDoInHolds did first last holds
    → All (IsOfAnAskOfATrace last.log did) last.asks

abbrev pub TurnsByHolds : Type 0
TurnsByHolds = (did : ℕ → List Done) (first last : SegsView) (holds : List (Hold SegsView)) → AllDoInHolds did first last holds
    → AreAsksInTurn last.asks

-- entries came to a heap in one hold of it, which gave it back sound
pub record CameInOneHold (entries : List Entry) : Type 0 where
  pub hold : Hold HeapView
  pub sound : heaps.IsSound hold.given
  pub came : hold.given.history ≡ hold.taken.history ++ entries

-- entries stand together: there are none, or they came in one hold
abbrev pub StandTogether : List Entry → Type 0
StandTogether entries = (entries ≡ []) ⊎ CameInOneHold entries

-- of each line of a participant the entries of each heap stand together, where calls are numbered on from a number
abbrev pub AreInHolds : ℕ → ℕ → List Course → Type 0
AreInHolds who number [] = ⊤
AreInHolds who number (course ∷ courses) = ((heap : ℕ) → StandTogether (entries_for who heap number (calls_in course.trace)))
    × AreInHolds who (number + length (calls_in course.trace)) courses

-- lines of a participant, one after another, did what their facts say; each of their asks has its outcome; and each line made its calls
-- of a heap in one hold of that
pub record AreDoneInHolds (workload : Workload) (segs : SegsView) (who : ℕ) (courses : List Course) : Type 0 where
  pub done : AreDone workload (opening_standing workload who) courses
  pub answered : AreAnsweredSo segs.log segs.asks who (trace_of courses)
  pub held : AreInHolds who 1 courses

-- where all participants' lines are so, none that is answered that there is no memory was granted any
abbrev pub NoneByHolds : Type 0
NoneByHolds = (workload : Workload) (segs : SegsView) (count : ℕ) (courses : List Course) → segments.IsSound segs
    → All (λ course. course.line.participant < count) courses
    → ((who : ℕ) → who < count → AreDoneInHolds workload segs who (courses_of who courses)) → All IsNoneUngranted courses

-- who has a heap in hand, while its own ask is settled, finds no growth open for the heap: each ask with which somebody is armed is
-- settled, or its participant has its heap in hand, and no two have one heap
abbrev pub NoneGrowsForHeld : Type 0
NoneGrowsForHeld = (segs : SegsView) (holds : ℕ → ℕ → Bool) (who heap : ℕ) → HasArmedGrowth segs
    → ((other : ℕ) (ask : Ask) → armed_ask segs other ≡ Some ask → IsSettled ask.from ask.number segs ⊎ (holds other ask.heap ≡ true))
    → ((one other heap : ℕ) → holds one heap ≡ true → holds other heap ≡ true → one ≡ other) → holds who heap ≡ true
    → ((ask : Ask) → armed_ask segs who ≡ Some ask → IsSettled ask.from ask.number segs) → NoneGrows heap segs
