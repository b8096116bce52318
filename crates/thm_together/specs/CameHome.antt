-- What participants on threads did, each told by its own way, and what is left once all came home; and that this is an end of their workload.
-- The rule "Together" of docs/RUNS.md.
use Rattle.std.specs.Prelude.{◌≡◌, ℕ, ◌<◌, ◌≤◌, ◌==◌, true, false, List, [], Contains, filter, length, map, take, None, Some, slice_get}
use Rattle.std.specs.List.{All}
use Rattle.hp_base.specs.declared.chunk.Chunk.{Chunk}
use Rattle.hp_hall.specs.Mail.{MailStep}
use Rattle.hp_hall.specs.Own.{Own}
use Rattle.hp_heap.specs.History.{HeapView, IsSound}
use Rattle.hp_log.specs.declared.log_record.LogRecord.{LogRecord}
use Rattle.hp_maps.specs.declared.table.Table.{Table}
use Rattle.hp_script.specs.Limits.{AreDeclared}
use Rattle.hp_script.specs.declared.answer.Answer.{Answer}
use Rattle.hp_script.specs.declared.line.Line.{Line}
use Rattle.hp_script.specs.declared.workload.Workload.{Workload}
use Rattle.hp_segs.specs.Moved.{Leads, SegsCall}
use Rattle.hp_segs.specs.SegsView.{SegsView, granted_by, is_member}
use Rattle.hp_segs.specs.declared.outcome.AskLog.{AskLog}
use Rattle.hp_serve.specs.Ending.{LeavesTable}
use Rattle.hp_serve.specs.Tied.{HasTable, part_of}
use Rattle.hp_script.specs.declared.line.Act.TheVariants as act
use Rattle.hp_proc.specs.Acting.{AreAsked}
use Rattle.hp_proc.specs.Awaits.{StandBefore}
use Rattle.hp_proc.specs.Courses.{calls_in}
use Rattle.hp_proc.specs.Ends.{AreGrown, AreHeapsOf, IsEnd, KeepsCalls, OwnsItsPages}
use Rattle.hp_proc.specs.LinesDone.{AreDone, Course, opening_standing, standing_after, trace_of}
use Rattle.hp_weave.specs.Holds.{Chain, Hold, holds_of}
use Rattle.hp_weave.specs.Weaving.{woven}
use Rattle.thm_run.specs.Apart.{holds_from}
use Rattle.thm_run.specs.ByRuns.{AreOfHeaps, GivesGood}
use Rattle.thm_run.specs.EndLaws.{IsGiven}
use Rattle.thm_run.specs.OwnLines.{AddsByLines, NoneElseGrowsAlong, WentByLines}
use Rattle.thm_run.specs.Seats.{Seat}
use Rattle.thm_run.specs.SoFar.{first_segs}
use Rattle.thm_run.specs.Together.{IsFirstSeat}
use Rattle.thm_run.specs.Told.{ArePosted}

-- a participant's lines, in their order
abbrev pub lines_for : ℕ → List Line → List Line
lines_for who lines = filter (λ line. line.participant == who) lines

-- the lines of all with what was done for them, in the order of the workload
abbrev pub courses_in_order : Workload → (ℕ → List Course) → List Course
courses_in_order workload courses = woven (map (λ line. line.participant) workload.lines.items) courses

-- A participant's way from before its first step to where it came home, by these lines and all of these steps: it waits as long as the
-- workload says; these were its lines, and each did what its facts say, by what those before it left, which it knows at last; what came to a
-- heap by the steps of a line were the line's calls of that; and by these records and outcomes its asks were answered so.
pub record WentItsWay (workload : Workload) (who : ℕ) (log : List LogRecord) (asks : List AskLog) (first last : Seat) (courses : List Course)
    (steps : List MailStep) : Type 0 where
  pub begins : IsFirstSeat who (first_segs workload) first
  pub opens : first.standing ≡ opening_standing workload who
  pub waits : first.party.deadline ≡ workload.deadline
  pub way : WentByLines workload.participants who first last courses steps
  pub adds : AddsByLines way
  pub lines : map (λ course. course.line) courses ≡ lines_for who workload.lines.items
  pub done : AreDone workload (opening_standing workload who) courses
  pub left : last.standing ≡ standing_after (opening_standing workload who) courses
  pub asked : AreAsked log asks who 0 last.party.asked last.trace

-- a hold gives back a value to which the one that it took led by calls, each under its condition
abbrev pub IsLed : Hold SegsView → Type 0
IsLed hold = (calls : List SegsCall) × Leads calls hold.taken hold.given

-- The segment value came by holds in a chain from that of the opening; of each participant they are those among its steps; each gave the value
-- back sound, with its growth and its asks of the armed, and led to it by calls; and while one has a heap in hand, none grows for that but for
-- an ask of its own.
pub record CameByHolds (workload : Workload) (steps : ℕ → List MailStep) (holds : List (Hold SegsView)) (segs : SegsView) : Type 0 where
  pub chain : Chain (first_segs workload) holds segs
  pub own : (who : ℕ) → holds_of who holds ≡ holds_from who None (steps who)
  pub good : All GivesGood holds
  pub led : All IsLed holds
  pub alone : (who : ℕ) → who < workload.participants → NoneElseGrowsAlong who None (steps who)

-- A participant leaves its table: that is the one of its number, as far as it has unmapped, with the rows of the chunks that it has attached; it is
-- in the roster exactly where its lines leave it attached, and there it has taken in each record that was granted; where it is out, it has
-- attached no chunk.
pub record LeavesItsTable (workload : Workload) (who : ℕ) (segs : SegsView) (last : Seat) (courses : List Course) (table : Table) : Type 0
  where
    pub own : Own
    pub marked : ℕ → List Chunk
    pub kept : HasTable segs.log (part_of last.party.joined own) marked last.party.maps
    pub away : last.party.joined ≡ false → (heap : ℕ) → marked heap ≡ []
    pub leaves : LeavesTable last.party table
    pub member : is_member segs.roster who ≡ last.party.joined
    pub attached : last.party.joined ≡ (standing_after (opening_standing workload who) courses).attached
    pub taken_in : last.party.joined ≡ true → (entry : AskLog) (generation : ℕ) → Contains segs.asks entry
        → granted_by entry.outcome ≡ Some generation → generation ≤ own.number

-- All heaps, each at its index and sound, keep the calls of all and no others; each grew by the runs that were granted for it, and has the
-- pages of exactly the segments that are its own; and no growth is open.
pub record AreKeptAtLast (workload : Workload) (courses : ℕ → List Course) (heaps : List HeapView) (segs : SegsView) : Type 0 where
  pub are : AreHeapsOf workload heaps
  pub sound : All IsSound heaps
  pub calls : KeepsCalls (λ who. trace_of (courses who)) heaps
  pub within : AreOfHeaps (λ who. trace_of (courses who)) heaps
  pub growth : segs.growth ≡ None
  pub grown : AreGrown heaps segs
  pub owned : All (OwnsItsPages segs) heaps

-- What participants awaited stood before what they did afterwards: of each history the calls that one made in the awaited lines stand before those
-- that another makes after the line that awaited them.
abbrev pub HaveAwaited : (ℕ → List Course) → List HeapView → Type 0
HaveAwaited courses heaps = (who place other lines : ℕ) (course : Course) → slice_get (courses who) place ≡ Some course
    → course.line.act ≡ act.Await other lines
    → All (λ heap. StandBefore heap.history other (length (calls_in (trace_of (take lines (courses other))))) who
    (length (calls_in (trace_of (take place (courses who)))))) heaps

-- The participants of a workload came home, each by its way; what participant 0 had fetched by then was posted; the answers are woven into the
-- order of the lines; what they awaited stood first; and this is what they left.
pub record AllCameHome (workload : Workload) (answers : List Answer) (heaps : List HeapView) (segs : SegsView) (tables : List Table) : Type 0
  where
    pub given : IsGiven workload
    pub declared : AreDeclared workload.participants workload.lines.items
    -- the ways
    pub first : List Seat
    pub last : List Seat
    pub courses : ℕ → List Course
    pub steps : ℕ → List MailStep
    pub begun : length first ≡ workload.participants
    pub count : length last ≡ length first
    pub went : (who : ℕ) (old new : Seat) → slice_get first who ≡ Some old → slice_get last who ≡ Some new
        → WentItsWay workload who segs.log segs.asks old new (courses who) (steps who)
    pub no_lines : (who : ℕ) → workload.participants ≤ who → courses who ≡ []
    pub no_steps : (who : ℕ) → workload.participants ≤ who → steps who ≡ []
    pub posted : (seat : Seat) → slice_get last 0 ≡ Some seat → ArePosted steps seat
    pub answered : answers ≡ woven (map (λ line. line.participant) workload.lines.items) (λ who. map (λ course. course.answer) (courses who))
    pub awaited : HaveAwaited courses heaps
    -- what they left
    pub holds : List (Hold SegsView)
    pub held : CameByHolds workload steps holds segs
    pub kept : AreKeptAtLast workload courses heaps segs
    pub tables_are : length tables ≡ workload.participants
    pub leaves : (who : ℕ) (seat : Seat) (table : Table) → slice_get last who ≡ Some seat → slice_get tables who ≡ Some table
        → LeavesItsTable workload who segs seat (courses who) table

-- wherever all came home so, what they left is an end of their workload, of these lines as they were done
abbrev pub EndWhereHome : Type 0
EndWhereHome = (workload : Workload) (answers : List Answer) (heaps : List HeapView) (segs : SegsView) (tables : List Table)
    (home : AllCameHome workload answers heaps segs tables)
    → (end : IsEnd workload answers heaps segs tables) × (end.courses ≡ courses_in_order workload home.courses)

-- and the last segment value is one to which the first one led by calls, each under its condition
abbrev pub LedWhereHome : Type 0
LedWhereHome = (workload : Workload) (answers : List Answer) (heaps : List HeapView) (segs : SegsView) (tables : List Table)
    → AllCameHome workload answers heaps segs tables → (calls : List SegsCall) × Leads calls (first_segs workload) segs
