-- What a run of a workload leaves.
use Rattle.std.specs.Prelude.{◌≡◌, ℕ, ◌+◌, ◌<◌, ◌≤◌, Bool, true, false, ◌&&◌, ◌==◌, List, [], ◌∷◌, ◌++◌, length, map, flat_map, Some, None, slice_get}
use Rattle.std.specs.List.{All, list_any}
use Rattle.std.specs.List.Sorted.{IsPermutation}
use Rattle.hp_heap.specs.History.{HeapView, IsSound, entries_of}
use Rattle.hp_heap.specs.HistoryLaws.{runs_cut, runs_grown}
use Rattle.hp_heap.specs.PlainHeap.{PlainHeap}
use Rattle.hp_heap.specs.declared.entry.Entry.{Entry}
use Rattle.hp_maps.specs.Catching.{Lags}
use Rattle.hp_maps.specs.MapsView.{table_in}
use Rattle.hp_maps.specs.declared.table.Table.{Table}
use Rattle.hp_script.specs.declared.answer.Answer.{Answer}
use Rattle.hp_script.specs.declared.workload.Workload.{Workload}
use Rattle.hp_segs.specs.SegsView.{SegsView, state_at, is_member, is_opened}
use Rattle.hp_segs.specs.Sound as segments
use Rattle.hp_segs.specs.declared.row_state.RowState.TheVariants.{Owned}
use Rattle.hp_proc.specs.Doing.{Done}
use Rattle.hp_proc.specs.Heaps.{sockets_of}
use Rattle.hp_proc.specs.Courses.{calls_in}
use Rattle.hp_proc.specs.LinesDone.{Course, courses_of, trace_of, IsNoneUngranted, AreDone, opening_standing, standing_after}
use Rattle.hp_segs.specs.GrantedRuns.{granted_runs}
use Rattle.hp_segs.specs.Returned.{returned_runs}
use Rattle.hp_proc.specs.Handed.{AreOwnFailures}
use Rattle.hp_proc.specs.Histories.{entries_for}
use Rattle.hp_proc.specs.Outcomes.{AreAnsweredSo, IsOfAnAskOfATrace, IsOfATraceUnlessStale, AreAsksInTurn, AreInTurn, AreAskedFor, IsRefusedIn}
use Rattle.hp_proc.specs.Seen.{AreSeen, HasTakenIn, counted_on, seen_in, seen_by_lines}
use Rattle.hp_proc.specs.Awaits.{AreAwaited}

-- each heap stands at its index, and takes the pages of the socket that has this place, or none
pub record IsHeapAt (workload : Workload) (place : ℕ) (heap : PlainHeap) : Type 0 where
  pub index : heap.index ≡ place
  pub serves : heap.serves ≡ slice_get (sockets_of workload.pools.items) place

-- the heaps of a workload, of which each socket has one
pub record AreHeapsOf (workload : Workload) (heaps : List HeapView) : Type 0 where
  pub all : length (sockets_of workload.pools.items) ≤ length heaps
  pub each : (place : ℕ) (heap : HeapView) → slice_get heaps place ≡ Some heap → IsHeapAt workload place heap.plain

-- a heap keeps a participant's calls: its entries in the history are those of its traces, numbered from 1 over all heaps
abbrev pub KeepsCalls : (ℕ → List Done) → List HeapView → Type 0
KeepsCalls did heaps = (who index : ℕ) (heap : HeapView) → slice_get heaps index ≡ Some heap
    → entries_of who heap.history ≡ entries_for who index 1 (calls_in (did who))

-- each heap grew by the runs that were granted for it, in their order
abbrev pub AreGrown : List HeapView → SegsView → Type 0
AreGrown heaps segs = (index : ℕ) (heap : HeapView) → slice_get heaps index ≡ Some heap
    → runs_grown heap.history ≡ granted_runs index segs.asks 1 segs.log

-- what was cut from heaps has gone back by one Drop each, or is Retiring
abbrev pub HaveGoneBack : List HeapView → SegsView → Type 0
HaveGoneBack heaps segs = IsPermutation (flat_map (λ heap. runs_cut heap.history) heaps)
    (returned_runs segs.asks false 1 segs.log ++ segs.retiring)

-- the heap has a page at a slot
abbrev pub has_page_at : ℕ → ℕ → PlainHeap → Bool
has_page_at list slot heap = list_any (λ page. (page.list == list) && (page.slot == slot)) heap.pages

-- a heap's pages are exactly the segments that are its own
abbrev pub OwnsItsPages : SegsView → HeapView → Type 0
OwnsItsPages segs heap = (list slot : ℕ)
    → (has_page_at list slot heap.plain ≡ true → state_at segs.segments list slot ≡ Some (Owned heap.plain.index))
    × (state_at segs.segments list slot ≡ Some (Owned heap.plain.index) → has_page_at list slot heap.plain ≡ true)

-- a participant's table, where so many records were there when it attached last: in the roster it lags behind the log by records alone
-- that it has not taken in; it has taken in what was there when it attached, and since then the record of each of its own grants; and it has
-- every segment that is in use; out of the roster there is none. Which rows of external memory stand beside them, EndsWithNames says
pub record IsMembersTable (segs : SegsView) (who attached_at : ℕ) (table : Table) : Type 0 where
  pub lags : Lags segs.log table.number (length segs.log) (table_in table.rows.items)
  pub since : attached_at ≤ table.number
  pub own : All (HasTakenIn who table.number) segs.asks
  pub agreed : All (λ segment. is_opened segment.state ≡ false → segment.row.generation ≤ table.number) segs.segments

abbrev pub IsTableOf : SegsView → ℕ → ℕ → Bool → Table → Type 0
IsTableOf segs who attached_at true table = IsMembersTable segs who attached_at table
IsTableOf segs who attached_at false table = (table.number ≡ 0) × (table.rows.items ≡ [])

-- an end of a workload, in whatever order its participants' steps came, but for what it says of names and of external memory (EndsWithNames)
pub record IsEnd (workload : Workload) (answers : List Answer) (heaps : List HeapView) (segs : SegsView) (tables : List Table) : Type 0 where
  -- the lines in file order with their answers, and what was done for each: each participant's lines did, one after another, what their
  -- facts say
  pub courses : List Course
  pub lines : map (λ course. course.line) courses ≡ workload.lines.items
  pub answered : map (λ course. course.answer) courses ≡ answers
  pub done : (who : ℕ) → who < workload.participants
      → AreDone workload (opening_standing workload who) (courses_of who courses)
  pub none : All IsNoneUngranted courses
  -- the heaps of the sockets come first, each heap at its index; they are sound, and their histories are the calls of the lines and no
  -- others
  pub heaps_are : AreHeapsOf workload heaps
  pub heaps_sound : All IsSound heaps
  pub calls : KeepsCalls (λ who. trace_of (courses_of who courses)) heaps
  -- the segment value is sound; each ask has its outcome, each grant and each refusal is of an ask, and they come in turn; each growth was asked
  -- for; the workload shows its part of each refusal's cause
  pub segs_sound : segments.IsSound segs
  pub pools : segs.pools ≡ workload.pools.items
  pub asks : (who : ℕ) → AreAnsweredSo segs.log segs.asks who (trace_of (courses_of who courses))
  pub outcomes : All (IsOfAnAskOfATrace segs.log (λ who. trace_of (courses_of who courses))) segs.asks
  pub in_turn : AreAsksInTurn segs.asks
  pub asked_for : AreAskedFor segs
  pub causes : All (IsRefusedIn workload) segs.asks
  pub settled : segs.growth ≡ None
  -- what a participant sees of the log never falls from line to line, and holds the records of its own earlier asks; where a mapping was
  -- refused, it was one of a row of the log or of a chunk, by a call of the participant's own
  pub seen : (who : ℕ) → AreSeen (length segs.log) (seen_in segs.log segs.asks who 1 (trace_of (courses_of who courses)))
  pub failed : (who : ℕ) → AreOwnFailures segs.log (trace_of (courses_of who courses))
  -- what was awaited stands first
  pub awaited : AreAwaited courses heaps
  -- the pages came and went by the log
  pub grown : AreGrown heaps segs
  pub gone : HaveGoneBack heaps segs
  pub owned : All (OwnsItsPages segs) heaps
  -- each participant is in the roster exactly where its lines leave it attached, and nobody else; and each has its table
  pub roster : (who : ℕ) → who < workload.participants
      → is_member segs.roster who ≡ (standing_after (opening_standing workload who) (courses_of who courses)).attached
  pub nobody_else : (who : ℕ) → workload.participants ≤ who → is_member segs.roster who ≡ false
  pub count : length tables ≡ workload.participants
  pub mapped : (who : ℕ) (table : Table) → slice_get tables who ≡ Some table
      → (table.joined ≡ is_member segs.roster who)
      × IsTableOf segs who (standing_after (opening_standing workload who) (courses_of who courses)).records table.joined table

-- the entries that lines leave in the history of a heap where they are done one after another, in file order, each of a participant that
-- made so many calls before
abbrev pub history_by : ℕ → (ℕ → ℕ) → List Course → List Entry
history_by index made [] = []
history_by index made (course ∷ courses) =
    let who = course.line.participant in
    entries_for who index (made who + 1) (calls_in course.trace)
    ++ history_by index (counted_on made who (length (calls_in course.trace))) courses

-- no call and no ask was made yet
abbrev pub none_made : ℕ → ℕ
none_made who = 0

-- what lines leave besides where they are done one after another: the entries of an earlier line stand before those of a later one in every
-- history, and a line sees of the log what the lines before it show, of any participant; each outcome but a stale one, also that of a
-- notice, is of what a line did, and they come in turn; and a stale one has the number of an ask or a notice
pub record OneThreadLeaves (courses : List Course) (heaps : List HeapView) (segs : SegsView) : Type 0 where
  pub in_order : (index : ℕ) (heap : HeapView) → slice_get heaps index ≡ Some heap → heap.history ≡ history_by index none_made courses
  pub seen_in_order : AreSeen (length segs.log) (seen_by_lines segs.log segs.asks none_made courses)
  pub traced : All (IsOfATraceUnlessStale segs.log (λ who. trace_of (courses_of who courses))) segs.asks
  pub in_turn : AreInTurn segs.asks
  pub numbered : All (λ entry. 0 < entry.number) segs.asks

-- an end of a workload whose lines are done one after another
pub record IsSoloEnd (workload : Workload) (answers : List Answer) (heaps : List HeapView) (segs : SegsView) (tables : List Table)
    : Type 0 where
  pub end : IsEnd workload answers heaps segs tables
  pub alone : OneThreadLeaves end.courses heaps segs
