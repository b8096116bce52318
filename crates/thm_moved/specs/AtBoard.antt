-- Participants that came home from threads over one board, each told by its own way and its seat's view; and that what they and the board leave is
-- an end of their workload. The rules "Opening and closing" of docs/BOARD.md and "Together" of docs/RUNS.md.
use Rattle.std.specs.Prelude.{◌≡◌, ℕ, ◌≤◌, List, [], ◌∷◌, ◌++◌, Contains, drop, length, map, take, Some, slice_get}
use Rattle.hp_board.specs.Closing.{AreLeftNames, HaveMoved, IsNotedUpTo, handed_out}
use Rattle.hp_board.specs.Lines.{made_by_then}
use Rattle.hp_board.specs.SeatView.{SeatView}
use Rattle.hp_board.specs.Views.{made_in, values_of}
use Rattle.hp_board.specs.declared.opening.Opening.{Opening}
use Rattle.hp_board.specs.declared.view.Awaited.{Awaited}
use Rattle.hp_board.specs.declared.view.LinesDone.{LinesDone}
use Rattle.hp_board.specs.declared.view.Mine.{Mine}
use Rattle.hp_board.specs.declared.view.Move.TheVariants.{Took}
use Rattle.hp_chair.specs.Steps.{moves_in, posted_to}
use Rattle.hp_frame.specs.declared.frame.Frame.{Frame}
use Rattle.hp_hall.specs.Mail.{Fetches, MailStep}
use Rattle.hp_hall.specs.declared.kept.Kept.{Kept}
use Rattle.hp_hall.specs.declared.kept.Kept.TheVariants.{Heap, Names}
use Rattle.hp_hall.specs.declared.slot.TheConstants.{NAMES_SLOT}
use Rattle.hp_heap.specs.History.{HeapView}
use Rattle.hp_heap.specs.declared.entry.Entry.{Entry}
use Rattle.hp_maps.specs.declared.table.Table.{Table}
use Rattle.hp_script.specs.Limits.{AreDeclared}
use Rattle.hp_script.specs.declared.answer.Answer.{Answer}
use Rattle.hp_script.specs.declared.line.Act.TheVariants as act
use Rattle.hp_script.specs.declared.workload.Workload.{Workload}
use Rattle.hp_segs.specs.SegsView.{SegsView}
use Rattle.hp_stats.specs.StatViews.{PenView}
use Rattle.hp_zone.specs.declared.names.Names.{Names as NamesView}
use Rattle.hp_proc.specs.Courses.{calls_in}
use Rattle.hp_proc.specs.Doing.{Done}
use Rattle.hp_proc.specs.Doing.Done.{HeapSeen, NamesRead}
use Rattle.hp_proc.specs.Ends.{IsEnd}
use Rattle.hp_proc.specs.Handing.{shared_of}
use Rattle.hp_proc.specs.Histories.{entries_for}
use Rattle.hp_proc.specs.LinesDone.{Course, trace_of}
use Rattle.hp_proc.specs.NamesOfLines.{names_after}
use Rattle.hp_proc.specs.SharedNames.{SharedNames, no_changes}
use Rattle.hp_weave.specs.Weaving.{woven}
use Rattle.thm_run.specs.EndLaws.{IsGiven}
use Rattle.thm_run.specs.Seats.{Seat}
use Rattle.thm_run.specs.SoFar.{first_names, first_segs}
use Rattle.thm_together.specs.CameHome.{AllCameHome, WentItsWay, courses_in_order}
use Rattle.thm_moved.specs.ByClose.{EndsAt, IsClosedOver, IsOpeningOf}

-- the names as lines gave them back last, where they were these before
abbrev pub given_by : SharedNames → List Done → SharedNames
given_by known [] = known
given_by known (NamesRead names ∷ rest) = names_after names rest
given_by known (_ ∷ rest) = known

abbrev pub given_last : SharedNames → List Course → SharedNames
given_last known [] = known
given_last known (course ∷ courses) = given_last (given_by known course.trace) courses

-- A participant told that so many lines were done, which are its first ones: it had made their calls by then, and had seen of the names what they
-- gave back last.
pub record HasTold (who : ℕ) (courses : List Course) (mine : Mine) (mark : LinesDone) : Type 0 where
  pub early : List Course
  pub late : List Course
  pub are : courses ≡ early ++ late
  pub many : length early ≡ mark.lines
  pub made : (heap : ℕ) → made_by_then heap mark mine ≡ entries_for who heap 1 (calls_in (trace_of early))
  pub zones : mark.zones ≡ length (given_last no_changes early).zones
  pub names : mark.names ≡ length (given_last no_changes early).heaps

-- a participant has taken that value since it had made so many moves
abbrev pub TookSince : Mine → ℕ → ℕ → Kept → Type 0
TookSince mine moves slot kept = Contains (drop moves mine.moves) (Took slot kept)

-- A participant looked up, in the line of that place that awaited another's first lines, that so many of these were done, or more: it had made by
-- then what its lines before say; and what it was handed from that line on it took after that.
pub record HasLooked (who place other lines : ℕ) (courses : List Course) (mine : Mine) : Type 0 where
  pub awaited : Awaited
  pub there : Contains mine.awaited (other, awaited)
  pub enough : lines ≤ awaited.lines
  pub made : (heap : ℕ) → values_of heap (take awaited.entries mine.made) ≡ entries_for who heap 1 (calls_in (trace_of (take place courses)))
  pub states : (heap : ℕ) (history : List Entry) (first rest : List Done) → trace_of (drop place courses) ≡ first ++ HeapSeen heap history ∷ rest
      → (view : HeapView) × (pen : PenView) × (view.history ≡ history) × TookSince mine awaited.moves heap (Heap view pen)
  pub names : (shown : SharedNames) (first rest : List Done) → trace_of (drop place courses) ≡ first ++ NamesRead shown ∷ rest
      → (view : NamesView) × (shared_of view ≡ shown) × TookSince mine awaited.moves NAMES_SLOT (Names view)

-- A participant came home to its seat at a board: it went its way by these steps, which are what its seat took and gave; by that view its asks were
-- answered, each heap has its calls, and it ends with its table. What it told of its lines it told when they were done, and what it awaited it
-- looked up.
pub record CameToItsSeat (workload : Workload) (who : ℕ) (first last : Seat) (courses : List Course) (steps : List MailStep) (seat : SeatView)
    (table : Table) : Type 0 where
  pub whose : seat.mine.who ≡ who
  pub went : WentItsWay workload who seat.mine.log seat.mine.heard first last courses steps
  pub moves : seat.mine.moves ≡ moves_in steps
  pub made : (heap : ℕ) → made_in heap seat.mine ≡ entries_for who heap 1 (calls_in (trace_of courses))
  pub told : (mark : LinesDone) → Contains seat.mine.done mark → HasTold who courses seat.mine mark
  pub zones : seat.mine.zones ≡ (given_last no_changes courses).zones
  pub names : seat.mine.names ≡ (given_last no_changes courses).heaps
  pub looked : (place other lines : ℕ) (course : Course) → slice_get courses place ≡ Some course → course.line.act ≡ act.Await other lines
      → HasLooked who place other lines courses seat.mine
  pub ends : EndsAt workload who seat last courses table

-- All participants of a workload came home so to a board that opened for it; each frame that participant 0 fetched had been posted to it, sooner or
-- later; and these heaps and this segment value are what the board handed out.
pub record AllCameToTheirSeats (workload : Workload) (answers : List Answer) (heaps : List HeapView) (segs : SegsView) (tables : List Table)
    : Type 0 where
  pub given : IsGiven workload
  pub declared : AreDeclared workload.participants workload.lines.items
  -- the board
  pub opening : Opening
  pub opens : IsOpeningOf workload opening
  pub segs_are : opening.segs.value ≡ first_segs workload
  pub names_are : opening.names.value ≡ first_names workload
  pub seats : List SeatView
  pub pens : List PenView
  pub names : NamesView
  pub closed : IsClosedOver opening seats heaps pens segs
  pub left : AreLeftNames opening seats heaps segs names
  pub noted : (seat other : SeatView) → Contains seats seat → Contains seats other → IsNotedUpTo heaps seat.mine other.mine
  pub moved : HaveMoved opening seats (handed_out heaps pens segs names)
  -- the participants
  pub first : ℕ → Seat
  pub last : ℕ → Seat
  pub courses : ℕ → List Course
  pub steps : ℕ → List MailStep
  pub many : length seats ≡ workload.participants
  pub count : length tables ≡ workload.participants
  pub home : (who : ℕ) (seat : SeatView) (table : Table) → slice_get seats who ≡ Some seat → slice_get tables who ≡ Some table
      → CameToItsSeat workload who (first who) (last who) (courses who) (steps who) seat table
  pub no_lines : (who : ℕ) → workload.participants ≤ who → courses who ≡ []
  pub no_steps : (who : ℕ) → workload.participants ≤ who → steps who ≡ []
  pub posted : (frame : Frame) → Contains (steps 0) (Fetches (Some frame)) → (from : ℕ) × Contains (posted_to 0 (steps from)) frame
  pub answered : answers ≡ woven (map (λ line. line.participant) workload.lines.items) (λ who. map (λ course. course.answer) (courses who))

-- all came home, each from the seat in which it began to the one in which it ended, with these lines
pub record ComeHomeSo (workload : Workload) (answers : List Answer) (heaps : List HeapView) (segs : SegsView) (tables : List Table)
    (first last : ℕ → Seat) (courses : ℕ → List Course) : Type 0 where
  pub home : AllCameHome workload answers heaps segs tables
  pub courses_are : home.courses ≡ courses
  pub began : (who : ℕ) (seat : Seat) → slice_get home.first who ≡ Some seat → seat ≡ first who
  pub ended : (who : ℕ) (seat : Seat) → slice_get home.last who ≡ Some seat → seat ≡ last who

-- wherever they did so, they came home
abbrev pub HomeAtBoard : Type 0
HomeAtBoard = (workload : Workload) (answers : List Answer) (heaps : List HeapView) (segs : SegsView) (tables : List Table)
    (all : AllCameToTheirSeats workload answers heaps segs tables)
    → ComeHomeSo workload answers heaps segs tables all.first all.last all.courses

-- and that is an end of their workload, of these lines as they were done
abbrev pub EndAtBoard : Type 0
EndAtBoard = (workload : Workload) (answers : List Answer) (heaps : List HeapView) (segs : SegsView) (tables : List Table)
    (all : AllCameToTheirSeats workload answers heaps segs tables)
    → (end : IsEnd workload answers heaps segs tables) × (end.courses ≡ courses_in_order workload all.courses)
