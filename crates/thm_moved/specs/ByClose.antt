-- What a closed board hands out is what is left of a run over threads, where by its own view each participant made its calls and left its table.
-- The rules "Opening and closing" of docs/BOARD.md and "Together" of docs/RUNS.md.
use Rattle.std.specs.Prelude.{◌≡◌, ℕ, ◌≤◌, List, [], Contains, length, Some, None, slice_get, unwrap_or}
use Rattle.hp_board.specs.Closing.{AreHeaps, AreLeftSegs, AreOwnedAtLast, KeepCallsOf, KeepsTableOf}
use Rattle.hp_board.specs.SeatView.{SeatView}
use Rattle.hp_board.specs.Views.{made_in, marked_in, own_of}
use Rattle.hp_board.specs.declared.opening.Opening.{Opening}
use Rattle.hp_heap.specs.History.{HeapView}
use Rattle.hp_maps.specs.declared.table.Table.{Table}
use Rattle.hp_script.specs.declared.workload.Workload.{Workload}
use Rattle.hp_segs.specs.SegsView.{SegsView}
use Rattle.hp_serve.specs.Ending.{LeavesTable}
use Rattle.hp_serve.specs.Tied.{IsTiedAs}
use Rattle.hp_stats.specs.StatViews.{PenView}
use Rattle.hp_proc.specs.Courses.{calls_in}
use Rattle.hp_proc.specs.Doing.{Done}
use Rattle.hp_proc.specs.Heaps.{sockets_of}
use Rattle.hp_proc.specs.Histories.{entries_for}
use Rattle.hp_proc.specs.LinesDone.{Course, opening_standing, standing_after, trace_of}
use Rattle.thm_run.specs.ByRuns.{AreOfHeaps}
use Rattle.thm_run.specs.Seats.{Seat}
use Rattle.thm_together.specs.CameHome.{AreKeptAtLast, LeavesItsTable}

-- a board opened with the participants of a workload, and each heap takes the pages of its socket
pub record IsOpeningOf (workload : Workload) (opening : Opening) : Type 0 where
  pub count : opening.participants ≡ workload.participants
  pub serves : (heap : ℕ) → unwrap_or (slice_get opening.serves heap) None ≡ slice_get (sockets_of workload.pools.items) heap

-- the seats have the participants' numbers, in order; and by the view of each it made in each heap the calls of what it did
pub record HaveMade (workload : Workload) (seats : List SeatView) (did : ℕ → List Done) : Type 0 where
  pub count : length seats ≡ workload.participants
  pub whose : (who : ℕ) (seat : SeatView) → slice_get seats who ≡ Some seat → seat.mine.who ≡ who
  pub made : (who heap : ℕ) (seat : SeatView) → slice_get seats who ≡ Some seat → made_in heap seat.mine ≡ entries_for who heap 1 (calls_in (did who))

-- a board hands out these heaps with their pens, and this segment value, over these seats
pub record IsClosedOver (opening : Opening) (seats : List SeatView) (heaps : List HeapView) (pens : List PenView) (segs : SegsView) : Type 0
  where
    pub heaps_are : AreHeaps opening heaps pens
    pub calls : (seat : SeatView) → Contains seats seat → KeepCallsOf heaps seat.mine
    pub segs_are : AreLeftSegs opening seats segs
    pub tables_are : (seat : SeatView) → Contains seats seat → KeepsTableOf segs seat.mine
    pub owned : AreOwnedAtLast seats heaps segs

-- wherever it did so, the heaps are kept at last as they have to be
abbrev pub KeptByClose : Type 0
KeptByClose = (workload : Workload) (opening : Opening) (courses : ℕ → List Course) (seats : List SeatView) (heaps : List HeapView)
    (pens : List PenView) (segs : SegsView) → IsOpeningOf workload opening → HaveMade workload seats (λ who. trace_of (courses who))
    → IsClosedOver opening seats heaps pens segs → ((who : ℕ) → workload.participants ≤ who → courses who ≡ [])
    → AreOfHeaps (λ who. trace_of (courses who)) heaps → AreKeptAtLast workload courses heaps segs

-- a participant ends with a table that is tied to its seat's view, by which it is attached as its lines leave it
pub record EndsAt (workload : Workload) (who : ℕ) (seat : SeatView) (last : Seat) (courses : List Course) (table : Table) : Type 0 where
  pub tied : IsTiedAs seat.mine.log (own_of seat.mine) (λ heap. marked_in heap seat.mine) seat.mine.joined last.party.joined last.party.maps
  pub leaves : LeavesTable last.party table
  pub attached : seat.mine.joined ≡ (standing_after (opening_standing workload who) courses).attached

-- wherever it did so, the table of each participant is left as it has to be
abbrev pub TablesByClose : Type 0
TablesByClose = (workload : Workload) (opening : Opening) (did : ℕ → List Done) (seats : List SeatView) (heaps : List HeapView)
    (pens : List PenView) (segs : SegsView) → HaveMade workload seats did → IsClosedOver opening seats heaps pens segs → (who : ℕ)
    (seat : SeatView) (last : Seat) (courses : List Course) (table : Table) → slice_get seats who ≡ Some seat
    → EndsAt workload who seat last courses table → LeavesItsTable workload who segs last courses table
