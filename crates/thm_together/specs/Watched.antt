-- The watchers of participants that came home, each told of its table: the rules "Together" of docs/RUNS.md and "Events" of docs/TABLES.md.
use Rattle.std.specs.Prelude.{◌≡◌, ℕ, List, length, Some, slice_get}
use Rattle.hp_base.specs.Telling.{Listener}
use Rattle.hp_heap.specs.History.{HeapView}
use Rattle.hp_maps.specs.declared.table.Table.{Table}
use Rattle.hp_script.specs.declared.answer.Answer.{Answer}
use Rattle.hp_script.specs.declared.workload.Workload.{Workload}
use Rattle.hp_segs.specs.SegsView.{SegsView}
use Rattle.thm_run.specs.Handing.{HaveWatchers}
use Rattle.thm_run.specs.Seats.{Seat}
use Rattle.thm_together.specs.CameHome.{AllCameHome, courses_in_order}

-- these are what those in the seats were told
pub record AreToldInSeats (seats : List Seat) (watchers : List (List Listener)) : Type 0 where
  pub many : length watchers ≡ length seats
  pub are : (who : ℕ) (seat : Seat) (listeners : List Listener) → slice_get seats who ≡ Some seat → slice_get watchers who ≡ Some listeners
      → listeners ≡ seat.party.listeners

-- wherever all came home so, these are the watchers of their lines, each told of its table
abbrev pub WatchedWhereHome : Type 0
WatchedWhereHome = (workload : Workload) (answers : List Answer) (heaps : List HeapView) (segs : SegsView) (tables : List Table)
    (home : AllCameHome workload answers heaps segs tables) (watchers : List (List Listener)) → AreToldInSeats home.last watchers
    → HaveWatchers workload (courses_in_order workload home.courses) segs tables watchers
