-- What participants that came home to a board have read of statistics. The rule "Threads" of docs/RUNS.md.
use Rattle.std.specs.Prelude.{◌≡◌, ℕ, ◌<◌, List, Some, slice_get}
use Rattle.std.specs.List.{All}
use Rattle.hp_chair.specs.Publishing.{CountsRise}
use Rattle.hp_chair.specs.Steps.{pairs_in}
use Rattle.hp_hall.specs.Mail.{MailStep}
use Rattle.hp_heap.specs.History.{HeapView}
use Rattle.hp_maps.specs.declared.table.Table.{Table}
use Rattle.hp_proc.specs.Handed.{AreStatsHanded}
use Rattle.hp_proc.specs.LinesDone.{trace_of}
use Rattle.hp_script.specs.declared.answer.Answer.{Answer}
use Rattle.hp_script.specs.declared.workload.Workload.{Workload}
use Rattle.hp_segs.specs.SegsView.{SegsView}
use Rattle.hp_stats.specs.Pairs.{AreAmong}
use Rattle.hp_stats.specs.StatViews.{PenView}
use Rattle.thm_moved.specs.AtBoard.{AllCameToTheirSeats}

-- what was read and published by these steps was published by the pens, or is the pair with count 0; and no count that was read is too small
pub record HaveReadBy (pens : List PenView) (steps : List MailStep) : Type 0 where
  pub published : (heap : ℕ) (pen : PenView) → slice_get pens heap ≡ Some pen → AreAmong pen.published (pairs_in heap steps)
  pub rising : CountsRise steps

-- wherever participants came home so, what each was answered of statistics are those of fronts of the histories, with its own calls
abbrev pub StatsAtBoard : Type 0
StatsAtBoard = (workload : Workload) (answers : List Answer) (heaps : List HeapView) (segs : SegsView) (tables : List Table)
    (all : AllCameToTheirSeats workload answers heaps segs tables)
    → ((who : ℕ) → who < workload.participants → HaveReadBy all.pens (all.steps who))
    → (who : ℕ) → All (AreStatsHanded who (trace_of (all.courses who))) heaps
