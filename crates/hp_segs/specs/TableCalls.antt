-- What the calls of the table ask of a run, and the totals that it keeps. No public clause cites this module.
use Rattle.std.specs.Prelude.{◌≡◌, ℕ, Bool, true, false, ◌==◌, List, map}
use Rattle.std.specs.List.{All, range_with_len}
use Rattle.hp_base.specs.declared.pool_line.PoolLine.{PoolLine}
use Rattle.hp_base.specs.declared.row.Run.{Run}
use Rattle.hp_pool.specs.declared.pool.Pool.{Pool}
use Rattle.hp_log.specs.Log.{table_of}
use Rattle.hp_log.specs.Rows.{in_run, IsUsedRun}
use Rattle.hp_segs.specs.SegsView.{is_counted, rows_in, total_of}
use Rattle.hp_log.specs.declared.log_record.LogRecord.{LogRecord}
use Rattle.hp_log.specs.declared.log_record.LogRecord.TheVariants.{Add, Drop}
use Rattle.hp_segs.specs.Slots.{AreSlots, SlotsView, kept_segments}
use Rattle.hp_segs.specs.Table.{IsListRun}
use Rattle.hp_segs.specs.TableLayout.{IsLaidOut}
use Rattle.hp_segs.specs.declared.list_info.ListInfo.{ListInfo}
use Rattle.hp_segs.specs.declared.row_state.RowState.TheVariants.{Agreed}
use Rattle.hp_segs.specs.declared.row_state.Segment.{Segment}

-- the numbers are the bytes of the Agreed and Owned rows of the sockets 0 to 31
abbrev pub AreTotals : List Segment → List ℕ → Type 0
AreTotals segments totals = totals ≡ map (total_of segments) (range_with_len 0 32)

-- each row at the run's slots counts for its socket, or none does
abbrev pub AllCount : Bool → Run → List Segment → Type 0
AllCount counted run segments = All (λ segment. in_run run segment.row ≡ true → is_counted segment.state ≡ counted) segments

-- the rows at the slots of a list's run are those of the generation, and none counts yet
pub record IsOpenRun (lists : List ListInfo) (segments : List Segment) (run : Run) (generation : ℕ) : Type 0 where
  pub listed : IsListRun lists run
  pub used : IsUsedRun (rows_in segments) run
  pub same : All (λ segment. (segment.row.generation == generation) ≡ in_run run segment.row) segments
  pub uncounted : AllCount false run segments

-- each slot of a list's run has a row, and all of them count
pub record IsCountedRun (lists : List ListInfo) (segments : List Segment) (run : Run) : Type 0 where
  pub listed : IsListRun lists run
  pub used : IsUsedRun (rows_in segments) run
  pub counted : AllCount true run segments

-- the rows at the slots of a list's run are those of the generation, and all are Agreed for the heap
pub record IsGrantRun (lists : List ListInfo) (segments : List Segment) (run : Run) (generation heap : ℕ) : Type 0 where
  pub listed : IsListRun lists run
  pub same : All (λ segment. (segment.row.generation == generation) ≡ in_run run segment.row) segments
  pub agreed : All (λ segment. in_run run segment.row ≡ true → segment.state ≡ Agreed heap) segments

-- the heap that a record adds its run for, and 0 where it adds none
abbrev pub added_heap : LogRecord → ℕ
added_heap (Add run heap) = heap
added_heap (Drop run) = 0

-- the table is laid out, the slots keep the generations of its rows, and the totals are those of its segments
pub record IsKeptTable (pools : List PoolLine) (lists : List ListInfo) (masks : List (List Bool)) (counts : List Pool) (kept : List SlotsView)
    (totals : List ℕ) (log : List LogRecord) : Type 0 where
  pub laid : IsLaidOut pools lists masks counts log (table_of log)
  pub slots : AreSlots kept lists (table_of log)
  pub counted : AreTotals (kept_segments kept (table_of log)) totals
