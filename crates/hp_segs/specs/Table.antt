-- The table of mapped segments, as the log leaves it, with the masks of the lists and the counts of the pools beside it.
use Rattle.std.specs.Prelude.{◌≡◌, ℕ, ◌+◌, ◌*◌, ◌<◌, ◌≤◌, List, Some, slice_get, length, count_by}
use Rattle.std.specs.List.{All}
use Rattle.hp_base.specs.PoolLines.{ArePoolLines}
use Rattle.hp_base.specs.declared.row.Row.{Row}
use Rattle.hp_base.specs.declared.row.Run.{Run}
use Rattle.hp_base.specs.declared.pool_line.PoolLine.{PoolLine}
use Rattle.hp_log.specs.Rows.{rows_at, HasSlots}
use Rattle.hp_log.specs.Log.{run_in, table_of, IsWellFormed}
use Rattle.hp_segs.specs.Lists.{lists_of, run_at, pages_beside, is_of_pool}
use Rattle.hp_segs.specs.declared.list_info.ListInfo.{ListInfo}
use Rattle.hp_log.specs.declared.log_record.LogRecord.{LogRecord}
use Rattle.hp_segs.specs.declared.row_state.Segment.{Segment}

-- the row is a slot of its list, at that slot's place
pub record IsPlaced (lists : List ListInfo) (row : Row) : Type 0 where
  pub info : ListInfo
  pub its_list : slice_get lists row.list ≡ Some info
  pub within : row.slot < info.slots
  pub addr : row.addr ≡ info.base + row.slot * info.page
  pub page : row.page ≡ info.page
  pub socket : row.socket ≡ info.socket

-- the run has slots of its list alone, at their place
pub record IsListRun (lists : List ListInfo) (run : Run) : Type 0 where
  pub info : ListInfo
  pub its_list : slice_get lists run.list ≡ Some info
  pub some : HasSlots run
  pub within : run.first + run.count ≤ info.slots
  pub is_run : run ≡ run_at info run.list run.first run.count

-- the pool of the run's list has the pages of the run free
abbrev pub HasPages : List PoolLine → List Row → Run → Type 0
HasPages pools rows run = run.count ≤ pages_beside pools rows run.list

-- the generation of a row is that of a record
pub record IsStamped (log : List LogRecord) (row : Row) : Type 0 where
  pub some : 0 < row.generation
  pub within : row.generation ≤ length log

-- the rows are the table of the log, which is well formed; each is at a slot of its own, and no pool has more than its pages
pub record IsTable (pools : List PoolLine) (log : List LogRecord) (rows : List Row) : Type 0 where
  pub limits : ArePoolLines pools
  pub formed : IsWellFormed log
  pub listed : All (λ entry. IsListRun (lists_of pools) (run_in entry)) log
  pub table : rows ≡ table_of log
  pub once : (list slot : ℕ) → rows_at rows list slot ≤ 1
  pub placed : All (IsPlaced (lists_of pools)) rows
  pub stamped : All (IsStamped log) rows
  pub paged : All (λ line. count_by (is_of_pool line) rows ≤ line.pages) pools

-- what the crate's own contracts see of the table: its pools, the log, the segments, and how many records more fit
pub record TableView : Type 0 where
  pub pools : List PoolLine
  pub log : List LogRecord
  pub segments : List Segment
  pub room : ℕ
