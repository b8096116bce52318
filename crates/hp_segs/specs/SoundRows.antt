-- What holds of the rows of every segment value: its log, its segments, the open growth and the Retiring runs.
use Rattle.std.specs.Prelude.{◌≡◌, ℕ, ◌+◌, ◌-◌, ◌<◌, ◌≤◌, Bool, true, false, ◌&&◌, ◌==◌, nat_le, nat_lt, List, ◌++◌, length, map, filter, Option, Some, None, slice_get, count_by}
use Rattle.std.specs.List.{All, list_any}
use Rattle.std.specs.List.Sorted.{IsNonDecreasingBy}
use Rattle.std.specs.Option.{option_map, option_to_list}
use Rattle.hp_base.specs.declared.row.Row.{Row}
use Rattle.hp_base.specs.declared.row.Run.{Run}
use Rattle.hp_base.specs.declared.pool_line.PoolLine.{PoolLine}
use Rattle.hp_log.specs.Rows.{in_run, rows_of, IsUsedRun}
use Rattle.hp_log.specs.Log.{IsAddFor}
use Rattle.hp_log.specs.declared.log_record.LogRecord.{LogRecord}
use Rattle.hp_log.specs.declared.log_record.LogRecord.TheVariants.{Add}
use Rattle.hp_segs.specs.Lists.{lists_of}
use Rattle.hp_segs.specs.SegsView.{rows_in, is_opened, is_retiring}
use Rattle.hp_segs.specs.Machine.{unopened}
use Rattle.hp_segs.specs.Plan.{HasPlace, IsFirstFor}
use Rattle.hp_segs.specs.Steps.{segment_of}
use Rattle.hp_segs.specs.Table.{HasPages, IsTable, IsListRun}
use Rattle.hp_segs.specs.declared.growth.Growth.{Growth}
use Rattle.hp_segs.specs.declared.list_info.ListInfo.{ListInfo}
use Rattle.hp_segs.specs.declared.row_state.RowState.{RowState}
use Rattle.hp_segs.specs.declared.row_state.RowState.TheVariants.{Opened, Agreed, Owned, Retiring}
use Rattle.hp_segs.specs.declared.row_state.Segment.{Segment}

-- the run has that slot
abbrev pub has_slot : ℕ → ℕ → Run → Bool
has_slot list slot run = (list == run.list) && (nat_le run.first slot && nat_lt slot (run.first + run.count))

-- the runs are of lists, each of their slots has a row, and no slot is in two of them
pub record AreHeld (lists : List ListInfo) (rows : List Row) (runs : List Run) : Type 0 where
  pub listed : All (IsListRun lists) runs
  pub used : All (IsUsedRun rows) runs
  pub apart : (list slot : ℕ) → count_by (has_slot list slot) runs ≤ 1

-- the run of the open growth
abbrev pub growth_run : Option Growth → List Run
growth_run growth = option_to_list (option_map (λ growth. growth.run) growth)

-- the row is at a slot of one of the runs
abbrev pub in_runs : List Run → Row → Bool
in_runs runs row = list_any (λ run. in_run run row) runs

-- the row is of the generation of the open growth
abbrev pub has_stamp : Option Growth → Row → Bool
has_stamp None row = false
has_stamp (Some growth) row = row.generation == growth.generation

-- the growth is of a participant's ask; the last record is its Add; its rows stand after all others and are the Opened ones; and
-- beside the others its run is the first one of the pages asked, in a pool that has them, and has a place for the request
pub record IsGrowth (pools : List PoolLine) (log : List LogRecord) (segments : List Segment) (growth : Growth) : Type 0 where
  pub participant : growth.ask.from < 16
  pub some : 0 < growth.generation
  pub last : growth.generation ≡ length log
  pub added : slice_get log (growth.generation - 1) ≡ Some (Add growth.run growth.ask.heap)
  pub behind : segments ≡ unopened segments ++ map (segment_of Opened) (rows_of growth.run growth.generation)
  pub first : IsFirstFor pools (rows_in (unopened segments)) growth.ask growth.run
  pub pages : HasPages pools (rows_in (unopened segments)) growth.run
  pub place : HasPlace growth.ask growth.run

abbrev pub IsLogged : List PoolLine → List LogRecord → List Segment → Option Growth → Type 0
IsLogged pools log segments None = Unit {0}
IsLogged pools log segments (Some growth) = IsGrowth pools log segments growth

-- a row of that generation, where it is Agreed or Owned, was added for its heap
abbrev pub IsStateOf : List LogRecord → ℕ → RowState → Type 0
IsStateOf log generation Opened = Unit {0}
IsStateOf log generation (Agreed heap) = IsAddFor log generation heap
IsStateOf log generation (Owned heap) = IsAddFor log generation heap
IsStateOf log generation Retiring = Unit {0}

-- the segments of a generation
abbrev pub of_generation : ℕ → List Segment → List Segment
of_generation generation segments = filter (λ segment. segment.row.generation == generation) segments

-- the segments of the generation are all rows of its record's run, each Agreed for the heap of the record
pub record IsWholeGrant (log : List LogRecord) (segments : List Segment) (generation heap : ℕ) : Type 0 where
  pub run : Run
  pub added : slice_get log (generation - 1) ≡ Some (Add run heap)
  pub rows : of_generation generation segments ≡ map (segment_of (Agreed heap)) (rows_of run generation)

-- where a row of the generation is Agreed, all rows of its run are
abbrev pub IsWholeIfAgreed : List LogRecord → List Segment → ℕ → RowState → Type 0
IsWholeIfAgreed log segments generation Opened = Unit {0}
IsWholeIfAgreed log segments generation (Agreed heap) = IsWholeGrant log segments generation heap
IsWholeIfAgreed log segments generation (Owned heap) = Unit {0}
IsWholeIfAgreed log segments generation Retiring = Unit {0}

-- the rows at the run's slots were all added for one heap
pub record IsOfOneHeap (log : List LogRecord) (rows : List Row) (run : Run) : Type 0 where
  pub heap : ℕ
  pub each : All (λ row. in_run run row ≡ true → IsAddFor log row.generation heap) rows

-- the rows are sound
pub record AreRows (pools : List PoolLine) (log : List LogRecord) (segments : List Segment) (retiring : List Run) (growth : Option Growth)
    : Type 0 where
  -- they are the table of the log
  pub table : IsTable pools log (rows_in segments)
  -- the runs of the open growth and of what is Retiring share no slot, and all their slots have rows
  pub held : AreHeld (lists_of pools) (rows_in segments) (growth_run growth ++ retiring)
  -- the Opened rows are those of the open growth
  pub opened : All (λ segment. is_opened segment.state ≡ in_runs (growth_run growth) segment.row) segments
  pub stamped : All (λ segment. is_opened segment.state ≡ has_stamp growth segment.row) segments
  -- the Retiring rows are those of the Retiring runs, which stand by rising address, each of the rows of one heap
  pub retired : All (λ segment. is_retiring segment.state ≡ in_runs retiring segment.row) segments
  pub rising : IsNonDecreasingBy (λ run. run.addr) retiring
  pub given_up : All (IsOfOneHeap log (rows_in segments)) retiring
  -- the rows of a heap were added for it, and those of a grant are claimed together
  pub heaps : All (λ segment. IsStateOf log segment.row.generation segment.state) segments
  pub whole : All (λ segment. IsWholeIfAgreed log segments segment.row.generation segment.state) segments
  pub logged : IsLogged pools log segments growth
