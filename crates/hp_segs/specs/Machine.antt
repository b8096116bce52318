-- The plain segment machine: free pages, and one table of rows that everybody gets in one step.
use Rattle.std.specs.Prelude.{◌≡◌, ℕ, ◌+◌, ◌-◌, ◌≤◌, Bool, not, ◌&&◌, count_by, List, ◌++◌, map, filter, Some, slice_get, slice_index, slice_set}
use Rattle.hp_base.specs.declared.row.Run.{Run}
use Rattle.hp_base.specs.declared.pool_line.PoolLine.{PoolLine}
use Rattle.hp_base.specs.Pages.{pages_of}
use Rattle.hp_log.specs.Rows.{rows_of}
use Rattle.hp_segs.specs.Lists.{lists_of, list_number, run_at, free_pages, is_of_pool}
use Rattle.hp_segs.specs.SegsView.{SegsView, rows_in, is_opened, is_retiring}
use Rattle.hp_segs.specs.Plan.{IsFirstRun}
use Rattle.hp_segs.specs.Steps.{segment_of, claimed_segment, retired_segment}
use Rattle.hp_segs.specs.declared.ask.Ask.{Ask}
use Rattle.hp_segs.specs.declared.list_info.ListInfo.{ListInfo}
use Rattle.hp_segs.specs.declared.row_state.RowState.TheVariants.{Agreed}
use Rattle.hp_segs.specs.declared.row_state.Segment.{Segment}

-- the free pages of each pool, and the rows, each Agreed, Owned or Retiring
pub record Machine : Type 0 where
  pub free : List ℕ
  pub rows : List Segment

-- the free pages of each pool beside rows
abbrev pub free_beside : List PoolLine → List Segment → List ℕ
free_beside pools rows = map (free_pages (rows_in rows)) pools

-- the segments that are not Opened
abbrev pub unopened : List Segment → List Segment
unopened segments = filter (λ segment. not (is_opened segment.state)) segments

-- the machine that a value stands for: its rows but the Opened ones, whose pages count as free
abbrev pub machine_of : SegsView → Machine
machine_of segs = record { free = free_beside segs.pools (unopened segs.segments); rows = unopened segs.segments }

-- grow: the first run of the ask comes into the table as Agreed, by the record of that generation, and its pages are taken
pub record Grows (pools : List PoolLine) (ask : Ask) (generation : ℕ) (old new : Machine) : Type 0 where
  pub list : ℕ
  pub info : ListInfo
  pub first : ℕ
  pub its_list : list_number (lists_of pools) ask.socket ask.page ≡ Some list
  pub its_info : slice_get (lists_of pools) list ≡ Some info
  pub is_first : IsFirstRun (rows_in old.rows) info list (pages_of ask.request ask.page) first
  pub enough : pages_of ask.request ask.page ≤ slice_index old.free list
  pub rows : new.rows ≡ old.rows
      ++ map (segment_of (Agreed ask.heap)) (rows_of (run_at info list first (pages_of ask.request ask.page)) generation)
  pub free : new.free ≡ slice_set old.free list (slice_index old.free list - pages_of ask.request ask.page)

-- claim: the rows of one grant become Owned
pub record Claims (generation : ℕ) (old new : Machine) : Type 0 where
  pub rows : new.rows ≡ map (claimed_segment generation) old.rows
  pub free : new.free ≡ old.free

-- retire: the rows of a run become Retiring
pub record Retires (run : Run) (old new : Machine) : Type 0 where
  pub rows : new.rows ≡ map (retired_segment run) old.rows
  pub free : new.free ≡ old.free

-- a Retiring row of a pool
abbrev pub is_retiring_of : PoolLine → Segment → Bool
is_retiring_of line segment = is_of_pool line segment.row && is_retiring segment.state

-- drop: all Retiring rows go, and each pool gets the pages of its own back
pub record Drops (pools : List PoolLine) (old new : Machine) : Type 0 where
  pub rows : new.rows ≡ filter (λ segment. not (is_retiring segment.state)) old.rows
  pub free : (pool : ℕ) (line : PoolLine) → slice_get pools pool ≡ Some line
      → slice_index new.free pool ≡ slice_index old.free pool + count_by (is_retiring_of line) old.rows
