-- How the table keeps masks and counts beside its rows. No public clause cites this module.
use Rattle.std.specs.Prelude.{◌≡◌, ℕ, ◌+◌, ◌-◌, ◌*◌, ◌^◌, ◌≤◌, ◌<◌, nat_le, nat_lt, Bool, ◌&&◌, List, [], ◌∷◌, ◌++◌, Some, None, IsTrue}
use Rattle.std.specs.List.{All}
use Rattle.hp_base.specs.Pages.{is_page_size}
use Rattle.hp_base.specs.declared.row.Row.{Row}
use Rattle.hp_base.specs.declared.pool_line.PoolLine.{PoolLine}
use Rattle.hp_pool.specs.Pools.{pool_of, free_pages as free_of, Adds}
use Rattle.hp_pool.specs.declared.pool.Pool.{Pool}
use Rattle.hp_base.specs.declared.row.Run.{Run}
use Rattle.hp_segs.specs.Steps.{without_run}
use Rattle.hp_log.specs.declared.log_record.LogRecord.TheVariants.{Drop}
use Rattle.hp_log.specs.Rows.{slots_of}
use Rattle.hp_segs.specs.Lists.{end_of, lists_of, free_pages}
use Rattle.hp_segs.specs.Table.{IsTable, TableView}
use Rattle.hp_segs.specs.declared.list_info.ListInfo.{ListInfo}
use Rattle.hp_log.specs.declared.log_record.LogRecord.{LogRecord}

-- the used masks of lists, where so many lists stand before them
abbrev pub masks_from : ℕ → List Row → List ListInfo → List (List Bool)
masks_from n rows [] = []
masks_from n rows (info ∷ lists) = slots_of rows n info.slots ∷ masks_from (n + 1) rows lists

-- the pool of a line beside rows
abbrev pub pool_beside : List Row → PoolLine → Pool
pool_beside rows line = record { socket = line.socket; page = line.page; pages = line.pages; free = free_pages rows line }

-- the list lies below 2^63, in pages of one of the sizes
pub record IsFitList (info : ListInfo) : Type 0 where
  pub page : IsTrue (is_page_size info.page)
  pub slots : info.slots ≤ 8192
  pub below : info.base + info.slots * info.page ≤ 2 ^ 63

-- the masks are those of the rows, and the pools have what the rows leave
pub record IsLaidOut (pools : List PoolLine) (lists : List ListInfo) (masks : List (List Bool)) (counts : List Pool) (log : List LogRecord)
    (rows : List Row) : Type 0 where
  pub table : IsTable pools log rows
  pub its_lists : lists ≡ lists_of pools
  pub fit : All IsFitList lists
  pub its_masks : masks ≡ masks_from 0 rows lists
  pub its_counts : All (λ line. pool_of counts line.socket line.page ≡ Some (pool_beside rows line)) pools

-- a pool that was not there, and no other, is added
pub record AddsLine (old new : List Pool) (line : PoolLine) : Type 0 where
  pub adds : Adds old new line.socket line.page line.pages
  pub absent : free_of old line.socket line.page ≡ None

-- the table after the Drop of a run
abbrev pub removed_one : Run → TableView → TableView
removed_one run table =
    record table { log = table.log ++ Drop run ∷ []; segments = without_run run table.segments; room = table.room - 1 }

-- the table after the Drops of runs, one after another
abbrev pub removed_all : List Run → TableView → TableView
removed_all [] table = table
removed_all (run ∷ runs) table = removed_all runs (removed_one run table)

-- a list has pages, and lies below 2^63
pub record IsExtent (info : ListInfo) : Type 0 where
  pub some : 0 < info.page
  pub slots : info.slots < 2 ^ 32
  pub below : info.base + info.slots * info.page ≤ 2 ^ 63

-- the bytes of a list contain an address
abbrev pub list_contains : ℕ → ListInfo → Bool
list_contains addr info = nat_le info.base addr && nat_lt addr (end_of info)
