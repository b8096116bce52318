-- The segment lists of the pools: where they lie, and which pages of a pool are free.
use Rattle.std.specs.Prelude.{ℕ, ◌+◌, ◌-◌, ◌*◌, ◌^◌, Bool, ◌&&◌, ◌==◌, List, [], ◌∷◌, Option, slice_get, count_by}
use Rattle.std.specs.Option.{option_map_or}
use Rattle.hp_log.specs.Rows.{slots_of}
use Rattle.std.specs.List.{position}
use Rattle.hp_base.specs.Round.{ceil_of}
use Rattle.hp_base.specs.declared.row.Row.{Row}
use Rattle.hp_base.specs.declared.row.Run.{Run}
use Rattle.hp_base.specs.declared.pool_line.PoolLine.{PoolLine}
use Rattle.hp_segs.specs.declared.list_info.ListInfo.{ListInfo}

-- the list of a pool from the first multiple of its page size on that lies at or above an end
abbrev pub list_after : PoolLine → ℕ → ListInfo
list_after line end = record { socket = line.socket; page = line.page; base = ceil_of end line.page; slots = line.slots }

-- where a list ends
abbrev pub end_of : ListInfo → ℕ
end_of info = info.base + info.slots * info.page

-- the lists of pools, each behind the one before it
abbrev pub lists_from : ℕ → List PoolLine → List ListInfo
lists_from end [] = []
lists_from end (line ∷ lines) = list_after line end ∷ lists_from (end_of (list_after line end)) lines

-- the lists of pools, in their order, from the address 2^32 on
abbrev pub lists_of : List PoolLine → List ListInfo
lists_of lines = lists_from (2 ^ 32) lines

-- the list of a socket and a page size
abbrev pub is_list_of : ℕ → ℕ → ListInfo → Bool
is_list_of socket page info = (info.socket == socket) && (info.page == page)

-- the number of the list of a socket and a page size, where there is one
abbrev pub list_number : List ListInfo → ℕ → ℕ → Option ℕ
list_number lists socket page = position (is_list_of socket page) lists

-- the run of n slots of a list from a slot on
abbrev pub run_at : ListInfo → ℕ → ℕ → ℕ → Run
run_at info list first n = record {
  list = list;
  first = first;
  count = n;
  addr = info.base + first * info.page;
  page = info.page;
  socket = info.socket;
}

-- the row has the socket and the page size of a pool
abbrev pub is_of_pool : PoolLine → Row → Bool
is_of_pool line row = (row.socket == line.socket) && (row.page == line.page)

-- the free pages of a pool: those that no row has taken
abbrev pub free_pages : List Row → PoolLine → ℕ
free_pages rows line = line.pages - count_by (is_of_pool line) rows

-- the free pages of the pool of that place beside rows
abbrev pub pages_beside : List PoolLine → List Row → ℕ → ℕ
pages_beside pools rows pool = option_map_or (free_pages rows) (slice_get pools pool) 0

-- which slots of a list are used beside rows
abbrev pub slots_beside : List PoolLine → List Row → ℕ → List Bool
slots_beside pools rows list = option_map_or (λ info. slots_of rows list info.slots) (slice_get (lists_of pools) list) []
