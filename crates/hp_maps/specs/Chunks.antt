-- The rows of a chunk of external memory, and when it may be attached: the rule "Chunks" of docs/TABLES.md.
use Rattle.std.specs.Prelude.{◌+◌, ◌/◌, ◌^◌, ◌<◌, ◌≤◌, Bool, not, ◌&&◌, ◌==◌, List, length, filter}
use Rattle.hp_base.specs.ExternalMemory.{IsExternalMemory}
use Rattle.hp_base.specs.declared.chunk.Chunk.{Chunk}
use Rattle.hp_base.specs.declared.row.Row.{Row}
use Rattle.hp_base.specs.declared.row.Run.{Run}
use Rattle.hp_log.specs.Rows.{rows_of}
use Rattle.hp_maps.specs.MapsView.{MapsView, AreClearOf, calls_of}

-- all slots of a chunk's list
abbrev pub run_of_chunk : Chunk → Run
run_of_chunk chunk = record {
  list = chunk.list;
  first = 0;
  count = chunk.len / chunk.page;
  addr = chunk.addr;
  page = chunk.page;
  socket = chunk.socket;
}

-- the rows of a chunk: its pages, with generation 0
abbrev pub rows_of_chunk : Chunk → List Row
rows_of_chunk chunk = rows_of (run_of_chunk chunk) 0

-- the row is one of a chunk's
abbrev pub is_of_chunk : Chunk → Row → Bool
is_of_chunk chunk row = (row.generation == 0) && (row.list == chunk.list)

-- the rows of others
abbrev pub rows_beside : Chunk → List Row → List Row
rows_beside chunk rows = filter (λ row. not (is_of_chunk chunk row)) rows

-- when a chunk may be attached
pub record CanAttach (maps : MapsView) (chunk : Chunk) : Type 0 where
  pub memory : IsExternalMemory chunk.addr chunk.len chunk.page
  pub pages : chunk.len / chunk.page < 2 ^ 32
  -- no row has the address of one of its rows
  pub clear : AreClearOf maps.rows (rows_of_chunk chunk)
  pub room : length maps.rows + chunk.len / chunk.page ≤ maps.capacity
  pub calls : calls_of maps ≤ 2 ^ 63
