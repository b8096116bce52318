-- What a participant knows when it catches up or attaches a chunk, where the log is one of lists that lie apart. It gives the conditions of
-- these calls.
use Rattle.std.specs.Prelude.{◌≡◌, ◌⊎◌, ℕ, ◌+◌, ◌-◌, ◌/◌, ◌^◌, ◌<◌, ◌≤◌, List, Option, [], ◌++◌, length}
use Rattle.std.specs.List.{All}
use Rattle.std.specs.List.Sorted.{IsPermutation}
use Rattle.hp_base.specs.ExternalMemory.{IsExternalMemory}
use Rattle.hp_base.specs.Mapping.{AreApart, FailingCall}
use Rattle.hp_base.specs.declared.caught.Caught.{Caught}
use Rattle.hp_base.specs.declared.chunk.Chunk.{Chunk}
use Rattle.hp_base.specs.declared.event.EventKind.TheVariants as kind
use Rattle.hp_base.specs.declared.row.Row.{Row}
use Rattle.hp_log.specs.Places.{IsLogOf, IsOutside, ListPlace, slots_in}
use Rattle.hp_log.specs.declared.log_record.LogRecord.{LogRecord}
use Rattle.hp_maps.specs.Bytes.{AreTold}
use Rattle.hp_maps.specs.Catching.{CanCatchUp, Lags, kept, new_rows, newer, number_after, rows_after}
use Rattle.hp_maps.specs.Chunks.{CanAttach, rows_beside, rows_of_chunk}
use Rattle.hp_maps.specs.Events.{caught_events, events_of}
use Rattle.hp_maps.specs.MapsView.{MapsView, calls_of, chunk_rows, table_in}

-- the rows of chunks lie outside of the lists and have addresses of their own
pub record AreBeside (lists : List ListPlace) (chunks : List Row) : Type 0 where
  pub outside : All (λ row. IsOutside lists row.addr) chunks
  pub apart : AreApart chunks

-- what a participant knows of its table: the log is one of these lists, the table lags behind it, chunks lie beside the lists, and there
-- is room for a row at each slot beside theirs
pub record IsReady (lists : List ListPlace) (maps : MapsView) (records : List LogRecord) (to : ℕ) : Type 0 where
  pub from : maps.number ≤ to
  pub within : to ≤ length records
  pub log : IsLogOf lists records
  pub lags : Lags records maps.number to (table_in maps.rows)
  pub chunks : AreBeside lists (chunk_rows maps.rows)
  pub room : length (chunk_rows maps.rows) + slots_in lists ≤ maps.capacity
  pub calls : calls_of maps ≤ 2 ^ 63

-- a new table is ready, where it has room for all slots
abbrev pub NewIsReady : Type 0
NewIsReady = (lists : List ListPlace) (capacity faults : ℕ) (may_fail : Option (List FailingCall)) (records : List LogRecord) (to : ℕ) → IsLogOf lists records
    → to ≤ length records → slots_in lists ≤ capacity
    → IsReady lists
    (record { rows = []; number = 0; capacity = capacity; answers = []; faults = faults; may_fail = may_fail; held = [] })
    records to

-- a table is ready again after a catch-up, however that ended, for as much of a longer log
abbrev pub StaysReady : Type 0
StaysReady = (lists : List ListPlace) (old new : MapsView) (records more : List LogRecord) (to further : ℕ) (ended : Caught)
    → IsReady lists old records to → new.number ≡ number_after old.number to ended → new.capacity ≡ old.capacity
    → Lags records new.number to (table_in new.rows) → chunk_rows new.rows ≡ chunk_rows old.rows → calls_of new ≤ 2 ^ 63
    → IsLogOf lists (records ++ more) → to ≤ further → further ≤ length (records ++ more) → IsReady lists new (records ++ more) further

-- a table that is ready may catch up
abbrev pub IsReadyToCatchUp : Type 0
IsReadyToCatchUp = (lists : List ListPlace) (maps : MapsView) (records : List LogRecord) (to : ℕ) → IsReady lists maps records to
    → CanCatchUp maps records to

-- a catch-up tells at most as many events as it takes in records
abbrev pub TellsOneARecord : Type 0
TellsOneARecord = (lists : List ListPlace) (maps : MapsView) (records : List LogRecord) (to : ℕ) (ended : Caught)
    → IsReady lists maps records to → length (caught_events maps.rows maps.number (newer records maps.number to) ended) ≤ to - maps.number

-- the events of a catch-up turn the bytes of the log's rows before it into those after it, however it ended
abbrev pub TellsBytes : Type 0
TellsBytes = (lists : List ListPlace) (maps : MapsView) (records : List LogRecord) (to : ℕ) (ended : Caught) (rows : List Row)
    → IsReady lists maps records to
    → rows ≡ rows_after (kept (newer records maps.number to) maps.rows) (new_rows maps.number (newer records maps.number to)) ended
    → AreTold (caught_events maps.rows maps.number (newer records maps.number to) ended) (table_in maps.rows) (table_in rows)

-- the events of the end leave no byte of the log's rows
abbrev pub TellsTheEnd : Type 0
TellsTheEnd = (lists : List ListPlace) (maps : MapsView) (records : List LogRecord) (to : ℕ) (rising : List Row) → IsReady lists maps records to
    → IsPermutation maps.rows rising → chunk_rows maps.rows ≡ [] → AreTold (events_of kind.Free rising) (table_in maps.rows) []

-- a chunk lies outside of the lists, and no row of other chunks begins in its bytes
pub record IsClear (lists : List ListPlace) (chunks : List Row) (chunk : Chunk) : Type 0 where
  pub memory : IsExternalMemory chunk.addr chunk.len chunk.page
  pub outside : (addr : ℕ) → chunk.addr ≤ addr → addr < chunk.addr + chunk.len → IsOutside lists addr
  pub others : All (λ row. (row.addr < chunk.addr) ⊎ (chunk.addr + chunk.len ≤ row.addr)) chunks

-- a participant that is ready may attach a chunk that is clear of its rows, where there is room for the chunk's pages besides
abbrev pub IsReadyToAttach : Type 0
IsReadyToAttach = (lists : List ListPlace) (maps : MapsView) (records : List LogRecord) (to : ℕ) (chunk : Chunk) → IsReady lists maps records to
    → IsClear lists (chunk_rows maps.rows) chunk → chunk.len / chunk.page < 2 ^ 32
    → length (chunk_rows maps.rows) + slots_in lists + chunk.len / chunk.page ≤ maps.capacity → CanAttach maps chunk

-- once a chunk is attached the rows of the chunks still lie beside the lists, as they do once one is detached
abbrev pub AttachedBeside : Type 0
AttachedBeside = (lists : List ListPlace) (rows : List Row) (chunk : Chunk) → AreBeside lists (chunk_rows rows) → IsClear lists (chunk_rows rows) chunk
    → AreBeside lists (chunk_rows (rows ++ rows_of_chunk chunk))

abbrev pub DetachedBeside : Type 0
DetachedBeside = (lists : List ListPlace) (rows : List Row) (chunk : Chunk) → AreBeside lists (chunk_rows rows)
    → AreBeside lists (chunk_rows (rows_beside chunk rows))
