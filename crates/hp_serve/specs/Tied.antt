-- What ties a participant's table to what a hall knows of it: the rule "Tables" of docs/PARTICIPANTS.md.
use Rattle.std.specs.Prelude.{◌≡◌, ℕ, ◌≤◌, ◌<◌, Bool, false, Contains, List, [], filter, length, if◌then◌else◌}
use Rattle.std.specs.List.{All}
use Rattle.hp_base.specs.declared.caught.Caught.{Caught}
use Rattle.hp_base.specs.declared.caught.Caught.TheVariants.{Done, Refused, Elsewhere}
use Rattle.hp_base.specs.declared.chunk.Chunk.{Chunk}
use Rattle.hp_base.specs.declared.row.Row.{Row}
use Rattle.hp_base.specs.declared.limits.TheConstants.{MAX_HEAPS, MAX_SEGMENTS}
use Rattle.hp_hall.specs.Own.{Own, after_ack, after_partial, rows_known}
use Rattle.hp_log.specs.declared.log_record.LogRecord.{LogRecord}
use Rattle.hp_maps.specs.Chunks.{is_of_chunk, rows_of_chunk}
use Rattle.hp_maps.specs.MapsView.{MapsView, chunk_rows, table_in}

-- rows of chunks are exactly those of the chunks that have a participant's mark, heap by heap: each such chunk has all its rows there, and no
-- other chunk has one; no two heaps have marked chunks of one list
pub record HasChunks (marked : ℕ → List Chunk) (rows : List Row) : Type 0 where
  pub each : (heap : ℕ) → heap < MAX_HEAPS → All (λ chunk. filter (is_of_chunk chunk) rows ≡ rows_of_chunk chunk) (marked heap)
  pub only : (row : Row) → Contains rows row
      → (heap : ℕ) × (chunk : Chunk) × (heap < MAX_HEAPS) × Contains (marked heap) chunk × Contains (rows_of_chunk chunk) row
  pub distinct : (heap other : ℕ) (first second : Chunk) → heap < MAX_HEAPS → other < MAX_HEAPS → Contains (marked heap) first
      → Contains (marked other) second → first.list ≡ second.list → heap ≡ other

-- a table has taken in a number of records, and its rows are those that the log and the part say: those of the log at that number,
-- without what further records drop, as far as that was unmapped; beside them it has the rows of the chunks that are marked for it, and room
-- for the slots of all lists
pub record HasTable (log : List LogRecord) (own : Own) (marked : ℕ → List Chunk) (maps : MapsView) : Type 0 where
  pub number : maps.number ≡ own.number
  pub rows : table_in maps.rows ≡ rows_known log own
  pub behind : own.number ≤ own.unmapped
  pub seen : own.unmapped ≤ length log
  pub chunks : HasChunks marked (chunk_rows maps.rows)
  pub room : MAX_SEGMENTS ≤ maps.capacity

-- a participant has no mark on any chunk
abbrev pub no_chunks : ℕ → List Chunk
no_chunks heap = []

-- nothing is taken in, and nothing unmapped
abbrev pub nothing_yet : Own
nothing_yet = record { number = 0; unmapped = 0 }

-- the part by which a table is kept: a participant that is out has none
abbrev pub part_of : Bool → Own → Own
part_of joined own = if joined then own else nothing_yet

-- a participant's table is what the hall knows of it, by what it has seen of the log, its own part and its marks on chunks
pub record IsTied (log : List LogRecord) (own : Own) (marked : ℕ → List Chunk) (joined : Bool) (maps : MapsView) : Type 0 where
  pub within : own.number ≤ length log
  pub table : HasTable log (part_of joined own) marked maps

-- a participant's table is what the hall knows of it, and it has a table exactly where it is in the roster; one
-- that is out has left every chunk
pub record IsTiedAs (log : List LogRecord) (own : Own) (marked : ℕ → List Chunk) (member joined : Bool) (maps : MapsView) : Type 0 where
  pub table : IsTied log own marked joined maps
  pub same : member ≡ joined
  pub left : joined ≡ false → (heap : ℕ) → marked heap ≡ []

-- a participant's own part once it has caught up with so many records, or failed to
abbrev pub own_after : Caught → ℕ → Own → Own
own_after Done records own = after_ack records
own_after (Refused row call) records own = after_partial records own
own_after (Elsewhere row call got) records own = after_partial records own
