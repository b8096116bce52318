-- What those that listen know of a table: the rule "Bytes" of docs/TABLES.md.
use Rattle.std.specs.Prelude.{◌≡◌, ℕ, List, []}
use Rattle.std.specs.List.{All}
use Rattle.hp_base.specs.Telling.{Listener}
use Rattle.hp_base.specs.declared.caught.Caught.{Caught}
use Rattle.hp_base.specs.declared.chunk.Chunk.{Chunk}
use Rattle.hp_base.specs.declared.row.Row.{Row}
use Rattle.hp_log.specs.Places.{ListPlace}
use Rattle.hp_log.specs.declared.log_record.LogRecord.{LogRecord}
use Rattle.hp_maps.specs.Bytes.{AreTold}
use Rattle.hp_maps.specs.Catching.{rows_after}
use Rattle.hp_maps.specs.Chunks.{rows_beside, rows_of_chunk}
use Rattle.hp_maps.specs.MapsView.{MapsView, table_in}
use Rattle.hp_maps.specs.Ready.{IsReady}

-- a listener knows rows: its events, one after the other, turn the bytes of the log's rows that were mapped when it began to listen into
-- those of the log's rows among these
abbrev pub Knows : List Row → Listener → Type 0
Knows rows listener = AreTold listener.events (table_in listener.since) (table_in rows)

-- each of them knows the rows
abbrev pub AllKnow : List Row → List Listener → Type 0
AllKnow rows listeners = All (Knows rows) listeners

-- listeners that know the rows of a table that is ready know the rows after a catch-up too, once they were told its events
abbrev pub StayKnown : MapsView → List LogRecord → ℕ → List Listener → List Row → List Listener → Type 0
StayKnown maps records to old rows new = (lists : List ListPlace) → IsReady lists maps records to → AllKnow maps.rows old → AllKnow rows new

-- who begins to listen knows the rows that there are
abbrev pub NewKnows : Type 0
NewKnows = (name : List ℕ) (rows : List Row) → Knows rows (record { name = name; since = rows; events = [] })

-- a listener that knows the rows knows them with those of a chunk, and without them
abbrev pub ChunksAreNoNews : Type 0
ChunksAreNoNews = (chunk : Chunk) (rows : List Row) (ended : Caught) (listener : Listener) → Knows rows listener
    → Knows (rows_after rows (rows_of_chunk chunk) ended) listener × Knows (rows_beside chunk rows) listener
