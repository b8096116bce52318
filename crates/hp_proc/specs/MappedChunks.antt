-- What mapping a chunk and leaving it makes of a table: the rule "Chunks" of docs/TABLES.md.
use Rattle.std.specs.Prelude.{◌≡◌, List, ◌++◌, if◌then◌else◌}
use Rattle.hp_base.specs.Mapping.{is_done}
use Rattle.hp_base.specs.declared.caught.Caught.{Caught}
use Rattle.hp_base.specs.declared.chunk.Chunk.{Chunk}
use Rattle.hp_base.specs.declared.row.Row.{Row}
use Rattle.hp_external.specs.Attaching.{SameButRows}
use Rattle.hp_maps.specs.Catching.{HasAnswered, HasReason}
use Rattle.hp_maps.specs.Chunks.{rows_beside, rows_of_chunk}
use Rattle.hp_maps.specs.MapsView.{MapsView}

-- the rows of a table that mapped a chunk, or failed to
abbrev pub rows_with : List Row → Chunk → Caught → List Row
rows_with rows chunk ended = if is_done ended then rows ++ rows_of_chunk chunk else rows

-- a table maps the pages of a chunk, each at its own place, or none of them where a mapping call failed, at which the mapper may fail
pub record MapsChunk (chunk : Chunk) (old new : MapsView) (ended : Caught) : Type 0 where
  pub rows : new.rows ≡ rows_with old.rows chunk ended
  pub answered : HasAnswered (rows_of_chunk chunk) old.answers new.answers ended
  pub reason : HasReason old.may_fail ended
  pub others : SameButRows old new

-- a table loses the rows of a chunk, and makes no mapping call
pub record LeavesChunk (chunk : Chunk) (old new : MapsView) : Type 0 where
  pub rows : new.rows ≡ rows_beside chunk old.rows
  pub answers : new.answers ≡ old.answers
  pub others : SameButRows old new
