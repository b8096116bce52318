-- What is known of a table of the worked values: one list of two pages of 2 MiB from the address 2^32 on, and a chunk of two pages.
use Rattle.std.specs.Prelude.{◌≡◌, ℕ, ◌^◌, ◌≤◌, List, [], ◌∷◌}
use Rattle.hp_base.specs.declared.chunk.Chunk.{Chunk}
use Rattle.hp_log.specs.Places.{ListPlace}
use Rattle.hp_log.specs.declared.log_record.LogRecord.{LogRecord}
use Rattle.hp_maps.specs.MapsView.{MapsView, calls_of}
use Rattle.hp_maps.specs.Ready.{IsReady}

abbrev pub worked_place : ListPlace
worked_place = record { base = 4294967296; page = 2097152; slots = 2 }

abbrev pub worked_lists : List ListPlace
worked_lists = worked_place ∷ []

-- external memory beside the list
abbrev pub worked_chunk : Chunk
worked_chunk = record { list = 1; addr = 481036337152; len = 8192; page = 4096; socket = 256; attached = 0 }

-- the table has room for the list and the chunk, and is ready for the records that it has seen, as long as it may count its calls
pub record IsKnown (maps : MapsView) (records : List LogRecord) (reached : ℕ) : Type 0 where
  pub capacity : maps.capacity ≡ 4
  pub ready : calls_of maps ≤ 2 ^ 63 → IsReady worked_lists maps records reached

-- what is known of the table before is known of it after
abbrev pub StaysKnown : MapsView → MapsView → Type 0
StaysKnown old new = (records : List LogRecord) (reached : ℕ) → IsKnown old records reached → IsKnown new records reached
