-- What is held as rows are mapped and unmapped, one after the other. No public clause cites this module.
use Rattle.std.specs.Prelude.{◌≡◌, ℕ, ◌+◌, ◌^◌, ◌<◌, ◌≤◌, Bool, true, false, ◌&&◌, ◌==◌, List, [], ◌∷◌, ◌++◌, length, take, drop, if◌then◌else◌}
use Rattle.std.specs.List.{All, list_any}
use Rattle.hp_base.specs.Mapping.{AreApart, Held, IsWithin, at_own_place, is_row, owned}
use Rattle.hp_base.specs.declared.caught.Caught.{Caught}
use Rattle.hp_base.specs.declared.caught.Caught.TheVariants as caught
use Rattle.hp_base.specs.declared.map_answer.MapAnswer.{MapAnswer}
use Rattle.hp_base.specs.declared.map_answer.MapAnswer.TheVariants.{At, Refused}
use Rattle.hp_base.specs.declared.row.Row.{Row}
use Rattle.hp_log.specs.Log.{run_in}
use Rattle.hp_log.specs.declared.log_record.LogRecord.{LogRecord}
use Rattle.hp_log.specs.declared.log_record.LogRecord.TheVariants.{Add, Drop}
use Rattle.hp_maps.specs.Catching.{IsMappableRun, kept, new_rows}
use Rattle.hp_maps.specs.RowsView.{HaveOwnSlots}

-- the record is a Drop
abbrev pub is_drop : LogRecord → Bool
is_drop (Add run heap) = false
is_drop (Drop run) = true

-- one of the records is a Drop
abbrev pub has_drop : List LogRecord → Bool
has_drop records = list_any is_drop records

-- the answer is the row's own place
abbrev pub is_own : Row → MapAnswer → Bool
is_own row (At addr page socket) = (addr == row.addr) && ((page == row.page) && (socket == row.socket))
is_own row Refused = false

-- what is held after an answer, where a misplaced row is unmapped at once
abbrev pub held_own : Row → MapAnswer → List Held → List Held
held_own row got held = if is_own row got then held ++ at_own_place row ∷ [] else held

-- each of the rows is held
abbrev pub AreHeld : List Held → List Row → Type 0
AreHeld held rows = All (λ row. list_any (λ one. is_row one.row row) held ≡ true) rows

-- when the rows from one place on may be mapped after those before it, which are held
pub record CanMapRows (rows : List Row) (start : ℕ) (held : List Held) (capacity calls : ℕ) : Type 0 where
  pub within : start ≤ length rows
  pub holds : held ≡ owned (take start rows)
  pub apart : AreApart rows
  pub room : length rows ≤ capacity
  pub few : calls + length rows < 2 ^ 64
  pub near : All IsWithin (drop start rows)

-- how mapping ends where a row got another answer than its own place
abbrev pub caught_by : Row → ℕ → MapAnswer → Caught
caught_by row call (At addr page socket) = caught.Elsewhere row call (At addr page socket)
caught_by row call Refused = caught.Refused row call

-- the rows that are mapped at the end: all of them, or those before the place from which mapping began
abbrev pub rows_mapped : List Row → ℕ → Caught → List Row
rows_mapped rows start caught.Done = rows
rows_mapped rows start (caught.Refused row call) = take start rows
rows_mapped rows start (caught.Elsewhere row call got) = take start rows

-- how many mapping calls there were at the end, where there were to be so many more
abbrev pub calls_after : ℕ → ℕ → Caught → ℕ
calls_after calls more caught.Done = calls + more
calls_after calls more (caught.Refused row call) = call
calls_after calls more (caught.Elsewhere row call got) = call

-- when records after the first n may be taken in
pub record CanTakeIn (rows : List Row) (n : ℕ) (records : List LogRecord) (capacity memory calls : ℕ) : Type 0 where
  pub mappable : All (λ entry. IsMappableRun (run_in entry)) records
  pub few : n + length records < 2 ^ 64
  pub once : HaveOwnSlots rows
  pub apart : AreApart (kept records rows ++ new_rows n records)
  pub room : length (kept records rows) + length (new_rows n records) ≤ capacity
  pub memory_room : length (kept records rows) + length (new_rows n records) ≤ memory
  pub calls_fit : calls ≤ 2 ^ 63
