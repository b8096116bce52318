-- What contracts see of a participant's table, and which of its rows are the log's: the rule "What stands in a table" of docs/TABLES.md.
use Rattle.std.specs.Prelude.{◌≡◌, ℕ, Bool, false, not, nat_lt, List, Option, filter, length}
use Rattle.std.specs.List.{All, list_any}
use Rattle.hp_base.specs.Mapping.{FailingCall, Held, has_addr, owned}
use Rattle.hp_base.specs.declared.map_answer.MapAnswer.{MapAnswer}
use Rattle.hp_base.specs.declared.row.Row.{Row}

pub record MapsView : Type 0 where
  -- the rows that are mapped, in the order of mapping: those of the log and those of chunks
  pub rows : List Row
  -- how many records the table has taken in
  pub number : ℕ
  -- how many rows it may have
  pub capacity : ℕ
  -- all answers of its mapper, one for each mapping call
  pub answers : List MapAnswer
  -- how often its mapper failed
  pub faults : ℕ
  -- the calls of its mapper at which a row may fail, and how, where that is told
  pub may_fail : Option (List FailingCall)
  -- what its mapper holds
  pub held : List Held

-- the number of mapping calls
abbrev pub calls_of : MapsView → ℕ
calls_of maps = length maps.answers

-- its rows are exactly those that its mapper holds, each at its own place
abbrev pub IsMapped : MapsView → Type 0
IsMapped maps = maps.held ≡ owned maps.rows

-- a row of the log has the generation of its record, from 1; a row of a chunk has generation 0
abbrev pub is_of_log : Row → Bool
is_of_log row = nat_lt 0 row.generation

-- the table: the rows of the log
abbrev pub table_in : List Row → List Row
table_in rows = filter is_of_log rows

-- the rows of chunks, which stand beside the table
abbrev pub chunk_rows : List Row → List Row
chunk_rows rows = filter (λ row. not (is_of_log row)) rows

-- no row has the address of one of those that come
abbrev pub AreClearOf : List Row → List Row → Type 0
AreClearOf rows fresh = All (λ row. list_any (has_addr row.addr) rows ≡ false) fresh
