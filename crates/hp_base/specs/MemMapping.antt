-- A mapper in memory, as contracts see it, and what one call of it does.
use Rattle.std.specs.Prelude.{◌≡◌, ℕ, ◌+◌, ◌<◌, ◌≤◌, not, List, [], ◌∷◌, ◌++◌, length, filter, map, if◌then◌else◌}
use Rattle.hp_base.specs.HeldRows.{AreOnce, AreRuns, rows_in}
use Rattle.hp_base.specs.Mapping.{own_place, is_refused, is_row}
use Rattle.hp_base.specs.MemStreams.{counted}
use Rattle.hp_base.specs.Streams.{list_has}
use Rattle.hp_base.specs.declared.held_rows.HeldRun.{HeldRun}
use Rattle.hp_base.specs.declared.row.Row.{Row}
use Rattle.hp_base.specs.declared.map_answer.MapAnswer.{MapAnswer}
use Rattle.hp_base.specs.declared.map_answer.MapAnswer.TheVariants.{At, Refused}

-- the rows that it holds, its capacity, the mapping calls that fail, counted from 1, its answers so far, and its faults so far
pub record MapperState : Type 0 where
  pub rows : List Row
  pub capacity : ℕ
  pub fails : List ℕ
  pub answers : List MapAnswer
  pub faults : ℕ

-- what it answers to a row: nothing is mapped where the next call is to fail, else the row's own place
abbrev pub answer_to : MapperState → Row → MapAnswer
answer_to mapper row = if list_has (length mapper.answers + 1) mapper.fails then Refused else own_place row

-- the rows after an answer
abbrev pub rows_after : List Row → Row → MapAnswer → List Row
rows_after rows row (At addr page socket) = rows ++ row ∷ []
rows_after rows row Refused = rows

-- the mapper after an answer to a row
abbrev pub after_map : MapperState → Row → MapAnswer → MapperState
after_map mapper row answer = record {
  rows = rows_after mapper.rows row answer;
  capacity = mapper.capacity;
  fails = mapper.fails;
  answers = mapper.answers ++ answer ∷ [];
  faults = if is_refused answer then counted mapper.faults else mapper.faults;
}

-- the mapper without a row
abbrev pub after_unmap : MapperState → Row → MapperState
after_unmap mapper row = record {
  rows = filter (λ other. not (is_row row other)) mapper.rows;
  capacity = mapper.capacity;
  fails = mapper.fails;
  answers = mapper.answers;
  faults = mapper.faults;
}

-- the mapper after it has mapped rows, each at its own place
abbrev pub after_mapping : MapperState → List Row → MapperState
after_mapping mapper rows = record mapper { rows = mapper.rows ++ rows; answers = mapper.answers ++ map own_place rows }

-- rows without others
abbrev pub without_all : List Row → List Row → List Row
without_all [] rows = rows
without_all (gone ∷ others) rows = without_all others (filter (λ other. not (is_row gone other)) rows)

-- the mapper without rows
abbrev pub after_unmapping : MapperState → List Row → MapperState
after_unmapping mapper gone = record mapper { rows = without_all gone mapper.rows }

-- the mapping calls are counted, no row is held twice, and there is memory for more runs than the mapper may hold rows
pub record IsMapper (runs : List HeldRun) (capacity room calls : ℕ) (answers : List MapAnswer) : Type 0 where
  pub counts : calls ≡ length answers
  pub once : AreOnce (rows_in runs)
  pub holds : length (rows_in runs) ≤ capacity
  pub fits : capacity < room
  pub within : AreRuns runs
