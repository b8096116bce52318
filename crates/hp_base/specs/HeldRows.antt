-- Rows in the order of mapping, of which those next to each other are kept as one run. No public clause cites this module.
use Rattle.std.specs.Prelude.{◌≡◌, ℕ, zero, suc, ◌+◌, ◌-◌, ◌*◌, ◌^◌, ◌<◌, ◌≤◌, Bool, true, false, nat_lt, List, [], ◌∷◌, ◌++◌, length, get_or, count_by}
use Rattle.std.specs.List.{All, list_any}
use Rattle.hp_base.specs.Mapping.{is_row}
use Rattle.hp_base.specs.declared.held_rows.HeldRun.{HeldRun}
use Rattle.hp_base.specs.declared.row.Row.{Row}

-- the row that stands so many slots, and as many pages, after another one
abbrev pub row_after : Row → ℕ → Row
row_after row n = record {
  addr = row.addr + n * row.page;
  page = row.page;
  socket = row.socket;
  list = row.list;
  slot = row.slot + n;
  generation = row.generation;
}

-- the rows at so many places from one on, counted from a row at place 0
abbrev pub rows_from : Row → ℕ → ℕ → List Row
rows_from row k zero = []
rows_from row k (suc n) = row_after row k ∷ rows_from row (k + 1) n

-- the rows of a run
abbrev pub rows_of : HeldRun → List Row
rows_of run = rows_from run.first run.from (run.to - run.from)

-- those of them before a place, and those after it
abbrev pub rows_before : HeldRun → ℕ → List Row
rows_before run place = rows_from run.first run.from (place - run.from)

abbrev pub rows_behind : HeldRun → ℕ → List Row
rows_behind run place = rows_from run.first (place + 1) (run.to - (place + 1))

-- the rows of runs, in their order
abbrev pub rows_in : List HeldRun → List Row
rows_in [] = []
rows_in (run ∷ runs) = rows_of run ++ rows_in runs

-- the numbers of a run's rows are within their types, also where it ends
pub record IsRun (run : HeldRun) : Type 0 where
  pub order : run.from ≤ run.to
  pub ends : run.first.addr + run.to * run.first.page < 2 ^ 64
  pub slots : run.first.slot + run.to ≤ 2 ^ 32

-- the runs are such
abbrev pub AreRuns : List HeldRun → Type 0
AreRuns runs = All IsRun runs

-- no row is there twice
abbrev pub AreOnce : List Row → Type 0
AreOnce rows = (row : Row) → count_by (is_row row) rows ≤ 1

-- a row is one of a run's
abbrev pub is_in : Row → HeldRun → Bool
is_in row run = list_any (is_row row) (rows_of run)

-- a row is the one at a place of a run
pub record StandsIn (row : Row) (run : HeldRun) (place : ℕ) : Type 0 where
  pub above : run.first.slot ≤ row.slot
  pub from : run.from ≤ place
  pub within : place < run.to
  pub there : is_row row (row_after run.first place) ≡ true

-- a run has rows
abbrev pub has_rows : HeldRun → Bool
has_rows run = nat_lt run.from run.to

-- the run that has the row stands at that place
pub record StandsAt (row : Row) (runs : List HeldRun) (at : ℕ) : Type 0 where
  pub within : at < length runs
  pub there : (d : HeldRun) → is_in row (get_or runs at d) ≡ true

-- none of the runs from one place on up to another has the row
abbrev pub IsNotBetween : Row → List HeldRun → ℕ → ℕ → Type 0
IsNotBetween row runs from to = (at : ℕ) → from ≤ at → at < to → (d : HeldRun) → is_in row (get_or runs at d) ≡ false
