-- Rows and runs: which slots a run has, and which rows are at a slot.
use Rattle.std.specs.Prelude.{◌≡◌, ℕ, zero, suc, ◌+◌, ◌*◌, ◌^◌, ◌<◌, Bool, ◌&&◌, ◌==◌, nat_lt, nat_le, List, [], ◌∷◌, ◌++◌, map, count_by}
use Rattle.std.specs.List.{list_any, range_with_len}
use Rattle.hp_base.specs.declared.row.Row.{Row}
use Rattle.hp_base.specs.declared.row.Run.{Run}

-- the row of a run's slot at place n, mapped by the record of that generation
abbrev pub row_of : Run → ℕ → ℕ → Row
row_of run generation n = record {
  addr = run.addr + n * run.page;
  page = run.page;
  socket = run.socket;
  list = run.list;
  slot = run.first + n;
  generation = generation;
}

-- the rows of the first n slots of a run
abbrev pub rows_below : Run → ℕ → ℕ → List Row
rows_below run generation zero = []
rows_below run generation (suc n) = rows_below run generation n ++ row_of run generation n ∷ []

-- the rows of a run, by rising slot
abbrev pub rows_of : Run → ℕ → List Row
rows_of run generation = rows_below run generation run.count

-- a run has at least one slot
abbrev pub HasSlots : Run → Type 0
HasSlots run = 0 < run.count

-- the numbers of a run are within their types
pub record IsSmallRun (run : Run) : Type 0 where
  pub slots : run.first + run.count < 2 ^ 32
  pub addr : run.addr + run.count * run.page < 2 ^ 64

-- the row is at one of the run's slots
abbrev pub in_run : Run → Row → Bool
in_run run row = (row.list == run.list) && (nat_le run.first row.slot && nat_lt row.slot (run.first + run.count))

-- the row is at the place of a run's slot at place n, by slot and by address
abbrev pub is_row_at : Run → ℕ → Row → Bool
is_row_at run n row =
    (row.list == run.list) && ((row.slot == run.first + n) && ((row.addr == run.addr + n * run.page)
    && ((row.page == run.page) && (row.socket == run.socket))))

-- the row is at that slot of that list
abbrev pub at_slot : ℕ → ℕ → Row → Bool
at_slot list slot row = (row.list == list) && (row.slot == slot)

-- how many of the rows are at a slot
abbrev pub rows_at : List Row → ℕ → ℕ → ℕ
rows_at rows list slot = count_by (at_slot list slot) rows

-- which of the n slots of a list are used: those that have a row
abbrev pub slots_of : List Row → ℕ → ℕ → List Bool
slots_of rows list n = map (λ slot. list_any (at_slot list slot) rows) (range_with_len 0 n)

-- no slot of the run has a row
pub record IsUnusedRun (rows : List Row) (run : Run) : Type 0 where
  pub unused : (n : ℕ) → n < run.count → rows_at rows run.list (run.first + n) ≡ 0

-- each slot of the run has a row
pub record IsUsedRun (rows : List Row) (run : Run) : Type 0 where
  pub used : (n : ℕ) → n < run.count → rows_at rows run.list (run.first + n) ≡ 1

-- the bytes of a row contain an address
abbrev pub row_contains : ℕ → Row → Bool
row_contains addr row = nat_le row.addr addr && nat_lt addr (row.addr + row.page)
