-- The log of records, and the table of rows that it leaves.
use Rattle.std.specs.Prelude.{◌≡◌, ℕ, ◌+◌, ◌-◌, not, List, [], ◌∷◌, ◌++◌, take, filter, Some, slice_get}
use Rattle.hp_base.specs.declared.row.Row.{Row}
use Rattle.hp_base.specs.declared.row.Run.{Run}
use Rattle.hp_log.specs.Rows.{rows_of, in_run, IsUnusedRun, IsUsedRun}
use Rattle.hp_log.specs.declared.log_record.LogRecord.{LogRecord}
use Rattle.hp_log.specs.declared.log_record.LogRecord.TheVariants.{Add, Drop}

-- the run of a record
abbrev pub run_in : LogRecord → Run
run_in (Add run heap) = run
run_in (Drop run) = run

-- the table after a record of that generation: an Add brings the rows of its run, a Drop takes those at its slots
abbrev pub table_after : List Row → ℕ → LogRecord → List Row
table_after table generation (Add run heap) = table ++ rows_of run generation
table_after table generation (Drop run) = filter (λ row. not (in_run run row)) table

-- the table after records, where n stand before them
abbrev pub table_from : ℕ → List Row → List LogRecord → List Row
table_from n table [] = table
table_from n table (entry ∷ log) = table_from (n + 1) (table_after table (n + 1) entry) log

-- the table of a log: the rows that its records add and that no later one of them drops
abbrev pub table_of : List LogRecord → List Row
table_of log = table_from 0 [] log

-- the table of the first n records
abbrev pub table_at : List LogRecord → ℕ → List Row
table_at log n = table_of (take n log)

-- the record of that generation is an Add for the heap
pub record IsAddFor (log : List LogRecord) (generation heap : ℕ) : Type 0 where
  pub run : Run
  pub added : slice_get log (generation - 1) ≡ Some (Add run heap)

-- an Add may follow where the slots of its run are unused, a Drop where they are used
abbrev pub MayFollow : List Row → LogRecord → Type 0
MayFollow table (Add run heap) = IsUnusedRun table run
MayFollow table (Drop run) = IsUsedRun table run

-- each record may follow on those before it, where n stand before the first
abbrev pub AllMayFollow : ℕ → List Row → List LogRecord → Type 0
AllMayFollow n table [] = Unit {0}
AllMayFollow n table (entry ∷ log) =
    MayFollow table entry × AllMayFollow (n + 1) (table_after table (n + 1) entry) log

-- each Add's slots are unused in the table before it, and each Drop's slots are used there
abbrev pub IsWellFormed : List LogRecord → Type 0
IsWellFormed log = AllMayFollow 0 [] log
