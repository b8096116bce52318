-- Which of some records drops the page of a slot last. No public clause cites this module.
use Rattle.std.specs.Prelude.{◌≡◌, ℕ, ◌+◌, ◌*◌, Bool, ◌&&◌, nat_lt, List, drop, get_or, if◌then◌else◌}
use Rattle.hp_base.specs.declared.row.Row.{Row}
use Rattle.hp_base.specs.declared.row.Run.{Run}
use Rattle.hp_log.specs.Rows.{in_run}
use Rattle.hp_log.specs.declared.log_record.LogRecord.{LogRecord}
use Rattle.hp_maps.specs.Catching.{is_dropped}

-- a slot that has a number
abbrev pub has_place : Row → Bool
has_place row = nat_lt row.list 128 && nat_lt row.slot 8192

-- the number of a row's slot
abbrev pub number_of : List ℕ → Row → ℕ
number_of numbers row = if has_place row then get_or numbers (row.list * 8192 + row.slot) 0 else 0

-- the number of each slot is that of the last record that drops its page: so one of the records from a place on drops it just where
-- the number is above that place
abbrev pub AreLast : List ℕ → List LogRecord → Type 0
AreLast numbers records = (row : Row) (at : ℕ) → nat_lt at (number_of numbers row) ≡ is_dropped (drop at records) row

-- the slots of a run have this number now, and all others have theirs
abbrev pub AreNoted : Run → ℕ → List ℕ → List ℕ → Type 0
AreNoted run number old new = (row : Row) → number_of new row ≡ (if in_run run row then number else number_of old row)
