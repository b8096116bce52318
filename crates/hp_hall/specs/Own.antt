-- What a hall knows of a participant's own part, and the rows that its table then has: the rule "What a hall shows" of docs/HALLS.md.
use Rattle.std.specs.Prelude.{ℕ, Bool, false, not, List, filter, drop, take}
use Rattle.std.specs.List.{list_any}
use Rattle.hp_base.specs.declared.row.Row.{Row}
use Rattle.hp_log.specs.Log.{table_at}
use Rattle.hp_log.specs.Rows.{in_run}
use Rattle.hp_log.specs.declared.log_record.LogRecord.{LogRecord}
use Rattle.hp_log.specs.declared.log_record.LogRecord.TheVariants.{Add, Drop}

-- the participant's own number, and up to which record it has unmapped what the records drop
pub record Own : Type 0 where
  pub number : ℕ
  pub unmapped : ℕ

-- a record drops a row
abbrev pub drops_row : Row → LogRecord → Bool
drops_row row (Add run heap) = false
drops_row row (Drop run) = in_run run row

-- the rows of a participant's table: those of the log at its number, without those that further records drop, as far as it has
-- unmapped what they drop
abbrev pub rows_known : List LogRecord → Own → List Row
rows_known log own =
    filter (λ row. not (list_any (drops_row row) (drop own.number (take own.unmapped log)))) (table_at log own.number)

-- after the participant's table has taken in so many records
abbrev pub after_ack : ℕ → Own
after_ack number = record { number = number; unmapped = number }

-- after it has unmapped what the records that it has seen drop
abbrev pub after_partial : ℕ → Own → Own
after_partial records own = record own { unmapped = records }
