-- What the table of a participant is at the end of a growth that failed: the rule "Acknowledging" of docs/BOARD.md.
use Rattle.std.specs.Prelude.{◌≡◌, ℕ, ◌-◌, ◌≤◌, Some, slice_get}
use Rattle.hp_base.specs.declared.row.Run.{Run}
use Rattle.hp_log.specs.Log.{table_at}
use Rattle.hp_log.specs.declared.log_record.LogRecord.TheVariants.{Add, Drop}
use Rattle.hp_board.specs.Views.{table_of}
use Rattle.hp_board.specs.declared.view.Mine.{Mine}

-- the last of a participant's records drops the run that the one before it adds: that is how a growth ends that fails
pub record IsAtFailure (mine : Mine) : Type 0 where
  pub run : Run
  pub heap : ℕ
  pub two : 2 ≤ mine.number
  pub added : slice_get mine.log (mine.number - 2) ≡ Some (Add run heap)
  pub dropped : slice_get mine.log (mine.number - 1) ≡ Some (Drop run)

-- then its table is the one from before that growth
abbrev pub IsRestored : Mine → Type 0
IsRestored mine = IsAtFailure mine → table_of mine ≡ table_at mine.log (mine.number - 2)
