-- The cause of each logged outcome, as far as the log, the kept ask and the pools show it.
use Rattle.std.specs.Prelude.{◌≡◌, ◌≤◌, List, [], ◌∷◌, ◌++◌, length, Some, None}
use Rattle.hp_base.specs.declared.row.Run.{Run}
use Rattle.hp_base.specs.declared.pool_line.PoolLine.{PoolLine}
use Rattle.hp_segs.specs.Refusals.{HasRefusalCause, IsAddOf}
use Rattle.hp_segs.specs.SegsView.{closed_number}
use Rattle.hp_segs.specs.declared.ask.Ask.{Ask}
use Rattle.hp_log.specs.declared.log_record.LogRecord.{LogRecord}
use Rattle.hp_segs.specs.declared.outcome.Outcome.{Outcome}
use Rattle.hp_segs.specs.declared.outcome.Outcome.TheVariants.{Granted, Refused, Stale, Freed}
use Rattle.hp_segs.specs.declared.outcome.AskLog.{AskLog}

-- the kept ask is that of the entry
pub record IsKeptAsk (entry : AskLog) (ask : Ask) : Type 0 where
  pub kept : entry.ask ≡ Some ask
  pub who : ask.from ≡ entry.from
  pub which : ask.number ≡ entry.number

-- the outcome has its cause, where these outcomes stood before it
abbrev pub HasCause : List PoolLine → List LogRecord → List AskLog → AskLog → Outcome → Type 0
HasCause pools log before entry (Granted generation) =
    (ask : Ask) × (run : Run) × IsKeptAsk entry ask × (generation ≡ entry.at) × IsAddOf pools log entry.at ask run
HasCause pools log before entry (Refused cause) =
    (ask : Ask) × IsKeptAsk entry ask × HasRefusalCause pools log before entry.at ask cause
HasCause pools log before entry (Stale done) = (entry.number ≤ done) × (done ≡ closed_number before entry.from) × (entry.ask ≡ None)
HasCause pools log before entry (Freed generation) = (generation ≡ entry.at) × (entry.ask ≡ None)

-- the kept number is of records of the log, and the outcome has its cause, where these outcomes stood before it
pub record IsCaused (pools : List PoolLine) (log : List LogRecord) (before : List AskLog) (entry : AskLog) : Type 0 where
  pub within : entry.at ≤ length log
  pub cause : HasCause pools log before entry entry.outcome

-- each outcome has its cause, where the first stand before them
abbrev pub AllCaused : List PoolLine → List LogRecord → List AskLog → List AskLog → Type 0
AllCaused pools log before [] = Unit {0}
AllCaused pools log before (entry ∷ asks) = IsCaused pools log before entry × AllCaused pools log (before ++ entry ∷ []) asks
