-- What the watchers of a participant know at each moment of a run: the rules "Together" of docs/RUNS.md and "Bytes" of docs/TABLES.md.
use Rattle.std.specs.Prelude.{◌≡◌, ℕ, ◌≤◌, false, List, [], length, Some, slice_get}
use Rattle.std.specs.List.{All}
use Rattle.hp_log.specs.declared.log_record.LogRecord.{LogRecord}
use Rattle.hp_maps.specs.Catching.{Lags}
use Rattle.hp_maps.specs.MapsView.{table_in}
use Rattle.hp_maps.specs.Bytes.{AreTold}
use Rattle.hp_plain.specs.HallView.{HallView}
use Rattle.hp_proc.specs.LinesDone.{Course}
use Rattle.hp_script.specs.declared.workload.Workload.{Workload}
use Rattle.hp_serve.specs.Party.{Party}
use Rattle.hp_serve.specs.Watched.{names_of}
use Rattle.thm_run.specs.Seats.{Seat}
use Rattle.thm_run.specs.SoFar.{SoFar, standing_of}
use Rattle.thm_run.specs.Together.{GlobalState}

-- a participant's watchers have these names, in the order of registration; its table lags behind the log by records alone that it has not
-- taken in, and has none of its rows while it is out; and what each watcher was told since it was registered turns the bytes of the log's rows of
-- then into those of now, while the rows of chunks are told to nobody
pub record IsWatchedBy (log : List LogRecord) (party : Party) (watchers : List (List ℕ)) : Type 0 where
  pub names : names_of party.listeners ≡ watchers
  pub within : party.maps.number ≤ length log
  pub lags : Lags log party.maps.number (length log) (table_in party.maps.rows)
  pub out : party.joined ≡ false → table_in party.maps.rows ≡ []
  pub know : All (λ listener. AreTold listener.events (table_in listener.since) (table_in party.maps.rows)) party.listeners

-- so it is with its seat, by the watchers that its lines left
abbrev pub IsWatched : List LogRecord → Seat → Type 0
IsWatched log seat = IsWatchedBy log seat.party seat.standing.watchers

-- and with all of them
abbrev pub AreWatched : GlobalState → Type 0
AreWatched at = (who : ℕ) (seat : Seat) → slice_get at.seats who ≡ Some seat → IsWatched at.segs.log seat

-- wherever a workload was run to in one thread, each participant is so, by the watchers that its lines left
abbrev pub WatchedSoFar : Type 0
WatchedSoFar = (workload : Workload) (courses : List Course) (parties : List Party) (hall : HallView)
    (so : SoFar workload courses parties hall) (who : ℕ) (party : Party) → slice_get parties who ≡ Some party
    → IsWatchedBy so.now.segs.log party (standing_of workload who courses).watchers
