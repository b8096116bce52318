-- How rows are told one after the other. No public clause cites this module.
use Rattle.std.specs.Prelude.{◌≡◌, ℕ, ◌+◌, ◌<◌, ◌≤◌, true, List, [], ◌∷◌, length, get_or, Option, Some, None, if◌then◌else◌}
use Rattle.hp_base.specs.declared.caught.Caught.{Caught}
use Rattle.hp_base.specs.declared.caught.Caught.TheVariants as caught
use Rattle.hp_base.specs.declared.event.Event.{Event}
use Rattle.hp_base.specs.declared.event.EventKind.{EventKind}
use Rattle.hp_base.specs.declared.event.EventKind.TheVariants.{Alloc}
use Rattle.hp_base.specs.declared.row.Row.{Row}
use Rattle.hp_base.specs.declared.row.Run.{Run}
use Rattle.hp_log.specs.declared.log_record.LogRecord.{LogRecord}
use Rattle.hp_maps.specs.Events.{events_of, joins_by, stands_at}
use Rattle.hp_maps.specs.declared.telling.Stretch.{Stretch}

-- from a place on rows of the log stand at all slots of a run once some records are taken in, next to each other and by rising slot
pub record StandInTurn (before : List LogRecord) (run : Run) (rows : List Row) (at : ℕ) : Type 0 where
  pub within : at + run.count ≤ length rows
  pub each : (n : ℕ) → n < run.count → (d : Row) → stands_at before run.list (run.first + n) (get_or rows (at + n) d) ≡ true

-- the event of a stretch ends where its last row does
abbrev pub IsWhole : Stretch → Type 0
IsWhole stretch = stretch.event.addr + stretch.event.len ≡ stretch.last.addr + stretch.last.page

-- a stretch of one row
abbrev pub stretch_at : EventKind → Row → Stretch
stretch_at kind row = record { event = record { kind = kind; addr = row.addr; len = row.page }; last = row }

-- a stretch with one row more
abbrev pub stretch_with : Stretch → Row → Stretch
stretch_with stretch row = record {
  event = record { kind = stretch.event.kind; addr = stretch.event.addr; len = stretch.event.len + row.page };
  last = row;
}

-- the stretch that goes on once a row is found, if one is
abbrev pub stretch_after : EventKind → Option Stretch → Option Row → Option Stretch
stretch_after kind stretch None = stretch
stretch_after kind None (Some row) = Some (stretch_at kind row)
stretch_after kind (Some stretch) (Some row) =
    if joins_by kind stretch.last row then Some (stretch_with stretch row) else Some (stretch_at kind row)

-- what is told then: the stretch that ends
abbrev pub told_then : EventKind → Option Stretch → Option Row → List Event
told_then kind stretch None = []
told_then kind None (Some row) = []
told_then kind (Some stretch) (Some row) = if joins_by kind stretch.last row then [] else stretch.event ∷ []

-- what is told of a stretch and the rows after it
abbrev pub ahead : EventKind → Event → Row → List Row → List Event
ahead kind event last [] = event ∷ []
ahead kind event last (row ∷ rows) =
    if joins_by kind last row then ahead kind (record { kind = event.kind; addr = event.addr; len = event.len + row.page }) row rows
    else event ∷ ahead kind (record { kind = kind; addr = row.addr; len = row.page }) row rows

-- what is still told where these rows follow
abbrev pub events_from : EventKind → Option Stretch → List Row → List Event
events_from kind None rows = events_of kind rows
events_from kind (Some stretch) rows = ahead kind stretch.event stretch.last rows

-- what is told of new rows: nothing, where one of them failed
abbrev pub mapped_events : List Row → Caught → List Event
mapped_events rows caught.Done = events_of Alloc rows
mapped_events rows (caught.Refused row call) = []
mapped_events rows (caught.Elsewhere row call got) = []
