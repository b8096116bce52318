-- What is told of rows that come and go: the rule "Events" of docs/TABLES.md.
use Rattle.std.specs.Prelude.{◌≡◌, ℕ, zero, suc, ◌+◌, Bool, not, ◌&&◌, ◌==◌, List, [], ◌∷◌, ◌++◌, map, find, sum_by, if◌then◌else◌, option_to_list}
use Rattle.std.specs.List.Sorted.{IsNonDecreasingBy, IsPermutation}
use Rattle.hp_base.specs.Telling.{Listener, told_after}
use Rattle.hp_base.specs.declared.caught.Caught.{Caught}
use Rattle.hp_base.specs.declared.caught.Caught.TheVariants as caught
use Rattle.hp_base.specs.declared.event.Event.{Event}
use Rattle.hp_base.specs.declared.event.EventKind.{EventKind}
use Rattle.hp_base.specs.declared.event.EventKind.TheVariants as kind
use Rattle.hp_base.specs.declared.row.Row.{Row}
use Rattle.hp_base.specs.declared.row.Run.{Run}
use Rattle.hp_log.specs.Rows.{at_slot}
use Rattle.hp_log.specs.declared.log_record.LogRecord.{LogRecord}
use Rattle.hp_log.specs.declared.log_record.LogRecord.TheVariants.{Add, Drop}
use Rattle.hp_maps.specs.Catching.{is_dropped, new_rows}
use Rattle.hp_maps.specs.MapsView.{is_of_log}

-- the next row lies behind a row: in the same list, where the row ends
abbrev pub is_behind : Row → Row → Bool
is_behind row next = (next.list == row.list) && (next.addr == row.addr + row.page)

-- a row in front of stretches: in the first of them where that lies behind the row and goes with it, else a stretch of its own
abbrev pub in_front : (Row → Row → Bool) → Row → List (List Row) → List (List Row)
in_front joins row [] = (row ∷ []) ∷ []
in_front joins row ([] ∷ stretches) = (row ∷ []) ∷ stretches
in_front joins row ((next ∷ stretch) ∷ stretches) =
    if joins row next then (row ∷ (next ∷ stretch)) ∷ stretches else (row ∷ []) ∷ ((next ∷ stretch) ∷ stretches)

-- the greatest stretches of rows, each row behind the one before it, in their order
abbrev pub stretches_of : (Row → Row → Bool) → List Row → List (List Row)
stretches_of joins [] = []
stretches_of joins (row ∷ rows) = in_front joins row (stretches_of joins rows)

-- where the first of the rows begins
abbrev pub first_addr : List Row → ℕ
first_addr [] = 0
first_addr (row ∷ rows) = row.addr

-- the event of a stretch: all its bytes
abbrev pub event_of : EventKind → List Row → Event
event_of its_kind stretch = record { kind = its_kind; addr = first_addr stretch; len = sum_by (λ row. row.page) stretch }

-- which row goes on a stretch: one that lies behind the row before it, and for memory that comes also is of the same record
abbrev pub joins_by : EventKind → Row → Row → Bool
joins_by kind.Alloc row next = (next.generation == row.generation) && is_behind row next
joins_by kind.Free row next = is_behind row next

-- what is told of rows: one event for each of their greatest stretches
abbrev pub events_of : EventKind → List Row → List Event
events_of its_kind rows = map (event_of its_kind) (stretches_of (joins_by its_kind) rows)

-- a row of the log stands at a slot once some records are taken in
abbrev pub stands_at : List LogRecord → ℕ → ℕ → Row → Bool
stands_at before list slot row = at_slot list slot row && (is_of_log row && not (is_dropped before row))

-- the rows that stand at the slots of a run from place k on, so many of them, by rising slot
abbrev pub rows_from : List Row → List LogRecord → Run → ℕ → ℕ → List Row
rows_from rows before run k zero = []
rows_from rows before run k (suc n) =
    option_to_list (find (stands_at before run.list (run.first + k)) rows) ++ rows_from rows before run (k + 1) n

-- the rows that a record unmaps, where others came before it: those that stand at its slots
abbrev pub freed_by : List Row → List LogRecord → LogRecord → List Row
freed_by rows before (Add run heap) = []
freed_by rows before (Drop run) = rows_from rows before run 0 run.count

-- what is told of the rows that records unmap, in the order of the log
abbrev pub dropped_events : List Row → List LogRecord → List LogRecord → List Event
dropped_events rows before [] = []
dropped_events rows before (entry ∷ records) =
    events_of kind.Free (freed_by rows before entry) ++ dropped_events rows (before ++ entry ∷ []) records

-- what is told of a catch-up: all that goes, record by record, and then what came, where all of it is mapped
abbrev pub caught_events : List Row → ℕ → List LogRecord → Caught → List Event
caught_events rows n records caught.Done = dropped_events rows [] records ++ events_of kind.Alloc (new_rows n records)
caught_events rows n records (caught.Refused row call) = dropped_events rows [] records
caught_events rows n records (caught.Elsewhere row call got) = dropped_events rows [] records

-- the listeners once they are told events, one after the other
abbrev pub all_told : List Event → List Listener → List Listener
all_told [] listeners = listeners
all_told (event ∷ events) listeners = all_told events (told_after event listeners)

-- rows are told as they go, by rising address: one event for each of their greatest stretches
pub record IsToldByAddress (rows : List Row) (old new : List Listener) : Type 0 where
  pub rising : List Row
  pub same : IsPermutation rows rising
  pub sorted : IsNonDecreasingBy (λ row. row.addr) rising
  pub told : new ≡ all_told (events_of kind.Free rising) old
