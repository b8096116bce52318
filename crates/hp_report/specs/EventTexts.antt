-- What watchers were told, as the report shows it.
use Rattle.std.specs.Prelude.{List, ◌++◌, codes, ℕ}
use Rattle.std.specs.List.{flat_map}
use Rattle.hp_base.specs.Telling.{Listener}
use Rattle.hp_base.specs.declared.event.Event.{Event}
use Rattle.hp_base.specs.declared.event.EventKind.{EventKind}
use Rattle.hp_base.specs.declared.event.EventKind.TheVariants.{Alloc, Free}
use Rattle.hp_events.specs.Watchers.{WatchersView}
use Rattle.hp_script.specs.Answers.{address_text, number_text}
use Rattle.hp_report.specs.Numbered.{numbered}

-- memory comes or goes
abbrev pub kind_text : EventKind → List ℕ
kind_text Alloc = codes " alloc"
kind_text Free = codes " free"

-- an event: whose watcher was told it, that one's name, whether memory comes or goes, its address and its length
abbrev pub event_line : ℕ → List ℕ → Event → List ℕ
event_line participant name event =
    codes "event" ++ number_text participant ++ codes " " ++ name ++ kind_text event.kind ++ address_text event.addr ++ number_text event.len
    ++ codes "\n"

-- the events that a watcher was told, in their order
abbrev pub watcher_text : ℕ → Listener → List ℕ
watcher_text participant listener = flat_map (event_line participant listener.name) listener.events

-- those of a participant's watchers, in the order of registration
abbrev pub watchers_text : ℕ → WatchersView → List ℕ
watchers_text participant watchers = flat_map (watcher_text participant) watchers.listeners

-- those of the participants from 0 on
abbrev pub events_text : List WatchersView → List ℕ
events_text watchers = numbered watchers_text 0 watchers
