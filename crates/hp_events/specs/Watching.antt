-- How watchers are kept. No public clause cites this module.
use Rattle.std.specs.Prelude.{◌≡◌, ℕ, ◌-◌, ◌≤◌, List, length, map}
use Rattle.std.specs.List.{All}
use Rattle.hp_base.specs.Telling.{Listener, hearing}
use Rattle.hp_base.specs.declared.event.Event.{Event}

-- a watcher, and for how many events more it has room
pub record WatcherView : Type 0 where
  pub listener : Listener
  pub room : ℕ

abbrev pub listener_of : WatcherView → Listener
listener_of watcher = watcher.listener

-- it was told an event more
abbrev pub heard : Event → WatcherView → WatcherView
heard event watcher = record { listener = hearing event watcher.listener; room = watcher.room - 1 }

-- each watcher listens as before, with the events that it was told, and has at least the room that it had
pub record IsRoomier (old new : List WatcherView) : Type 0 where
  pub listeners : map listener_of new ≡ map listener_of old
  pub kept : (room : ℕ) → All (λ watcher. room ≤ watcher.room) old → All (λ watcher. room ≤ watcher.room) new

-- each of them has room for so many events
abbrev pub HaveRoom : ℕ → List WatcherView → Type 0
HaveRoom events watchers = All (λ watcher. events ≤ watcher.room) watchers

-- there are at most four, and each has the room
pub record AreWatchers (watchers : List WatcherView) (spare : ℕ) : Type 0 where
  pub few : length watchers ≤ 4
  pub room : HaveRoom spare watchers
