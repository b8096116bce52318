-- They are told the same and have no less room, and those so far have the room that is asked for.
use Rattle.std.proofs.Common.{◌≤◌, ◌<◌, ℕ, get_or}
use Rattle.hp_events.specs.Watching.{IsRoomier, WatcherView}
use Rattle.hp_events.proofs.telling.reserve_each.Given as goal

abbrev pub invariant-loop-watcher : goal.invariant-loop-watcher
invariant-loop-watcher l =
    IsRoomier l.fn.list l.list × ((k : ℕ) (d : WatcherView) → k < l.watcher-index → l.events ≤ (get_or l.list k d).room)
