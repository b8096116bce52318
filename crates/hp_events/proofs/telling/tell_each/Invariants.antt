-- Those so far were told, and those still to come have room.
use Rattle.std.proofs.Common.{◌≡◌, ◌≤◌, ◌<◌, ◌++◌, ℕ, map, take, drop, get_or, length}
use Rattle.hp_events.specs.Watching.{WatcherView, heard}
use Rattle.hp_events.proofs.telling.tell_each.Given as goal

abbrev pub invariant-loop-watcher : goal.invariant-loop-watcher
invariant-loop-watcher l =
    (take l.watcher-index l.list ++ map (heard l.event) (drop l.watcher-index l.list) ≡ map (heard l.event) l.fn.list)
    × ((k : ℕ) (d : WatcherView) → l.watcher-index ≤ k → k < length l.list → 1 ≤ (get_or l.list k d).room)
