use Rattle.std.proofs.Common.{◌≡◌, ◌≤◌, length, map, take, vec_capacity}
use Rattle.hp_stats.specs.StatViews.{new_pen, unread}
use Rattle.hp_stats.proofs.opening.pass_to.Given as goal

abbrev pub invariant-loop-heap : goal.invariant-loop-heap
invariant-loop-heap l = record {
  pens : l.pens.items ≡ map new_pen l.cells;
  readers : l.readers.items ≡ map unread (take l.heap l.cells);
  room : length l.cells ≤ vec_capacity l.readers;
}
