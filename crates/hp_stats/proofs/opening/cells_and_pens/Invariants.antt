use Rattle.std.proofs.Common.{◌≡◌, ◌≤◌, length, map, vec_capacity}
use Rattle.hp_stats.specs.StatViews.{new_pen}
use Rattle.hp_stats.proofs.opening.cells_and_pens.Given as goal

abbrev pub invariant-loop-heap : goal.invariant-loop-heap
invariant-loop-heap l = record {
  count : length l.cells.items ≡ l._heap;
  pens : l.pens.items ≡ map new_pen l.cells.items;
  cells_room : l.heaps ≤ vec_capacity l.cells;
  pens_room : l.heaps ≤ vec_capacity l.pens;
}
