use Rattle.std.proofs.Common.{◌≡◌, ◌≤◌, map, replicate, vec_capacity}
use Rattle.hp_stats.specs.StatViews.{new_pass, new_pen}
use Rattle.hp_stats.proofs.opening.passes_to.Given as goal

abbrev pub invariant-loop-reader : goal.invariant-loop-reader
invariant-loop-reader l = record {
  pens : l.pens.items ≡ map new_pen l.cells;
  passes : l.passes.items ≡ replicate l._reader (new_pass l.cells);
  room : l.readers ≤ vec_capacity l.passes;
}
