-- The rows of the first n slots that no record from the place on drops are there.
use Rattle.std.proofs.Common.{◌≡◌, ◌++◌, ◌≤◌, drop}
use Rattle.hp_log.specs.Rows.{rows_below}
use Rattle.hp_maps.specs.Catching.{undropped}
use Rattle.hp_maps.proofs.new_rows.push_indexed.Given as goal

abbrev pub invariant-loop-n : goal.invariant-loop-n
invariant-loop-n l = record {
  items : l.rows.items ≡ l.initial.rows.items ++ undropped (drop l.at l.records) (rows_below l.run l.generation l.n);
  capacity : l.initial.rows.memory ≤ l.rows.memory;
}
