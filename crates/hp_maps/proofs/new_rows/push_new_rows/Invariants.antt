-- With what the records that are left bring, all is there, and their Drops are counted.
use Rattle.std.proofs.Common.{◌≡◌, ◌++◌, ◌+◌, ◌≤◌, drop, count_by}
use Rattle.hp_maps.specs.Catching.{new_rows}
use Rattle.hp_maps.specs.Unmapping.{is_drop}
use Rattle.hp_maps.proofs.new_rows.push_new_rows.Given as goal

abbrev pub invariant-loop-at : goal.invariant-loop-at
invariant-loop-at l = record {
  items : l.rows.items ++ new_rows (l.n + l.at) (drop l.at l.records) ≡ l.initial.rows.items ++ new_rows l.n l.records;
  capacity : l.initial.rows.memory ≤ l.rows.memory;
  drops : l.drops ≡ count_by is_drop (drop l.at l.records);
}
