-- With what is told of the records that are left, all is told.
use Rattle.std.proofs.Common.{◌≡◌, ◌+◌, ◌≤◌, [], drop, take, length}
use Rattle.hp_maps.specs.Events.{all_told, dropped_events}
use Rattle.hp_maps.proofs.telling.tell_dropped.Given as goal

abbrev pub invariant-loop-at : goal.invariant-loop-at
invariant-loop-at g l = record {
  told : all_told (dropped_events l.rows (take l.at l.records) (drop l.at l.records)) (g.T.Tell.told l.tell)
      ≡ all_told (dropped_events l.rows [] l.records) (g.T.Tell.told l.initial.tell);
  spare : g.T.Tell.spare l.initial.tell + length (dropped_events l.rows (take l.at l.records) (drop l.at l.records))
      ≤ g.T.Tell.spare l.tell + length (dropped_events l.rows [] l.records);
}
