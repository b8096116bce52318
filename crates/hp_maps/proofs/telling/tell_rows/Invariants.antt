-- With the stretch that goes on and the rows that are left, all is told.
use Rattle.std.proofs.Common.{◌≡◌, ◌+◌, ◌≤◌, drop, length, IfSome}
use Rattle.hp_maps.specs.Events.{all_told, events_of}
use Rattle.hp_maps.specs.TellingInTurn.{IsWhole, events_from}
use Rattle.hp_maps.proofs.telling.tell_rows.Given as goal

abbrev pub invariant-loop-row : goal.invariant-loop-row
invariant-loop-row g l = record {
  told : all_told (events_from l.kind l.stretch (drop l.row-index l.rows)) (g.T.Tell.told l.tell)
      ≡ all_told (events_of l.kind l.rows) (g.T.Tell.told l.initial.tell);
  spare : g.T.Tell.spare l.initial.tell + length (events_from l.kind l.stretch (drop l.row-index l.rows))
      ≤ g.T.Tell.spare l.tell + length (events_of l.kind l.rows);
  whole : IfSome l.stretch IsWhole;
}
