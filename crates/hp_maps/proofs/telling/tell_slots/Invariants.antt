-- With the stretch that goes on and the rows at the slots that are left, all is told.
use Rattle.std.proofs.Common.{◌≡◌, ◌+◌, ◌-◌, ◌≤◌, length, IfSome}
use Rattle.hp_base.specs.declared.event.EventKind.TheVariants.{Free}
use Rattle.hp_maps.specs.Events.{all_told, events_of, rows_from}
use Rattle.hp_maps.specs.TellingInTurn.{IsWhole, events_from}
use Rattle.hp_maps.proofs.telling.tell_slots.Given as goal

abbrev pub invariant-loop-n : goal.invariant-loop-n
invariant-loop-n g l = record {
  told : all_told (events_from Free l.stretch (rows_from l.rows l.before l.run l.n (l.run.count - l.n))) (g.T.Tell.told l.tell)
      ≡ all_told (events_of Free (rows_from l.rows l.before l.run 0 l.run.count)) (g.T.Tell.told l.initial.tell);
  spare : g.T.Tell.spare l.initial.tell + length (events_from Free l.stretch (rows_from l.rows l.before l.run l.n (l.run.count - l.n)))
      ≤ g.T.Tell.spare l.tell + length (events_of Free (rows_from l.rows l.before l.run 0 l.run.count));
  whole : IfSome l.stretch IsWhole;
}
