-- None stands there at the places so far.
use Rattle.hp_maps.specs.Events.{stands_at}
use Rattle.hp_maps.specs.RowsView.{IsNoneBetween}
use Rattle.hp_maps.proofs.telling.finding.place_behind.Given as goal

abbrev pub invariant-loop-at : goal.invariant-loop-at
invariant-loop-at l = IsNoneBetween (stands_at l.before l.list l.slot) l.rows l.from l.at
