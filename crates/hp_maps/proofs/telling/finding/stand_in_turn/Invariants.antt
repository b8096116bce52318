-- At the slots so far they stand in turn.
use Rattle.std.proofs.Common.{◌≡◌, ◌+◌, ◌<◌, ℕ, true, get_or}
use Rattle.hp_base.specs.declared.row.Row.{Row}
use Rattle.hp_maps.specs.Events.{stands_at}
use Rattle.hp_maps.proofs.telling.finding.stand_in_turn.Given as goal

abbrev pub invariant-loop-n : goal.invariant-loop-n
invariant-loop-n l = (k : ℕ) → k < l.n → (d : Row) → stands_at l.before l.run.list (l.run.first + k) (get_or l.rows (l.at + k) d) ≡ true
