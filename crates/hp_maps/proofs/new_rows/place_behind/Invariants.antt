-- One of those that are left drops the row, if one of them does.
use Rattle.std.proofs.Common.{◌≡◌, drop}
use Rattle.hp_maps.specs.Catching.{is_dropped}
use Rattle.hp_maps.proofs.new_rows.place_behind.Given as goal

abbrev pub invariant-loop-at : goal.invariant-loop-at
invariant-loop-at l = is_dropped (drop l.at l.records) l.row ≡ is_dropped (drop l.from l.records) l.row
