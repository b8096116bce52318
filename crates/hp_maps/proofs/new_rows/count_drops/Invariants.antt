-- Those so far.
use Rattle.std.proofs.Common.{◌≡◌, count_by, take}
use Rattle.hp_maps.specs.Unmapping.{is_drop}
use Rattle.hp_maps.proofs.new_rows.count_drops.Given as goal

abbrev pub invariant-loop-entry : goal.invariant-loop-entry
invariant-loop-entry l = l.count ≡ count_by is_drop (take l.entry-index l.records)
