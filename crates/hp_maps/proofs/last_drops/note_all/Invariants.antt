-- The numbers are those of the records so far.
use Rattle.std.proofs.Common.{take}
use Rattle.hp_maps.specs.LastDrops.{AreLast}
use Rattle.hp_maps.proofs.last_drops.note_all.Given as goal

abbrev pub invariant-loop-at : goal.invariant-loop-at
invariant-loop-at l = AreLast l.numbers.items (take l.at l.records)
