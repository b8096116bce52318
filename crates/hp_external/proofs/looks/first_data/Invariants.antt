-- The first busy element is among those that are left.
use Rattle.std.proofs.Common.{◌≡◌, length}
use Rattle.std.specs.List.{AllByRecursion, find}
use Rattle.hp_external.specs.Elements.{is_busy_in}
use Rattle.hp_external.specs.Looking.{HasDataBelow}
use Rattle.hp_external.proofs.looks.first_data.Given as goal

abbrev pub invariant-loop-span : goal.invariant-loop-span
invariant-loop-span l = (find (is_busy_in l.by l.list) l.fn.elements ≡ find (is_busy_in l.by l.list) l.left) × AllByRecursion HasDataBelow l.left

abbrev pub decreases-loop-span : goal.decreases-loop-span
decreases-loop-span l = length l.left
