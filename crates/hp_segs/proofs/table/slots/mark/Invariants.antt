-- The first n places are marked.
use Rattle.std.proofs.Common.{◌≡◌}
use Rattle.hp_segs.specs.Masks.{with_places}
use Rattle.hp_segs.proofs.table.slots.mark.Given as goal

abbrev pub invariant-loop-n : goal.invariant-loop-n
invariant-loop-n l = l.mask ≡ with_places l.initial.mask l.first l.n l.used
