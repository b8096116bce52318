-- The first n places are set.
use Rattle.std.proofs.Common.{◌≡◌}
use Rattle.hp_segs.specs.Masks.{with_places}
use Rattle.hp_segs.proofs.table.list_slots.set_generations.Given as goal

abbrev pub invariant-loop-n : goal.invariant-loop-n
invariant-loop-n l = l.generations.items ≡ with_places l.initial.generations.items l.first l.n l.generation
