-- The first n places are set.
use Rattle.std.proofs.Common.{◌≡◌}
use Rattle.hp_segs.specs.Masks.{with_places}
use Rattle.hp_segs.proofs.table.list_slots.set_states.Given as goal

abbrev pub invariant-loop-n : goal.invariant-loop-n
invariant-loop-n l = l.states.items ≡ with_places l.initial.states.items l.first l.n l.state
