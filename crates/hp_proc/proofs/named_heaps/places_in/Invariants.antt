use Rattle.std.proofs.Common.{◌≡◌}
use Rattle.hp_proc.proofs.NamedPlaces.{places_below}
use Rattle.hp_proc.proofs.named_heaps.places_in.Given as goal

abbrev pub invariant-loop-index : goal.invariant-loop-index
invariant-loop-index l = l.places.items ≡ places_below l.fn.names.heaps.plain l.index
