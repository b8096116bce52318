-- The world is known after each heap.
use Rattle.test_maps.specs.World.{IsWorld}
use Rattle.test_maps.proofs.tests.external.calls.fill.Given as goal

abbrev pub invariant-loop-n : goal.invariant-loop-n
invariant-loop-n l = IsWorld l.all.names.heaps l.all.heap l.all.segs l.all.first l.all.second
