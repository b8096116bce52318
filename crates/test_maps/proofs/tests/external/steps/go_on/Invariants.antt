-- The world is known after each step.
use Rattle.test_maps.specs.World.{IsWorld}
use Rattle.test_maps.proofs.tests.external.steps.go_on.Given as goal

abbrev pub invariant-loop-place : goal.invariant-loop-place
invariant-loop-place l = IsWorld l.all.names.heaps l.all.heap l.all.segs l.all.first l.all.second
