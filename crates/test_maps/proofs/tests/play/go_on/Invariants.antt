-- The table stays known.
use Rattle.test_maps.specs.Known.{IsKnown}
use Rattle.test_maps.proofs.tests.play.go_on.Given as goal

abbrev pub invariant-loop-place : goal.invariant-loop-place
invariant-loop-place g l = IsKnown l.maps l.records l.reached
