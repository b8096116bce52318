use Rattle.std.proofs.Common.{◌≡◌, length}
use Rattle.test_low.proofs.tests.fbarray.use_places.Given as goal

abbrev pub invariant-loop-i : goal.invariant-loop-i
invariant-loop-i l = length l.mask ≡ 10
