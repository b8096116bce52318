use Rattle.std.proofs.Common.{◌≡◌, length}
use Rattle.test_low.proofs.tests.words.mask_of.Given as goal

abbrev pub invariant-loop-i : goal.invariant-loop-i
invariant-loop-i l = length l.mask ≡ l.places

abbrev pub invariant-loop-k : goal.invariant-loop-k
invariant-loop-k l = length l.mask ≡ l.places
