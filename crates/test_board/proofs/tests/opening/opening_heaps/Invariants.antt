use Rattle.std.proofs.Common.{◌≤◌, vec_capacity}
use Rattle.hp_base.specs.declared.limits.TheConstants.{MAX_HEAPS}
use Rattle.test_board.proofs.Opened.{AreOpened}
use Rattle.test_board.proofs.tests.opening.opening_heaps.Given as goal

abbrev pub invariant-loop-index : goal.invariant-loop-index
invariant-loop-index l = AreOpened l.heaps.items l.index × (MAX_HEAPS ≤ vec_capacity l.heaps)
