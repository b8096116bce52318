use Rattle.hp_mempool.specs.PassView.{IsOf}
use Rattle.test_shared.proofs.tests.mempool.got.Given as goal

abbrev pub invariant-loop-place : goal.invariant-loop-place
invariant-loop-place g l = IsOf l.pass l.pool
