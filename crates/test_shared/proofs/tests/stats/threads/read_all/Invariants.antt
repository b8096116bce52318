use Rattle.std.proofs.Common.{◌≡◌}
use Rattle.test_shared.proofs.tests.stats.threads.read_all.Given as goal

abbrev pub invariant-loop : goal.invariant-loop
invariant-loop g l = l.pass.cells ≡ l.initial.pass.cells
